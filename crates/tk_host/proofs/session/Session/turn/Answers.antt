use Rattle.std.proofs.Common.{refl, arith}
use Rattle.tk_host.proofs.GoingLemmas.{turned}
use Rattle.tk_host.proofs.session.Session.turn.Goals as goal

pub returns : goal.returns
returns g c =
    let e = c.turn.ensures in
    turned c.turn.result _ _ _ c.self.view_is c.requires.going.standing e.kept e.settings e.grows e.course
    (λ is. let rise = e.failed is (omega arith) in absurd (omega (arith, rise))) (λ is. (e.finished is).stopped) refl refl refl refl
