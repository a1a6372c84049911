use Rattle.std.proofs.Common.{◌∙◌, sym, ap}
use Rattle.tk_watch.specs.Standing.{StandingView}
use Rattle.tk_watch.specs.StandingInside.{standing_in}
use Rattle.tk_watch.specs.declared.standing.Form.{Form}
use Rattle.tk_watch.proofs.TurningLemmas.{looks_idle, looks_joined}
use Rattle.tk_watch.proofs.standing.Standing.turn.Goals as goal

pub returns-in-Idle-clause-looks : goal.returns-in-Idle-clause-looks
returns-in-Idle-clause-looks g c =
    looks_idle _ _ _ (ap (λ (s : StandingView _). s.port) (sym c.self.view_is) ∙ ap (λ (f : Form _). (standing_in f).port) c.in-Idle.is)

pub returns-clause-looks : goal.returns-clause-looks
returns-clause-looks g c =
    looks_joined _ _ _ _ (sym c.self.view_is ∙ ap (λ (f : Form _). standing_in f) c.in-Joined.is) c.look_within.ensures.looks c.look_within.ensures.room c.look_within.ensures.kept
