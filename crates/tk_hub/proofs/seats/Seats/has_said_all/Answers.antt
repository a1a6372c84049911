use Rattle.std.proofs.Common.{◌<◌, ◌+◌, ◌-◌, ◌∙◌, arith, length, sym}
use Rattle.std.proofs.lemmas.Bool.{false≢true}
use Rattle.tk_hub.proofs.SayLemmas.{given_at}
use Rattle.tk_hub.proofs.seats.Seats.has_said_all.Goals as goal

pub returns-then-not-has_said : goal.returns-then-not-has_said
returns-then-not-has_said g c =
    let l = c.loop-place in
    let s = c.args.self.now in
    let kept = c.monitors-place-end.ensures.kept in
    let here : l.place < length s.links = omega (arith, c.loop-place-test.true, c.monitors-place-end.ensures.value, kept.count) in
    (λ is. absurd (false≢true is), λ all. absurd (false≢true (sym c.if-not-has_said.true ∙ c.has_said.ensures.1 (given_at l.place (l.place + 1 - 1) s (omega arith) (all l.place here)))))
