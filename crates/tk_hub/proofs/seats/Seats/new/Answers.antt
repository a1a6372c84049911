use Rattle.std.proofs.Common.{◌≡◌, ◌∙◌, None, ap, replicate, subst, sym}
use Rattle.tk_hub.specs.Seats.{AreSeats}
use Rattle.tk_hub.proofs.SeatsLemmas.{seats_free}
use Rattle.tk_hub.proofs.seats.Seats.new.Goals as goal

pub invariant_of-result : goal.invariant_of-result
invariant_of-result g c =
    let a = c.args.coordinator in
    let count : c.monitors.result ≡ a.settings.monitors = c.monitors.ensures.value ∙ ap (λ s. s.monitors) c.settings.ensures in
    let links = c.in-Ok.ensures ∙ ap (λ n. replicate n None) count in
    subst (λ xs. AreSeats {W = g.row.W.Denot} (record { run = c.args.run; coordinator = a; links = xs })) (sym links) (seats_free c.args.run a c.journal.ensures.legal c.requires)
