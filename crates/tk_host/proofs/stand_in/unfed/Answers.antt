use Rattle.std.proofs.Common.{ℕ, List, sym, subst, ap₂, ◌∙◌}
use Rattle.std.specs.Prelude.{ℤ}
use Rattle.std.proofs.lemmas.Result.{IfOk-weaker}
use Rattle.tk_input.specs.Logs.{ArePlaces, AreParts}
use Rattle.tk_monitor.specs.Monitored.{made}
use Rattle.tk_host.proofs.NearLemmas.{are_starts, are_unfed, unfed_parts}
use Rattle.tk_host.proofs.stand_in.unfed.Goals as goal

pub new-requires-clause-parts : goal.new-requires-clause-parts
new-requires-clause-parts c =
    subst (λ (ps : List (List (ℕ × ℤ))). AreParts c.args.settings.now.objects ps) (sym c.in_ok-parts.ensures) (are_unfed c.args.settings.now c.requires)

pub new-requires-clause-places : goal.new-requires-clause-places
new-requires-clause-places c =
    subst (λ (ps : List (List (ℕ × ℤ))). ArePlaces ps c.in_ok-from.from) (sym c.in_ok-parts.ensures)
    (subst (λ (ns : List ℕ). ArePlaces unfed_parts ns) (sym c.in_ok-from.ensures) are_starts)

pub returns : goal.returns
returns c =
    IfOk-weaker c.new.result _ _
    (λ m h. h ∙ ap₂ (λ (ps : List (List (ℕ × ℤ))) (ns : List ℕ). made c.args.settings.now c.args.mon.0 ps ns) c.in_ok-parts.ensures c.in_ok-from.ensures) c.new.ensures.ok
