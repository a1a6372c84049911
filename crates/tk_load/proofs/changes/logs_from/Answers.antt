use Rattle.std.proofs.Common.{◌≤◌, ℕ, ℤ, List, All, length, subst, sym}
use Rattle.std.proofs.lemmas.List.Elements.{All-map}
use Rattle.tk_base.specs.declared.ids.Mon.{Mon}
use Rattle.tk_window.specs.Expanded.{expansion_of, sources_of}
use Rattle.tk_window.specs.TickEnds.{parts_in}
use Rattle.tk_window.specs.Ticks.{AreOver}
use Rattle.tk_window.specs.Window.{Expansion}
use Rattle.tk_window.specs.declared.expanded.Expanded.{Expanded}
use Rattle.tk_load.proofs.changes.logs_from.Goals as goal

-- what holds of each log holds of its changes
each_part : (P : Mon × List (ℕ × ℤ) → Type 0) (logs : List (Mon × Expanded)) → All (λ (l : Mon × Expanded). P (l.0, l.1.part)) logs → All P (parts_in (sources_of logs))
each_part P logs all =
    All-map P (λ (log : Mon × Expansion). (log.0, log.1.part)) (sources_of logs)
    (All-map (λ (log : Mon × Expansion). P (log.0, log.1.part)) (λ (l : Mon × Expanded). (l.0, expansion_of l.1)) logs all)

pub logs_of-requires-clause-monitors : goal.logs_of-requires-clause-monitors
logs_of-requires-clause-monitors c =
    let P : Mon × List (ℕ × ℤ) → Type 0 = λ p. (1 ≤ p.0.0) × (p.0.0 ≤ 64) in
    subst (All P) (sym c.in_ok-parts.ensures) (each_part P c.args.logs.now c.requires.monitors)

pub logs_of-requires-clause-objects : goal.logs_of-requires-clause-objects
logs_of-requires-clause-objects c =
    let P : Mon × List (ℕ × ℤ) → Type 0 = λ p. AreOver c.args.objects p.1 in
    subst (All P) (sym c.in_ok-parts.ensures) (each_part P c.args.logs.now c.requires.objects)

pub logs_of-requires-clause-lengths : goal.logs_of-requires-clause-lengths
logs_of-requires-clause-lengths c =
    let P : Mon × List (ℕ × ℤ) → Type 0 = λ p. length p.1 ≤ 1000000 in
    subst (All P) (sym c.in_ok-parts.ensures) (each_part P c.args.logs.now c.requires.lengths)
