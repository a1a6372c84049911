-- What is left of a live run once all workers have ended. No public clause cites it.
use Rattle.std.specs.Prelude.{ℕ, ◌≡◌, List, All, Option, None}
use Rattle.std.specs.List.{concat}
use Rattle.tk_input.specs.Sink.{GrowsByFront}
use Rattle.tk_ledger.specs.Text.{lines_of}
use Rattle.tk_load.specs.declared.input.Input.{Input}
use Rattle.tk_load.specs.Surroundings.{Output}
use Rattle.tk_serve.specs.declared.served.Why.TheVariants as w
use Rattle.tk_story.specs.Ends.{joined, kept_by}
use Rattle.tk_live.specs.Complete.{IsComplete}
use Rattle.tk_live.specs.Crew.{IsCalm}
use Rattle.tk_live.specs.Lived.{Concludes}
use Rattle.tk_live.specs.Traffic.{Traffic, traffic_of}
use Rattle.tk_live.specs.declared.left.Left.{Left}
use Rattle.tk_live.specs.declared.parting.Parting.TheVariants as p
use Rattle.tk_live.specs.declared.outcome.LiveOutcome.{LiveOutcome}

-- a hub has something odd only where it refused it, and a worker only where the gravest cause is that or want of memory
pub record TellsOdd (left : Left) : Type 0 where
  pub hub : (left.parting ≡ p.Refused → ⊥) → left.ends.coordinator.odd ≡ None
  pub workers : IsCalm left.why → All (λ end. end.odd ≡ None) left.ends.monitors.items

-- where the hub was finished and every worker stopped, the story of the ends is one that is over
abbrev pub IsCompleteLeft : Input → ℕ → List (List ℕ) → Left → Traffic → Type 0
IsCompleteLeft input version from left traffic =
    left.parting ≡ p.Finished → left.why ≡ w.Stopped
    → IsComplete input.names version (joined (kept_by left.ends.coordinator left.ends.monitors.items) input.logs from) traffic

-- a run concludes with what is left: whatever was written and taken up to here, if its ends are complete by that
abbrev pub ConcludesLeft : Input → List (List ℕ) → Left → Output → LiveOutcome → Type 0
ConcludesLeft input from left output result =
    (version : ℕ) (was : Option (List ℕ)) (taken taken_then : ℕ)
    → GrowsByFront was output.before (concat (lines_of input.names left.ends.coordinator.coordinator.journal))
    → IsCompleteLeft input version from left (traffic_of was output.before taken taken_then)
    → Concludes input version (traffic_of was output.after taken taken_then) result
