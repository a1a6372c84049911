-- Events that a story runs are about its monitors.
use Rattle.std.proofs.Common.{◌≡◌, ℕ, suc, zero, ◌<◌, true, List, [], ◌∷◌, length, get_or, refl, arith}
use Rattle.tk_input.specs.declared.event.Event.{Event}
use Rattle.tk_input.specs.declared.event.Event.TheVariants.{Raise, Check, Up, Down, Retune}
use Rattle.tk_journal.specs.declared.noted.Noted.{Noted}
use Rattle.tk_story.specs.Story.{StoryView}
use Rattle.tk_trail.specs.declared.entry.Entry.{Entry}
use Rattle.tk_world.specs.Events.{is_of}
use Rattle.tk_world.specs.Runs.{Walks}
use Rattle.tk_world.proofs.IdleLemmas.{is_one}

-- each event of a walk is about a monitor of the story
pub all_of : (s : StoryView) (events : List Event) (journal : List Noted) (trails : List (List Entry)) → Walks s journal trails events
    → (k : ℕ) (d : Event) → k < length events → is_of s (get_or events k d) ≡ true
all_of s [] journal trails walks k d within = absurd (omega (arith, within))
all_of s (Raise mon g ∷ events) journal trails walks zero d within = is_one s mon.0 walks.0.monitor
all_of s (Check mon ∷ events) journal trails walks zero d within = is_one s mon.0 walks.1.monitor
all_of s (Up mon ∷ events) journal trails walks zero d within = is_one s mon.0 walks.2.monitor
all_of s (Down mon ∷ events) journal trails walks zero d within = is_one s mon.0 walks.2.monitor
all_of s (Retune tuning ∷ events) journal trails walks zero d within = refl
all_of s (Raise mon g ∷ events) journal trails walks (suc k) d within = all_of s events _ _ walks.1 k d (omega (arith, within))
all_of s (Check mon ∷ events) journal trails walks (suc k) d within = all_of s events _ _ walks.2 k d (omega (arith, within))
all_of s (Up mon ∷ events) journal trails walks (suc k) d within = all_of s events _ _ walks.3 k d (omega (arith, within))
all_of s (Down mon ∷ events) journal trails walks (suc k) d within = all_of s events _ _ walks.3 k d (omega (arith, within))
all_of s (Retune tuning ∷ events) journal trails walks (suc k) d within = all_of s events _ _ walks.2 k d (omega (arith, within))
