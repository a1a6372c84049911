-- How far a story is told, by its monitors.
use Rattle.std.proofs.Common.{◌≡◌, ℕ, ◌+◌, ◌-◌, ◌<◌, ◌≤◌, List, [], ◌∷◌, ◌++◌, length, map, set, take, get_or, Some, Option, ap, sym, ◌∙◌, arith}
use Rattle.std.specs.Prelude.{slice_get}
use Rattle.std.proofs.lemmas.List.{map-append, take_more}
use Rattle.std.proofs.lemmas.Option.{get_or_from_slice_get}
use Rattle.tk_input.specs.Logs.{LogSet}
use Rattle.tk_journal.specs.Laws.{IsMonitor}
use Rattle.tk_story.specs.Story.{IsStory, StoryView, trail_of}
use Rattle.tk_trail.specs.declared.entry.Entry.{Entry}
use Rattle.tk_show.specs.Told.{Told, entry_text, told_after, untold}
use Rattle.tk_show.specs.Text.{monitor_text, monitors_after}

-- of one more monitor nothing is told
pub untold_more : (from : List (List ℕ)) (i : ℕ) (places : List ℕ) (told : Told) (old new : List Told) → i < length from → slice_get from i ≡ Some places → told ≡ untold places
    → old ≡ map untold (take i from) → new ≡ old ++ told ∷ [] → new ≡ map untold (take (i + 1) from)
untold_more from i places told old new within here is was put =
    put
    ∙ ap (λ (l : List Told). l ++ told ∷ []) was
    ∙ ap (λ (t : Told). map untold (take i from) ++ t ∷ []) is
    ∙ sym (ap (map untold) (take_more from i places within ∙ ap (λ (x : List ℕ). take i from ++ x ∷ []) (get_or_from_slice_get from i places places here))
    ∙ map-append untold (take i from) (places ∷ []))

-- a monitor of a story is one of its logs
pub of_logs : (s : StoryView) (logs : LogSet) (mon : ℕ) → IsStory s → logs ≡ s.logs → IsMonitor s.settings mon → mon ≤ length logs.logs
of_logs s logs mon is same of = omega (arith, ap (λ (l : LogSet). length l.logs) same, is.monitors, of.within)

module _ (s : StoryView) (mon : ℕ) (told : Told) (monitors : List Told) (logs : LogSet) (trail : List Entry) where
  module _ (here : slice_get monitors (mon - 1) ≡ Some told) (same : logs ≡ s.logs) (lent : slice_get s.trails (mon - 1) ≡ Some trail) where
    trail_is : trail_of s mon ≡ trail
    trail_is = get_or_from_slice_get s.trails (mon - 1) trail [] lent

    -- what its next entry tells
    pub monitor_is : (names : List (List ℕ)) (old new : List ℕ) → new ≡ old ++ entry_text names logs mon trail told (slice_get trail told.entries)
        → new ≡ old ++ monitor_text names s mon (slice_get monitors (mon - 1))
    monitor_is names old new is =
        is
        ∙ ap (λ (l : LogSet). old ++ entry_text names l mon trail told (slice_get trail told.entries)) same
        ∙ ap (λ (t : List Entry). old ++ entry_text names s.logs mon t told (slice_get t told.entries)) (sym trail_is)
        ∙ ap (λ (o : Option Told). old ++ monitor_text names s mon o) (sym here)

    -- how far the monitors are told then
    pub monitors_are : (after : Told) → after ≡ told_after logs mon told (slice_get trail told.entries)
        → set monitors (mon - 1) after ≡ monitors_after s monitors mon (slice_get monitors (mon - 1))
    monitors_are after is =
        ap (set monitors (mon - 1))
        (is
        ∙ ap (λ (l : LogSet). told_after l mon told (slice_get trail told.entries)) same
        ∙ ap (λ (t : List Entry). told_after s.logs mon told (slice_get t told.entries)) (sym trail_is))
        ∙ ap (λ (o : Option Told). monitors_after s monitors mon o) (sym here)
