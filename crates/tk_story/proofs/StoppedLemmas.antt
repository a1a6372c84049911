-- A story that came to its end is stopped.
use Rattle.std.proofs.Common.{◌≡◌, ℕ, suc, zero, ◌<◌, ◌||◌, true, List, ◌∷◌, ◌++◌, map, refl, ap, ◌∙◌, arith}
use Rattle.std.specs.List.{list_any, range_with_len}
use Rattle.std.proofs.Math.Bool.{or-true}
use Rattle.tk_base.specs.Settings.{Setup}
use Rattle.tk_frames.specs.declared.frame.Frame.TheVariants as f
use Rattle.tk_journal.specs.Publishing.{stops}
use Rattle.tk_journal.specs.Readings.{is_stop, is_stopped}
use Rattle.tk_journal.specs.declared.noted.Noted.{Noted}
use Rattle.tk_journal.specs.declared.noted.Noted.TheVariants as n
use Rattle.tk_journal.specs.declared.publication.Publication.{Publication}
use Rattle.tk_journal.proofs.Appends.{is_stopped-append}
use Rattle.tk_story.specs.Story.{IsStory, StoryView}
use Rattle.tk_story.specs.Headline.{ReachesItsEnd}

-- with a monitor there is a Stop
stopped_by : (s : Setup) (m : ℕ) (j : List Noted) (p : Publication) → s.monitors ≡ m → 0 < m → is_stopped (j ++ n.Published p ∷ stops s) ≡ true
unfolding is_stopped
stopped_by s zero j p is some = absurd (omega arith)
stopped_by s (suc k) j p is some =
    is_stopped-append j (n.Published p ∷ stops s)
    ∙ ap (λ m. list_any is_stop j || list_any is_stop (n.Published p ∷ map (λ mon. n.Sent (record { 0 = mon }) f.Stop) (range_with_len 1 m))) is
    ∙ or-true (list_any is_stop j)

pub finished_is_stopped : (s : StoryView) → IsStory s → ReachesItsEnd s → is_stopped s.journal ≡ true
finished_is_stopped s h end = ap (λ (j : List Noted). is_stopped j) end.is ∙ stopped_by s.settings s.settings.monitors end.front end.final refl h.limits.some_monitor
