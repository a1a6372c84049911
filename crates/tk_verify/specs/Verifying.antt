-- What the steps of a verification answer. No public clause cites this file.
use Rattle.std.specs.Prelude.{ℕ, ◌≡◌, ◌⊎◌, true, List, [], map, Result, Ok, Err}
use Rattle.tk_base.specs.History.{last_of}
use Rattle.tk_base.specs.Settings.{Setup}
use Rattle.tk_coord.specs.Coordinator.{CoordinatorView}
use Rattle.tk_input.specs.Logs.{IsCut, LogSet}
use Rattle.tk_journal.specs.Laws.{IsMonitor}
use Rattle.tk_journal.specs.Legal.{IsLegal, start}
use Rattle.tk_journal.specs.Publishing.{publications}
use Rattle.tk_monitor.specs.Monitored.{MonitorView}
use Rattle.tk_trail.specs.Legal.{IsLegal as IsLegalTrail}
use Rattle.tk_story.specs.Ends.{all_made_for, as_made}
use Rattle.tk_story.specs.Kept.{KeptStory}
use Rattle.tk_story.specs.Story.{IsStory, StoryView, setup_of, trail_of}
use Rattle.tk_story.specs.declared.ends.join_fault.JoinFault.{JoinFault}
use Rattle.tk_story.specs.declared.ends.join_fault.JoinFault.TheVariants as j
use Rattle.tk_story.specs.Headline.{ReachesItsEnd}
use Rattle.tk_verify.specs.Recorded.{AreAgreed, Finds, is_final, recorded_from}
use Rattle.tk_verify.specs.declared.finding.Finding.{Finding}
use Rattle.tk_verify.specs.declared.finding.Finding.TheVariants as f
use Rattle.tk_verify.specs.declared.halt.Halt.{Halt}
use Rattle.tk_verify.specs.declared.halt.Halt.TheVariants as h

-- what is found where the driving over a part halts
abbrev pub is_found : ℕ → Halt → Finding
is_found part (h.NotLegal place) = f.NotLegal part place
is_found part h.NoMemory = f.NoMemory

-- what is found where ends make no story
abbrev pub is_unjoined : JoinFault → Finding
is_unjoined (j.Differs difference) = f.Links difference.mon difference.direction difference.place
is_unjoined j.NoMemory = f.NoMemory

-- each trail is legal
abbrev pub AreLegalTrails : StoryView → Type 0
AreLegalTrails s = (mon : ℕ) → IsMonitor s.settings mon → IsLegalTrail (setup_of s mon) (trail_of s mon)

-- the story that nodes tell of a run from some places, legal or not
abbrev pub driven_story : List (List ℕ) → Setup → LogSet → CoordinatorView → List MonitorView → StoryView
driven_story from settings logs coordinator nodes = recorded_from from settings logs coordinator.journal (map (λ m. m.trail) nodes)

-- a finding is want of memory, or what is found of a record
abbrev pub Reveals : StoryView → Finding → Type 0
Reveals s finding = (finding ≡ f.NoMemory) ⊎ Finds s finding

-- nodes that were driven over a record: their histories are legal
pub record AreDriven (settings : Setup) (logs : LogSet) (from : List (List ℕ)) (coordinator : CoordinatorView) (nodes : List MonitorView) : Type 0 where
  pub agreed : AreAgreed settings logs
  pub cut : IsCut logs.logs from
  pub settings_is : coordinator.settings ≡ settings
  pub made : map as_made nodes ≡ all_made_for settings logs from
  pub legal : IsLegal (start settings) coordinator.journal
  pub trails : AreLegalTrails (driven_story from settings logs coordinator nodes)

-- what a verification answers of a record: its story, or what is found
abbrev pub Judges : StoryView → Result KeptStory Finding → Type 0
Judges s (Ok kept) = (kept.story ≡ s) × (kept.events ≡ []) × IsStory s × ReachesItsEnd s × (is_final (last_of (publications s.journal)) ≡ true)
Judges s (Err finding) = (finding ≡ f.NoMemory) ⊎ Finds s finding
