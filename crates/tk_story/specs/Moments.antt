-- Moments of a story: which of them are quiet, still, or over, and what is valid there.
use Rattle.std.specs.Prelude.{ℕ, ◌≡◌, true, false, List, ◌∷◌, ◌++◌, length, map, None}
use Rattle.tk_base.specs.History.{IsFront}
use Rattle.tk_input.specs.Logs.{IsValid, full_cut}
use Rattle.tk_journal.specs.Laws.{IsMonitor}
use Rattle.tk_journal.specs.Links.{frames_from, frames_to}
use Rattle.tk_journal.specs.Readings.{in_force, is_open, members_at, monitors}
use Rattle.tk_journal.specs.Publishing.{stops}
use Rattle.tk_journal.specs.Whole.{BeginsWithInput}
use Rattle.tk_journal.specs.declared.noted.Noted.{Noted}
use Rattle.tk_journal.specs.declared.noted.Noted.TheVariants as n
use Rattle.tk_journal.specs.declared.publication.Publication.{Publication}
use Rattle.tk_trail.specs.Readings.{is_broken, is_stopped, places_at, sent_by, taken_by}
use Rattle.tk_trail.specs.Frames.{due_at, owed_at}
use Rattle.tk_story.specs.Links.{IsOrderedLink}
use Rattle.tk_story.specs.Story.{StoryView, setup_of, trail_of}

-- a moment of a story: the journal up to an input or to its end, and of each trail a front that owes no answer, with
-- ordered links between them
pub record IsMoment (t s : StoryView) : Type 0 where
  pub settings : t.settings ≡ s.settings
  pub logs : t.logs ≡ s.logs
  pub from : t.from ≡ s.from
  pub count : length t.trails ≡ s.settings.monitors
  pub behind : List Noted
  pub journal : s.journal ≡ t.journal ++ behind
  pub whole : BeginsWithInput behind
  pub trails : (mon : ℕ) → IsMonitor s.settings mon → IsFront (trail_of t mon) (trail_of s mon)
  pub answered : (mon : ℕ) → IsMonitor s.settings mon → owed_at (setup_of s mon) (trail_of t mon) ≡ None
  pub links : (mon : ℕ) → IsMonitor s.settings mon → IsOrderedLink t.journal mon (trail_of t mon)

-- every link is empty, no round is open, and nothing is broken at any monitor
pub record IsQuiet (s : StoryView) : Type 0 where
  pub down : (mon : ℕ) → IsMonitor s.settings mon → taken_by (trail_of s mon) ≡ frames_to mon s.journal
  pub up : (mon : ℕ) → IsMonitor s.settings mon → frames_from mon s.journal ≡ sent_by (trail_of s mon)
  pub closed : is_open s.settings s.journal ≡ false
  pub sound : (mon : ℕ) → IsMonitor s.settings mon → is_broken (setup_of s mon) (trail_of s mon) ≡ false

-- every link is empty, and no monitor has anything to tell: only a raise or a retune can happen
pub record IsStill (s : StoryView) : Type 0 where
  pub down : (mon : ℕ) → IsMonitor s.settings mon → taken_by (trail_of s mon) ≡ frames_to mon s.journal
  pub up : (mon : ℕ) → IsMonitor s.settings mon → frames_from mon s.journal ≡ sent_by (trail_of s mon)
  pub idle : (mon : ℕ) → IsMonitor s.settings mon → due_at (setup_of s mon) (trail_of s mon) ≡ None

-- the places at the ends of the trails
unfoldable pub cut_of : StoryView → List (List ℕ)
cut_of s = map (λ mon. places_at (setup_of s mon) (trail_of s mon)) (monitors s.settings)

-- the members are valid where the trails end, with the k and epsilon in force
abbrev pub AreMembersValid : StoryView → Type 0
AreMembersValid s =
    IsValid s.logs.logs s.settings.objects (in_force s.settings s.journal).k (in_force s.settings s.journal).epsilon (cut_of s) (members_at s.journal)

-- a published set is valid at its own cut, with its own k and epsilon
abbrev pub IsPublishedValid : StoryView → Publication → Type 0
IsPublishedValid s p = IsValid s.logs.logs s.settings.objects p.k p.epsilon p.cut p.members

-- the run is over: the last publication is at the full cut and valid there, and each monitor took Stop
pub record IsOver (s : StoryView) : Type 0 where
  pub front : List Noted
  pub final : Publication
  pub is : s.journal ≡ front ++ n.Published final ∷ stops s.settings
  pub last : final.last ≡ true
  pub cut : final.cut ≡ full_cut s.logs.logs
  pub valid : IsPublishedValid s final
  pub halted : (mon : ℕ) → IsMonitor s.settings mon → is_stopped (trail_of s mon) ≡ true
