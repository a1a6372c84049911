-- Rounds: their numbers, what is reported to one that ends, and what it leaves.
use Rattle.tk_frames.specs.declared.frame.Frame.TheVariants as f
use Rattle.tk_journal.specs.declared.noted.Noted.TheVariants as n
use Rattle.std.specs.Prelude.{ℕ, ◌+◌, ◌<◌, ◌≡◌, ℤ, ◌+ℤ◌, ◌≤ℤ◌, true, false, List, [], ◌∷◌, ◌++◌, map, filter_map, Option, Some, None, Contains}
use Rattle.std.specs.Option.{option_map}
use Rattle.tk_base.specs.Objects.{objects}
use Rattle.tk_base.specs.Pairs.{objects_of}
use Rattle.tk_base.specs.Settings.{Setup}
use Rattle.tk_base.specs.declared.ids.Mon.{Mon}
use Rattle.tk_frames.specs.declared.frame.Frame.{Frame}
use Rattle.tk_alloc.specs.declared.reported.Reported.{Reported}
use Rattle.tk_alloc.specs.Parts.{value_of}
use Rattle.tk_alloc.specs.Rounds.{AreReports}
use Rattle.tk_alloc.specs.Strain.{IsPresent}
use Rattle.tk_journal.specs.Deciding.{is_within_limit, reports_at}
use Rattle.tk_journal.specs.Kinds.{counts_of, turns_of}
use Rattle.tk_journal.specs.Laws.{IsMonitor, IsSetUp}
use Rattle.tk_journal.specs.Legal.{IsLegal, Opening}
use Rattle.tk_journal.specs.Links.{frames_to}
use Rattle.tk_journal.specs.Readings.{asked_of, assigns_sent, collect_in, factor, is_open, last_round, members_at}
use Rattle.tk_journal.specs.Refusal.{refusal_of}
use Rattle.tk_journal.specs.Turns.{full_at, is_wide, passes_at, reported, short_at, streak}
use Rattle.tk_journal.specs.declared.turn.Turn.{Turn}
use Rattle.tk_journal.specs.declared.noted.Noted.{Noted}

-- ---- numbers

-- the round that a frame asks for, if it asks for one
abbrev pub round_asked : Frame → Option ℕ
round_asked frame = option_map (λ c. c.0) (collect_in frame)

-- the rounds that a monitor was asked for, in order
abbrev pub rounds_to : ℕ → List Noted → List ℕ
rounds_to mon journal = filter_map round_asked (frames_to mon journal)

-- how many rounds some turns opened, in full or wide
abbrev pub openings : List Turn → ℕ
openings turned = (counts_of turned).full + (counts_of turned).wide

-- a Collect names how many rounds were opened, its own included
abbrev pub NamesItsRound : Setup → List Noted → Noted → Type 0
NamesItsRound s before (n.Sent to (f.Collect round asked)) = round ≡ openings (turns_of s before)
NamesItsRound s before e = Unit {0}

-- ---- where a round ends

-- a frame comes in over a legal journal, and the open round is open no more
pub record IsRoundEnd (o : Opening) (j : List Noted) (from : Mon) (frame : Frame) : Type 0 where
  pub set : IsSetUp o
  pub legal : IsLegal o j
  pub range : IsMonitor o.settings from.0
  pub accepted : refusal_of o.settings j from.0 frame ≡ None
  pub opened : is_open o.settings j ≡ true
  pub closed : is_open o.settings (j ++ n.Got from frame ∷ []) ≡ false

-- each monitor has reported, ascending, over the objects that the last round asked for, with values of at most 2^100
-- in size; a wide round asked for all objects
pub record AreReported (s : Setup) (j : List Noted) : Type 0 where
  pub over : List ℕ
  pub reports : AreReports s.monitors over (reports_at s j)
  pub asked : (mon : ℕ) (list : List ℕ) → asked_of (last_round j) mon j ≡ Some list → list ≡ over
  pub wide : is_wide s j ≡ true → over ≡ objects s.objects

-- a fresh Report comes in over a legal journal, and no round is open
pub record IsFreshTurn (o : Opening) (j : List Noted) (from : Mon) (border : ℤ) (failed : List ℕ) (values : List (ℕ × ℤ)) : Type 0 where
  pub set : IsSetUp o
  pub legal : IsLegal o j
  pub range : IsMonitor o.settings from.0
  pub accepted : refusal_of o.settings j from.0 (f.Report (assigns_sent from.0 j) border failed values) ≡ None
  pub closed : is_open o.settings j ≡ false

-- it passes the short test, and the new factors are within their limit
pub record IsShortTurn (o : Opening) (j : List Noted) (from : Mon) (border : ℤ) (failed : List ℕ) (values : List (ℕ × ℤ)) : Type 0 where
  pub fresh : IsFreshTurn o j from border failed values
  pub passes : passes_at o.settings j (reported from.0 border values) ≡ true
  pub within : is_within_limit (short_at o.settings j (reported from.0 border values)) ≡ true

-- it fails the short test, not too often yet, and there is one monitor: the full round ends in its turn
pub record IsLoneTurn (o : Opening) (j : List Noted) (from : Mon) (border : ℤ) (failed : List ℕ) (values : List (ℕ × ℤ)) : Type 0 where
  pub fresh : IsFreshTurn o j from border failed values
  pub one : o.settings.monitors ≡ 1
  pub fails : passes_at o.settings j (reported from.0 border values) ≡ false
  pub few : streak o.settings j < 8
  pub within : is_within_limit (full_at o.settings j (reported from.0 border values ∷ [])) ≡ true

-- ---- what is left

-- at the values that a monitor reported, none of some objects that is no member is above a member
abbrev pub KeepsOrder : List Noted → Reported → List ℕ → Type 0
KeepsOrder j report list = (t o : ℕ) → Contains (members_at j) t → (Contains (members_at j) o → ⊥) → Contains list o
    → (value_of report.values o +ℤ factor report.mon.0 j o) ≤ℤ (value_of report.values t +ℤ factor report.mon.0 j t)

-- the levels of all objects at a monitor, by their values there
abbrev pub levels_with : Setup → List Noted → ℕ → (ℕ → ℤ) → List ℤ
levels_with s j mon value = map (λ o. value o +ℤ factor mon j o) (objects s.objects)

-- values of all objects are those of which a Report speaks: it has theirs, its objects hold whatever is broken by
-- them, and its border is theirs
pub record AreSpokenOf (s : Setup) (j : List Noted) (report : Reported) (value : ℕ → ℤ) : Type 0 where
  pub same : (o : ℕ) → Contains (objects_of report.values) o → value o ≡ value_of report.values o
  pub present : IsPresent (members_at j) report (levels_with s j report.mon.0 value)
