-- That turns stand whole in legal journals, and what they are.
use Rattle.std.specs.Prelude.{◌≡◌, ◌+◌, true, List, [], ◌∷◌, ◌++◌, None, if◌then◌else◌}
use Rattle.tk_base.specs.Settings.{Setup}
use Rattle.tk_base.specs.declared.ids.Mon.{Mon}
use Rattle.tk_frames.specs.declared.frame.Frame.{Frame}
use Rattle.tk_journal.specs.Kinds.{counts_of, opens_wide, turns_of}
use Rattle.tk_journal.specs.Laws.{IsMonitor, IsSetUp}
use Rattle.tk_journal.specs.Legal.{IsLegal, Opening, inputs_of, is_input}
use Rattle.tk_journal.specs.Readings.{is_calm}
use Rattle.tk_journal.specs.Refusal.{refusal_of}
use Rattle.tk_journal.specs.Shapes.{Shape}
use Rattle.tk_journal.specs.Turns.{demanded, fails_at, rounds, streak, wide_collects}
use Rattle.tk_journal.specs.Whole.{StandsWhole}
use Rattle.tk_journal.specs.declared.noted.Noted.{Noted}
use Rattle.tk_journal.specs.declared.noted.Noted.TheVariants as n

-- in front of an input of a legal journal stands a legal journal, over which it is accepted, and its turn follows
abbrev pub TurnsStandWhole : Type 0
TurnsStandWhole =
    (o : Opening) (before : List Noted) (e : Noted) (after : List Noted)
    → IsLegal o (before ++ e ∷ after) → is_input e ≡ true → StandsWhole o before e after

-- what follows a frame that is taken is one of the few turns that there are
abbrev pub EachTurnHasAShape : Type 0
EachTurnHasAShape =
    (s : Setup) (before : List Noted) (from : Mon) (frame : Frame)
    → IsMonitor s from.0 → refusal_of s before from.0 frame ≡ None
    → Shape s before from frame (demanded s before from.0 frame)

-- how many reports in a row failed the short test, over one more turn
abbrev pub StreakOverATurn : Type 0
StreakOverATurn =
    (s : Setup) (before : List Noted) (from : Mon) (frame : Frame) (rest : List Noted) → inputs_of rest ≡ []
    → let now = before ++ n.Got from frame ∷ rest in
    streak s now
    ≡ (if is_calm s now then 0 else streak s before + (if fails_at s before from.0 frame then 1 else 0))

-- the number of rounds is that of the turns that open one: those opened in full and those opened wide
abbrev pub TurnsTellTheRounds : Type 0
TurnsTellTheRounds =
    (o : Opening) (j : List Noted) → IsSetUp o → IsLegal o j
    → rounds o.settings j ≡ (counts_of (turns_of o.settings j)).full + (counts_of (turns_of o.settings j)).wide

-- a turn that opens a wide round sends its Collects, under the number behind those of the rounds before
abbrev pub TurnsTellTheWideCollects : Type 0
TurnsTellTheWideCollects =
    (s : Setup) (before : List Noted) (from : Mon) (frame : Frame)
    → opens_wide s before from.0 frame ≡ true
    → demanded s before from.0 frame ≡ wide_collects s (rounds s (before ++ n.Got from frame ∷ []) + 1)
