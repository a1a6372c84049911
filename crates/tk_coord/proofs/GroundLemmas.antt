-- What the coordinator knows when it takes a frame.
use Rattle.std.proofs.Common.{◌≡◌, ℕ, List, None, sym, ap, ◌∙◌, subst}
use Rattle.std.specs.List.{All}
use Rattle.tk_base.specs.Settings.{Setup}
use Rattle.tk_base.specs.declared.ids.Mon.{Mon}
use Rattle.tk_frames.specs.declared.frame.Frame.{Frame}
use Rattle.tk_journal.specs.Entries.{IsEntryOf}
use Rattle.tk_journal.specs.Laws.{IsMonitor}
use Rattle.tk_rows.specs.Factors.{Grid}
use Rattle.tk_journal.specs.Readings.{in_force, members_at, table_at}
use Rattle.tk_journal.specs.Refusal.{refusal_of}
use Rattle.tk_journal.specs.Turns.{rounds}
use Rattle.tk_journal.specs.declared.noted.Noted.{Noted}
use Rattle.tk_journal.proofs.Accepted.{accepted_kind}
use Rattle.tk_journal.proofs.Tuning.{force_monitors, force_objects}
use Rattle.tk_coord.specs.Coordinator.{IsJournal}
use Rattle.tk_coord.specs.Dealing.{OpensWide}
use Rattle.tk_coord.specs.Grounds.{IsGrounded, OpensOver}
use Rattle.tk_coord.specs.State.{Stands}
use Rattle.tk_coord.specs.declared.outcomes.Grounds.{Grounds}
use Rattle.tk_coord.specs.declared.phase.Phase.{Phase}
use Rattle.tk_coord.specs.declared.step.TurnOutcome.{TurnOutcome}
use Rattle.tk_coord.proofs.FollowLemmas.{IsAsLarge}
use Rattle.tk_coord.proofs.GrowLemmas.{firm_at, limits_at, orderly_at}
use Rattle.tk_coord.proofs.StandLemmas.{IsTaken}

-- a frame that no test refuses is taken
pub taken_at : (s : Setup) (j : List Noted) (mon : Mon) (frame : Frame) → IsJournal s j → IsMonitor s mon.0 → refusal_of s j mon.0 frame ≡ None → IsTaken s j mon frame
taken_at s j mon frame h range none = record {
  limits = limits_at s j h;
  range = range;
  accepted = none;
  order = orderly_at s j h;
  firm = firm_at s j h;
  going = (accepted_kind s j mon.0 frame none).0;
}

-- the settings in force are as large as those that the coordinator was made with
pub force_large : (s : Setup) (j : List Noted) (setup : Setup) → setup ≡ in_force s j → IsAsLarge setup s
force_large s j setup is = record {
  objects = ap (λ (q : Setup). q.objects) is ∙ force_objects s j;
  monitors = ap (λ (q : Setup). q.monitors) is ∙ force_monitors s j;
}

-- entries about the monitors of the settings in force are about all that there are
pub entries_of : (s : Setup) (j : List Noted) (phase : Phase) (entries : List Noted) → Stands s j phase
    → All (IsEntryOf phase.settings.monitors s.objects) entries → All (IsEntryOf s.monitors s.objects) entries
entries_of s j phase entries h each =
    subst (λ (k : ℕ). All (IsEntryOf k s.objects) entries) (force_large s j phase.settings h.settings).monitors each

-- a wide round that opens by the fields opens over the journal
pub opened_over : (s : Setup) (j : List Noted) (g : Grounds) (outcome : TurnOutcome) → IsGrounded s j g → OpensWide g.phase g.rounds outcome
    → All (IsEntryOf g.phase.settings.monitors s.objects) outcome.entries.items → OpensOver s j outcome
opened_over s j g outcome grounded opens each = record {
  stands = subst (Stands s j) (sym opens.holds) grounded.stands;
  opens = subst (λ (x : Phase). OpensWide x (rounds s j) outcome) (sym opens.holds) (subst (λ (k : ℕ). OpensWide g.phase k outcome) grounded.counted opens);
  range = entries_of s j g.phase outcome.entries.items grounded.stands each;
}

-- ---- readings over the fields

-- settings, table and members are those over a journal
pub record AreOf (s : Setup) (now : List Noted) (setup : Setup) (table : Grid) (members : List ℕ) : Type 0 where
  pub force : setup ≡ in_force s now
  pub dealt : table ≡ table_at s now
  pub named : members ≡ members_at now

-- what is read of them is read of the journal
pub over_fields : {X : Type 0} (F : Setup → Grid → List ℕ → X) (s : Setup) (now : List Noted) (setup : Setup) (table : Grid) (members : List ℕ) → AreOf s now setup table members
    → F setup table members ≡ F (in_force s now) (table_at s now) (members_at now)
over_fields F s now setup table members are =
    ap (λ x. F x table members) are.force ∙ ap (λ g. F (in_force s now) g members) are.dealt ∙ ap (λ ms. F (in_force s now) (table_at s now) ms) are.named

-- what holds over the journal holds of them
pub holds_over : (P : Setup → Grid → List ℕ → Type 0) (s : Setup) (now : List Noted) (setup : Setup) (table : Grid) (members : List ℕ) → AreOf s now setup table members
    → P (in_force s now) (table_at s now) (members_at now) → P setup table members
holds_over P s now setup table members are holds =
    subst (λ x. P x table members) (sym are.force) (subst (λ g. P (in_force s now) g members) (sym are.dealt) (subst (λ ms. P (in_force s now) (table_at s now) ms) (sym are.named) holds))

-- the fields that rounds are dealt over are so
pub grounds_are : (s : Setup) (j : List Noted) (g : Grounds) → IsGrounded s j g → AreOf s j g.phase.settings g.board.now.table g.board.now.members
grounds_are s j g h = record { force = h.stands.settings; dealt = h.dealt; named = h.named }
