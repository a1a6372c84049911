-- A legal journal stays legal by one more turn.
use Rattle.std.proofs.Common.{◌≡◌, ℕ, List, ◌++◌, None, refl, sym, subst}
use Rattle.std.specs.Prelude.{pos}
use Rattle.tk_base.specs.Settings.{Setup, IsWithinLimits}
use Rattle.tk_base.specs.declared.ids.Mon.{Mon}
use Rattle.tk_frames.specs.declared.frame.Frame.{Frame}
use Rattle.tk_journal.specs.Kinds.{streak_of, turns_of}
use Rattle.tk_journal.specs.Laws.{IsMonitor}
use Rattle.tk_journal.specs.Legal.{IsAccepted, IsLegal, Opening, turn_of}
use Rattle.tk_journal.specs.Refusal.{refusal_of, retune_refusal_of}
use Rattle.tk_journal.specs.Turns.{rounds, streak}
use Rattle.tk_journal.specs.declared.noted.Noted.{Noted}
use Rattle.tk_journal.specs.RoundEnds.{openings}
use Rattle.tk_journal.specs.declared.noted.Noted.TheVariants as n
use Rattle.tk_journal.proofs.Firm.{IsFirm}
use Rattle.tk_journal.proofs.KindLemmas.{rounds_read, streak_read}
use Rattle.tk_journal.proofs.LawLemmas.{orderly}
use Rattle.tk_journal.proofs.Orderly.{IsOrderly}
use Rattle.tk_journal.proofs.SoundLemmas.{legal_firm}
use Rattle.tk_journal.proofs.WholeLemmas.{goes_on}
use Rattle.tk_coord.specs.Coordinator.{IsJournal}

-- ---- what holds of the journal of a coordinator

-- its entries are in order
pub orderly_at : (s : Setup) (j : List Noted) → IsJournal s j → IsOrderly s j
orderly_at s j h = subst (λ (q : Setup). IsOrderly q j) h.settings (orderly h.opening j h.set_up h.legal)

-- what it says of members and factors holds together
pub firm_at : (s : Setup) (j : List Noted) → IsJournal s j → IsFirm s j
firm_at s j h = subst (λ (q : Setup). IsFirm q j) h.settings (legal_firm h.opening j h.set_up h.legal)

-- its settings are within the limits
pub limits_at : (s : Setup) (j : List Noted) → IsJournal s j → IsWithinLimits s
limits_at s j h = subst IsWithinLimits h.settings h.set_up.limits

-- how many rounds were opened is read of its turns
pub rounds_at : (s : Setup) (j : List Noted) → IsJournal s j → rounds s j ≡ openings (turns_of s j)
rounds_at s j h = subst (λ (q : Setup). rounds q j ≡ openings (turns_of q j)) h.settings (rounds_read h.opening j h.set_up h.legal)

-- and so is the streak
pub streak_at : (s : Setup) (j : List Noted) → IsJournal s j → streak s j ≡ streak_of (turns_of s j)
streak_at s j h = subst (λ (q : Setup). streak q j ≡ streak_of (turns_of q j)) h.settings (streak_read h.opening j h.legal)

-- ---- one more turn

-- an input that is accepted over it by some settings is so by those of any opening that has them
accepted_by : (s : Setup) (o : Opening) (j : List Noted) (input : Noted) → o.settings ≡ s → IsAccepted s j input → IsAccepted o.settings j input
accepted_by s o j input is accepted = subst (λ (q : Setup). IsAccepted q j input) (sym is) accepted

-- any opening from which the journal is legal, with the same settings
legal_by : (s : Setup) (o : Opening) (j : List Noted) (input : Noted) → o.settings ≡ s → IsLegal o j → IsAccepted s j input → IsLegal o (j ++ turn_of s j input)
legal_by s o j input is legal accepted =
    subst (λ (q : Setup). IsLegal o (j ++ turn_of q j input)) is (goes_on o j input legal (accepted_by s o j input is accepted))

-- the turn of a taken frame
pub legal_by_frame : (s : Setup) (o : Opening) (j : List Noted) (mon : Mon) (frame : Frame) → o.settings ≡ s → IsLegal o j → IsMonitor s mon.0 → refusal_of s j mon.0 frame ≡ None
    → IsLegal o (j ++ turn_of s j (n.Got mon frame))
legal_by_frame s o j mon frame is legal range taken = legal_by s o j (n.Got mon frame) is legal (range.from_one, range.within, taken)

-- the turn of a retune
pub legal_by_retune : (s : Setup) (o : Opening) (j : List Noted) (k e : ℕ) → o.settings ≡ s → IsLegal o j → retune_refusal_of s j k e ≡ None → IsLegal o (j ++ turn_of s j (n.Tuned k (pos e)))
legal_by_retune s o j k e is legal taken = legal_by s o j (n.Tuned k (pos e)) is legal (e, refl, taken)

-- ---- the journal of a coordinator

-- it stays one with a turn
grown : (s : Setup) (j : List Noted) (input : Noted) → IsJournal s j → IsAccepted s j input → IsJournal s (j ++ turn_of s j input)
grown s j input h accepted = record {
  opening = h.opening;
  settings = h.settings;
  set_up = h.set_up;
  legal = legal_by s h.opening j input h.settings h.legal accepted;
}

-- with that of a taken frame
pub journal_grows : (s : Setup) (j : List Noted) (mon : Mon) (frame : Frame) → IsJournal s j → IsMonitor s mon.0 → refusal_of s j mon.0 frame ≡ None → IsJournal s (j ++ turn_of s j (n.Got mon frame))
journal_grows s j mon frame h range taken = grown s j (n.Got mon frame) h (range.from_one, range.within, taken)

-- and with that of a retune
pub journal_retuned : (s : Setup) (j : List Noted) (k e : ℕ) → IsJournal s j → retune_refusal_of s j k e ≡ None → IsJournal s (j ++ turn_of s j (n.Tuned k (pos e)))
journal_retuned s j k e h taken = grown s j (n.Tuned k (pos e)) h (e, refl, taken)
