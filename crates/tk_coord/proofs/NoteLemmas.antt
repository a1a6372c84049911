-- What is kept when a frame is noted with what follows it.
use Rattle.std.proofs.Common.{◌≡◌, ℕ, Bool, List, [], ◌∷◌, ◌++◌, None, get_or, sym, ap, ◌∙◌, subst}
use Rattle.std.specs.List.{All}
use Rattle.std.proofs.lemmas.List.{append_assoc}
use Rattle.std.proofs.lemmas.List.Elements.{All-append, All-cons}
use Rattle.tk_base.specs.Settings.{Setup}
use Rattle.tk_base.specs.declared.ids.Mon.{Mon}
use Rattle.tk_frames.specs.declared.frame.Frame.{Frame}
use Rattle.tk_journal.specs.Entries.{IsEntryOf}
use Rattle.tk_journal.specs.Laws.{IsMonitor}
use Rattle.tk_journal.specs.Legal.{turn_of}
use Rattle.tk_journal.specs.Readings.{is_calm}
use Rattle.tk_journal.specs.Refusal.{refusal_of}
use Rattle.tk_journal.specs.Publishing.{closing}
use Rattle.tk_journal.specs.Turns.{demanded}
use Rattle.tk_journal.specs.declared.noted.Noted.{Noted}
use Rattle.tk_journal.specs.declared.noted.Noted.TheVariants as n
use Rattle.tk_journal.specs.declared.turn.Turn.{Turn}
use Rattle.tk_coord.specs.Coordinator.{IsJournal}
use Rattle.tk_coord.specs.Journal.{IsForOneOf}
use Rattle.tk_coord.specs.Kept.{IsKept}
use Rattle.tk_coord.specs.State.{Holds, Stands}
use Rattle.tk_coord.specs.Steps.{Follows, IsStep}
use Rattle.tk_coord.specs.declared.phase.Phase.{Phase}
use Rattle.tk_coord.specs.declared.state.State.{State}
use Rattle.tk_coord.specs.declared.step.TurnOutcome.{TurnOutcome}
use Rattle.tk_coord.specs.declared.step.Step.{Step}
use Rattle.tk_coord.proofs.GrowLemmas.{journal_grows}
use Rattle.tk_coord.proofs.KeepLemmas.{holds_same}
use Rattle.tk_coord.proofs.StandLemmas.{said, turn_same}
use Rattle.tk_coord.proofs.TurnsLemmas.{turns_taken}

-- the frame and what follows it are the turn
turn_whole : (s : Setup) (j : List Noted) (mon : Mon) (frame : Frame) (entries : List Noted) → entries ≡ demanded s j mon.0 frame ++ closing s (said s j mon frame)
    → n.Got mon frame ∷ entries ≡ turn_of s j (n.Got mon frame)
unfolding turn_of
turn_whole s j mon frame entries is =
    ap (λ (xs : List Noted). n.Got mon frame ∷ xs) is
    ∙ ap (λ (xs : List Noted). n.Got mon frame ∷ demanded s j mon.0 frame ++ closing s xs) (append_assoc j (n.Got mon frame ∷ []) (demanded s j mon.0 frame))

-- the journal with a frame and what follows it has one turn more
pub noted_turn : (s : Setup) (j after : List Noted) (mon : Mon) (frame : Frame) (outcome : TurnOutcome) → Follows s j mon frame outcome → after ≡ j ++ n.Got mon frame ∷ outcome.entries.items
    → after ≡ j ++ turn_of s j (n.Got mon frame)
noted_turn s j after mon frame outcome h is = is ∙ ap (λ (xs : List Noted). j ++ xs) (turn_whole s j mon frame outcome.entries.items h.entries)

-- what is kept of the frame and of what it demands is what is kept of the whole turn
pub noted_holds : (s : Setup) (j after : List Noted) (mon : Mon) (frame : Frame) (state : State) → after ≡ j ++ turn_of s j (n.Got mon frame) → Holds s (said s j mon frame) state → Holds s after state
noted_holds s j after mon frame state is h =
    subst (λ (xs : List Noted). Holds s xs state) (sym is) (holds_same s (said s j mon frame) (j ++ turn_of s j (n.Got mon frame)) state (turn_same s j mon frame) h)

-- ---- the whole of what is kept

-- an entry about one of the monitors sends to one of them
one_target : (monitors objects : ℕ) (e : Noted) → IsEntryOf monitors objects e → IsForOneOf monitors e
one_target monitors objects (n.Got from frame) h = tt
one_target monitors objects (n.Sent to frame) h = h
one_target monitors objects (n.Published publication) h = tt
one_target monitors objects (n.Tuned k epsilon) h = tt

-- and so do entries about them
pub targets_of : (monitors objects count : ℕ) (entries : List Noted) → count ≡ monitors → All (IsEntryOf monitors objects) entries → All (IsForOneOf count) entries
targets_of monitors objects count entries is all =
    subst (λ (k : ℕ). All (IsForOneOf k) entries) (sym is) (λ k d below. one_target monitors objects (get_or entries k d) (all k d below))

-- entries that are about the monitors and objects, with one more and those behind it
pub more_entries : (s : Setup) (j after entries : List Noted) (first : Noted) → All (IsEntryOf s.monitors s.objects) j → IsEntryOf s.monitors s.objects first → All (IsEntryOf s.monitors s.objects) entries
    → after ≡ j ++ first ∷ entries → All (IsEntryOf s.monitors s.objects) after
more_entries s j after entries first each one more is =
    subst (All (IsEntryOf s.monitors s.objects)) (sym is)
    (All-append (IsEntryOf s.monitors s.objects) j (first ∷ entries) each (All-cons (IsEntryOf s.monitors s.objects) first entries one more))

-- an entry that was pushed, and those that were appended to it
pub appended : (first : Noted) (entries : List Noted) {j reserved pushed after : List Noted} → reserved ≡ j → pushed ≡ reserved ++ first ∷ [] → after ≡ pushed ++ entries → after ≡ j ++ first ∷ entries
appended first entries {j} {reserved} {pushed} {after} same one all =
    all ∙ ap (λ (xs : List Noted). xs ++ entries) (one ∙ ap (λ (xs : List Noted). xs ++ first ∷ []) same) ∙ append_assoc j (first ∷ []) entries

-- what is kept after the turn of a taken frame
pub kept_taken : (s : Setup) (j after : List Noted) (mon : Mon) (frame : Frame) (step : Step) (calm : Bool) (old new : State) (phase : Phase) (turns now : List Turn)
    → IsKept s j old phase turns → IsMonitor s mon.0 → refusal_of s j mon.0 frame ≡ None → IsStep s j mon frame step → after ≡ j ++ n.Got mon frame ∷ step.outcome.entries.items
    → Holds s (said s j mon frame) new → ((s : Setup) (j : List Noted) → Holds s j new → calm ≡ is_calm s j)
    → now ≡ turns ++ record step.turn { calm = calm } ∷ [] → IsKept s after new step.outcome.phase now
kept_taken s j after mon frame step calm old new phase turns now k range none taken first holds calms pushed =
    let is = noted_turn s j after mon frame step.outcome taken.outcome first in
    let held = noted_holds s j after mon frame new is holds in
    record {
      journal = subst (IsJournal s) (sym is) (journal_grows s j mon frame k.journal range none);
      holds = held;
      stands = subst (λ (xs : List Noted). Stands s xs step.outcome.phase) (sym is) taken.outcome.phase;
      entries = more_entries s j after step.outcome.entries.items (n.Got mon frame) k.entries (range.from_one, range.within) taken.outcome.range first;
      turned = turns_taken s j after mon frame step.turn calm turns now range none taken.counted is (calms s after held) k.turned pushed;
    }
