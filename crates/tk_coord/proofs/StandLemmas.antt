-- What holds until the next turn, over a turn: k and epsilon by the frame and what it demands, Stop by what ends it.
use Rattle.std.proofs.Common.{◌≡◌, false, ◌||◌, List, [], ◌∷◌, ◌++◌, None, sym, ap, ◌∙◌, subst}
use Rattle.std.proofs.lemmas.List.{append_assoc}
use Rattle.tk_base.specs.History.{last_of}
use Rattle.tk_base.specs.Settings.{Setup, IsWithinLimits}
use Rattle.tk_base.specs.declared.ids.Mon.{Mon}
use Rattle.tk_frames.specs.declared.frame.Frame.{Frame}
use Rattle.tk_journal.specs.Laws.{IsMonitor}
use Rattle.tk_journal.specs.Legal.{turn_of}
use Rattle.tk_journal.specs.Publishing.{closing}
use Rattle.tk_journal.specs.Readings.{in_force, is_open, is_stopped, tuned_to, tunings}
use Rattle.tk_journal.specs.Refusal.{refusal_of}
use Rattle.tk_journal.specs.Turns.{demanded}
use Rattle.tk_journal.specs.declared.noted.Noted.{Noted}
use Rattle.tk_journal.specs.declared.noted.Noted.TheVariants as n
use Rattle.tk_journal.proofs.Appends.{is_stopped-append}
use Rattle.tk_journal.proofs.Ending.{sent_force, sent_tunings}
use Rattle.tk_journal.proofs.Firm.{IsFirm, got_tuned, got_tunings, open_force, collects_force}
use Rattle.tk_journal.proofs.GrowLemmas.{Grows, grows}
use Rattle.tk_journal.proofs.GrowLemmas.Grows.{Asks, Nothing, ToAll, ToOne}
use Rattle.tk_journal.proofs.LawLemmas.{one_less}
use Rattle.tk_journal.proofs.Orderly.{IsOrderly}
use Rattle.tk_journal.proofs.Pieces.{got_stopped}
use Rattle.tk_journal.proofs.Published.{demanded_wanted, no_stop}
use Rattle.tk_journal.proofs.Same.{AreSame, force_same, same_closing}
use Rattle.tk_journal.proofs.Tuning.{AreTuned, collects_tunings, force_closed}
use Rattle.tk_coord.specs.State.{Stands, next_settings}
use Rattle.tk_coord.specs.Steps.{with_got}
use Rattle.tk_coord.specs.declared.phase.Phase.{Phase}

-- a frame that is taken, over a journal that has not ended
pub record IsTaken (s : Setup) (j : List Noted) (mon : Mon) (frame : Frame) : Type 0 where
  pub limits : IsWithinLimits s
  pub range : IsMonitor s mon.0
  pub accepted : refusal_of s j mon.0 frame ≡ None
  pub order : IsOrderly s j
  pub firm : IsFirm s j
  pub going : is_stopped j ≡ false

-- the journal with the frame and what it demands
abbrev pub said : Setup → List Noted → Mon → Frame → List Noted
said s j mon frame = with_got j mon frame ++ demanded s j mon.0 frame

-- ---- a turn and its end

-- a turn is what was said and what ends it
turn_is : (s : Setup) (j : List Noted) (mon : Mon) (frame : Frame) → j ++ turn_of s j (n.Got mon frame) ≡ said s j mon frame ++ closing s (said s j mon frame)
unfolding turn_of
turn_is s j mon frame =
    let turn = n.Got mon frame ∷ demanded s j mon.0 frame in
    sym (append_assoc j turn (closing s (j ++ turn))) ∙ ap (λ x. x ++ closing s x) (sym (append_assoc j (n.Got mon frame ∷ []) (demanded s j mon.0 frame)))

-- the end of a turn changes none of the readings
pub turn_same : (s : Setup) (j : List Noted) (mon : Mon) (frame : Frame) → AreSame s (said s j mon frame) (j ++ turn_of s j (n.Got mon frame))
turn_same s j mon frame = subst (AreSame s (said s j mon frame)) (sym (turn_is s j mon frame)) (same_closing s (said s j mon frame))

-- a turn stops the journal where its end does
stopped_turn : (s : Setup) (j : List Noted) (mon : Mon) (frame : Frame) → is_stopped j ≡ false → is_stopped (j ++ turn_of s j (n.Got mon frame)) ≡ is_stopped (closing s (said s j mon frame))
stopped_turn s j mon frame going =
    let now = with_got j mon frame in
    let all = said s j mon frame in
    let before : is_stopped all ≡ false =
    is_stopped-append now (demanded s j mon.0 frame)
    ∙ ap (λ b. b || is_stopped (demanded s j mon.0 frame)) (got_stopped j mon frame ∙ going) ∙ no_stop (demanded s j mon.0 frame) (demanded_wanted s j mon.0 frame) in
    ap is_stopped (turn_is s j mon frame) ∙ is_stopped-append all (closing s all) ∙ ap (λ b. b || is_stopped (closing s all)) before

-- no end of a turn, no Stop
pub nothing_stops : (s : Setup) (j : List Noted) → closing s j ≡ [] → is_stopped (closing s j) ≡ false
unfolding is_stopped
nothing_stops s j none = ap is_stopped none

-- ---- k and epsilon over what a frame demands

-- two journals have the same k and epsilon in force, and the same retunes
record AreTunedSo (s : Setup) (a b : List Noted) : Type 0 where
  force : in_force s b ≡ in_force s a
  tuned : tunings b ≡ tunings a

-- a journal and what it grows to, in each of the ways in which it can
tuned_by_growth : (s : Setup) (j : List Noted) (mon : Mon) (frame : Frame) (after : List Noted) → AreTuned s (with_got j mon frame) → Grows s j mon frame after → AreTunedSo s (with_got j mon frame) after
tuned_by_growth s j mon frame after t (Nothing is same rests) = record { force = ap (in_force s) is; tuned = ap tunings is }
tuned_by_growth s j mon frame after t (ToOne members row border failed values fresh own before closed is) =
    let now = with_got j mon frame in record { force = ap (in_force s) is ∙ sent_force s now members (row ∷ []); tuned = ap tunings is ∙ sent_tunings now members (row ∷ []) }
tuned_by_growth s j mon frame after t (ToAll members rows cause nodes closed is) =
    let now = with_got j mon frame in record { force = ap (in_force s) is ∙ sent_force s now members rows; tuned = ap tunings is ∙ sent_tunings now members rows }
tuned_by_growth s j mon frame after t (Asks round asked q mons rises closed new is opened) =
    let now = with_got j mon frame in
    record { force = ap (in_force s) is ∙ collects_force s now round asked q mons closed t new; tuned = ap tunings is ∙ collects_tunings s now round asked (q ∷ mons) t }

-- what a frame demands leaves them as they are
demanded_tuned : (s : Setup) (j : List Noted) (mon : Mon) (frame : Frame) → IsTaken s j mon frame → AreTunedSo s (with_got j mon frame) (said s j mon frame)
demanded_tuned s j mon frame taken =
    let less = one_less s.monitors taken.limits.some_monitor in
    tuned_by_growth s j mon frame (said s j mon frame) (got_tuned s j mon frame taken.firm.tuned) (grows s j mon frame less.0 less.1 taken.range taken.accepted taken.order)

-- ---- what stands

-- what stands with the frame alone, by the journal that has it
pub record IsBetween (s : Setup) (j : List Noted) (mon : Mon) (frame : Frame) (between : Phase) : Type 0 where
  pub settings : between.settings ≡ in_force s (with_got j mon frame)
  pub next : between.next ≡ next_settings s (with_got j mon frame)

-- after a frame that ends no round
pub frame_between : (s : Setup) (j : List Noted) (mon : Mon) (frame : Frame) (phase : Phase) → is_open s (with_got j mon frame) ≡ is_open s j → Stands s j phase → IsBetween s j mon frame phase
frame_between s j mon frame phase same h = record {
  settings = h.settings ∙ sym (open_force s j mon frame same);
  next = h.next ∙ sym (ap (λ ts. tuned_to s (last_of ts)) (got_tunings j mon frame));
}

-- the last Values to a round put the next settings in force
pub ended_between : (s : Setup) (j : List Noted) (mon : Mon) (frame : Frame) (phase : Phase) → IsTaken s j mon frame → is_open s (with_got j mon frame) ≡ false → Stands s j phase
    → IsBetween s j mon frame (record phase { settings = phase.next })
ended_between s j mon frame phase taken closed h =
    let next : phase.next ≡ next_settings s (with_got j mon frame) = h.next ∙ sym (ap (λ ts. tuned_to s (last_of ts)) (got_tunings j mon frame)) in
    record { settings = next ∙ sym (force_closed s (with_got j mon frame) closed (got_tuned s j mon frame taken.firm.tuned)); next = next }

-- it stands after the turn, but for Stop
pub turned_stands : (s : Setup) (j : List Noted) (mon : Mon) (frame : Frame) (after : Phase) → IsTaken s j mon frame → IsBetween s j mon frame after
    → after.stopped ≡ is_stopped (closing s (said s j mon frame)) → Stands s (j ++ turn_of s j (n.Got mon frame)) after
turned_stands s j mon frame after taken b end =
    let same = turn_same s j mon frame in
    let tuned = demanded_tuned s j mon frame taken in
    record {
      settings = b.settings ∙ sym tuned.force ∙ sym (force_same s (said s j mon frame) (j ++ turn_of s j (n.Got mon frame)) same);
      next = b.next ∙ sym (ap (λ ts. tuned_to s (last_of ts)) (same.tuned ∙ tuned.tuned));
      stopped = end ∙ sym (stopped_turn s j mon frame taken.going);
    }
