-- What each event leaves of the ties between a monitor and its trail.
use Rattle.std.proofs.Common.{◌≡◌, ℕ, suc, ◌<◌, ◌≤◌, ◌+◌, ◌-◌, ◌^◌, Bool, true, false, not, ◌&&◌, ◌||◌, ◌==◌, List, [], ◌∷◌, ◌++◌, length, get_or, set, Some, None, refl, sym, ap, ◌∙◌, subst, arith}
use Rattle.std.specs.Prelude.{ℤ, ◌+ℤ◌, unsigned_abs, slice_get, if◌then◌else◌, nat_lt}
use Rattle.std.proofs.lemmas.Int.{ints}
use Rattle.std.proofs.Math.Bool.{or-true, or-false}
use Rattle.std.proofs.lemmas.Bool.{and_parts}
use Rattle.tk_base.specs.declared.ids.Feeder.{Feeder}
use Rattle.tk_frames.specs.declared.frame.Frame.TheVariants as f
use Rattle.tk_input.specs.Logs.{AreParts, ArePlaces, IsObject}
use Rattle.tk_border.specs.Levels.{level_at, broken, least_member, greatest_outside}
use Rattle.tk_trail.specs.Slack.{difference, slack_of}
use Rattle.tk_frames.specs.Assigns.{members_of}
use Rattle.tk_trail.specs.Setup.{MonitorSetup}
use Rattle.tk_trail.specs.Readings.{seq_of, members_at, places_at, at_ends, value_of_object, values_of, levels_of, broken_at, is_broken, is_report, is_end, is_reported, is_end_told, is_stopped}
use Rattle.tk_trail.specs.Frames.{report_at, settled_at, due_at, report_is_due, end_is_due, may_report}
use Rattle.tk_trail.specs.Legal.{IsLegal, HasNext, place_of, part_length, after_check, with_answer}
use Rattle.tk_trail.specs.declared.entry.Entry.{Entry}
use Rattle.tk_trail.specs.declared.entry.Entry.TheVariants.{Raised, Sent}
use Rattle.tk_trail.proofs.LegalLemmas.{legal_raised, legal_sent, legal_places}
use Rattle.tk_trail.proofs.LevelsLemmas.{Same, same-sent, values-same, levels-same, members-same, values-raised, levels-raised, value-raised, value-small, level_at-values_of, share_own, length-levels_of}
use Rattle.tk_trail.proofs.PlacesLemmas.{places_at-raised, length-places_at}
use Rattle.tk_trail.proofs.ReadingsLemmas.{assigns_of-raised, seq_of-raised, seq_of-sent, reported-raised, reported-sent, told-raised, told-sent, stopped-raised, stopped-sent}
use Rattle.tk_trail.proofs.DueLemmas.{report_there, end_there}
use Rattle.tk_monitor.specs.Board.{BoardView, shifted}
use Rattle.tk_monitor.specs.Trail.{TrailView}
use Rattle.tk_monitor.specs.Kept.{IsKept, standing_of, phase_of, left_in, next_in}
use Rattle.tk_monitor.specs.Monitored.{checked_at}
use Rattle.tk_monitor.specs.declared.outcome.Checked.TheVariants.{Reported, ToldEnd, Nothing}
use Rattle.tk_monitor.specs.declared.phase.Phase.{Phase}
use Rattle.tk_monitor.proofs.PartsLemmas.{left_less, ends_left, got_below, got_past, got_is}

-- the standing and the phase of trails with the same places and Assigns
pub standing-same : (setup : MonitorSetup) (a b : List Entry) → Same setup a b → standing_of setup a ≡ standing_of setup b
standing-same setup a b same =
    let values : values_of setup a ≡ values_of setup b = values-same setup a b same in
    let levels : levels_of setup a ≡ levels_of setup b = levels-same setup a b same in
    let members : members_at a ≡ members_at b = members-same setup a b same in
    cc

pub phase_made : (seq : ℕ) (reported told stopped : Bool) (trail : List Entry) → seq ≡ seq_of trail → reported ≡ is_reported trail → told ≡ is_end_told trail → stopped ≡ is_stopped trail → record { seq = seq; reported = reported; told = told; stopped = stopped } ≡ phase_of trail
phase_made seq reported told stopped trail a b c d = cc

-- what stays where places and Assigns do
pub kept_same : (setup : MonitorSetup) (was after : TrailView) (board : BoardView) (next : List ℕ) (phase now : Phase) → IsKept setup was board next phase → Same setup after.entries was.entries → IsLegal setup after.entries → after.raises ≡ was.raises → now ≡ phase_of after.entries → IsKept setup after board next now
kept_same setup was after board next phase now kept same legal raises is = record {
  within = kept.within;
  legal = legal;
  places = kept.places ∙ sym same.places;
  standing = kept.standing ∙ sym (standing-same setup after.entries was.entries same);
  phase_is = is;
  room = raises ∙ kept.room;
}

-- places of the fields
pub kept_places : (setup : MonitorSetup) (was : TrailView) (board : BoardView) (next : List ℕ) (phase : Phase) → IsKept setup was board next phase → ArePlaces setup.parts next
kept_places setup was board next phase kept = subst (ArePlaces setup.parts) (sym kept.places) (legal_places setup kept.within.from was.entries kept.legal.each)

-- a change that is next, as the trail sees it
pub kept_next : (setup : MonitorSetup) (was : TrailView) (board : BoardView) (next : List ℕ) (phase : Phase) (g : ℕ) (c : ℕ × ℤ) → IsKept setup was board next phase → 1 ≤ g → g ≤ length setup.parts → next_in setup.parts next (g - 1) ≡ Some c → HasNext setup was.entries g
kept_next setup was board next phase g c kept low high got = record {
  from_one = low;
  one_of = high;
  not_ended = omega (arith, got_below (get_or setup.parts (g - 1) []) (get_or next (g - 1) 0) c got, ap (λ (places : List ℕ). get_or places (g - 1) 0) kept.places);
}

-- the object of a change is one of the catalogue
pub change_object : (n : ℕ) (parts : List (List (ℕ × ℤ))) (next : List ℕ) (i : ℕ) (c : ℕ × ℤ) → AreParts n parts → i < length parts → next_in parts next i ≡ Some c → IsObject n c.0
change_object n parts next i c are within got =
    let p = get_or next i 0 in
    let part = get_or parts i [] in
    subst (λ (x : ℕ × ℤ). IsObject n x.0) (got_is part p c c got) (are.objects i [] within p c (got_below part p c got))

-- a raise
pub kept_raised : (setup : MonitorSetup) (was after : TrailView) (board : BoardView) (next : List ℕ) (phase : Phase) (feeder : Feeder) (c : ℕ × ℤ) → IsKept setup was board next phase → 1 ≤ feeder.0 → feeder.0 ≤ length setup.parts → next_in setup.parts next (feeder.0 - 1) ≡ Some c → after.entries ≡ was.entries ++ Raised feeder ∷ [] → after.raises + 1 ≡ was.raises → IsKept setup after (shifted board c) (set next (feeder.0 - 1) (suc (get_or next (feeder.0 - 1) 0))) phase
kept_raised setup was after board next phase feeder c kept low high got entries raises =
    let trail = was.entries in
    let longer = trail ++ Raised feeder ∷ [] in
    let i = feeder.0 - 1 in
    let there = kept_next setup was board next phase feeder.0 c kept low high got in
    let shape : length setup.from ≡ length setup.parts = kept.within.from.shape in
    let object = change_object setup.objects setup.parts next i c kept.within.parts (omega (arith, low, high)) got in
    let here : slice_get (get_or setup.parts i []) (place_of setup trail feeder.0) ≡ Some c = ap (λ (places : List ℕ). slice_get (get_or setup.parts i []) (get_or places i 0)) (sym kept.places) ∙ got in
    let moved : set next i (suc (get_or next i 0)) ≡ places_at setup longer = ap (λ (places : List ℕ). set places i (suc (get_or places i 0))) kept.places ∙ sym (places_at-raised setup trail feeder low) in
    let values : set (values_of setup trail) (c.0 - 1) (level_at (values_of setup trail) c.0 +ℤ c.1) ≡ values_of setup longer = sym (values-raised setup trail feeder c shape there here object.0 object.1) in
    let levels : set (levels_of setup trail) (c.0 - 1) (level_at (levels_of setup trail) c.0 +ℤ c.1) ≡ levels_of setup longer = sym (levels-raised setup trail feeder c shape there here object.0 object.1) in
    let members : members_at trail ≡ members_at longer = sym (ap (λ assigns. members_of assigns) (assigns_of-raised trail feeder)) in
    let stands : shifted (standing_of setup trail) c ≡ standing_of setup longer = cc in
    record {
      within = kept.within;
      legal = subst (IsLegal setup) (sym entries) (legal_raised setup shape trail feeder kept.legal there);
      places = moved ∙ ap (places_at setup) (sym entries);
      standing = ap (λ (s : BoardView). shifted s c) kept.standing ∙ stands ∙ ap (standing_of setup) (sym entries);
      phase_is =
          kept.phase_is
          ∙ phase_made (seq_of trail) (is_reported trail) (is_end_told trail) (is_stopped trail) longer (sym (seq_of-raised trail feeder)) (sym (reported-raised trail feeder)) (sym (told-raised trail feeder)) (sym (stopped-raised trail feeder))
          ∙ ap phase_of (sym entries);
      room = omega (
        arith,
        raises,
        kept.room,
        left_less setup.parts next i (omega (arith, low, high)) (omega (arith, low, high, ap (λ (places : List ℕ). length places) kept.places, length-places_at setup trail, shape)) (got_below (get_or setup.parts i []) (get_or next i 0) c got),
      );
    }

-- the size of a value that moves
pub kept_small : (setup : MonitorSetup) (was : TrailView) (board : BoardView) (next : List ℕ) (phase : Phase) (feeder : Feeder) (c : ℕ × ℤ) → IsKept setup was board next phase → 1 ≤ feeder.0 → feeder.0 ≤ length setup.parts → next_in setup.parts next (feeder.0 - 1) ≡ Some c → unsigned_abs (level_at board.values c.0 +ℤ c.1) ≤ 2 ^ 100
kept_small setup was board next phase feeder c kept low high got =
    let trail = was.entries in
    let i = feeder.0 - 1 in
    let there = kept_next setup was board next phase feeder.0 c kept low high got in
    let object = change_object setup.objects setup.parts next i c kept.within.parts (omega (arith, low, high)) got in
    let here : slice_get (get_or setup.parts i []) (place_of setup trail feeder.0) ≡ Some c = ap (λ (places : List ℕ). slice_get (get_or setup.parts i []) (get_or places i 0)) (sym kept.places) ∙ got in
    let now : level_at board.values c.0 ≡ value_of_object setup trail c.0 = ap (λ (s : BoardView). level_at s.values c.0) kept.standing ∙ level_at-values_of setup trail c.0 object.0 object.1 in
    let more : value_of_object setup (trail ++ Raised feeder ∷ []) c.0 ≡ value_of_object setup trail c.0 +ℤ c.1 = value-raised setup trail feeder c kept.within.from.shape there here c.0 ∙ ap (λ (z : ℤ). value_of_object setup trail c.0 +ℤ z) (share_own c) in
    omega (arith, ints, now, more, value-small setup kept.within (trail ++ Raised feeder ∷ []) c.0, kept.within.parts.weights c.0)

-- what the fields say is what the trail says
pub kept_broken : (setup : MonitorSetup) (trail : List Entry) (board : BoardView) → board ≡ standing_of setup trail → nat_lt 0 (length (broken board.levels board.members)) ≡ is_broken setup trail
unfolding broken_at
kept_broken setup trail board is = ap (λ (s : BoardView). nat_lt 0 (length (broken s.levels s.members))) is

pub kept_slack : (setup : MonitorSetup) (trail : List Entry) (board : BoardView) → board ≡ standing_of setup trail → difference (least_member board.levels board.members) (greatest_outside board.levels board.members) ≡ slack_of setup trail
unfolding slack_of
kept_slack setup trail board is = ap (λ (s : BoardView). difference (least_member s.levels s.members) (greatest_outside s.levels s.members)) is

pub kept_size : (setup : MonitorSetup) (trail : List Entry) (board : BoardView) → board ≡ standing_of setup trail → length board.levels ≡ setup.objects
kept_size setup trail board is = ap (λ (s : BoardView). length s.levels) is ∙ length-levels_of setup trail

pub kept_ends : (setup : MonitorSetup) (was : TrailView) (board : BoardView) (next : List ℕ) (phase : Phase) → IsKept setup was board next phase → (was.raises == 0) ≡ at_ends setup was.entries
unfolding at_ends
kept_ends setup was board next phase kept =
    let are = legal_places setup kept.within.from was.entries kept.legal.each in
    ap (λ k. k == 0) (kept.room ∙ ap (left_in setup.parts) kept.places) ∙ sym (ends_left setup.parts (places_at setup was.entries) are.shape are.within)

-- a part without a next change is at its end
pub kept_ended : (setup : MonitorSetup) (was : TrailView) (board : BoardView) (next : List ℕ) (phase : Phase) (g : ℕ) → IsKept setup was board next phase → next_in setup.parts next (g - 1) ≡ None → place_of setup was.entries g ≡ part_length setup g
kept_ended setup was board next phase g kept none =
    let are = legal_places setup kept.within.from was.entries kept.legal.each in
    let past : slice_get (get_or setup.parts (g - 1) []) (get_or (places_at setup was.entries) (g - 1) 0) ≡ None = ap (λ (places : List ℕ). slice_get (get_or setup.parts (g - 1) []) (get_or places (g - 1) 0)) (sym kept.places) ∙ none in
    omega (arith, got_past (get_or setup.parts (g - 1) []) (get_or (places_at setup was.entries) (g - 1) 0) past, are.within (g - 1))

-- a Report that is due is what is due
pub report_when : (setup : MonitorSetup) (trail : List Entry) → report_is_due setup trail ≡ true → due_at setup trail ≡ Some (report_at setup trail)
unfolding due_at
report_when setup trail is = ap (λ b. if b then Some (report_at setup trail) else (if end_is_due setup trail then Some (settled_at setup trail) else None)) is

-- an End that is due is due where no Report is
pub end_when : (setup : MonitorSetup) (trail : List Entry) → report_is_due setup trail ≡ false → end_is_due setup trail ≡ true → due_at setup trail ≡ Some (settled_at setup trail)
unfolding due_at
end_when setup trail not_report is =
    ap (λ b. if b then Some (report_at setup trail) else (if end_is_due setup trail then Some (settled_at setup trail) else None)) not_report
    ∙ ap (λ b. if b then Some (settled_at setup trail) else None) is

pub none_when : (setup : MonitorSetup) (trail : List Entry) → report_is_due setup trail ≡ false → end_is_due setup trail ≡ false → due_at setup trail ≡ None
unfolding due_at
none_when setup trail not_report not_end =
    ap (λ b. if b then Some (report_at setup trail) else (if end_is_due setup trail then Some (settled_at setup trail) else None)) not_report
    ∙ ap (λ b. if b then Some (settled_at setup trail) else None) not_end

report_no_end : (setup : MonitorSetup) (trail : List Entry) → is_end (Sent (report_at setup trail)) ≡ false
unfolding report_at
report_no_end setup trail = refl

settled_no_report : (setup : MonitorSetup) (trail : List Entry) → is_report (Sent (settled_at setup trail)) ≡ false
unfolding settled_at
settled_no_report setup trail = refl

-- a Report sent where it is due
pub kept_reported : (setup : MonitorSetup) (was after : TrailView) (board : BoardView) (next : List ℕ) (phase : Phase) → IsKept setup was board next phase → report_is_due setup was.entries ≡ true → after.entries ≡ was.entries ++ Sent (report_at setup was.entries) ∷ [] → after.raises ≡ was.raises → IsKept setup after board next (record phase { reported = true })
kept_reported setup was after board next phase kept due entries raises =
    let trail = was.entries in
    let sent = report_at setup trail in
    let longer = trail ++ Sent sent ∷ [] in
    kept_same setup was after board next phase (record phase { reported = true }) kept
    (subst (λ (t : List Entry). Same setup t trail) (sym entries) (same-sent setup trail sent))
    (subst (IsLegal setup) (sym entries) (legal_sent setup kept.within.from.shape trail sent kept.legal (report_when setup trail due)))
    raises
    (ap (λ (p : Phase). record p { reported = true }) kept.phase_is
    ∙ phase_made (seq_of trail) true (is_end_told trail) (is_stopped trail) longer
    (sym (seq_of-sent trail sent))
    (sym (reported-sent trail sent ∙ ap (λ b. is_reported trail || b) (report_there setup trail) ∙ or-true (is_reported trail)))
    (sym (told-sent trail sent ∙ ap (λ b. is_end_told trail || b) (report_no_end setup trail) ∙ or-false (is_end_told trail)))
    (sym (stopped-sent trail sent))
    ∙ ap phase_of (sym entries))

-- the end told where it is due
pub kept_told : (setup : MonitorSetup) (was after : TrailView) (board : BoardView) (next : List ℕ) (phase : Phase) → IsKept setup was board next phase → report_is_due setup was.entries ≡ false → end_is_due setup was.entries ≡ true → at_ends setup was.entries ≡ true → after.entries ≡ was.entries ++ Sent (settled_at setup was.entries) ∷ [] → after.raises ≡ was.raises → IsKept setup after board next (record phase { told = true })
kept_told setup was after board next phase kept not_report due ends entries raises =
    let trail = was.entries in
    let sent = settled_at setup trail in
    let longer = trail ++ Sent sent ∷ [] in
    kept_same setup was after board next phase (record phase { told = true }) kept
    (subst (λ (t : List Entry). Same setup t trail) (sym entries) (same-sent setup trail sent))
    (subst (IsLegal setup) (sym entries) (legal_sent setup kept.within.from.shape trail sent kept.legal (end_when setup trail not_report due)))
    raises
    (ap (λ (p : Phase). record p { told = true }) kept.phase_is
    ∙ phase_made (seq_of trail) (is_reported trail) true (is_stopped trail) longer
    (sym (seq_of-sent trail sent))
    (sym (reported-sent trail sent ∙ ap (λ b. is_reported trail || b) (settled_no_report setup trail) ∙ or-false (is_reported trail)))
    (sym (told-sent trail sent ∙ ap (λ b. is_end_told trail || b) (end_there setup trail ∙ ends) ∙ or-true (is_end_told trail)))
    (sym (stopped-sent trail sent))
    ∙ ap phase_of (sym entries))

-- what a check answers, made of what the fields say
pub checked_made : (setup : MonitorSetup) (trail : List Entry) (may broken ended told : Bool) → may ≡ may_report trail → broken ≡ is_broken setup trail → ended ≡ at_ends setup trail → told ≡ is_end_told trail → (if may && broken then Reported else (if may && not broken && ended && not told then ToldEnd else Nothing)) ≡ checked_at setup trail
unfolding report_is_due end_is_due
checked_made setup trail may broken ended told a b c d = cc

pub may_made : (trail : List Entry) (phase : Phase) → phase ≡ phase_of trail → (nat_lt 0 phase.seq && not phase.reported) ≡ may_report trail
may_made trail phase is = ap (λ (p : Phase). nat_lt 0 p.seq && not p.reported) is

choice_report : (r e : Bool) → Reported ≡ (if r then Reported else (if e then ToldEnd else Nothing)) → r ≡ true
choice_report true e is = refl
choice_report false true is = cc
choice_report false false is = cc

choice_end : (r e : Bool) → ToldEnd ≡ (if r then Reported else (if e then ToldEnd else Nothing)) → (r ≡ false) × (e ≡ true)
choice_end true e is = absurd (cc)
choice_end false true is = (refl, refl)
choice_end false false is = absurd (cc)

choice_none : (r e : Bool) → Nothing ≡ (if r then Reported else (if e then ToldEnd else Nothing)) → (r ≡ false) × (e ≡ false)
choice_none true e is = absurd (cc)
choice_none false true is = absurd (cc)
choice_none false false is = (refl, refl)

pub reported_when : (setup : MonitorSetup) (trail : List Entry) → Reported ≡ checked_at setup trail → report_is_due setup trail ≡ true
reported_when setup trail is = choice_report (report_is_due setup trail) (end_is_due setup trail) is

pub told_when : (setup : MonitorSetup) (trail : List Entry) → ToldEnd ≡ checked_at setup trail → (report_is_due setup trail ≡ false) × (end_is_due setup trail ≡ true)
told_when setup trail is = choice_end (report_is_due setup trail) (end_is_due setup trail) is

pub nothing_when : (setup : MonitorSetup) (trail : List Entry) → Nothing ≡ checked_at setup trail → (report_is_due setup trail ≡ false) × (end_is_due setup trail ≡ false)
nothing_when setup trail is = choice_none (report_is_due setup trail) (end_is_due setup trail) is

pub due_broken : (setup : MonitorSetup) (trail : List Entry) → report_is_due setup trail ≡ true → is_broken setup trail ≡ true
unfolding report_is_due
due_broken setup trail is = (and_parts (may_report trail) (is_broken setup trail) is).1

pub due_ends : (setup : MonitorSetup) (trail : List Entry) → end_is_due setup trail ≡ true → at_ends setup trail ≡ true
unfolding end_is_due
due_ends setup trail is = (and_parts (may_report trail && not (is_broken setup trail)) (at_ends setup trail) (and_parts (may_report trail && not (is_broken setup trail) && at_ends setup trail) (not (is_end_told trail)) is).0).1

-- what stands behind a check
pub after_report : (setup : MonitorSetup) (trail : List Entry) → report_is_due setup trail ≡ true → trail ++ Sent (report_at setup trail) ∷ [] ≡ after_check setup trail
after_report setup trail is = ap (with_answer trail) (sym (report_when setup trail is))

pub after_end : (setup : MonitorSetup) (trail : List Entry) → report_is_due setup trail ≡ false → end_is_due setup trail ≡ true → trail ++ Sent (settled_at setup trail) ∷ [] ≡ after_check setup trail
after_end setup trail none is = ap (with_answer trail) (sym (end_when setup trail none is))

pub after_nothing : (setup : MonitorSetup) (trail : List Entry) → report_is_due setup trail ≡ false → end_is_due setup trail ≡ false → trail ≡ after_check setup trail
after_nothing setup trail none_report none_end = ap (with_answer trail) (sym (none_when setup trail none_report none_end))

pub settled_made : (setup : MonitorSetup) (trail : List Entry) (seq : ℕ) (last : Bool) (next : List ℕ) → seq ≡ seq_of trail → last ≡ at_ends setup trail → next ≡ places_at setup trail → f.Settled seq last next ≡ settled_at setup trail
unfolding settled_at
settled_made setup trail seq last next a b c = cc
