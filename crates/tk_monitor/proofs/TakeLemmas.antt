-- What a frame that is taken leaves of the ties between a monitor and its trail.
use Rattle.std.proofs.Common.{◌≡◌, ℕ, suc, zero, ◌<◌, ◌≤◌, ◌+◌, ◌^◌, Bool, true, false, not, ◌&&◌, ◌||◌, ◌==◌, List, [], ◌∷◌, ◌++◌, length, map, get_or, Some, None, refl, sym, ap, ap₂, ◌∙◌, subst, arith}
use Rattle.std.specs.Prelude.{ℤ, unsigned_abs, find, if◌then◌else◌, All, nat_lt, nat_le}
use Rattle.std.specs.List.{list_all, range_with_len, zip}
use Rattle.tk_input.specs.Logs.{value_of}
use Rattle.std.specs.Option.{option_map}
use Rattle.std.proofs.Math.Bool.{or-false}
use Rattle.std.proofs.lemmas.Bool.{leb-true, ltb-true, and_parts, not-false, or_parts, ltb-false}
use Rattle.std.proofs.lemmas.Map.Views.{exact_unsigned_eq}
use Rattle.std.proofs.lemmas.List.Sums.{AllPass-from_list_all}
use Rattle.std.proofs.lemmas.List.{get_or_default}
use Rattle.tk_base.specs.Ascending.{IsAscending, ascends}
use Rattle.tk_base.specs.Objects.{is_in, objects}
use Rattle.tk_base.proofs.AscendingLemmas.{ascending_positive}
use Rattle.tk_base.proofs.OptionLemmas.{unmapped, if_none, first_or}
use Rattle.tk_frames.specs.declared.frame.Frame.{Frame}
use Rattle.tk_frames.specs.declared.frame.Frame.TheVariants as f
use Rattle.tk_border.specs.Levels.{AreMembers, broken, holds}
use Rattle.tk_frames.specs.Assigns.{members_of}
use Rattle.tk_frames.proofs.AssignsLemmas.{members_of-push}
use Rattle.tk_trail.specs.Setup.{MonitorSetup}
use Rattle.tk_trail.specs.Readings.{assigns_of, seq_of, members_at, places_at, at_ends, value_of_object, values_of, levels_of, broken_at, is_broken, is_report, is_end, is_reported, is_end_told, is_stopped}
use Rattle.tk_trail.specs.Frames.{report_at, settled_at, values_at, answer_at}
use Rattle.tk_trail.specs.Refusal.{refusal_of, shown_by, are_members, are_some_of, is_bad_change, is_collect, Shown, refusal_over}
use Rattle.tk_trail.specs.Legal.{IsLegal, after_take}
use Rattle.tk_trail.specs.declared.entry.Entry.{Entry}
use Rattle.tk_trail.specs.declared.entry.Entry.TheVariants.{Took, Sent}
use Rattle.tk_trail.specs.declared.refusal.MonitorRefusal.TheVariants.{WrongSequence, BadMembers, BadChange, BadCollect}
use Rattle.tk_trail.proofs.LegalLemmas.{not_refused, legal_taken}
use Rattle.tk_trail.proofs.LevelsLemmas.{Same, same-took, same-sent, values_at-same}
use Rattle.tk_trail.proofs.PlacesLemmas.{places_at-took, places_at-sent}
use Rattle.tk_trail.proofs.ReadingsLemmas.{assigns_of-other, assigns_of-assign, seq_of-sent, seq_of-other, seq_of-assign, reported-sent, reported-assign, reported-collect, reported-stop, told-sent, told-assign, told-collect, told-stop, stopped-sent, stopped-took, stopped-stop}
use Rattle.tk_monitor.specs.Board.{BoardView, assigned, AreFactors}
use Rattle.tk_monitor.specs.Trail.{TrailView}
use Rattle.tk_monitor.specs.Kept.{IsKept, standing_of, phase_of, answer_on, values_frame}
use Rattle.tk_monitor.specs.declared.phase.Phase.{Phase}
use Rattle.tk_monitor.proofs.KeptLemmas.{kept_same, phase_made, standing-same}
use Rattle.tk_monitor.proofs.MessageLemmas.{report-standing, assigned-standing, values-standing}

passed : (b : Bool) {P : Type 0} (r s : P) → (if b then None else Some r) ≡ None → b ≡ true
passed true r s is = refl
passed false r s is = cc

within_all : (n : ℕ) (xs : List ℕ) → list_all (λ o. nat_le o n) xs ≡ true → All (λ o. o ≤ n) xs
within_all n xs all k d below = leb-true (get_or xs k d) n (AllPass-from_list_all (λ o. nat_le o n) xs all k d below)

found_none : (p : ℕ × ℤ → Bool) (xs : List (ℕ × ℤ)) → find p xs ≡ None → All (λ x. p x ≡ false) xs
found_none p [] none k d below = absurd (omega arith)
found_none p (x ∷ xs) none zero d below = (first_or (p x) x (find p xs) none).0
found_none p (x ∷ xs) none (suc k) d below = found_none p xs (first_or (p x) x (find p xs) none).1 k d (omega arith)

-- what the tests of an Assign tell
pub record AssignPasses (setup : MonitorSetup) (trail : List Entry) (seq : ℕ) (members : List ℕ) (changes : List (ℕ × ℤ)) : Type 0 where
  pub running : is_stopped trail ≡ false
  pub next : seq ≡ seq_of trail + 1
  pub members_are : AreMembers setup.objects members
  pub factors_are : AreFactors setup.objects changes

pub assign_passes : (setup : MonitorSetup) (trail : List Entry) (seq : ℕ) (members : List ℕ) (changes : List (ℕ × ℤ)) → refusal_of setup trail (f.Assign seq members changes) ≡ None → AssignPasses setup trail seq members changes
assign_passes setup trail seq members changes none =
    let n = setup.objects in
    let kind = not_refused setup trail (f.Assign seq members changes) none in
    let first = if_none (not (seq == seq_of trail + 1)) (WrongSequence (seq_of trail) seq) _ kind.1 in
    let second = if_none (not (are_members n members)) BadMembers (option_map (λ (change : ℕ × ℤ). BadChange (record { 0 = change.0 })) (find (is_bad_change n) changes)) first.1 in
    let are = and_parts (are_some_of n members) (nat_le (length members) 1024) (not-false (are_members n members) second.0) in
    let some = and_parts (nat_lt 0 (length members) && ascends members) (list_all (λ o. nat_le o n) members) are.0 in
    let good : All (λ c. is_bad_change n c ≡ false) changes = found_none (is_bad_change n) changes (unmapped (λ (change : ℕ × ℤ). BadChange (record { 0 = change.0 })) (find (is_bad_change n) changes) second.1) in
    record {
      running = kind.0;
      next = exact_unsigned_eq seq (seq_of trail + 1) (not-false (seq == seq_of trail + 1) first.0);
      members_are = record { some_member = ltb-true 0 (length members) (and_parts (nat_lt 0 (length members)) (ascends members) some.0).0; in_range = within_all n members some.1 };
      factors_are = record {
        within = λ k d below. ltb-false n (get_or changes k d).0 (or_parts (nat_lt n (get_or changes k d).0) (nat_lt (2 ^ 112) (unsigned_abs (get_or changes k d).1)) (good k d below)).0;
        small = λ k d below. ltb-false (2 ^ 112) (unsigned_abs (get_or changes k d).1) (or_parts (nat_lt n (get_or changes k d).0) (nat_lt (2 ^ 112) (unsigned_abs (get_or changes k d).1)) (good k d below)).1;
      };
    }

-- what the tests of a Collect tell
pub record CollectPasses (setup : MonitorSetup) (trail : List Entry) (asked : List ℕ) : Type 0 where
  pub running : is_stopped trail ≡ false
  pub after_assign : 0 < seq_of trail
  pub within : All (λ o. o ≤ setup.objects) asked
  pub held : holds asked (members_at trail) ≡ true

pub collect_passes : (setup : MonitorSetup) (trail : List Entry) (round : ℕ) (asked : List ℕ) → refusal_of setup trail (f.Collect round asked) ≡ None → CollectPasses setup trail asked
collect_passes setup trail round asked none =
    let n = setup.objects in
    let kind = not_refused setup trail (f.Collect round asked) none in
    let all = and_parts (nat_lt 0 (seq_of trail) && are_some_of n asked) (list_all (is_in asked) (members_at trail)) (passed (is_collect (shown_by setup trail) asked) BadCollect BadCollect kind.1) in
    let front = and_parts (nat_lt 0 (seq_of trail)) (are_some_of n asked) all.0 in
    record {
      running = kind.0;
      after_assign = ltb-true 0 (seq_of trail) front.0;
      within = within_all n asked (and_parts (nat_lt 0 (length asked) && ascends asked) (list_all (λ o. nat_le o n) asked) front.1).1;
      held = all.1;
    }

-- Stop is taken
pub kept_stop : (setup : MonitorSetup) (was after : TrailView) (board : BoardView) (next : List ℕ) (phase : Phase) → IsKept setup was board next phase → refusal_of setup was.entries f.Stop ≡ None → after.entries ≡ was.entries ++ Took f.Stop ∷ [] → after.raises ≡ was.raises → IsKept setup after board next (record phase { stopped = true })
kept_stop setup was after board next phase kept none entries raises =
    let trail = was.entries in
    let longer = trail ++ Took f.Stop ∷ [] in
    kept_same setup was after board next phase (record phase { stopped = true }) kept
    (subst (λ (t : List Entry). Same setup t trail) (sym entries) (same-took setup trail f.Stop (assigns_of-other trail f.Stop refl)))
    (subst (IsLegal setup) (sym entries) (legal_taken setup trail f.Stop kept.legal none))
    raises
    (ap (λ (p : Phase). record p { stopped = true }) kept.phase_is
    ∙ phase_made (seq_of trail) (is_reported trail) (is_end_told trail) true longer
    (sym (seq_of-other trail f.Stop refl)) (sym (reported-stop trail)) (sym (told-stop trail)) (sym (stopped-stop trail))
    ∙ ap phase_of (sym entries))

-- a Collect is taken, and its Values sent
values_tell : (setup : MonitorSetup) (trail : List Entry) (round : ℕ) (asked : List ℕ) → (is_report (Sent (values_at setup trail round asked)) ≡ false) × (is_end (Sent (values_at setup trail round asked)) ≡ false)
unfolding values_at
values_tell setup trail round asked = (refl, refl)

pub kept_collect : (setup : MonitorSetup) (was after : TrailView) (board : BoardView) (next : List ℕ) (phase : Phase) (round : ℕ) (asked : List ℕ) → IsKept setup was board next phase → refusal_of setup was.entries (f.Collect round asked) ≡ None → after.entries ≡ after_take setup was.entries (f.Collect round asked) → after.raises ≡ was.raises → IsKept setup after board next phase
kept_collect setup was after board next phase round asked kept none entries raises =
    let trail = was.entries in
    let frame = f.Collect round asked in
    let taken = trail ++ Took frame ∷ [] in
    let sent = values_at setup taken round asked in
    let longer = taken ++ Sent sent ∷ [] in
    let tell = values_tell setup taken round asked in
    let one = same-sent setup taken sent in
    let two = same-took setup trail frame (assigns_of-other trail frame refl) in
    let same : Same setup longer trail = record { places = one.places ∙ two.places; assigns = one.assigns ∙ two.assigns } in
    kept_same setup was after board next phase phase kept
    (subst (λ (t : List Entry). Same setup t trail) (sym entries) same)
    (subst (IsLegal setup) (sym entries) (legal_taken setup trail frame kept.legal none))
    raises
    (kept.phase_is
    ∙ phase_made (seq_of trail) (is_reported trail) (is_end_told trail) (is_stopped trail) longer
    (sym (seq_of-sent taken sent ∙ seq_of-other trail frame refl))
    (sym (reported-sent taken sent ∙ ap (λ b. is_reported taken || b) tell.0 ∙ or-false (is_reported taken) ∙ reported-collect trail round asked))
    (sym (told-sent taken sent ∙ ap (λ b. is_end_told taken || b) tell.1 ∙ or-false (is_end_told taken) ∙ told-collect trail round asked))
    (sym (stopped-sent taken sent ∙ stopped-took trail frame refl))
    ∙ ap phase_of (sym entries))

-- an Assign is taken, and its answer sent
answer_tells : (setup : MonitorSetup) (trail : List Entry) (broken : Bool) → (is_report (Sent (if broken then report_at setup trail else settled_at setup trail)) ≡ broken) × (is_end (Sent (if broken then report_at setup trail else settled_at setup trail)) ≡ (not broken && at_ends setup trail))
unfolding report_at settled_at
answer_tells setup trail true = (refl, refl)
answer_tells setup trail false = (refl, refl)

values_taken : (setup : MonitorSetup) (trail : List Entry) (frame : Frame) → values_of setup trail ≡ values_of setup (trail ++ Took frame ∷ [])
unfolding values_of objects value_of_object
values_taken setup trail frame = ap (λ places. map (λ o. value_of setup.parts places o) (range_with_len 1 setup.objects)) (sym (places_at-took setup trail frame))

pub standing_assigned : (setup : MonitorSetup) (trail : List Entry) (seq : ℕ) (members : List ℕ) (changes : List (ℕ × ℤ)) → record { values = values_of setup trail; levels = assigned (values_of setup trail) (levels_of setup trail) changes; members = members } ≡ standing_of setup (trail ++ Took (f.Assign seq members changes) ∷ [])
standing_assigned setup trail seq members changes =
    let taken = trail ++ Took (f.Assign seq members changes) ∷ [] in
    let values : values_of setup trail ≡ values_of setup taken = values_taken setup trail (f.Assign seq members changes) in
    let levels : assigned (values_of setup trail) (levels_of setup trail) changes ≡ levels_of setup taken = assigned-standing setup trail seq members changes in
    let named : members ≡ members_at taken = sym (ap (λ assigns. members_of assigns) (assigns_of-assign trail seq members changes) ∙ members_of-push (assigns_of trail) (record { members = members; changes = changes })) in
    cc

pub answer-standing : (setup : MonitorSetup) (trail : List Entry) → answer_on (standing_of setup trail) (seq_of trail) (places_at setup trail) (at_ends setup trail) ≡ answer_at setup trail
unfolding settled_at broken_at
answer-standing setup trail = ap (λ (report : Frame). if is_broken setup trail then report else f.Settled (seq_of trail) (at_ends setup trail) (places_at setup trail)) (report-standing setup trail)

pub kept_assigned : (setup : MonitorSetup) (was after : TrailView) (board now : BoardView) (next : List ℕ) (phase : Phase) (seq : ℕ) (members : List ℕ) (changes : List (ℕ × ℤ)) (broken ended : Bool) → IsKept setup was board next phase → refusal_of setup was.entries (f.Assign seq members changes) ≡ None → now ≡ record board { levels = assigned board.values board.levels changes; members = members } → broken ≡ is_broken setup (was.entries ++ Took (f.Assign seq members changes) ∷ []) → ended ≡ at_ends setup (was.entries ++ Took (f.Assign seq members changes) ∷ []) → after.entries ≡ after_take setup was.entries (f.Assign seq members changes) → after.raises ≡ was.raises → IsKept setup after now next (record phase { seq = seq; reported = broken; told = not broken && ended })
kept_assigned setup was after board now next phase seq members changes broken ended kept none is is_broken_now is_ended entries raises =
    let trail = was.entries in
    let frame = f.Assign seq members changes in
    let passes = assign_passes setup trail seq members changes none in
    let taken = trail ++ Took frame ∷ [] in
    let sent = answer_at setup taken in
    let longer = taken ++ Sent sent ∷ [] in
    let tell = answer_tells setup taken (is_broken setup taken) in
    let one = same-sent setup taken sent in
    let stands : now ≡ standing_of setup longer =
    is ∙ ap (λ (s : BoardView). record s { levels = assigned s.values s.levels changes; members = members }) kept.standing ∙ standing_assigned setup trail seq members changes ∙ sym (standing-same setup longer taken one) in
    record {
      within = kept.within;
      legal = subst (IsLegal setup) (sym entries) (legal_taken setup trail frame kept.legal none);
      places = kept.places ∙ sym (places_at-took setup trail frame) ∙ sym (places_at-sent setup taken sent) ∙ ap (places_at setup) (sym entries);
      standing = stands ∙ ap (standing_of setup) (sym entries);
      phase_is =
          ap (λ (p : Phase). record p { seq = seq; reported = broken; told = not broken && ended }) kept.phase_is
          ∙ phase_made seq broken (not broken && ended) (is_stopped trail) longer
          (passes.next ∙ sym (seq_of-sent taken sent ∙ seq_of-assign trail seq members changes))
          (is_broken_now ∙ sym (reported-sent taken sent ∙ ap₂ ◌||◌ (reported-assign trail seq members changes) tell.0))
          (ap₂ (λ b e. not b && e) is_broken_now is_ended ∙ sym (told-sent taken sent ∙ ap₂ ◌||◌ (told-assign trail seq members changes) tell.1))
          (sym (stopped-sent taken sent ∙ stopped-took trail frame refl))
          ∙ ap phase_of (sym entries);
      room = raises ∙ kept.room;
    }

-- what the tests look at, as the fields have it
pub shown_made : (setup : MonitorSetup) (trail : List Entry) (objects seq : ℕ) (members : List ℕ) (told stopped : Bool) (frame : Frame) → objects ≡ setup.objects → seq ≡ seq_of trail → members ≡ members_at trail
    → told ≡ is_end_told trail → stopped ≡ is_stopped trail → refusal_over (record { objects = objects; seq = seq; members = members; told = told; stopped = stopped }) frame ≡ refusal_of setup trail frame
unfolding refusal_of
shown_made setup trail objects seq members told stopped frame size a b c d =
    let same : record { objects = objects; seq = seq; members = members; told = told; stopped = stopped } ≡ shown_by setup trail = cc in
    ap (λ (shown : Shown). refusal_over shown frame) same

-- the Values that answer a Collect just taken
pub values_answer : (setup : MonitorSetup) (trail : List Entry) (board : BoardView) (seq round : ℕ) (asked : List ℕ) → board ≡ standing_of setup trail → seq ≡ seq_of trail → IsAscending asked → All (λ o. o ≤ setup.objects) asked → values_frame board seq round asked ≡ values_at setup (trail ++ Took (f.Collect round asked) ∷ []) round asked
values_answer setup trail board seq round asked is is_seq up within =
    let frame = f.Collect round asked in
    ap₂ (λ (s : BoardView) (n : ℕ). values_frame s n round asked) is is_seq
    ∙ values-standing setup trail round asked (λ k d below. omega (arith, get_or_default asked k d 0 below, ascending_positive asked up k below)) within
    ∙ sym (values_at-same setup (trail ++ Took frame ∷ []) trail (same-took setup trail frame (assigns_of-other trail frame refl)) round asked)

-- the answer to an Assign just taken
pub answer_made : (setup : MonitorSetup) (taken : List Entry) (board : BoardView) (seq : ℕ) (next : List ℕ) (ended : Bool) → board ≡ standing_of setup taken → seq ≡ seq_of taken → next ≡ places_at setup taken → ended ≡ at_ends setup taken → answer_on board seq next ended ≡ answer_at setup taken
answer_made setup taken board seq next ended a b c d =
    ap (λ (s : BoardView). answer_on s seq next ended) a
    ∙ ap (λ (n : ℕ). answer_on (standing_of setup taken) n next ended) b
    ∙ ap (λ (places : List ℕ). answer_on (standing_of setup taken) (seq_of taken) places ended) c
    ∙ ap (λ (last : Bool). answer_on (standing_of setup taken) (seq_of taken) (places_at setup taken) last) d
    ∙ answer-standing setup taken

pub ends-took : (setup : MonitorSetup) (trail : List Entry) (frame : Frame) → at_ends setup (trail ++ Took frame ∷ []) ≡ at_ends setup trail
unfolding at_ends
ends-took setup trail frame = ap (λ places. list_all (λ (p : List (ℕ × ℤ) × ℕ). p.1 == length p.0) (zip setup.parts places)) (places_at-took setup trail frame)

-- only three kinds of frames pass the tests
pub only_three : (setup : MonitorSetup) (trail : List Entry) (frame : Frame) → refusal_of setup trail frame ≡ None → ((seq : ℕ) (members : List ℕ) (changes : List (ℕ × ℤ)) → frame ≡ f.Assign seq members changes → ⊥) → ((round : ℕ) (asked : List ℕ) → frame ≡ f.Collect round asked → ⊥) → (frame ≡ f.Stop → ⊥) → ⊥
only_three setup trail (f.Assign seq members changes) none assign collect stop = assign seq members changes refl
only_three setup trail (f.Collect round asked) none assign collect stop = collect round asked refl
only_three setup trail f.Stop none assign collect stop = stop refl
only_three setup trail (f.Hello run version mon) none assign collect stop = absurd (let go = (not_refused setup trail (f.Hello run version mon) none).1 in cc)
only_three setup trail (f.Report seq border failed values) none assign collect stop = absurd (let go = (not_refused setup trail (f.Report seq border failed values) none).1 in cc)
only_three setup trail (f.Values round seq border values) none assign collect stop = absurd (let go = (not_refused setup trail (f.Values round seq border values) none).1 in cc)
only_three setup trail (f.Settled seq last places) none assign collect stop = absurd (let go = (not_refused setup trail (f.Settled seq last places) none).1 in cc)
