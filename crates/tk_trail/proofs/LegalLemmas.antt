-- Laws of legal trails, by one induction over their entries.
use Rattle.std.proofs.Common.{◌≡◌, ℕ, suc, zero, ◌<◌, ◌≤◌, ◌+◌, ◌-◌, Bool, true, false, not, ◌&&◌, ◌||◌, ◌==◌, List, [], ◌∷◌, ◌++◌, length, get_or, set, inl, inr, Option, Some, None, refl, sym, ap, ◌∙◌, subst, arith}
use Rattle.std.specs.Prelude.{ℤ, fold, find, nat_lt, nat_le, if◌then◌else◌}
use Rattle.std.specs.Option.{option_map}
use Rattle.std.specs.List.{list_all, zip}
use Rattle.std.proofs.lemmas.Map.Views.{exact_unsigned_eq}
use Rattle.std.proofs.lemmas.Bool.{cases_eq, cases_lt, ltb-true, and_parts, not-true, not-false}
use Rattle.std.proofs.lemmas.List.{length-set, get_or-set_same, get_or-set_other}
use Rattle.tk_base.specs.Ascending.{ascends}
use Rattle.tk_base.specs.declared.ids.Feeder.{Feeder}
use Rattle.tk_frames.specs.declared.frame.Frame.{Frame}
use Rattle.tk_frames.specs.declared.frame.Frame.TheVariants as f
use Rattle.tk_input.specs.Logs.{ArePlaces}
use Rattle.tk_base.specs.History.{EachFrom}
use Rattle.tk_frames.specs.Assigns.{Assign, assign_in, members_of}
use Rattle.tk_trail.specs.Setup.{MonitorSetup}
use Rattle.tk_trail.specs.Readings.{assigns_of, seq_of, members_at, places_at, at_ends, is_broken, is_end, is_stop, is_end_told, is_stopped}
use Rattle.tk_trail.specs.Frames.{report_at, settled_at, values_at, answer_to, owed_after, owed_at, due_at, report_is_due, end_is_due, may_report}
use Rattle.tk_trail.specs.Refusal.{refusal_of, refusal_of_kind, shown_by, are_members, are_some_of, is_bad_change}
use Rattle.tk_trail.specs.Legal.{Allowed, IsLegal, HasNext, to_send, after_take, after_check, with_answer}
use Rattle.tk_trail.specs.declared.entry.Entry.{Entry}
use Rattle.tk_trail.specs.declared.entry.Entry.TheVariants.{Raised, Took, Sent}
use Rattle.tk_trail.specs.declared.refusal.MonitorRefusal.TheVariants.{AfterStop, EarlyStop, WrongSequence, BadMembers, BadChange}
use Rattle.tk_base.proofs.HistoryLemmas.{each_push, each_carries}
use Rattle.tk_base.proofs.BoolLemmas.{ruled_out}
use Rattle.tk_base.proofs.OptionLemmas.{if_none}
use Rattle.tk_frames.proofs.AssignsLemmas.{members_of-push}
use Rattle.tk_trail.proofs.PlacesLemmas.{length-places_at, places_at-raised, places_at-took, places_at-sent, places_at-start}
use Rattle.tk_trail.proofs.LevelsLemmas.{Same, same-took, same-sent, ends-same, is_broken-same}
use Rattle.tk_trail.proofs.ReadingsLemmas.{assigns_of-other, assigns_of-assign, assigns_of-raised, assigns_of-sent, told-raised, told-assign, told-collect, told-stop, told-sent, stopped-raised, stopped-took, stopped-sent, owed-push}

-- a frame that meets no refusal comes before Stop, and passes the tests of its kind
pub not_refused : (setup : MonitorSetup) (trail : List Entry) (frame : Frame) → refusal_of setup trail frame ≡ None → (is_stopped trail ≡ false) × (refusal_of_kind (shown_by setup trail) frame ≡ None)
unfolding refusal_of
not_refused setup trail frame none = if_none (is_stopped trail) AfterStop (refusal_of_kind (shown_by setup trail) frame) none

stop_told : (told : Bool) → (if told then None else Some EarlyStop) ≡ None → told ≡ true
stop_told true none = refl
stop_told false none = cc

or_either : (a b : Bool) (P : Type 0) → (a || b) ≡ true → (a ≡ true → P) → (b ≡ true → P) → P
or_either true b P holds left right = left refl
or_either false b P holds left right = right holds

-- all parts are at their ends and nothing is broken
pub record IsAtRest (setup : MonitorSetup) (trail : List Entry) : Type 0 where
  pub ends : at_ends setup trail ≡ true
  pub calm : is_broken setup trail ≡ false

rest-same : (setup : MonitorSetup) (a b : List Entry) → Same setup a b → IsAtRest setup b → IsAtRest setup a
rest-same setup a b same rest = record {
  ends = ends-same setup a b same ∙ rest.ends;
  calm = is_broken-same setup a b same ∙ rest.calm;
}

-- at the ends no part goes on
pub ends_at : (parts : List (List (ℕ × ℤ))) (places : List ℕ) (i : ℕ) → list_all (λ (p : List (ℕ × ℤ) × ℕ). p.1 == length p.0) (zip parts places) ≡ true → i < length parts → i < length places → get_or places i 0 ≡ length (get_or parts i [])
ends_at [] places i all within inside = absurd (omega arith)
ends_at (part ∷ parts) [] i all within inside = absurd (omega arith)
ends_at (part ∷ parts) (place ∷ places) zero all within inside = exact_unsigned_eq place (length part) (and_parts (place == length part) _ all).0
ends_at (part ∷ parts) (place ∷ places) (suc i) all within inside = ends_at parts places i (and_parts (place == length part) _ all).1 (omega arith) (omega arith)

-- a part that goes on is not at its end
get_past : (places : List ℕ) (i : ℕ) → length places ≤ i → get_or places i 0 ≡ 0
get_past [] i past = refl
get_past (x ∷ xs) zero past = absurd (omega arith)
get_past (x ∷ xs) (suc i) past = get_past xs i (omega arith)

pub not_at_ends : (setup : MonitorSetup) (trail : List Entry) (g : ℕ) → length (places_at setup trail) ≡ length setup.parts → HasNext setup trail g → at_ends setup trail ≡ true → ⊥
unfolding at_ends
not_at_ends setup trail g shape next all =
    let here : get_or (places_at setup trail) (g - 1) 0 ≡ length (get_or setup.parts (g - 1) []) = ends_at setup.parts (places_at setup trail) (g - 1) all (omega (arith, next.from_one, next.one_of)) (omega (arith, next.from_one, next.one_of, shape)) in
    absurd (omega (arith, here, next.not_ended))

-- a frame that tells the end is sent at rest
answer_end : (setup : MonitorSetup) (trail : List Entry) (broken : Bool) (frame : Frame) → is_broken setup trail ≡ broken → (if broken then report_at setup trail else settled_at setup trail) ≡ frame → is_end (Sent frame) ≡ true → IsAtRest setup trail
unfolding report_at settled_at
answer_end setup trail true frame broken is told = absurd (cc)
answer_end setup trail false frame calm is told = record { ends = cc; calm = calm }

answer_to_end : (setup : MonitorSetup) (trail : List Entry) (frame sent : Frame) → answer_to setup trail frame ≡ Some sent → is_end (Sent sent) ≡ true → IsAtRest setup trail
unfolding values_at
answer_to_end setup trail (f.Assign seq members changes) sent is told = answer_end setup trail (is_broken setup trail) sent refl (cc) told
answer_to_end setup trail (f.Collect round asked) sent is told = absurd (cc)
answer_to_end setup trail (f.Hello run version mon) sent is told = absurd (cc)
answer_to_end setup trail (f.Report seq border failed values) sent is told = absurd (cc)
answer_to_end setup trail (f.Values round seq border values) sent is told = absurd (cc)
answer_to_end setup trail (f.Settled seq last places) sent is told = absurd (cc)
answer_to_end setup trail f.Stop sent is told = absurd (cc)

owed_end : (setup : MonitorSetup) (trail : List Entry) (last : Option Entry) (sent : Frame) → owed_after setup trail last ≡ Some sent → is_end (Sent sent) ≡ true → IsAtRest setup trail
owed_end setup trail None sent is told = absurd (cc)
owed_end setup trail (Some (Raised feeder)) sent is told = absurd (cc)
owed_end setup trail (Some (Took frame)) sent is told = answer_to_end setup trail frame sent is told
owed_end setup trail (Some (Sent frame)) sent is told = absurd (cc)

due_end : (setup : MonitorSetup) (trail : List Entry) (report end : Bool) (sent : Frame) → end_is_due setup trail ≡ end → (if report then Some (report_at setup trail) else (if end then Some (settled_at setup trail) else None)) ≡ Some sent → is_end (Sent sent) ≡ true → IsAtRest setup trail
unfolding report_at end_is_due
due_end setup trail true end sent due is told = absurd (cc)
due_end setup trail false true sent due is told =
    let all = and_parts _ _ due in
    let rest = and_parts _ _ all.0 in
    record { ends = rest.1; calm = not-true (is_broken setup trail) (and_parts _ _ rest.0).1 }
due_end setup trail false false sent due is told = absurd (cc)

to_send_end : (setup : MonitorSetup) (trail : List Entry) (owed : Option Frame) (sent : Frame) → owed_at setup trail ≡ owed → to_send setup trail owed ≡ Some sent → is_end (Sent sent) ≡ true → IsAtRest setup trail
unfolding owed_at due_at
to_send_end setup trail None sent none is told = due_end setup trail (report_is_due setup trail) (end_is_due setup trail) sent refl is told
to_send_end setup trail (Some answer) sent owed is told = owed_end setup trail (fold (λ (_ : Option Entry) (e : Entry). Some e) None trail) sent (owed ∙ is) told

-- where the end is told, all parts are at their ends and nothing is broken; where Stop was taken, the end is told
pub record IsTold (setup : MonitorSetup) (trail : List Entry) : Type 0 where
  pub rest : is_end_told trail ≡ true → IsAtRest setup trail
  pub stop : is_stopped trail ≡ true → is_end_told trail ≡ true

told_took : (setup : MonitorSetup) (trail : List Entry) (frame : Frame) → IsTold setup trail → refusal_of setup trail frame ≡ None → IsTold setup (trail ++ Took frame ∷ [])
told_took setup trail (f.Assign seq members changes) told none = record {
  rest = λ is. absurd (let e = told-assign trail seq members changes in cc);
  stop = λ is. absurd (let e = stopped-took trail (f.Assign seq members changes) refl in let go = (not_refused setup trail (f.Assign seq members changes) none).0 in cc);
}
told_took setup trail (f.Collect round asked) told none = record {
  rest = λ is. rest-same setup (trail ++ Took (f.Collect round asked) ∷ []) trail (same-took setup trail (f.Collect round asked) (assigns_of-other trail (f.Collect round asked) refl)) (told.rest (sym (told-collect trail round asked) ∙ is));
  stop = λ is. absurd (let e = stopped-took trail (f.Collect round asked) refl in let go = (not_refused setup trail (f.Collect round asked) none).0 in cc);
}
told_took setup trail f.Stop told none = record {
  rest = λ is. rest-same setup (trail ++ Took f.Stop ∷ []) trail (same-took setup trail f.Stop (assigns_of-other trail f.Stop refl)) (told.rest (sym (told-stop trail) ∙ is));
  stop = λ is. told-stop trail ∙ stop_told (is_end_told trail) (not_refused setup trail f.Stop none).1;
}
told_took setup trail (f.Hello run version mon) told none = absurd (let go = (not_refused setup trail (f.Hello run version mon) none).1 in cc)
told_took setup trail (f.Report seq border failed values) told none = absurd (let go = (not_refused setup trail (f.Report seq border failed values) none).1 in cc)
told_took setup trail (f.Values round seq border values) told none = absurd (let go = (not_refused setup trail (f.Values round seq border values) none).1 in cc)
told_took setup trail (f.Settled seq last places) told none = absurd (let go = (not_refused setup trail (f.Settled seq last places) none).1 in cc)

pub told_goes : (setup : MonitorSetup) → length setup.from ≡ length setup.parts → (trail : List Entry) (e : Entry) → IsTold setup trail → Allowed setup trail e → IsTold setup (trail ++ e ∷ [])
told_goes setup shape trail (Raised feeder) told allowed = record {
  rest = λ is. absurd (not_at_ends setup trail feeder.0 (length-places_at setup trail ∙ shape) allowed.2 (told.rest (sym (told-raised trail feeder) ∙ is)).ends);
  stop = λ is. absurd (let e = stopped-raised trail feeder in let go = allowed.1 in cc);
}
told_goes setup shape trail (Took frame) told allowed = told_took setup trail frame told allowed.1
told_goes setup shape trail (Sent frame) told allowed = record {
  rest = λ is. rest-same setup (trail ++ Sent frame ∷ []) trail (same-sent setup trail frame)
      (or_either (is_end_told trail) (is_end (Sent frame)) (IsAtRest setup trail) (sym (told-sent trail frame) ∙ is) told.rest
      (λ end. to_send_end setup trail (owed_at setup trail) frame refl allowed.1 end));
  stop = λ is. absurd (let e = stopped-sent trail frame in let go = allowed.0 in cc);
}

pub legal_told : (setup : MonitorSetup) → length setup.from ≡ length setup.parts → (trail : List Entry) → EachFrom (Allowed setup) [] trail → IsTold setup trail
legal_told setup shape trail each =
    each_carries (Allowed setup) (IsTold setup) (λ front e. told_goes setup shape front e) [] trail
    (record { rest = λ is. absurd (cc); stop = λ is. absurd (cc) }) each

-- one more entry that is allowed and leaves nothing owed
pub legal_push : (setup : MonitorSetup) (trail : List Entry) (e : Entry) → IsLegal setup trail → Allowed setup trail e → owed_after setup (trail ++ e ∷ []) (Some e) ≡ None → IsLegal setup (trail ++ e ∷ [])
legal_push setup trail e legal allowed none = record {
  each = each_push (Allowed setup) [] trail e legal.each allowed;
  answered = owed-push setup trail e ∙ none;
}

-- a part that goes on may be raised
pub legal_raised : (setup : MonitorSetup) → length setup.from ≡ length setup.parts → (trail : List Entry) (feeder : Feeder) → IsLegal setup trail → HasNext setup trail feeder.0 → IsLegal setup (trail ++ Raised feeder ∷ [])
legal_raised setup shape trail feeder legal next =
    let told = legal_told setup shape trail legal.each in
    legal_push setup trail (Raised feeder) legal
    (legal.answered, ruled_out (is_stopped trail) refl (λ stop. not_at_ends setup trail feeder.0 (length-places_at setup trail ∙ shape) next (told.rest (told.stop stop)).ends), next)
    refl

-- what is due may be sent
due_not_told : (setup : MonitorSetup) (trail : List Entry) (report end : Bool) (sent : Frame) → report_is_due setup trail ≡ report → end_is_due setup trail ≡ end → (if report then Some (report_at setup trail) else (if end then Some (settled_at setup trail) else None)) ≡ Some sent → (is_end_told trail ≡ true → is_broken setup trail ≡ false) → is_end_told trail ≡ true → ⊥
unfolding report_is_due end_is_due
due_not_told setup trail true end sent due due' is calm told = let broken : is_broken setup trail ≡ true = (and_parts (may_report trail) (is_broken setup trail) due).1 in let quiet = calm told in cc
due_not_told setup trail false true sent due due' is calm told = let fresh : is_end_told trail ≡ false = not-true (is_end_told trail) (and_parts (may_report trail && not (is_broken setup trail) && at_ends setup trail) (not (is_end_told trail)) due').1 in cc
due_not_told setup trail false false sent due due' is calm told = cc

pub due_running : (setup : MonitorSetup) → length setup.from ≡ length setup.parts → (trail : List Entry) (sent : Frame) → IsLegal setup trail → due_at setup trail ≡ Some sent → is_stopped trail ≡ false
unfolding due_at
due_running setup shape trail sent legal due =
    let told = legal_told setup shape trail legal.each in
    ruled_out (is_stopped trail) refl (λ stop. due_not_told setup trail (report_is_due setup trail) (end_is_due setup trail) sent refl refl due (λ is. (told.rest is).calm) (told.stop stop))

pub legal_sent : (setup : MonitorSetup) → length setup.from ≡ length setup.parts → (trail : List Entry) (sent : Frame) → IsLegal setup trail → due_at setup trail ≡ Some sent → IsLegal setup (trail ++ Sent sent ∷ [])
legal_sent setup shape trail sent legal due =
    legal_push setup trail (Sent sent) legal (due_running setup shape trail sent legal due, ap (to_send setup trail) legal.answered ∙ due) refl

checked : (setup : MonitorSetup) → length setup.from ≡ length setup.parts → (trail : List Entry) → IsLegal setup trail → (due : Option Frame) → due_at setup trail ≡ due → IsLegal setup (with_answer trail due)
checked setup shape trail legal None none = legal
checked setup shape trail legal (Some sent) due = legal_sent setup shape trail sent legal due

pub legal_checked : (setup : MonitorSetup) → length setup.from ≡ length setup.parts → (trail : List Entry) → IsLegal setup trail → IsLegal setup (after_check setup trail)
legal_checked setup shape trail legal = checked setup shape trail legal (due_at setup trail) refl

-- what passes the tests may be taken, and its answer sent
answer_kind : (setup : MonitorSetup) (trail : List Entry) (frame answer : Frame) → answer_to setup trail frame ≡ Some answer → is_stop (Took frame) ≡ false
answer_kind setup trail (f.Assign seq members changes) answer is = refl
answer_kind setup trail (f.Collect round asked) answer is = refl
answer_kind setup trail (f.Hello run version mon) answer is = refl
answer_kind setup trail (f.Report seq border failed values) answer is = refl
answer_kind setup trail (f.Values round seq border values) answer is = refl
answer_kind setup trail (f.Settled seq last places) answer is = refl
answer_kind setup trail f.Stop answer is = cc

taken : (setup : MonitorSetup) (trail : List Entry) (frame : Frame) → IsLegal setup trail → refusal_of setup trail frame ≡ None → (answer : Option Frame) → answer_to setup (trail ++ Took frame ∷ []) frame ≡ answer → IsLegal setup (with_answer (trail ++ Took frame ∷ []) answer)
taken setup trail frame legal none None is = legal_push setup trail (Took frame) legal (legal.answered, none) is
taken setup trail frame legal none (Some answer) is =
    let front = trail ++ Took frame ∷ [] in
    let owed : owed_at setup front ≡ Some answer = owed-push setup trail (Took frame) ∙ is in
    let runs : is_stopped front ≡ false = stopped-took trail frame (answer_kind setup front frame answer is) ∙ (not_refused setup trail frame none).0 in
    record {
      each = each_push (Allowed setup) [] front (Sent answer) (each_push (Allowed setup) [] trail (Took frame) legal.each (legal.answered, none)) (runs, ap (to_send setup front) owed);
      answered = owed-push setup front (Sent answer);
    }

pub legal_taken : (setup : MonitorSetup) (trail : List Entry) (frame : Frame) → IsLegal setup trail → refusal_of setup trail frame ≡ None → IsLegal setup (after_take setup trail frame)
legal_taken setup trail frame legal none = taken setup trail frame legal none (answer_to setup (trail ++ Took frame ∷ []) frame) refl

-- the places of a legal trail are places of the parts
places_step : (parts : List (List (ℕ × ℤ))) (places : List ℕ) (i : ℕ) → ArePlaces parts places → get_or places i 0 < length (get_or parts i []) → ArePlaces parts (set places i (suc (get_or places i 0)))
places_step parts places i are below = record {
  shape = length-set places i (suc (get_or places i 0)) ∙ are.shape;
  within = λ g.
      elim (cases_eq g i) [
        | inl same ↦
            elim (cases_lt i (length places)) [
              | inl inside ↦ let e : get_or (set places i (suc (get_or places i 0))) g 0 ≡ suc (get_or places i 0) = ap (λ k. get_or (set places i (suc (get_or places i 0))) k 0) same ∙ get_or-set_same places i (suc (get_or places i 0)) 0 inside in
                  let part : length (get_or parts g []) ≡ length (get_or parts i []) = ap (λ k. length (get_or parts k [])) same in
                  omega (arith, e, below, part)
              | inr past ↦ let e = get_past (set places i (suc (get_or places i 0))) g (omega (arith, same, length-set places i (suc (get_or places i 0)))) in omega (arith, e)
            ]
        | inr apart ↦ let e = get_or-set_other places i g (suc (get_or places i 0)) 0 apart in omega (arith, e, are.within g)
      ];
}

places_goes : (setup : MonitorSetup) (trail : List Entry) (e : Entry) → ArePlaces setup.parts (places_at setup trail) → Allowed setup trail e → ArePlaces setup.parts (places_at setup (trail ++ e ∷ []))
places_goes setup trail (Raised feeder) are allowed =
    subst (ArePlaces setup.parts) (sym (places_at-raised setup trail feeder allowed.2.from_one))
    (places_step setup.parts (places_at setup trail) (feeder.0 - 1) are allowed.2.not_ended)
places_goes setup trail (Took frame) are allowed = subst (ArePlaces setup.parts) (sym (places_at-took setup trail frame)) are
places_goes setup trail (Sent frame) are allowed = subst (ArePlaces setup.parts) (sym (places_at-sent setup trail frame)) are

pub legal_places : (setup : MonitorSetup) → ArePlaces setup.parts setup.from → (trail : List Entry) → EachFrom (Allowed setup) [] trail → ArePlaces setup.parts (places_at setup trail)
legal_places setup start trail each =
    each_carries (Allowed setup) (λ front. ArePlaces setup.parts (places_at setup front)) (λ front e. places_goes setup front e) [] trail
    (subst (ArePlaces setup.parts) (sym (places_at-start setup)) start) each

first_of_members : (n : ℕ) (members : List ℕ) → not (are_members n members) ≡ false → 0 < length members
first_of_members n members is =
    ltb-true 0 (length members) (and_parts (nat_lt 0 (length members)) (ascends members)
    (and_parts (nat_lt 0 (length members) && ascends members) (list_all (λ o. nat_le o n) members)
    (and_parts (are_some_of n members) (nat_le (length members) 1024) (not-false (are_members n members) is)).0).0).0

same_members : (a b : List Assign) → a ≡ b → (0 < length b → 0 < length (members_of b)) → 0 < length a → 0 < length (members_of a)
same_members a b same had some = subst (λ (assigns : List Assign). 0 < length (members_of assigns)) (sym same) (had (subst (λ (assigns : List Assign). 0 < length assigns) same some))

kept_members : (trail : List Entry) (frame : Frame) → assign_in frame ≡ None → (0 < seq_of trail → 0 < length (members_at trail)) → 0 < seq_of (trail ++ Took frame ∷ []) → 0 < length (members_at (trail ++ Took frame ∷ []))
kept_members trail frame none had some = same_members (assigns_of (trail ++ Took frame ∷ [])) (assigns_of trail) (assigns_of-other trail frame none) had some

-- once an Assign was taken there are members
members_took : (setup : MonitorSetup) (trail : List Entry) (frame : Frame) → (0 < seq_of trail → 0 < length (members_at trail)) → refusal_of setup trail frame ≡ None → 0 < seq_of (trail ++ Took frame ∷ []) → 0 < length (members_at (trail ++ Took frame ∷ []))
members_took setup trail (f.Assign seq members changes) had none some =
    let passes = (if_none (not (are_members setup.objects members)) BadMembers (option_map (λ (change : ℕ × ℤ). BadChange (record { 0 = change.0 })) (find (is_bad_change setup.objects) changes))
    (if_none (not (seq == seq_of trail + 1)) (WrongSequence (seq_of trail) seq) _ (not_refused setup trail (f.Assign seq members changes) none).1).1).0 in
    let there : 0 < length members = first_of_members setup.objects members passes in
    let now : members_at (trail ++ Took (f.Assign seq members changes) ∷ []) ≡ members = ap (λ assigns. members_of assigns) (assigns_of-assign trail seq members changes) ∙ members_of-push (assigns_of trail) (record { members = members; changes = changes }) in
    subst (λ (os : List ℕ). 0 < length os) (sym now) there
members_took setup trail (f.Collect round asked) had none some = kept_members trail (f.Collect round asked) refl had some
members_took setup trail f.Stop had none some = kept_members trail f.Stop refl had some
members_took setup trail (f.Hello run version mon) had none some = kept_members trail (f.Hello run version mon) refl had some
members_took setup trail (f.Report seq border failed values) had none some = kept_members trail (f.Report seq border failed values) refl had some
members_took setup trail (f.Values round seq border values) had none some = kept_members trail (f.Values round seq border values) refl had some
members_took setup trail (f.Settled seq last places) had none some = kept_members trail (f.Settled seq last places) refl had some

members_goes : (setup : MonitorSetup) (trail : List Entry) (e : Entry) → (0 < seq_of trail → 0 < length (members_at trail)) → Allowed setup trail e → 0 < seq_of (trail ++ e ∷ []) → 0 < length (members_at (trail ++ e ∷ []))
members_goes setup trail (Raised feeder) had allowed some = same_members (assigns_of (trail ++ Raised feeder ∷ [])) (assigns_of trail) (assigns_of-raised trail feeder) had some
members_goes setup trail (Took frame) had allowed some = members_took setup trail frame had allowed.1 some
members_goes setup trail (Sent frame) had allowed some = same_members (assigns_of (trail ++ Sent frame ∷ [])) (assigns_of trail) (assigns_of-sent trail frame) had some

pub legal_members : (setup : MonitorSetup) (trail : List Entry) → EachFrom (Allowed setup) [] trail → 0 < seq_of trail → 0 < length (members_at trail)
legal_members setup trail each =
    each_carries (Allowed setup) (λ front. 0 < seq_of front → 0 < length (members_at front)) (λ front e. members_goes setup front e) [] trail (λ some. absurd (omega arith)) each
