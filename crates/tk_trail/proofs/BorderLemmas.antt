-- The borders that a legal trail sends are at most each member's level, and not far below 0.
use Rattle.std.proofs.Common.{◌≡◌, ℕ, suc, zero, ◌≤◌, ◌==◌, ◌^◌, ℤ, pos, ◌+ℤ◌, ◌≤ℤ◌, ◌+◌, Bool, true, false, not, List, [], ◌∷◌, ◌++◌, length, Contains, Option, Some, None, refl, sym, ap, ◌∙◌, subst, arith}
use Rattle.std.specs.Prelude.{neg_ℤ, nat_le, leb, ltb, find, unsigned_abs, unwrap_or, if◌then◌else◌}
use Rattle.std.specs.List.{list_all}
use Rattle.std.specs.Option.{option_map}
use Rattle.std.proofs.lemmas.Bool.{leb-true, ltb-true, and_parts, not-false}
use Rattle.std.proofs.lemmas.Int.{ints, clamps}
use Rattle.tk_base.specs.Ascending.{ascends}
use Rattle.tk_base.specs.History.{EachFrom}
use Rattle.tk_base.specs.Objects.{objects, is_in}
use Rattle.tk_base.specs.Pairs.{value_at}
use Rattle.tk_base.proofs.HistoryLemmas.{each_carries, each_front}
use Rattle.tk_base.proofs.OptionLemmas.{if_none}
use Rattle.tk_base.proofs.MemberLemmas.{contained_is_in}
use Rattle.tk_border.specs.Levels.{greatest_outside, least_member, lesser, level_at, outside}
use Rattle.tk_border.proofs.RisingLemmas.{is_in-filter, is_in-objects, is_in-positive}
use Rattle.tk_frames.specs.Assigns.{Assign, members_of, row}
use Rattle.tk_frames.specs.declared.frame.Frame.{Frame}
use Rattle.tk_frames.proofs.AssignsLemmas.{row-push, members_of-push}
use Rattle.tk_frames.specs.declared.frame.Frame.TheVariants as f
use Rattle.tk_trail.specs.Bounds.{IsBorderWithin}
use Rattle.tk_trail.specs.Setup.{IsSetup, MonitorSetup}
use Rattle.tk_trail.specs.Frames.{border_over}
use Rattle.tk_trail.specs.Legal.{Allowed, IsLegal}
use Rattle.tk_trail.specs.Readings.{assigns_of, level_of, levels_of, members_at, seq_of, value_of_object}
use Rattle.tk_trail.specs.Refusal.{are_members, are_some_of, is_bad_change, refusal_of}
use Rattle.tk_trail.specs.declared.entry.Entry.{Entry}
use Rattle.tk_trail.specs.declared.entry.Entry.TheVariants.{Raised, Sent, Took}
use Rattle.tk_trail.specs.declared.refusal.MonitorRefusal.TheVariants.{BadChange, BadMembers, WrongSequence}
use Rattle.tk_trail.proofs.BoundLemmas.{good_changes, passes_rise, small_values}
use Rattle.tk_trail.proofs.LegalLemmas.{not_refused}
use Rattle.tk_trail.proofs.LevelsLemmas.{length-levels_of, level_at-levels_of}
use Rattle.tk_trail.proofs.ReadingsLemmas.{assigns_of-assign, assigns_of-other, assigns_of-raised, assigns_of-sent}
use Rattle.tk_trail.proofs.SaysLemmas.{law_report, law_values}
use Rattle.tk_trail.proofs.SlackLemmas.{greatest_reached, least_bounds, least_reached}

-- ---- the Assigns taken

-- what taken Assigns give: members of a catalogue of n, and factors within their limit
record AreTakenWell (n : ℕ) (assigns : List Assign) : Type 0 where
  members : (t : ℕ) → Contains (members_of assigns) t → (1 ≤ t) × (t ≤ n)
  small : (o : ℕ) → unsigned_abs (row assigns o) ≤ 2 ^ 112

none_taken : (n : ℕ) → AreTakenWell n []
none_taken n = record {
  members = λ t in'. absurd (let b = in'.1 in omega (arith, b));
  small = λ o. omega arith;
}

held : (p : ℕ → Bool) (xs : List ℕ) → list_all p xs ≡ true → (x : ℕ) → Contains xs x → p x ≡ true
held p [] all x (k, below, is) = absurd (omega (arith, below))
held p (y ∷ xs) all x (zero, below, is) = ap p (sym is) ∙ (and_parts (p y) (list_all p xs) all).0
held p (y ∷ xs) all x (suc k, below, is) = held p xs (and_parts (p y) (list_all p xs) all).1 x (k, omega (arith, below), is)

named_within : (n : ℕ) (members : List ℕ) → are_members n members ≡ true → (t : ℕ) → Contains members t → (1 ≤ t) × (t ≤ n)
named_within n members is t in' =
    let some = (and_parts (are_some_of n members) (nat_le (length members) 1024) is).0 in
    let both = and_parts _ (list_all (λ o. nat_le o n) members) some in
    let up = (and_parts _ (ascends members) both.0).1 in
    (is_in-positive members t (passes_rise 0 members up) (contained_is_in members t in'), leb-true t n (held (λ o. nat_le o n) members both.1 t in'))

-- what a list of small changes gives is small
given_small : (changes : List (ℕ × ℤ)) (o : ℕ) (old : ℤ) → ((c : ℕ × ℤ) → Contains changes c → unsigned_abs c.1 ≤ 2 ^ 112) → unsigned_abs old ≤ 2 ^ 112 → unsigned_abs (unwrap_or (value_at changes o) old) ≤ 2 ^ 112
given_small [] o old each small = small
given_small (c ∷ changes) o old each small =
    let here = each c (zero, omega arith, refl) in
    let rest = given_small changes o old (λ d in'. each d (suc in'.0, (let b = in'.1 in omega (arith, b)), in'.2)) small in
    elim (c.0 == o) as (λ b. unsigned_abs (unwrap_or (if b then Some c.1 else value_at changes o) old) ≤ 2 ^ 112) [
      | true ↦ here
      | false ↦ rest
    ]

one_more : (n : ℕ) (assigns : List Assign) (assign : Assign) → are_members n assign.members ≡ true → ((c : ℕ × ℤ) → Contains assign.changes c → unsigned_abs c.1 ≤ 2 ^ 112) → AreTakenWell n assigns → AreTakenWell n (assigns ++ assign ∷ [])
one_more n assigns assign members changes well = record {
  members = λ t in'. named_within n assign.members members t (subst (λ ms. Contains ms t) (members_of-push assigns assign) in');
  small = λ o. subst (λ z. unsigned_abs z ≤ 2 ^ 112) (sym (row-push assigns assign o)) (given_small assign.changes o (row assigns o) changes (well.small o));
}

took_well : (setup : MonitorSetup) (trail : List Entry) (frame : Frame) → refusal_of setup trail frame ≡ None → AreTakenWell setup.objects (assigns_of trail) → AreTakenWell setup.objects (assigns_of (trail ++ Took frame ∷ []))
took_well setup trail (f.Assign seq members changes) none well =
    let passes = if_none (not (are_members setup.objects members)) BadMembers (option_map (λ (change : ℕ × ℤ). BadChange (record { 0 = change.0 })) (find (is_bad_change setup.objects) changes))
    (if_none (not (seq == seq_of trail + 1)) (WrongSequence (seq_of trail) seq) _ (not_refused setup trail (f.Assign seq members changes) none).1).1 in
    subst (AreTakenWell setup.objects) (sym (assigns_of-assign trail seq members changes))
    (one_more setup.objects (assigns_of trail) (record { members = members; changes = changes }) (not-false (are_members setup.objects members) passes.0) (λ c in'. (good_changes setup changes passes.1 c in').1) well)
took_well setup trail (f.Collect round asked) none well = subst (AreTakenWell setup.objects) (sym (assigns_of-other trail (f.Collect round asked) refl)) well
took_well setup trail f.Stop none well = subst (AreTakenWell setup.objects) (sym (assigns_of-other trail f.Stop refl)) well
took_well setup trail (f.Hello run version mon) none well = subst (AreTakenWell setup.objects) (sym (assigns_of-other trail (f.Hello run version mon) refl)) well
took_well setup trail (f.Report seq border failed values) none well = subst (AreTakenWell setup.objects) (sym (assigns_of-other trail (f.Report seq border failed values) refl)) well
took_well setup trail (f.Values round seq border values) none well = subst (AreTakenWell setup.objects) (sym (assigns_of-other trail (f.Values round seq border values) refl)) well
took_well setup trail (f.Settled seq last places) none well = subst (AreTakenWell setup.objects) (sym (assigns_of-other trail (f.Settled seq last places) refl)) well

goes_well : (setup : MonitorSetup) (trail : List Entry) (e : Entry) → AreTakenWell setup.objects (assigns_of trail) → Allowed setup trail e → AreTakenWell setup.objects (assigns_of (trail ++ e ∷ []))
goes_well setup trail (Raised feeder) well allowed = subst (AreTakenWell setup.objects) (sym (assigns_of-raised trail feeder)) well
goes_well setup trail (Took frame) well allowed = took_well setup trail frame allowed.1 well
goes_well setup trail (Sent frame) well allowed = subst (AreTakenWell setup.objects) (sym (assigns_of-sent trail frame)) well

taken_well : (setup : MonitorSetup) (trail : List Entry) → EachFrom (Allowed setup) [] trail → AreTakenWell setup.objects (assigns_of trail)
taken_well setup trail each = each_carries (Allowed setup) (λ front. AreTakenWell setup.objects (assigns_of front)) (λ front e. goes_well setup front e) [] trail (none_taken setup.objects) each

-- ---- levels

abbrev pub Low : ℤ → Type 0
Low z = neg_ℤ (pos (2 ^ 113)) ≤ℤ z

-- the sum of two small numbers is not too low
pub sum_low : (v w : ℤ) → unsigned_abs v ≤ 2 ^ 100 → unsigned_abs w ≤ 2 ^ 112 → Low (v +ℤ w)
sum_low v w a b = omega (arith, ints, a, b)

pub zero_low : Low (pos 0)
zero_low = omega (arith, ints)

level_low : (setup : MonitorSetup) (x : List Entry) (o : ℕ) → IsSetup setup → AreTakenWell setup.objects (assigns_of x) → 1 ≤ o → o ≤ setup.objects → Low (level_at (levels_of setup x) o)
unfolding level_of
level_low setup x o limits well low high = subst Low (sym (level_at-levels_of setup x o low high)) (sum_low (value_of_object setup x o) (row (assigns_of x) o) (small_values setup x o limits) (well.small o))

in_catalogue : (n : ℕ) (set : List ℕ) (o : ℕ) → Contains (outside n set) o → (1 ≤ o) × (o ≤ n)
in_catalogue n set o in' =
    let both = and_parts (is_in (objects n) o) (not (is_in set o)) (sym (is_in-filter (λ q. not (is_in set q)) (objects n) o) ∙ contained_is_in (outside n set) o in') in
    let range = and_parts (ltb 0 o) (leb o n) (sym (is_in-objects n o) ∙ both.0) in
    (ltb-true 0 o range.0, leb-true o n range.1)

-- ---- the border

-- nor is the lesser of two that are not
pub lesser_low : (l g : Option ℤ) → ((z : ℤ) → l ≡ Some z → Low z) → ((z : ℤ) → g ≡ Some z → Low z) → Low (lesser (unwrap_or l (pos 0)) g)
lesser_low None None a b = zero_low
lesser_low (Some x) None a b = a x refl
lesser_low None (Some y) a b = let h = b y refl in let z = zero_low in omega (arith, ints, clamps, h, z)
lesser_low (Some x) (Some y) a b = let h = a x refl in let k = b y refl in omega (arith, ints, clamps, h, k)

lesser_most : (l g : Option ℤ) (x z : ℤ) → l ≡ Some x → x ≤ℤ z → lesser (unwrap_or l (pos 0)) g ≤ℤ z
lesser_most None g x z is under = absurd (cc)
lesser_most (Some y) None x z is under = let same : y ≡ x = cc in omega (arith, ints, same, under)
lesser_most (Some y) (Some w) x z is under = let same : y ≡ x = cc in omega (arith, ints, clamps, same, under)

border_within : (setup : MonitorSetup) (x : List Entry) (asked : List ℕ) → IsSetup setup → EachFrom (Allowed setup) [] x → IsBorderWithin setup x (border_over setup x asked)
border_within setup x asked limits each =
    let levels = levels_of setup x in
    let members = members_at x in
    let well = taken_well setup x each in
    let n = length-levels_of setup x in
    record {
      high = λ t in'.
          let b = least_bounds (level_at levels) members t in' in
          let range = well.members t in' in
          subst (λ z. border_over setup x asked ≤ℤ z) (level_at-levels_of setup x t range.0 range.1) (lesser_most (least_member levels members) (greatest_outside levels asked) b.value (level_at levels t) b.is b.holds);
      low = lesser_low (least_member levels members) (greatest_outside levels asked)
          (λ z is.
          let at = least_reached (level_at levels) members z is in
          let range = well.members at.object at.one in
          subst Low at.level (level_low setup x at.object limits well range.0 range.1))
          (λ z is.
          let at = greatest_reached (level_at levels) (outside (length levels) asked) z is in
          let range = in_catalogue (length levels) asked at.object at.one in
          subst Low at.level (level_low setup x at.object limits well range.0 (let h = range.1 in omega (arith, h, n))));
    }

pub report_border : (setup : MonitorSetup) (before after : List Entry) (seq : ℕ) (border : ℤ) (failed : List ℕ) (values : List (ℕ × ℤ)) → IsSetup setup → IsLegal setup (before ++ Sent (f.Report seq border failed values) ∷ after) → IsBorderWithin setup before border
report_border setup before after seq border failed values limits legal =
    let says = law_report setup before after seq border failed values legal in
    subst (IsBorderWithin setup before) (sym says.border_is) (border_within setup before _ limits (each_front (Allowed setup) [] before (Sent (f.Report seq border failed values) ∷ after) legal.each))

pub values_border : (setup : MonitorSetup) (before after : List Entry) (round seq : ℕ) (border : ℤ) (values : List (ℕ × ℤ)) → IsSetup setup → IsLegal setup (before ++ Sent (f.Values round seq border values) ∷ after) → IsBorderWithin setup before border
values_border setup before after round seq border values limits legal =
    let says = law_values setup before after round seq border values legal in
    subst (IsBorderWithin setup before) (sym says.border_is) (border_within setup before says.asked limits (each_front (Allowed setup) [] before (Sent (f.Values round seq border values) ∷ after) legal.each))
