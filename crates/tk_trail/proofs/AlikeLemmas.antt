-- Two setups whose parts are reached alike: what a trail says over them, and whether it is legal.
use Rattle.std.proofs.Common.{◌≡◌, ℕ, suc, zero, ◌<◌, ◌≤◌, ◌+◌, ◌-◌, Bool, true, false, ◌==◌, List, [], ◌∷◌, ◌++◌, length, map, take, get_or, set, inl, inr, Option, Some, None, refl, sym, ap, ap₂, ◌∙◌, subst, arith, append_assoc, append-nil, eq-eqb}
use Rattle.std.specs.Prelude.{ℤ, ◌+ℤ◌, fold, nat_lt, if◌then◌else◌}
use Rattle.std.specs.List.{list_all, zip}
use Rattle.std.proofs.lemmas.Int.{ints}
use Rattle.std.proofs.lemmas.Bool.{cases_lt}
use Rattle.std.proofs.lemmas.List.{take-take, get_or-set_same}
use Rattle.tk_base.specs.Objects.{objects}
use Rattle.tk_base.specs.History.{EachFrom}
use Rattle.tk_base.specs.declared.ids.Feeder.{Feeder}
use Rattle.tk_frames.specs.declared.frame.Frame.{Frame}
use Rattle.tk_frames.specs.declared.frame.Frame.TheVariants as f
use Rattle.tk_frames.specs.Assigns.{row}
use Rattle.tk_input.specs.Logs.{ArePlaces, sum_for, value_of}
use Rattle.tk_base.proofs.SumLemmas.{int_sum-cons}
use Rattle.tk_border.specs.Levels.{border, broken, resolution}
use Rattle.tk_trail.specs.Setup.{MonitorSetup}
use Rattle.tk_trail.specs.Readings.{assigns_of, at_ends, broken_at, is_broken, is_end_told, level_of, levels_of, members_at, places_at, seq_of, value_of_object, values_of}
use Rattle.tk_trail.specs.Frames.{answer_at, answer_to, border_over, due_at, end_is_due, may_report, owed_after, owed_at, report_at, report_is_due, resolution_at, settled_at, values_at, values_over}
use Rattle.tk_trail.specs.Legal.{Allowed, HasNext, IsLegal, part_length, place_of, to_send}
use Rattle.tk_trail.specs.Refusal.{refusal_of}
use Rattle.tk_trail.specs.declared.entry.Entry.{Entry}
use Rattle.tk_trail.specs.declared.entry.Entry.TheVariants.{Raised, Took, Sent}
use Rattle.tk_trail.proofs.LegalLemmas.{ends_at}
use Rattle.tk_trail.proofs.MappedLemmas.{mapped_same}
use Rattle.tk_trail.proofs.PlacesLemmas.{length-places_at, places_at-raised}
use Rattle.tk_trail.proofs.SlackLemmas.{places_rise}
use Rattle.tk_trail.specs.Growing.{ReachesAlike, SaysAlike, with_parts}

-- ---- values

-- where the reached fronts are the same, so are the values
pub value_alike : (cs bs : List (List (ℕ × ℤ))) (ps : List ℕ) (o : ℕ) → length cs ≡ length bs → ((i : ℕ) → take (get_or ps i 0) (get_or cs i []) ≡ take (get_or ps i 0) (get_or bs i [])) → value_of cs ps o ≡ value_of bs ps o
value_alike [] [] ps o same each = refl
value_alike [] (b ∷ bs) ps o same each = absurd (omega (arith, same))
value_alike (a ∷ cs) [] ps o same each = absurd (omega (arith, same))
value_alike (a ∷ cs) (b ∷ bs) [] o same each = refl
value_alike (a ∷ cs) (b ∷ bs) (p ∷ ps) o same each =
    omega (
      arith,
      ints,
      int_sum-cons (sum_for o (take p a)) (map (λ (q : List (ℕ × ℤ) × ℕ). sum_for o (take q.1 q.0)) (zip cs ps)),
      int_sum-cons (sum_for o (take p b)) (map (λ (q : List (ℕ × ℤ) × ℕ). sum_for o (take q.1 q.0)) (zip bs ps)),
      ap (λ (ds : List (ℕ × ℤ)). sum_for o ds) (each 0),
      value_alike cs bs ps o (omega (arith, same)) (λ i. each (suc i)),
    )

-- each part at its end: all are
pub all_at_ends : (parts : List (List (ℕ × ℤ))) (places : List ℕ) → ((i : ℕ) → i < length parts → get_or places i 0 ≡ length (get_or parts i [])) → list_all (λ (p : List (ℕ × ℤ) × ℕ). p.1 == length p.0) (zip parts places) ≡ true
all_at_ends [] places each = refl
all_at_ends (part ∷ parts) [] each = refl
all_at_ends (part ∷ parts) (place ∷ places) each =
    let here : (place == length part) ≡ true = eq-eqb place (length part) (each 0 (omega arith)) in
    let rest : list_all (λ (p : List (ℕ × ℤ) × ℕ). p.1 == length p.0) (zip parts places) ≡ true = all_at_ends parts places (λ i within. each (suc i) (omega (arith, within))) in
    cc

-- ---- what a trail says over parts that are alike

-- at a front of a trail values and ends are the same over other parts
pub record Alike (setup : MonitorSetup) (others : List (List (ℕ × ℤ))) (front : List Entry) : Type 0 where
  pub value : (o : ℕ) → value_of setup.parts (places_at setup front) o ≡ value_of others (places_at setup front) o
  pub ends : at_ends setup front ≡ at_ends (with_parts setup others) front

pub places_alike : (setup : MonitorSetup) (others : List (List (ℕ × ℤ))) (front : List Entry) → places_at setup front ≡ places_at (with_parts setup others) front
unfolding places_at
places_alike setup others front = refl

pub object_alike : (setup : MonitorSetup) (others : List (List (ℕ × ℤ))) (front : List Entry) → Alike setup others front → (o : ℕ) → value_of_object setup front o ≡ value_of_object (with_parts setup others) front o
unfolding value_of_object
object_alike setup others front same o = same.value o ∙ ap (λ (ps : List ℕ). value_of others ps o) (places_alike setup others front)

pub level_alike : (setup : MonitorSetup) (others : List (List (ℕ × ℤ))) (front : List Entry) → Alike setup others front → (o : ℕ) → level_of setup front o ≡ level_of (with_parts setup others) front o
unfolding level_of
level_alike setup others front same o = ap (λ (z : ℤ). z +ℤ row (assigns_of front) o) (object_alike setup others front same o)

pub values_alike : (setup : MonitorSetup) (others : List (List (ℕ × ℤ))) (front : List Entry) → Alike setup others front → values_of setup front ≡ values_of (with_parts setup others) front
unfolding values_of objects
values_alike setup others front same = mapped_same (value_of_object (with_parts setup others) front) (value_of_object setup front) 1 setup.objects (λ o low high. object_alike setup others front same o)

pub levels_alike : (setup : MonitorSetup) (others : List (List (ℕ × ℤ))) (front : List Entry) → Alike setup others front → levels_of setup front ≡ levels_of (with_parts setup others) front
unfolding levels_of objects
levels_alike setup others front same = mapped_same (level_of (with_parts setup others) front) (level_of setup front) 1 setup.objects (λ o low high. level_alike setup others front same o)

pub broken_alike : (setup : MonitorSetup) (others : List (List (ℕ × ℤ))) (front : List Entry) → Alike setup others front → broken_at setup front ≡ broken_at (with_parts setup others) front
unfolding broken_at
broken_alike setup others front same = ap (λ (levels : List ℤ). broken levels (members_at front)) (levels_alike setup others front same)

is_broken_alike : (setup : MonitorSetup) (others : List (List (ℕ × ℤ))) (front : List Entry) → Alike setup others front → is_broken setup front ≡ is_broken (with_parts setup others) front
is_broken_alike setup others front same = ap (λ (os : List ℕ). nat_lt 0 (length os)) (broken_alike setup others front same)

over_alike : (setup : MonitorSetup) (others : List (List (ℕ × ℤ))) (front : List Entry) → Alike setup others front → (asked : List ℕ) → values_over setup front asked ≡ values_over (with_parts setup others) front asked
over_alike setup others front same [] = refl
over_alike setup others front same (o ∷ asked) =
    let first : value_of_object setup front o ≡ value_of_object (with_parts setup others) front o = object_alike setup others front same o in
    let rest : values_over setup front asked ≡ values_over (with_parts setup others) front asked = over_alike setup others front same asked in
    ap₂ (λ (z : ℤ) (ps : List (ℕ × ℤ)). (o, z) ∷ ps) first rest

border_alike : (setup : MonitorSetup) (others : List (List (ℕ × ℤ))) (front : List Entry) → Alike setup others front → (asked : List ℕ) → border_over setup front asked ≡ border_over (with_parts setup others) front asked
border_alike setup others front same asked = ap (λ (levels : List ℤ). border levels (members_at front) asked) (levels_alike setup others front same)

report_alike : (setup : MonitorSetup) (others : List (List (ℕ × ℤ))) (front : List Entry) → Alike setup others front → report_at setup front ≡ report_at (with_parts setup others) front
unfolding report_at
report_alike setup others front same =
    let failed = broken_alike setup others front same in
    let asked : resolution_at setup front ≡ resolution_at (with_parts setup others) front = ap (λ (os : List ℕ). resolution setup.objects (members_at front) os) failed in
    let b : border_over setup front (resolution_at setup front) ≡ border_over (with_parts setup others) front (resolution_at (with_parts setup others) front) =
    border_alike setup others front same (resolution_at setup front) ∙ ap (λ (os : List ℕ). border_over (with_parts setup others) front os) asked in
    let v : values_over setup front (resolution_at setup front) ≡ values_over (with_parts setup others) front (resolution_at (with_parts setup others) front) =
    over_alike setup others front same (resolution_at setup front) ∙ ap (λ (os : List ℕ). values_over (with_parts setup others) front os) asked in
    cc

settled_alike : (setup : MonitorSetup) (others : List (List (ℕ × ℤ))) (front : List Entry) → Alike setup others front → settled_at setup front ≡ settled_at (with_parts setup others) front
unfolding settled_at
settled_alike setup others front same = ap₂ (λ (last : Bool) (ps : List ℕ). f.Settled (seq_of front) last ps) same.ends (places_alike setup others front)

gathered_alike : (setup : MonitorSetup) (others : List (List (ℕ × ℤ))) (front : List Entry) → Alike setup others front → (round : ℕ) (asked : List ℕ) → values_at setup front round asked ≡ values_at (with_parts setup others) front round asked
unfolding values_at
gathered_alike setup others front same round asked = ap₂ (λ (z : ℤ) (ps : List (ℕ × ℤ)). f.Values round (seq_of front) z ps) (border_alike setup others front same asked) (over_alike setup others front same asked)

chosen : {X : Type 0} (b c : Bool) (x y u v : X) → b ≡ c → x ≡ u → y ≡ v → (if b then x else y) ≡ (if c then u else v)
chosen b c x y u v test first second = cc

answer_alike : (setup : MonitorSetup) (others : List (List (ℕ × ℤ))) (front : List Entry) → Alike setup others front → answer_at setup front ≡ answer_at (with_parts setup others) front
answer_alike setup others front same =
    chosen (is_broken setup front) (is_broken (with_parts setup others) front) (report_at setup front) (settled_at setup front) (report_at (with_parts setup others) front) (settled_at (with_parts setup others) front)
    (is_broken_alike setup others front same) (report_alike setup others front same) (settled_alike setup others front same)

pub answers_alike : (setup : MonitorSetup) (others : List (List (ℕ × ℤ))) (front : List Entry) → Alike setup others front → (frame : Frame) → answer_to setup front frame ≡ answer_to (with_parts setup others) front frame
answers_alike setup others front same (f.Assign seq members changes) = ap Some (answer_alike setup others front same)
answers_alike setup others front same (f.Collect round asked) = ap Some (gathered_alike setup others front same round asked)
answers_alike setup others front same (f.Hello run version mon) = refl
answers_alike setup others front same (f.Report seq border failed values) = refl
answers_alike setup others front same (f.Values round seq border values) = refl
answers_alike setup others front same (f.Settled seq last places) = refl
answers_alike setup others front same f.Stop = refl

owed_after_alike : (setup : MonitorSetup) (others : List (List (ℕ × ℤ))) (front : List Entry) → Alike setup others front → (last : Option Entry) → owed_after setup front last ≡ owed_after (with_parts setup others) front last
owed_after_alike setup others front same None = refl
owed_after_alike setup others front same (Some (Raised feeder)) = refl
owed_after_alike setup others front same (Some (Took frame)) = answers_alike setup others front same frame
owed_after_alike setup others front same (Some (Sent frame)) = refl

pub owed_alike : (setup : MonitorSetup) (others : List (List (ℕ × ℤ))) (front : List Entry) → Alike setup others front → owed_at setup front ≡ owed_at (with_parts setup others) front
unfolding owed_at
owed_alike setup others front same = owed_after_alike setup others front same (fold (λ (_ : Option Entry) (e : Entry). Some e) None front)

report_due_alike : (setup : MonitorSetup) (others : List (List (ℕ × ℤ))) (front : List Entry) → Alike setup others front → report_is_due setup front ≡ report_is_due (with_parts setup others) front
unfolding report_is_due
report_due_alike setup others front same = let b : is_broken setup front ≡ is_broken (with_parts setup others) front = is_broken_alike setup others front same in cc

end_due_alike : (setup : MonitorSetup) (others : List (List (ℕ × ℤ))) (front : List Entry) → Alike setup others front → end_is_due setup front ≡ end_is_due (with_parts setup others) front
unfolding end_is_due
end_due_alike setup others front same =
    let b : is_broken setup front ≡ is_broken (with_parts setup others) front = is_broken_alike setup others front same in
    let e : at_ends setup front ≡ at_ends (with_parts setup others) front = same.ends in
    cc

pub due_alike : (setup : MonitorSetup) (others : List (List (ℕ × ℤ))) (front : List Entry) → Alike setup others front → due_at setup front ≡ due_at (with_parts setup others) front
unfolding due_at
due_alike setup others front same =
    chosen (report_is_due setup front) (report_is_due (with_parts setup others) front) _ _ _ _
    (report_due_alike setup others front same) (ap Some (report_alike setup others front same))
    (chosen (end_is_due setup front) (end_is_due (with_parts setup others) front) _ _ _ _ (end_due_alike setup others front same) (ap Some (settled_alike setup others front same)) refl)

pub refusal_alike : (setup : MonitorSetup) (others : List (List (ℕ × ℤ))) (front : List Entry) (frame : Frame) → refusal_of setup front frame ≡ refusal_of (with_parts setup others) front frame
unfolding refusal_of
refusal_alike setup others front frame = refl

-- all of it
pub says_alike : (setup : MonitorSetup) (others : List (List (ℕ × ℤ))) (front : List Entry) → Alike setup others front → SaysAlike setup (with_parts setup others) front
says_alike setup others front same = record {
  places = places_alike setup others front;
  ends = same.ends;
  values = values_alike setup others front same;
  levels = levels_alike setup others front same;
  broken = broken_alike setup others front same;
  owed = owed_alike setup others front same;
  due = due_alike setup others front same;
  answers = answers_alike setup others front same;
  refusals = refusal_alike setup others front;
}

-- ---- legality

to_send_alike : (setup : MonitorSetup) (others : List (List (ℕ × ℤ))) (front : List Entry) → Alike setup others front → (owed : Option Frame) → to_send setup front owed ≡ to_send (with_parts setup others) front owed
to_send_alike setup others front same None = due_alike setup others front same
to_send_alike setup others front same (Some answer) = refl

-- what may come next over the one may come next over the other
allowed_alike : (setup : MonitorSetup) (others : List (List (ℕ × ℤ))) (front : List Entry) (e : Entry) → Alike setup others front → ((feeder : Feeder) → e ≡ Raised feeder → HasNext (with_parts setup others) front feeder.0) → Allowed setup front e → Allowed (with_parts setup others) front e
allowed_alike setup others front (Raised feeder) same next allowed = (sym (owed_alike setup others front same) ∙ allowed.0, allowed.1, next feeder refl)
allowed_alike setup others front (Took frame) same next allowed = (sym (owed_alike setup others front same) ∙ allowed.0, sym (refusal_alike setup others front frame) ∙ allowed.1)
allowed_alike setup others front (Sent frame) same next allowed =
    (allowed.0, ap (to_send (with_parts setup others) front) (sym (owed_alike setup others front same)) ∙ sym (to_send_alike setup others front same (owed_at setup front)) ∙ allowed.1)

-- what a raise that is allowed says
pub has_next : (setup : MonitorSetup) (front : List Entry) (e : Entry) (feeder : Feeder) → e ≡ Raised feeder → Allowed setup front e → HasNext setup front feeder.0
has_next setup front e feeder raise allowed = (subst (Allowed setup front) raise allowed).2

each_alike : (setup : MonitorSetup) (others : List (List (ℕ × ℤ))) (whole : List Entry) → ((xs ys : List Entry) → xs ++ ys ≡ whole → Alike setup others xs) → ((xs ys : List Entry) (feeder : Feeder) → xs ++ (Raised feeder ∷ ys) ≡ whole → HasNext setup xs feeder.0 → HasNext (with_parts setup others) xs feeder.0) → (before rest : List Entry) → before ++ rest ≡ whole → EachFrom (Allowed setup) before rest → EachFrom (Allowed (with_parts setup others)) before rest
each_alike setup others whole same next before [] is each = tt
each_alike setup others whole same next before (e ∷ rest) is each = (
  allowed_alike setup others before e (same before (e ∷ rest) is)
      (λ feeder raise. next before rest feeder (ap (λ (x : Entry). before ++ (x ∷ rest)) (sym raise) ∙ is)
      (has_next setup before e feeder raise each.0))
      each.0,
  each_alike setup others whole same next (before ++ e ∷ []) rest (append_assoc before (e ∷ []) rest ∙ is) each.1,
)

pub legal_alike : (setup : MonitorSetup) (others : List (List (ℕ × ℤ))) (whole : List Entry) → ((xs ys : List Entry) → xs ++ ys ≡ whole → Alike setup others xs) → ((xs ys : List Entry) (feeder : Feeder) → xs ++ (Raised feeder ∷ ys) ≡ whole → HasNext setup xs feeder.0 → HasNext (with_parts setup others) xs feeder.0) → IsLegal setup whole → IsLegal (with_parts setup others) whole
legal_alike setup others whole same next legal = record {
  each = each_alike setup others whole same next [] whole refl legal.each;
  answered = sym (owed_alike setup others whole (same whole [] (append-nil whole))) ∙ legal.answered;
}

-- ---- parts that are reached alike

-- no place of a front is past that of the whole
front_below : (setup : MonitorSetup) (xs ys whole : List Entry) → xs ++ ys ≡ whole → (i : ℕ) → get_or (places_at setup xs) i 0 ≤ get_or (places_at setup whole) i 0
front_below setup xs ys whole is i = subst (λ (t : List Entry). get_or (places_at setup xs) i 0 ≤ get_or (places_at setup t) i 0) is ((places_rise setup xs ys).each i)

-- where the whole is not at the ends, no front is
not_ended : (setup : MonitorSetup) (xs ys whole : List Entry) → xs ++ ys ≡ whole → length setup.from ≡ length setup.parts → ArePlaces setup.parts (places_at setup whole) → at_ends setup whole ≡ false → (b : Bool) → at_ends setup xs ≡ b → b ≡ false
unfolding at_ends
not_ended setup xs ys whole is shape fits running false here = refl
not_ended setup xs ys whole is shape fits running true here =
    let all : at_ends setup whole ≡ true = all_at_ends setup.parts (places_at setup whole)
    (λ i within.
    let at : get_or (places_at setup xs) i 0 ≡ length (get_or setup.parts i []) = ends_at setup.parts (places_at setup xs) i here within (omega (arith, within, shape, length-places_at setup xs)) in
    let low = front_below setup xs ys whole is i in
    let high = fits.within i in
    omega (arith, at, low, high)) in
    sym all ∙ running

pub alike_fronts : (setup : MonitorSetup) (others : List (List (ℕ × ℤ))) (whole : List Entry) → ReachesAlike setup others whole → (xs ys : List Entry) → xs ++ ys ≡ whole → Alike setup others xs
alike_fronts setup others whole reach xs ys is =
    let shape : length setup.from ≡ length setup.parts = sym (length-places_at setup whole) ∙ reach.here.shape in
    let shape' : length setup.from ≡ length others = sym (length-places_at setup whole) ∙ reach.there.shape in
    let fits' : ArePlaces others (places_at (with_parts setup others) whole) = subst (ArePlaces others) (places_alike setup others whole) reach.there in
    record {
      value = λ o. value_alike setup.parts others (places_at setup xs) o (sym shape ∙ shape')
          (λ i.
          let p = get_or (places_at setup xs) i 0 in
          let q = get_or (places_at setup whole) i 0 in
          let low = front_below setup xs ys whole is i in
          sym (take-take p q (get_or setup.parts i []) low) ∙ ap (λ (cs : List (ℕ × ℤ)). take p cs) (reach.fronts i) ∙ take-take p q (get_or others i []) low);
      ends = not_ended setup xs ys whole is shape reach.here reach.open_here (at_ends setup xs) refl
          ∙ sym (not_ended (with_parts setup others) xs ys whole is shape' fits' reach.open_there (at_ends (with_parts setup others) xs) refl);
    }

-- a raise of the whole had room over the other parts too
raised_next : (setup : MonitorSetup) (others : List (List (ℕ × ℤ))) (whole : List Entry) → ReachesAlike setup others whole → (xs ys : List Entry) (feeder : Feeder) → xs ++ (Raised feeder ∷ ys) ≡ whole → HasNext setup xs feeder.0 → HasNext (with_parts setup others) xs feeder.0
raised_next setup others whole reach xs ys feeder is next =
    let g = feeder.0 in
    let shape : length setup.from ≡ length setup.parts = sym (length-places_at setup whole) ∙ reach.here.shape in
    let shape' : length setup.from ≡ length others = sym (length-places_at setup whole) ∙ reach.there.shape in
    let now = xs ++ Raised feeder ∷ [] in
    let up : get_or (places_at setup now) (g - 1) 0 ≡ suc (place_of setup xs g) =
    ap (λ (ps : List ℕ). get_or ps (g - 1) 0) (places_at-raised setup xs feeder next.from_one)
    ∙ get_or-set_same (places_at setup xs) (g - 1) (suc (place_of setup xs g)) 0 (omega (arith, next.from_one, next.one_of, shape, length-places_at setup xs)) in
    let low = front_below setup now ys whole (append_assoc xs (Raised feeder ∷ []) ys ∙ is) (g - 1) in
    let high = reach.there.within (g - 1) in
    let here : place_of (with_parts setup others) xs g ≡ place_of setup xs g = ap (λ (ps : List ℕ). get_or ps (g - 1) 0) (sym (places_alike setup others xs)) in
    record {
      from_one = next.from_one;
      one_of = omega (arith, next.one_of, shape, shape');
      not_ended = omega (arith, up, low, high, here);
    }

pub legal_reached : (setup : MonitorSetup) (others : List (List (ℕ × ℤ))) (trail : List Entry) → ReachesAlike setup others trail → IsLegal setup trail → IsLegal (with_parts setup others) trail × SaysAlike setup (with_parts setup others) trail
legal_reached setup others trail reach legal = (
  legal_alike setup others trail (alike_fronts setup others trail reach) (raised_next setup others trail reach) legal,
  says_alike setup others trail (alike_fronts setup others trail reach trail [] (append-nil trail)),
)
