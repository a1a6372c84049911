-- The limits of parts with a change more.
use Rattle.std.proofs.Common.{◌≡◌, ℕ, suc, zero, ◌+◌, ◌-◌, ◌<◌, ◌≤◌, Bool, true, false, ◌==◌, cond, List, [], ◌∷◌, length, take, drop, get_or, set, inl, inr, sym, ap, ◌∙◌, subst, arith}
use Rattle.std.specs.Prelude.{ℤ, All, unsigned_abs}
use Rattle.std.proofs.lemmas.Bool.{cases_eq}
use Rattle.std.proofs.lemmas.List.{get_or-set_same, get_or-set_other, length-set}
use Rattle.std.proofs.lemmas.List.Elements.{All-append, All-cons, All-drop, All-take}
use Rattle.std.proofs.lemmas.List.Sums.{sum_by-append, sum_by-cons, sum_by-le-sum_by, sum_by-take-drop}
use Rattle.tk_input.specs.Logs.{IsObject, weight_for, weight_of}
use Rattle.tk_trail.specs.Legal.{HasNext}
use Rattle.tk_trail.specs.Setup.{IsSetup, MonitorSetup}
use Rattle.tk_trail.specs.Slack.{sizes}
use Rattle.tk_trail.specs.declared.entry.Entry.{Entry}
use Rattle.tk_trail.proofs.ValuesLemmas.{weight_for-cons}
use Rattle.tk_trail.specs.Growing.{grown, grown_parts}
use Rattle.tk_input.specs.Changes.{grown_by}
use Rattle.tk_trail.proofs.GrowingLemmas.{get_or-grown_other, get_or-grown_same, length-grown_by, length-grown_parts}
use Rattle.tk_compact.specs.Room.{HasRoomFor, IsWeighed, sizes_of}

-- ---- sizes

size : ℕ × ℤ → ℕ
size c = unsigned_abs c.1

sizes-grown : (c : ℕ × ℤ) (part : List (ℕ × ℤ)) → sizes (grown_by c part) ≡ sizes part + unsigned_abs c.1
sizes-grown c part =
    let n = length part - 1 in
    let f : ℕ × ℤ → ℕ = λ d. unsigned_abs d.1 in
    omega (arith, sum_by-append f (take n part) (c ∷ drop n part), sum_by-cons f c (drop n part), sum_by-take-drop f part n)

sizes_of-set : (parts : List (List (ℕ × ℤ))) (i : ℕ) (c : ℕ × ℤ) → i < length parts → sizes_of (set parts i (grown_by c (get_or parts i []))) ≡ sizes_of parts + unsigned_abs c.1
sizes_of-set [] i c within = absurd (omega (arith, within))
sizes_of-set (part ∷ parts) zero c within =
    omega (arith, sum_by-cons sizes (grown_by c part) parts, sum_by-cons sizes part parts, sizes-grown c part)
sizes_of-set (part ∷ parts) (suc i) c within =
    omega (arith, sum_by-cons sizes part (set parts i (grown_by c (get_or parts i []))), sum_by-cons sizes part parts, sizes_of-set parts i c (omega (arith, within)))

share_below : (b : Bool) (n : ℕ) → cond b n 0 ≤ n
share_below true n = omega arith
share_below false n = omega arith

weight_below : (o : ℕ) (part : List (ℕ × ℤ)) → weight_for o part ≤ sizes part
weight_below o [] = omega arith
weight_below o (c ∷ part) =
    omega (arith, weight_for-cons o c part, share_below (c.0 == o) (unsigned_abs c.1), sum_by-cons (λ (d : ℕ × ℤ). unsigned_abs d.1) c part, weight_below o part)

weights_below : (o : ℕ) (parts : List (List (ℕ × ℤ))) → weight_of parts o ≤ sizes_of parts
weights_below o parts = sum_by-le-sum_by (weight_for o) sizes parts (weight_below o)

-- ---- the limits

-- a fact of each part holds of the grown parts, where it holds of the grown one
each_grown : (P : List (ℕ × ℤ) → Type 0) (parts : List (List (ℕ × ℤ))) (g : ℕ) (c : ℕ × ℤ) → g - 1 < length parts → All P parts → P (grown_by c (get_or parts (g - 1) [])) → All P (grown_parts parts g c)
unfolding grown_parts
each_grown P parts g c within each one k d inside =
    let new = grown_by c (get_or parts (g - 1) []) in
    elim (cases_eq k (g - 1)) [
      | inl is ↦ rw is (subst P (sym (get_or-set_same parts (g - 1) new d within)) one)
      | inr apart ↦ subst P (sym (get_or-set_other parts (g - 1) k new d apart)) (each k d (omega (arith, inside, length-set parts (g - 1) new)))
    ]

-- a record that fits leaves each limit kept
pub grown_within : (setup : MonitorSetup) (trail : List Entry) (weight g : ℕ) (c : ℕ × ℤ) → IsSetup setup → IsWeighed setup weight → HasNext setup trail g → IsObject setup.objects c.0 → HasRoomFor setup weight g c → IsSetup (grown setup g c) × IsWeighed (grown setup g c) (weight + unsigned_abs c.1)
unfolding grown_parts
grown_within setup trail weight g c is weighed next object room =
    let within : g - 1 < length setup.parts = omega (arith, next.from_one, next.one_of) in
    let part = get_or setup.parts (g - 1) [] in
    let some : 0 < length part = omega (arith, next.not_ended) in
    let n = setup.objects in
    let sum = sizes_of-set setup.parts (g - 1) c within in
    let longer = length-grown_by c part some in
    let own : All (λ (d : ℕ × ℤ). IsObject n d.0) part = is.parts.objects (g - 1) [] within in
    let total : sizes_of (grown_parts setup.parts g c) ≤ weight + unsigned_abs c.1 = omega (arith, sum, weighed.weighed) in (
      record {
        some_object = is.some_object;
        objects = is.objects;
        parts = record {
          some_feeder = omega (arith, is.parts.some_feeder, length-grown_parts setup.parts g c);
          feeders = omega (arith, is.parts.feeders, length-grown_parts setup.parts g c);
          objects = each_grown (λ (p : List (ℕ × ℤ)). All (λ (d : ℕ × ℤ). IsObject n d.0) p) setup.parts g c within is.parts.objects
              (All-append (λ (d : ℕ × ℤ). IsObject n d.0) (take (length part - 1) part) (c ∷ drop (length part - 1) part)
              (All-take (λ (d : ℕ × ℤ). IsObject n d.0) (length part - 1) part own)
              (All-cons (λ (d : ℕ × ℤ). IsObject n d.0) c (drop (length part - 1) part) object (All-drop (λ (d : ℕ × ℤ). IsObject n d.0) (length part - 1) part own)));
          lengths = each_grown (λ (p : List (ℕ × ℤ)). length p ≤ 1000000) setup.parts g c within is.parts.lengths (omega (arith, longer, room.part));
          weights = λ o. omega (arith, weights_below o (grown_parts setup.parts g c), total, room.weight_fits);
        };
        from = record {
          shape = is.from.shape ∙ sym (length-grown_parts setup.parts g c);
          within = λ i.
              elim (cases_eq i (g - 1)) [
                | inl same ↦ let old = is.from.within (g - 1) in let new = ap (λ (p : List (ℕ × ℤ)). length p) (get_or-grown_same setup.parts g c within) in rw same (omega (arith, old, new, longer))
                | inr apart ↦ let old = is.from.within i in let new = ap (λ (p : List (ℕ × ℤ)). length p) (get_or-grown_other setup.parts g c i apart) in omega (arith, old, new)
              ];
        };
      },
      record { weighed = total; bounded = room.weight_fits },
    )
