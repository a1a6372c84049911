-- A frame under the last number passes the coordinator's tests of its content.
use Rattle.std.proofs.Common.{◌≡◌, ℕ, suc, zero, ◌^◌, ◌≤◌, ◌&&◌, ◌||◌, ℤ, pos, ◌+ℤ◌, ◌≤ℤ◌, Bool, true, false, not, List, [], ◌∷◌, length, map, Contains, Option, Some, None, refl, sym, ap, ◌∙◌, subst, arith}
use Rattle.std.specs.Prelude.{neg_ℤ, nat_lt, nat_le, int_lt, unsigned_abs, find, cond, unwrap_or, if◌then◌else◌}
use Rattle.std.specs.List.{All, list_all}
use Rattle.std.specs.Option.{option_map}
use Rattle.std.proofs.lemmas.Bool.{and_from, and_parts, le-leb, le-ltb}
use Rattle.std.proofs.lemmas.Int.{ints, clamps}
use Rattle.std.proofs.lemmas.List.Elements.{All-contains, All-map}
use Rattle.std.proofs.Math.Bool.{or-true}
use Rattle.tk_base.specs.Ascending.{ascends}
use Rattle.tk_trail.proofs.OrderLemmas.{broken_ascends}
use Rattle.tk_base.specs.Objects.{objects, is_in}
use Rattle.tk_base.specs.Pairs.{objects_of}
use Rattle.tk_base.specs.Settings.{Setup}
use Rattle.tk_base.proofs.CompareLemmas.{ge_is}
use Rattle.tk_base.proofs.PairsLemmas.{objects_paired}
use Rattle.tk_base.proofs.MemberLemmas.{contained_is_in, is_in_contained, outside_is_not_in}
use Rattle.tk_border.specs.Levels.{border, broken, greatest_outside, is_above, least_member, least_of, lesser, level_at, outside, resolution}
use Rattle.tk_border.proofs.LevelLemmas.{least_reached}
use Rattle.tk_border.proofs.RisingLemmas.{is_in-filter}
use Rattle.tk_rows.specs.Factors.{factor_at}
use Rattle.tk_border.proofs.AscendsLemmas.{ascending_passes}
use Rattle.tk_alloc.specs.Parts.{value_of}
use Rattle.tk_alloc.proofs.BorderLemmas.{greatest_reached, mapped_of, of_outside}
use Rattle.tk_alloc.proofs.LeewayLemmas.{value_put}
use Rattle.tk_alloc.proofs.WideLemmas.{of_catalogue}
use Rattle.tk_journal.specs.Laws.{IsMonitor}
use Rattle.tk_journal.specs.Readings.{assigns_to, factor, members_at as members_at_journal, table_at}
use Rattle.tk_journal.specs.Refusal.{are_outsiders, are_same, known_by, least_in, level_in, not_broken, or_else, refusal_of_border, refusal_of_report, refusal_of_values, too_great}
use Rattle.tk_journal.specs.declared.noted.Noted.{Noted}
use Rattle.tk_journal.specs.declared.refusal.CoordRefusal.{CoordRefusal}
use Rattle.tk_journal.specs.declared.refusal.CoordRefusal.TheVariants.{WrongObjects, TooGreatValue, NotBroken, BadBorder}
use Rattle.tk_journal.proofs.Content.{all_by, resolution_holds}
use Rattle.tk_journal.proofs.Standing.{IsStanding, object_of}
use Rattle.tk_journal.proofs.Tables.{IsObject, factor_is}
use Rattle.tk_trail.specs.Setup.{IsSetup, MonitorSetup}
use Rattle.tk_trail.specs.Frames.{border_over, resolution_at, values_over}
use Rattle.tk_trail.specs.Readings.{assigns_of, broken_at, levels_of, members_at, value_of_object}
use Rattle.tk_trail.specs.declared.entry.Entry.{Entry}
use Rattle.tk_trail.proofs.LevelsLemmas.{length-levels_of, level_at-levels_of, value-small}
use Rattle.tk_story.proofs.QuietLemmas.{level_by}
use Rattle.tk_trail.specs.Says.{SaysReport, SaysValues}
use Rattle.tk_trail.proofs.BorderLemmas.{sum_low, lesser_low, Low}
use Rattle.tk_journal.proofs.ProgressLemmas.{are_same_by}

-- a place of a trail with the Assigns that were sent so far
pub record IsSpeaking (s : Setup) (j : List Noted) (mon : ℕ) (setup : MonitorSetup) (x : List Entry) : Type 0 where
  pub m : IsMonitor s mon
  pub objects : setup.objects ≡ s.objects
  pub limits : IsSetup setup
  pub assigns : assigns_of x ≡ assigns_to mon j
  pub members : members_at x ≡ members_at_journal j
  pub standing : IsStanding s j

-- ---- levels

level_said : (s : Setup) (j : List Noted) (mon : ℕ) (setup : MonitorSetup) (x : List Entry) → IsSpeaking s j mon setup x → (asked : List ℕ) (o : ℕ) → Contains asked o → IsObject s o
    → level_in (known_by s mon j) (values_over setup x asked) o ≡ level_at (levels_of setup x) o
level_said s j mon setup x h asked o in' r =
    let value : value_of (values_over setup x asked) o ≡ value_of_object setup x o = ap (λ (v : Option ℤ). unwrap_or v (pos 0)) (value_put (value_of_object setup x) asked o in') in
    let size = h.objects in
    ap (λ z. z +ℤ factor_at (table_at s j) mon o) value
    ∙ ap (λ z. value_of_object setup x o +ℤ z) (factor_is s j o mon r h.m)
    ∙ sym (level_by setup x j mon o h.assigns)
    ∙ sym (level_at-levels_of setup x o r.from_one (let w = r.within in omega (arith, w, size)))

map_on : (g h : ℕ → ℤ) (xs : List ℕ) → ((x : ℕ) → Contains xs x → g x ≡ h x) → map g xs ≡ map h xs
map_on g h [] same = refl
map_on g h (x ∷ xs) same = ap (λ z. z ∷ map g xs) (same x (zero, omega arith, refl)) ∙ ap (λ zs. h x ∷ zs) (map_on g h xs (λ y in'. same y (suc in'.0, (let b = in'.1 in omega (arith, b)), in'.2)))

member_object : (s : Setup) (j : List Noted) → IsStanding s j → (t : ℕ) → Contains (members_at_journal j) t → IsObject s t
member_object s j st t in' = object_of s (members_at_journal j) [] t st.chosen.ascends st.chosen.within in'

least_said : (s : Setup) (j : List Noted) (mon : ℕ) (setup : MonitorSetup) (x : List Entry) → IsSpeaking s j mon setup x → (asked : List ℕ) → All (Contains asked) (members_at_journal j)
    → least_in (known_by s mon j) (values_over setup x asked) ≡ least_member (levels_of setup x) (members_at x)
least_said s j mon setup x h asked among =
    ap (λ (zs : List ℤ). least_of zs) (map_on (level_in (known_by s mon j) (values_over setup x asked)) (level_at (levels_of setup x)) (members_at_journal j) (λ t in'.
    level_said s j mon setup x h asked t (All-contains (Contains asked) (members_at_journal j) t among in') (member_object s j h.standing t in')))
    ∙ ap (λ ms. least_of (map (level_at (levels_of setup x)) ms)) (sym h.members)

-- ---- the border

level_low : (s : Setup) (j : List Noted) (mon : ℕ) (setup : MonitorSetup) (x : List Entry) → IsSpeaking s j mon setup x → (o : ℕ) → 1 ≤ o → o ≤ setup.objects → Low (level_at (levels_of setup x) o)
level_low s j mon setup x h o low high =
    let size = h.objects in
    let r : IsObject s o = record { from_one = low; within = omega (arith, high, size) } in
    let v : unsigned_abs (value_of_object setup x o) ≤ 2 ^ 100 = (let a = value-small setup h.limits x o in let w = h.limits.parts.weights o in omega (arith, a, w)) in
    let w : unsigned_abs (factor mon j o) ≤ 2 ^ 112 = h.standing.sizes.each o mon r h.m in
    subst Low (sym (level_at-levels_of setup x o low high ∙ level_by setup x j mon o h.assigns)) (sum_low (value_of_object setup x o) (factor mon j o) v w)

lesser_most : (x : ℤ) (g : Option ℤ) → lesser x g ≤ℤ x
lesser_most x None = omega (arith, ints)
lesser_most x (Some y) = omega (arith, ints, clamps)

border_low : (s : Setup) (j : List Noted) (mon : ℕ) (setup : MonitorSetup) (x : List Entry) → IsSpeaking s j mon setup x → (asked : List ℕ) → Low (border_over setup x asked)
border_low s j mon setup x h asked =
    let levels = levels_of setup x in
    let n = length-levels_of setup x in
    let size = h.objects in
    lesser_low (least_member levels (members_at x)) (greatest_outside levels asked)
    (λ z is. least_reached Low z (map (level_at levels) (members_at x))
    (All-map Low (level_at levels) (members_at x) (all_by (λ t. Low (level_at levels t)) (members_at x) (λ t in'.
    let r = member_object s j h.standing t (subst (λ ms. Contains ms t) h.members in') in level_low s j mon setup x h t r.from_one (let w = r.within in omega (arith, w, size))))) is)
    (λ z is.
    let at = mapped_of (level_at levels) (outside (length levels) asked) z (greatest_reached (map (level_at levels) (outside (length levels) asked)) z is) in
    let (of, out) = of_outside (length levels) asked at.0 at.1 in
    let range = of_catalogue (length levels) at.0 of in
    subst Low at.2 (level_low s j mon setup x h at.0 range.0 (let w = range.1 in omega (arith, w, n))))

either_false : (a b : Bool) (r : CoordRefusal) → a ≡ false → b ≡ false → (if a || b then Some r else None) ≡ None
either_false a b r x y = ap (λ c. if c || b then Some r else None) x ∙ ap (λ c. if c then Some r else None) y

border_passes : (s : Setup) (j : List Noted) (mon : ℕ) (setup : MonitorSetup) (x : List Entry) → IsSpeaking s j mon setup x → (asked : List ℕ) → All (Contains asked) (members_at_journal j)
    → refusal_of_border (known_by s mon j) (values_over setup x asked) (border_over setup x asked) ≡ None
border_passes s j mon setup x h asked among =
    let border = border_over setup x asked in
    let least = unwrap_or (least_in (known_by s mon j) (values_over setup x asked)) (pos 0) in
    let is : least ≡ unwrap_or (least_member (levels_of setup x) (members_at x)) (pos 0) = ap (λ (v : Option ℤ). unwrap_or v (pos 0)) (least_said s j mon setup x h asked among) in
    let most = lesser_most (unwrap_or (least_member (levels_of setup x) (members_at x)) (pos 0)) (greatest_outside (levels_of setup x) asked) in
    either_false (int_lt least border) (int_lt border (neg_ℤ (pos (2 ^ 113)))) (BadBorder border least)
    (ge_is least border (subst (λ z. border ≤ℤ z) (sym is) most))
    (ge_is border (neg_ℤ (pos (2 ^ 113))) (border_low s j mon setup x h asked))

-- ---- the values

mapped_is : {A B : Type 0} (g : A → B) (xs : List A) (y : B) → Contains (map g xs) y → (x : A) × Contains xs x × (g x ≡ y)
mapped_is g [] y (k, below, is) = absurd (omega (arith, below))
mapped_is g (x ∷ xs) y (zero, below, is) = (x, (zero, omega arith, refl), is)
mapped_is g (x ∷ xs) y (suc k, below, is) = let r = mapped_is g xs y (k, omega (arith, below), is) in (r.0, (suc r.1.0, (let b = r.1.1 in omega (arith, b)), r.1.2), r.2)

none_found : {A : Type 0} (p : A → Bool) (xs : List A) → ((x : A) → Contains xs x → p x ≡ false) → find p xs ≡ None
none_found p [] each = refl
none_found p (x ∷ xs) each = ap (λ b. cond b (Some x) (find p xs)) (each x (zero, omega arith, refl)) ∙ none_found p xs (λ y in'. each y (suc in'.0, (let b = in'.1 in omega (arith, b)), in'.2))

values_pass : (setup : MonitorSetup) (x : List Entry) (asked : List ℕ) → IsSetup setup → too_great (values_over setup x asked) ≡ None
values_pass setup x asked limits =
    ap (option_map (λ p. TooGreatValue (record { 0 = p.0 })))
    (none_found (λ (p : ℕ × ℤ). nat_lt (2 ^ 100) (unsigned_abs p.1)) (values_over setup x asked) (λ p in'.
    let at = mapped_is (λ (o : ℕ). (o, value_of_object setup x o)) asked p in' in
    let small : unsigned_abs p.1 ≤ 2 ^ 100 = subst (λ (q : ℕ × ℤ). unsigned_abs q.1 ≤ 2 ^ 100) at.2 (let a = value-small setup limits x at.0 in let w = limits.parts.weights at.0 in omega (arith, a, w)) in
    le-ltb (2 ^ 100) (unsigned_abs p.1) small))

-- ---- Values

pub values_accepted : (s : Setup) (j : List Noted) (mon : ℕ) (setup : MonitorSetup) (x : List Entry) (round seq : ℕ) (border : ℤ) (values : List (ℕ × ℤ)) → IsSpeaking s j mon setup x → (said : SaysValues setup x round seq border values) → All (Contains said.asked) (members_at_journal j)
    → refusal_of_values (known_by s mon j) said.asked border values ≡ None
values_accepted s j mon setup x round seq border values h said among =
    let known = known_by s mon j in
    let asked = said.asked in
    let vs = values_over setup x asked in
    ap (λ b. refusal_of_values known asked b values) said.border_is
    ∙ ap (λ ws. refusal_of_values known asked (border_over setup x asked) ws) said.values_is
    ∙ ap (λ b. if not b then Some WrongObjects else or_else (too_great vs) (refusal_of_border known vs (border_over setup x asked))) (are_same_by (objects_of vs) asked (objects_paired (value_of_object setup x) asked))
    ∙ ap (λ o. or_else o (refusal_of_border known vs (border_over setup x asked))) (values_pass setup x asked h.limits)
    ∙ border_passes s j mon setup x h asked among

-- ---- a Report

pub in_resolution : (n : ℕ) (members failed : List ℕ) (o : ℕ) → Contains (objects n) o → Contains failed o → Contains (resolution n members failed) o
in_resolution n members failed o of in' =
    is_in_contained (resolution n members failed) o
    (is_in-filter (λ q. is_in members q || is_in failed q) (objects n) o
    ∙ and_from (is_in (objects n) o) (is_in members o || is_in failed o) (contained_is_in (objects n) o of) (ap (λ b. is_in members o || b) (contained_is_in failed o in') ∙ or-true (is_in members o)))

pub all_true : (p : ℕ → Bool) (xs : List ℕ) → ((x : ℕ) → Contains xs x → p x ≡ true) → list_all p xs ≡ true
all_true p [] each = refl
all_true p (x ∷ xs) each = and_from (p x) (list_all p xs) (each x (zero, omega arith, refl)) (all_true p xs (λ y in'. each y (suc in'.0, (let b = in'.1 in omega (arith, b)), in'.2)))

-- what is known of a broken object
record IsBrokenAt (setup : MonitorSetup) (x : List Entry) (o : ℕ) : Type 0 where
  of : Contains (objects setup.objects) o
  out : Contains (members_at x) o → ⊥
  above : is_above (least_member (levels_of setup x) (members_at x)) (level_at (levels_of setup x) o) ≡ true

broken_is : (setup : MonitorSetup) (x : List Entry) (o : ℕ) → Contains (broken_at setup x) o → IsBrokenAt setup x o
unfolding broken_at
broken_is setup x o in' =
    let levels = levels_of setup x in
    let members = members_at x in
    let p : ℕ → Bool = λ q. is_above (least_member levels members) (level_at levels q) in
    let both = and_parts (is_in (outside (length levels) members) o) (p o) (sym (is_in-filter p (outside (length levels) members) o) ∙ contained_is_in (broken levels members) o in') in
    let (of, out) = of_outside (length levels) members o (is_in_contained (outside (length levels) members) o both.0) in
    record { of = subst (λ n. Contains (objects n) o) (length-levels_of setup x) of; out = out; above = both.1 }

pub report_accepted : (s : Setup) (j : List Noted) (mon : ℕ) (setup : MonitorSetup) (x : List Entry) (seq : ℕ) (border : ℤ) (failed : List ℕ) (values : List (ℕ × ℤ)) → IsSpeaking s j mon setup x → SaysReport setup x seq border failed values
    → refusal_of_report (known_by s mon j) border failed values ≡ None
report_accepted s j mon setup x seq border failed values h said =
    let known = known_by s mon j in
    let st = h.standing in
    let members = members_at_journal j in
    let list = broken_at setup x in
    let asked = resolution_at setup x in
    let vs = values_over setup x asked in
    let b = border_over setup x asked in
    let size = h.objects in
    let asked_is : asked ≡ resolution s.objects members list = ap (λ q. resolution q (members_at x) list) size ∙ ap (λ ms. resolution s.objects ms list) h.members in
    let among : All (Contains asked) members = subst (λ xs. All (Contains xs) members) (sym asked_is) (resolution_holds s.objects members list st.chosen.ascends st.chosen.within) in
    let outsiders : are_outsiders known list ≡ true =
    and_from (nat_lt 0 (length list) && ascends list) (list_all (λ o. nat_le o s.objects && not (is_in members o)) list)
    (and_from (nat_lt 0 (length list)) (ascends list) said.broken (ascending_passes list (broken_ascends setup x)))
    (all_true (λ o. nat_le o s.objects && not (is_in members o)) list (λ o in'.
    let at = broken_is setup x o in' in
    let range = of_catalogue setup.objects o at.of in
    and_from (nat_le o s.objects) (not (is_in members o)) (le-leb o s.objects (let w = range.1 in omega (arith, w, size)))
    (ap not (ap (λ ms. is_in ms o) (sym h.members) ∙ outside_is_not_in (members_at x) o at.out)))) in
    let same : are_same (objects_of vs) (resolution s.objects members list) ≡ true = are_same_by (objects_of vs) (resolution s.objects members list) (objects_paired (value_of_object setup x) asked ∙ asked_is) in
    let least = least_said s j mon setup x h asked among in
    let sound : not_broken known vs list ≡ None =
    ap (option_map (λ o. NotBroken (record { 0 = o })))
    (none_found (λ (o : ℕ). not (is_above (least_in known vs) (level_in known vs o))) list (λ o in'.
    let at = broken_is setup x o in' in
    let range = of_catalogue setup.objects o at.of in
    let level = level_said s j mon setup x h asked o (in_resolution setup.objects (members_at x) list o at.of in') (record { from_one = range.0; within = (let w = range.1 in omega (arith, w, size)) }) in
    ap (λ l. not (is_above l (level_in known vs o))) least ∙ ap (λ z. not (is_above (least_member (levels_of setup x) (members_at x)) z)) level ∙ ap not at.above)) in
    ap (λ z. refusal_of_report known z failed values) said.border_is
    ∙ ap (λ xs. refusal_of_report known b xs values) said.failed_is
    ∙ ap (λ ws. refusal_of_report known b list ws) said.values_is
    ∙ ap (λ c. if not c then Some WrongObjects else or_else (too_great vs) (or_else (not_broken known vs list) (refusal_of_border known vs b))) (and_from (are_outsiders known list) (are_same (objects_of vs) (resolution s.objects members list)) outsiders same)
    ∙ ap (λ o. or_else o (or_else (not_broken known vs list) (refusal_of_border known vs b))) (values_pass setup x asked h.limits)
    ∙ ap (λ o. or_else o (refusal_of_border known vs b)) sound
    ∙ border_passes s j mon setup x h asked among
