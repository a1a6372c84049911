-- What stands after every turn: the members, the sizes of factors, and the coordinator's constraint.
use Rattle.std.proofs.Common.{◌≡◌, ℕ, suc, zero, Bool, true, false, ◌+◌, ◌^◌, ◌≤◌, ◌==◌, ℤ, ◌+ℤ◌, ◌≤ℤ◌, unsigned_abs, List, [], ◌∷◌, ◌++◌, length, map, get_or, Contains, Option, Some, None, refl, sym, ap, ◌∙◌, subst, arith, inl, inr}
use Rattle.std.specs.Prelude.{nat_le, unwrap_or, filter, if◌then◌else◌}
use Rattle.std.specs.List.{All, list_all, range_with_len}
use Rattle.std.proofs.lemmas.Int.{ints}
use Rattle.std.proofs.lemmas.Bool.{leb-true, le-leb, and_parts, and_from, cases_Bool, cases_eq, eq-eqb, ne_eqb, true≢false}
use Rattle.std.proofs.lemmas.List.Elements.{All-contains}
use Rattle.tk_base.specs.Objects.{is_in}
use Rattle.tk_base.specs.Ascending.{IsAscending}
use Rattle.tk_base.specs.Pairs.{value_at}
use Rattle.tk_base.specs.Settings.{Setup}
use Rattle.tk_base.proofs.MemberLemmas.{contained_is_in, is_in_contained}
use Rattle.tk_border.proofs.RisingLemmas.{rises, is_in-positive}
use Rattle.tk_rows.specs.Factors.{Grid, IsFactor}
use Rattle.tk_alloc.specs.Parts.{Part, new_factor}
use Rattle.tk_alloc.proofs.LeewayLemmas.{value_put}
use Rattle.tk_alloc.proofs.ReplacementLemmas.{AreBounded}
use Rattle.tk_journal.specs.Laws.{IsMonitor}
use Rattle.tk_journal.specs.Readings.{assigns_to, members_at, factor, own, in_force}
use Rattle.tk_journal.specs.declared.noted.Noted.{Noted}
use Rattle.tk_journal.proofs.Dealing.{dealt_rows, factor_sent, factor_unsent}
use Rattle.tk_journal.proofs.Naming.{one_row}
use Rattle.tk_journal.proofs.Orderly.{Row, sends}
use Rattle.tk_journal.proofs.Same.{AreSame, factor_by, own_by, force_same}
use Rattle.tk_journal.proofs.Tables.{IsObject, AreSized}

-- the members are k objects of the catalogue
pub record IsChosen (s : Setup) (k : ℕ) (members : List ℕ) : Type 0 where
  pub count : length members ≡ k
  pub ascends : IsAscending members
  pub within : All (λ o. o ≤ s.objects) members

-- the coordinator's constraint, for members and all objects that are none
abbrev pub HoldsOwn : Setup → List Noted → List ℕ → ℤ → Type 0
HoldsOwn s j members epsilon = (t o : ℕ) → Contains members t → (Contains members o → ⊥) → IsObject s o → own s j o ≤ℤ (own s j t +ℤ epsilon)

pub record IsStanding (s : Setup) (j : List Noted) : Type 0 where
  pub chosen : IsChosen s (in_force s j).k (members_at j)
  pub sizes : AreSized s j
  pub own : HoldsOwn s j (members_at j) (in_force s j).epsilon

-- ---- journals that agree in it

pub record AreAgreed (s : Setup) (a b : List Noted) : Type 0 where
  pub assigns : (mon : ℕ) → assigns_to mon b ≡ assigns_to mon a
  pub members : members_at b ≡ members_at a
  pub force : in_force s b ≡ in_force s a

pub standing_agreed : (s : Setup) (a b : List Noted) → AreAgreed s a b → IsStanding s a → IsStanding s b
standing_agreed s a b e st = record {
  chosen = subst (λ (f : Setup). IsChosen s f.k (members_at b)) (sym e.force) (subst (λ ms. IsChosen s (in_force s a).k ms) (sym e.members) st.chosen);
  sizes = record {
    own = λ o r. subst IsFactor (sym (own_by s a b e.assigns o)) (st.sizes.own o r);
    each = λ o mon r m. subst IsFactor (sym (factor_by a b e.assigns mon o)) (st.sizes.each o mon r m);
  };
  own = λ t o in' out r.
      let before = st.own t o (subst (λ ms. Contains ms t) e.members in') (λ found. out (subst (λ ms. Contains ms o) (sym e.members) found)) r in
      let of_o = own_by s a b e.assigns o in
      let of_t = own_by s a b e.assigns t in
      let same : (in_force s b).epsilon ≡ (in_force s a).epsilon = ap (λ (f : Setup). f.epsilon) e.force in
      omega (arith, ints, before, of_o, of_t, same);
}

pub agreed_same : (s : Setup) (a b : List Noted) → AreSame s a b → AreAgreed s a b
agreed_same s a b e = record { assigns = e.assigns; members = e.members; force = force_same s a b e }

-- ---- after new factors were dealt

-- what a round did to the own factors of a catalogue: dealt ones over some objects, the others as before
pub record OwnAfter (s : Setup) (j after : List Noted) (all : List ℕ) (dealt : ℕ → ℤ) : Type 0 where
  pub new : (o : ℕ) → IsObject s o → Contains all o → own s after o ≡ dealt o
  pub old : (o : ℕ) → (Contains all o → ⊥) → own s after o ≡ own s j o

-- the coordinator's constraint, by what was dealt
pub record RanksBy (s : Setup) (j : List Noted) (members all : List ℕ) (dealt : ℕ → ℤ) (epsilon : ℤ) : Type 0 where
  pub among : (t : ℕ) → Contains members t → Contains all t
  pub inside : (t o : ℕ) → Contains members t → (Contains members o → ⊥) → Contains all o → dealt o ≤ℤ (dealt t +ℤ epsilon)
  pub outside : (t o : ℕ) → Contains members t → IsObject s o → (Contains all o → ⊥) → own s j o ≤ℤ (dealt t +ℤ epsilon)

inside_or_out : (P : Type 0) (all : List ℕ) (o : ℕ) → (Contains all o → P) → ((Contains all o → ⊥) → P) → P
inside_or_out P all o here gone = elim (cases_Bool (is_in all o)) [
  | inl is ↦ here (is_in_contained all o is)
  | inr not_in ↦ gone (λ found. true≢false (sym (contained_is_in all o found) ∙ not_in))
]

pub object_of : (s : Setup) (members all : List ℕ) (t : ℕ) → IsAscending members → All (λ o. o ≤ s.objects) members → Contains members t → IsObject s t
object_of s members all t up within in' = record {
  from_one = is_in-positive members t (rises members up) (contained_is_in members t in');
  within = All-contains (λ o. o ≤ s.objects) members t within in';
}

pub standing_after : (s : Setup) (j after : List Noted) (members all : List ℕ) (dealt : ℕ → ℤ) → members_at after ≡ members → in_force s after ≡ in_force s j → IsChosen s (in_force s j).k members
    → OwnAfter s j after all dealt → ((o : ℕ) → IsObject s o → Contains all o → IsFactor (dealt o)) → ((o mon : ℕ) → IsObject s o → IsMonitor s mon → IsFactor (factor mon after o))
    → AreSized s j → RanksBy s j members all dealt (in_force s j).epsilon → IsStanding s after
standing_after s j after members all dealt named force pick o small each sized ranks = record {
  chosen = subst (λ (f : Setup). IsChosen s f.k (members_at after)) (sym force) (subst (λ ms. IsChosen s (in_force s j).k ms) (sym named) pick);
  sizes = record {
    own = λ q r. inside_or_out (IsFactor (own s after q)) all q (λ in'. subst IsFactor (sym (o.new q r in')) (small q r in')) (λ out. subst IsFactor (sym (o.old q out)) (sized.own q r));
    each = each;
  };
  own = λ t q in' out r.
      let t_in : Contains members t = subst (λ ms. Contains ms t) named in' in
      let q_out : Contains members q → ⊥ = λ found. out (subst (λ ms. Contains ms q) (sym named) found) in
      let of_t = o.new t (object_of s members all t pick.ascends pick.within t_in) (ranks.among t t_in) in
      let same : (in_force s after).epsilon ≡ (in_force s j).epsilon = ap (λ (f : Setup). f.epsilon) force in
      inside_or_out (own s after q ≤ℤ (own s after t +ℤ (in_force s after).epsilon)) all q
      (λ here. let rank = ranks.inside t q t_in q_out here in let of_q = o.new q r here in omega (arith, ints, rank, of_t, of_q, same))
      (λ gone. let rank = ranks.outside t q t_in r gone in let of_q = o.old q gone in omega (arith, ints, rank, of_t, of_q, same));
}

-- ---- sizes of what was dealt

pub all_holds : {X : Type 0} (p : X → Bool) (xs : List X) → list_all p xs ≡ true → (x : X) → Contains xs x → p x ≡ true
all_holds p [] h x (k, below, is) = absurd (omega (arith, below))
all_holds p (y ∷ xs) h x (zero, below, is) = ap p (sym is) ∙ (and_parts (p y) (list_all p xs) h).0
all_holds p (y ∷ xs) h x (suc k, below, is) = all_holds p xs (and_parts (p y) (list_all p xs) h).1 x (k, omega (arith, below), is)

abbrev pub is_small : ℕ × ℤ → Bool
is_small c = nat_le (unsigned_abs c.1) (2 ^ 112)

looked : (b : Bool) (x : ℤ) (rest : Option ℤ) (z : ℤ) (P : ℤ → Type 0) → (if b then Some x else rest) ≡ Some z → P x → (rest ≡ Some z → P z) → P z
looked true x rest z P is here later = let same : x ≡ z = cc in subst P same here
looked false x rest z P is here later = later is

-- what a list of small changes gives is small
pub value_small : (changes : List (ℕ × ℤ)) (o : ℕ) (z : ℤ) → list_all is_small changes ≡ true → value_at changes o ≡ Some z → IsFactor z
value_small [] o z h is = cc
value_small (c ∷ changes) o z h is =
    let both = and_parts (is_small c) (list_all is_small changes) h in
    looked (c.0 == o) c.1 (value_at changes o) z IsFactor is (leb-true (unsigned_abs c.1) (2 ^ 112) both.0) (λ later. value_small changes o z both.1 later)

given_small : (v : Option ℤ) (old : ℤ) → ((z : ℤ) → v ≡ Some z → IsFactor z) → IsFactor old → IsFactor (unwrap_or v old)
given_small None old each before = before
given_small (Some z) old each before = each z refl

filtered_step : (b : Bool) (r d : Row) (rest rows : List Row) → (if b then r ∷ rest else rest) ≡ d ∷ [] → (rest ≡ d ∷ [] → Contains rows d) → Contains (r ∷ rows) d
filtered_step true r d rest rows is later = let same : r ≡ d = ap (λ (xs : List Row). get_or xs 0 r) is in (0, omega arith, same)
filtered_step false r d rest rows is later = let found = later is in (suc found.0, (let b = found.1 in omega (arith, b)), found.2)

filtered : (rows : List Row) (mon : ℕ) (d : Row) → filter (λ (e : Row). e.0 == mon) rows ≡ d ∷ [] → Contains rows d
filtered [] mon d is = cc
filtered (r ∷ rows) mon d is = filtered_step (r.0 == mon) r d (filter (λ (e : Row). e.0 == mon) rows) rows is (filtered rows mon d)

-- after an Assign to each monitor
pub factors_small : (s : Setup) (j : List Noted) (members : List ℕ) (rows : List Row) → map (λ (d : Row). d.0) rows ≡ range_with_len 1 s.monitors → list_all (λ (d : Row). list_all is_small d.1) rows ≡ true → AreSized s j
    → (o mon : ℕ) → IsObject s o → IsMonitor s mon → IsFactor (factor mon (j ++ sends j members rows) o)
factors_small s j members rows all small sized o mon r m =
    let one = one_row (λ (d : Row). d.0) 1 s.monitors rows mon all m.from_one (let w = m.within in omega (arith, w)) in
    let of_row : list_all is_small one.row.1 ≡ true = all_holds (λ (d : Row). list_all is_small d.1) rows small one.row (filtered rows mon one.row one.alone) in
    subst IsFactor (sym (factor_sent j members rows mon o one.row one.alone))
    (given_small (value_at one.row.1 o) (factor mon j o) (λ z is. value_small one.row.1 o z of_row is) (sized.each o mon r m))

-- after an Assign to one
pub one_small : (s : Setup) (j : List Noted) (members : List ℕ) (d : Row) → list_all is_small d.1 ≡ true → AreSized s j
    → (o mon : ℕ) → IsObject s o → IsMonitor s mon → IsFactor (factor mon (j ++ sends j members (d ∷ [])) o)
one_small s j members d small sized o mon r m = elim (cases_eq d.0 mon) [
  | inl e ↦
      let sent = factor_sent j members (d ∷ []) mon o d (ap (λ c. if c then d ∷ [] else []) (eq-eqb d.0 mon e)) in
      subst IsFactor (sym sent) (given_small (value_at d.1 o) (factor mon j o) (λ z is. value_small d.1 o z small is) (sized.each o mon r m))
  | inr ne ↦ subst IsFactor (sym (factor_unsent j members (d ∷ []) mon o (ap (λ c. if c then d ∷ [] else []) (ne_eqb d.0 mon ne)))) (sized.each o mon r m)
]

put_small : (F : ℕ → ℤ) (all : List ℕ) → ((o : ℕ) → Contains all o → IsFactor (F o)) → list_all is_small (map (λ o. (o, F o)) all) ≡ true
put_small F [] each = refl
put_small F (o ∷ all) each =
    and_from (is_small (o, F o)) (list_all is_small (map (λ q. (q, F q)) all)) (le-leb (unsigned_abs (F o)) (2 ^ 112) (each o (0, omega arith, refl)))
    (put_small F all (λ q in'. each q (suc in'.0, (let b = in'.1 in omega (arith, b)), in'.2)))

-- where each new factor is within its bound, each row passes the test of the limit
pub bounded_small : (grid : Grid) (parts : List Part) (all : List ℕ) (first : ℕ) (ps : List Part) → AreBounded IsFactor grid parts all first ps → list_all (λ (d : Row). list_all is_small d.1) (dealt_rows grid parts all first ps) ≡ true
bounded_small grid parts all first [] bounded = refl
bounded_small grid parts all first (p ∷ ps) bounded =
    and_from (list_all is_small (map (λ o. (o, new_factor grid parts first p o)) all)) (list_all (λ (d : Row). list_all is_small d.1) (dealt_rows grid parts all (first + 1) ps))
    (put_small (λ o. new_factor grid parts first p o) all bounded.0) (bounded_small grid parts all (first + 1) ps bounded.1)

pub dealt_small : (F : ℕ → ℤ) (all : List ℕ) (o : ℕ) → list_all is_small (map (λ q. (q, F q)) all) ≡ true → Contains all o → IsFactor (F o)
dealt_small F all o small in' = value_small (map (λ q. (q, F q)) all) o (F o) small (value_put F all o in')
