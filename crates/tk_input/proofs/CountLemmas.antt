-- Looking a name up among the counts, before and after one of them changes.
use Rattle.std.proofs.Common.{◌≡◌, ◌≢◌, ℕ, ◌<◌, List, [], ◌∷◌, ◌++◌, length, get_or, set, Option, Some, None, Bool, true, false, cond, ltb, refl, sym, ap, ◌∙◌, subst, bytes_eq}
use Rattle.std.specs.Prelude.{find, position, slice_get, is_some, IsSome}
use Rattle.std.specs.List.{position_or_len}
use Rattle.std.specs.Option.{option_map_or, option_or}
use Rattle.std.proofs.lemmas.Bool.{ltb-true, ltb-false}
use Rattle.std.proofs.lemmas.Option.{slice_get-get_or, slice_get_past, cond_some}
use Rattle.std.proofs.lemmas.List.Folds.{find_at, find-set, find_past, find-append}
use Rattle.std.proofs.lemmas.Slice.Eq.{bytes_eq-Decides}
use Rattle.tk_base.proofs.ListLemmas.{bytes_same}
use Rattle.tk_input.specs.Tallies.{Count, count_of, faults_of, longest_of, Notes}

-- a place that is found is the first that passes
pub record IsFound {X : Type 0} (p : X → Bool) (xs : List X) (i : ℕ) : Type 0 where
  pub within : i < length xs
  pub first : i ≡ position_or_len p xs

pub refused : {X : Type 0} (b : Bool) (x : X) → cond b (Some x) None ≡ None → b ≡ false
refused true x e = absurd (cc)
refused false x e = refl

pub position_found : {X : Type 0} (p : X → Bool) (xs : List X) (i : ℕ) → position p xs ≡ Some i → IsFound p xs i
position_found p xs i e =
    let h = cond_some (ltb (position_or_len p xs) (length xs)) (position_or_len p xs) i e in
    let within : position_or_len p xs < length xs = ltb-true (position_or_len p xs) (length xs) h.0 in
    record { within = subst (λ (n : ℕ). n < length xs) h.1 within; first = sym h.1 }

-- what stands there is what a search finds
pub find-found : {X : Type 0} (p : X → Bool) (xs : List X) (i : ℕ) (d : X) → IsFound p xs i → find p xs ≡ Some (get_or xs i d)
find-found p xs i d at =
    find_at p xs ∙ ap (slice_get xs) (sym at.first) ∙ slice_get-get_or xs i d at.within

pub find-missing : {X : Type 0} (p : X → Bool) (xs : List X) → position p xs ≡ None → find p xs ≡ None
find-missing p xs e =
    find_at p xs ∙ slice_get_past xs (position_or_len p xs) (ltb-false (position_or_len p xs) (length xs) (refused (ltb (position_or_len p xs) (length xs)) (position_or_len p xs) e))

passing : {X : Type 0} (p : X → Bool) (y x : X) (rest : Option X) (b : Bool) → p y ≡ b → (rest ≡ Some x → p x ≡ true) → cond b (Some y) rest ≡ Some x → p x ≡ true
passing {X} p y x rest true is later found = let same : y ≡ x = cc in subst (λ (z : X). p z ≡ true) same is
passing p y x rest false is later found = later found

-- what a search finds passes
pub find_passes : {X : Type 0} (p : X → Bool) (xs : List X) (x : X) → find p xs ≡ Some x → p x ≡ true
find_passes p [] x e = absurd (cc)
find_passes p (y ∷ ys) x e = passing p y x (find p ys) (p y) refl (find_passes p ys x) e

bytes_refl : (xs : List ℕ) → bytes_eq xs xs ≡ true
bytes_refl xs = (bytes_eq-Decides xs xs).1 refl

bytes_other : (xs ys : List ℕ) → xs ≢ ys → bytes_eq xs ys ≡ false
bytes_other xs ys other = otherwise (bytes_eq xs ys) refl
  where
    otherwise : (b : Bool) → bytes_eq xs ys ≡ b → b ≡ false
    otherwise true is = absurd (other (bytes_same xs ys is))
    otherwise false is = refl

-- the count at the place of a name has that name
pub count_named : (counts : List Count) (name : List ℕ) (i : ℕ) (d : Count) → IsFound (λ c. bytes_eq c.name name) counts i → (get_or counts i d).name ≡ name
count_named counts name i d at =
    bytes_same (get_or counts i d).name name (find_passes (λ c. bytes_eq c.name name) counts (get_or counts i d) (find-found (λ c. bytes_eq c.name name) counts i d at))

pub faults_found : (counts : List Count) (name : List ℕ) (i : ℕ) (d : Count) → IsFound (λ c. bytes_eq c.name name) counts i → faults_of counts name ≡ (get_or counts i d).faults
faults_found counts name i d at = ap (λ (o : Option Count). option_map_or (λ c. c.faults) o 0) (find-found (λ c. bytes_eq c.name name) counts i d at)

pub longest_found : (counts : List Count) (name : List ℕ) (i : ℕ) (d : Count) → IsFound (λ c. bytes_eq c.name name) counts i → longest_of counts name ≡ (get_or counts i d).longest
longest_found counts name i d at = ap (λ (o : Option Count). option_map_or (λ c. c.longest) o 0) (find-found (λ c. bytes_eq c.name name) counts i d at)

-- a write of other numbers over the count of a name
pub noted : (counts : List Count) (name : List ℕ) (i : ℕ) (d c : Count) → IsFound (λ e. bytes_eq e.name name) counts i → c.name ≡ name → Notes counts (set counts i c) name c.faults c.longest
noted counts name i d c at named = record {
  counted = find-set (λ e. bytes_eq e.name name) counts i c at.first at.within (subst (λ (n : List ℕ). bytes_eq n name ≡ true) (sym named) (bytes_refl name))
      ∙ ap (λ (n : List ℕ). Some (record { name = n; faults = c.faults; longest = c.longest })) named;
  others = λ other apart. find_past (λ e. bytes_eq e.name other) counts i c d
      (subst (λ (n : List ℕ). bytes_eq n other ≡ false) (sym (count_named counts name i d at)) (bytes_other name other (λ e. apart (sym e))))
      (subst (λ (n : List ℕ). bytes_eq n other ≡ false) (sym named) (bytes_other name other (λ e. apart (sym e))));
}

-- a first count of a name
pub noted_first : (counts : List Count) (name : List ℕ) → count_of counts name ≡ None → Notes counts (counts ++ (record { name = name; faults = 0; longest = 0 }) ∷ []) name (faults_of counts name) (longest_of counts name)
noted_first counts name missing =
    let c : Count = record { name = name; faults = 0; longest = 0 } in
    let faults : faults_of counts name ≡ 0 = ap (λ (o : Option Count). option_map_or (λ e. e.faults) o 0) missing in
    let longest : longest_of counts name ≡ 0 = ap (λ (o : Option Count). option_map_or (λ e. e.longest) o 0) missing in
    record {
      counted = find-append (λ e. bytes_eq e.name name) counts (c ∷ [])
          ∙ ap (λ (o : Option Count). option_or o (find (λ e. bytes_eq e.name name) (c ∷ []))) missing
          ∙ ap (λ (b : Bool). cond b (Some c) None) (bytes_refl name)
          ∙ ap (λ (n : ℕ). Some (record { name = name; faults = n; longest = 0 })) (sym faults)
          ∙ ap (λ (n : ℕ). Some (record { name = name; faults = faults_of counts name; longest = n })) (sym longest);
      others = λ other apart. find-append (λ e. bytes_eq e.name other) counts (c ∷ [])
          ∙ ap (λ (b : Bool). option_or (count_of counts other) (cond b (Some c) None)) (bytes_other name other (λ e. apart (sym e)))
          ∙ or_none (count_of counts other);
    }
  where
    or_none : {X : Type 0} (o : Option X) → option_or o None ≡ o
    or_none None = refl
    or_none (Some x) = refl

-- a count that stays as it is
pub noted_same : (counts : List Count) (name : List ℕ) (i : ℕ) (d : Count) → IsFound (λ e. bytes_eq e.name name) counts i → Notes counts counts name (faults_of counts name) (longest_of counts name)
noted_same counts name i d at = record {
  counted = find-found (λ e. bytes_eq e.name name) counts i d at
      ∙ ap (λ (n : List ℕ). Some (record { name = n; faults = (get_or counts i d).faults; longest = (get_or counts i d).longest })) (count_named counts name i d at)
      ∙ ap (λ (n : ℕ). Some (record { name = name; faults = n; longest = (get_or counts i d).longest })) (sym (faults_found counts name i d at))
      ∙ ap (λ (n : ℕ). Some (record { name = name; faults = faults_of counts name; longest = n })) (sym (longest_found counts name i d at));
  others = λ other apart. refl;
}

-- the place of a name, as a look-up tells it
pub found_at : (counts : List Count) (name : List ℕ) (place : Option ℕ) (i : ℕ) → place ≡ position (λ c. bytes_eq c.name name) counts → place ≡ Some i → IsFound (λ c. bytes_eq c.name name) counts i
found_at counts name place i told is = position_found (λ c. bytes_eq c.name name) counts i (sym told ∙ is)

pub found_none : (counts : List Count) (name : List ℕ) (place : Option ℕ) → place ≡ position (λ c. bytes_eq c.name name) counts → place ≡ None → count_of counts name ≡ None
found_none counts name place told is = find-missing (λ c. bytes_eq c.name name) counts (sym told ∙ is)

-- a name that has a count is found
pub never_missing : (counts : List Count) (name : List ℕ) (place : Option ℕ) → place ≡ position (λ c. bytes_eq c.name name) counts → place ≡ None → IsSome (count_of counts name) → ⊥
never_missing counts name place told is some = let none = found_none counts name place told is in absurd (cc)

-- the count t at the place of a name, and the same under c with other numbers
pub noted_with : (old items : List Count) (name : List ℕ) (i : ℕ) (t c : Count) (faults longest : ℕ) → items ≡ old → IsFound (λ e. bytes_eq e.name name) old i → t ≡ get_or items i t → c.name ≡ t.name → c.faults ≡ faults → c.longest ≡ longest → Notes old (set items i c) name faults longest
noted_with old items name i t c faults longest same at is named f l =
    let here : t ≡ get_or old i t = is ∙ ap (λ (counts : List Count). get_or counts i t) same in
    let named_so : c.name ≡ name = named ∙ ap (λ (e : Count). e.name) here ∙ count_named old name i t at in
    subst (λ (n : ℕ). Notes old (set items i c) name n longest) f
    (subst (λ (n : ℕ). Notes old (set items i c) name c.faults n) l
    (subst (λ (counts : List Count). Notes old (set counts i c) name c.faults c.longest) (sym same) (noted old name i t c at named_so)))

pub faults_at : (old items : List Count) (name : List ℕ) (i : ℕ) (t : Count) → items ≡ old → IsFound (λ e. bytes_eq e.name name) old i → t ≡ get_or items i t → t.faults ≡ faults_of old name
faults_at old items name i t same at is =
    ap (λ (e : Count). e.faults) (is ∙ ap (λ (counts : List Count). get_or counts i t) same) ∙ sym (faults_found old name i t at)

pub longest_at : (old items : List Count) (name : List ℕ) (i : ℕ) (t : Count) → items ≡ old → IsFound (λ e. bytes_eq e.name name) old i → t ≡ get_or items i t → t.longest ≡ longest_of old name
longest_at old items name i t same at is =
    ap (λ (e : Count). e.longest) (is ∙ ap (λ (counts : List Count). get_or counts i t) same) ∙ sym (longest_found old name i t at)

-- a first count that is pushed
pub noted_push : (old items : List Count) (name : List ℕ) (c : Count) → items ≡ old → count_of old name ≡ None → c.name ≡ name → c.faults ≡ 0 → c.longest ≡ 0 → Notes old (items ++ c ∷ []) name (faults_of old name) (longest_of old name)
noted_push old items name c same missing named f l =
    let first : Count = record { name = name; faults = 0; longest = 0 } in
    let is : c ≡ first =
    ap (λ (n : List ℕ). record { name = n; faults = c.faults; longest = c.longest }) named
    ∙ ap (λ (n : ℕ). record { name = name; faults = n; longest = c.longest }) f
    ∙ ap (λ (n : ℕ). record { name = name; faults = 0; longest = n }) l in
    subst (λ (e : Count). Notes old (items ++ e ∷ []) name (faults_of old name) (longest_of old name)) (sym is)
    (subst (λ (counts : List Count). Notes old (counts ++ first ∷ []) name (faults_of old name) (longest_of old name)) (sym same) (noted_first old name missing))

pub not_some : {X : Type 0} (o : Option X) → is_some o ≡ false → o ≡ None
not_some None e = refl
not_some (Some x) e = absurd (cc)

-- a name that has a place keeps its count
pub noted_again : (counts : List Count) (name : List ℕ) (place : Option ℕ) → place ≡ position (λ c. bytes_eq c.name name) counts → is_some place ≡ true → Notes counts counts name (faults_of counts name) (longest_of counts name)
noted_again counts name None told some = absurd (cc)
noted_again counts name (Some i) told some =
    noted_same counts name i (record { name = []; faults = 0; longest = 0 }) (found_at counts name (Some i) i told refl)

kept_as : (counts : List Count) (name : List ℕ) (o : Option Count) → count_of counts name ≡ o → IsSome o → Notes counts counts name (faults_of counts name) (longest_of counts name)
kept_as counts name None is some = absurd (cc)
kept_as counts name (Some c) is some =
    let named : c.name ≡ name = bytes_same c.name name (find_passes (λ e. bytes_eq e.name name) counts c is) in record {
      counted = is
          ∙ ap (λ (n : List ℕ). Some (record { name = n; faults = c.faults; longest = c.longest })) named
          ∙ ap (λ (n : ℕ). Some (record { name = name; faults = n; longest = c.longest })) (sym (ap (λ (o : Option Count). option_map_or (λ e. e.faults) o 0) is))
          ∙ ap (λ (n : ℕ). Some (record { name = name; faults = faults_of counts name; longest = n })) (sym (ap (λ (o : Option Count). option_map_or (λ e. e.longest) o 0) is));
      others = λ other apart. refl;
    }

-- a name that has a count keeps it where nothing changes
pub noted_kept : (counts : List Count) (name : List ℕ) → IsSome (count_of counts name) → Notes counts counts name (faults_of counts name) (longest_of counts name)
noted_kept counts name some = kept_as counts name (count_of counts name) refl some
