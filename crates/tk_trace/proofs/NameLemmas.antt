-- The reader of the names is exact.
use Rattle.std.proofs.Common.{◌≡◌, ℕ, ◌<◌, All, List, ◌++◌, length, Some, Result, Ok, Err, sym, ap, subst, ◌∙◌}
use Rattle.std.specs.List.{flat_map}
use Rattle.tk_frames.specs.Reading.{◌>>=◌}
use Rattle.tk_frames.proofs.ExactLemmas.{IsExact}
use Rattle.tk_frames.proofs.Steps.{bind_some, some_is}
use Rattle.tk_input.specs.Catalog.{catalog_from}
use Rattle.tk_input.proofs.CatalogLemmas.{catalogue_is, names_fit}
use Rattle.tk_trace.specs.Reading.{if_ok, name_at, names_at, times_at}
use Rattle.tk_trace.specs.Spelling.{name}
use Rattle.tk_trace.proofs.ExactLemmas.{exact_times}
use Rattle.tk_trace.proofs.FieldLemmas.{exact_name}

-- what is found of a result is its value
pub made_ok : {A E : Type 0} (r : Result A E) (x : A) → if_ok r ≡ Some x → r ≡ Ok x
made_ok (Ok y) x e = ap (λ z. Ok z) (some_is y x e)
made_ok (Err y) x e = absurd cc

-- the names of a trace are read as they are spelled
pub exact_names : (objects : ℕ) → IsExact (λ names. (length names ≡ objects) × (catalog_from names ≡ Ok names)) (flat_map name) (names_at objects)
unfolding names_at
exact_names objects = record {
  takes = λ bytes names rest fits e.
      let a = bind_some (times_at name_at objects bytes) (λ x. if_ok (catalog_from x.0) >>= λ names. Some (names, x.1)) (names, rest) e in
      let b = bind_some (if_ok (catalog_from a.0.0)) (λ names. Some (names, a.0.1)) (names, rest) a.2 in
      let t = (exact_times objects exact_name).takes bytes a.0.0 a.0.1 fits a.1 in
      let made = made_ok (catalog_from a.0.0) b.0 b.1 in
      let same = (catalogue_is a.0.0 b.0 made).0 in
      let is = some_is (b.0, a.0.1) (names, rest) b.2 in
      let names_are : a.0.0 ≡ names = same ∙ ap (λ p. p.0) is in
      let rest_is : a.0.1 ≡ rest = ap (λ p. p.1) is in
      let ok : catalog_from a.0.0 ≡ Ok a.0.0 = made ∙ ap (λ (c : List (List ℕ)). Ok c) (sym same) in
      subst (λ (w : List ℕ). (bytes ≡ flat_map name names ++ w) × ((length names ≡ objects) × (catalog_from names ≡ Ok names))) rest_is
      (subst (λ (ns : List (List ℕ)). (bytes ≡ flat_map name ns ++ a.0.1) × ((length ns ≡ objects) × (catalog_from ns ≡ Ok ns))) names_are (t.0, (t.1.0, ok)));
  again = λ names rest fact.
      let small : All (λ bytes. length bytes < 256) names = names_fit names fact.1 in
      ap (λ r. r >>= λ x. if_ok (catalog_from x.0) >>= λ names. Some (names, x.1)) ((exact_times objects exact_name).again names rest (fact.0, small))
      ∙ ap (λ r. if_ok r >>= λ names. Some (names, rest)) fact.1;
}
