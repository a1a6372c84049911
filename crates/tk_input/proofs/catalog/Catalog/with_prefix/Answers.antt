use Rattle.std.proofs.Common.{ℕ, List, length, sym, ap, subst, ◌∙◌, arith}
use Rattle.std.specs.Prelude.{bytes_eq}
use Rattle.std.specs.List.{IsDistinct}
use Rattle.tk_input.specs.Catalog.{names_of, names_with}
use Rattle.tk_input.proofs.catalog.Catalog.with_prefix.Goals as goal

pub take_prefixed-requires-clause-differ : goal.take_prefixed-requires-clause-differ
take_prefixed-requires-clause-differ c =
    subst (λ ks. IsDistinct (λ a b. bytes_eq a.items b.items) ks) (sym c.as_slice.ensures.keys) c.as_slice.ensures.unique

pub invariant_of-result : goal.invariant_of-result
invariant_of-result c =
    omega (arith, c.in_ok-take_prefixed.ensures.few, ap length c.as_slice.ensures.keys, c.self.invariant)

pub returns : goal.returns
returns c =
    c.in_ok-take_prefixed.ensures.same
    ∙ ap (λ ks. names_with c.args.prefix.now (names_of ks)) c.as_slice.ensures.keys
    ∙ ap (λ (names : List (List ℕ)). names_with c.args.prefix.now names) c.self.view_is
