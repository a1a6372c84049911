use Rattle.std.proofs.Common.{ℕ, List, ◌+◌, Option, option_map, bytes_eq, sym, ap, ◌∙◌}
use Rattle.std.specs.Prelude.{position}
use Rattle.tk_input.proofs.RowsLemmas.{position-map}
use Rattle.tk_input.proofs.catalog.Catalog.find.Goals as goal

pub returns-in_err-place : goal.returns-in_err-place
returns-in_err-place c =
    rw c.from_residual.ensures
    (ap (λ (o : Option ℕ). option_map (λ i. i + 1) o)
    (sym c.in_err-place.was ∙ c.get_index_of.ensures.index ∙ sym (position-map (λ name. name.items) (λ n. bytes_eq c.args.name.now n) c.self.inside.names.keys)
    ∙ ap (λ (names : List (List ℕ)). position (λ n. bytes_eq c.args.name.now n) names) c.self.view_is))

pub returns : goal.returns
returns c =
    ap (λ (o : Option ℕ). option_map (λ i. i + 1) o)
    (sym c.in_ok-place.was ∙ c.get_index_of.ensures.index ∙ sym (position-map (λ name. name.items) (λ n. bytes_eq c.args.name.now n) c.self.inside.names.keys)
    ∙ ap (λ (names : List (List ℕ)). position (λ n. bytes_eq c.args.name.now n) names) c.self.view_is)
