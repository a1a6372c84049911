use Rattle.std.proofs.Common.{◌≡◌, ◌∷◌, ◌++◌, List, map, take, drop, sym, ap, ap₂, ◌∙◌}
use Rattle.std.proofs.lemmas.List.{map-append, take-map, drop-map}
use Rattle.tk_input.specs.declared.change.Change.{Change}
use Rattle.tk_input.specs.Changes.{pair_of}
use Rattle.tk_input.proofs.changes.insert_wide.Goals as goal

pub returns-clause-ok : goal.returns-clause-ok
returns-clause-ok c =
    let list = c.args.list.now.items in
    let place = c.args.place in
    let items : c.insert.new.self.items ≡ take place list ++ (c.args.change ∷ drop place list) = rw c.in_ok-insert.was at c.insert.ensures.items in
    ap (λ (xs : List Change). map pair_of xs) items
    ∙ map-append pair_of (take place list) (c.args.change ∷ drop place list)
    ∙ ap₂ (λ xs ys. xs ++ (pair_of c.args.change ∷ ys)) (sym (take-map pair_of place list)) (sym (drop-map pair_of place list))
