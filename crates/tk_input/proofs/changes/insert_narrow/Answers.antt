use Rattle.std.proofs.Common.{◌≡◌, ◌∷◌, ◌++◌, List, map, take, drop, sym, ap, ap₂, ◌∙◌}
use Rattle.std.proofs.lemmas.List.{map-append, take-map, drop-map}
use Rattle.tk_base.specs.declared.narrow_pair.NarrowPair.{NarrowPair}
use Rattle.tk_base.specs.Pairs.{narrow_pair_of}
use Rattle.tk_input.proofs.changes.insert_narrow.Goals as goal

pub returns-clause-ok : goal.returns-clause-ok
returns-clause-ok c =
    let list = c.args.list.now.items in
    let place = c.args.place in
    let items : c.insert.new.self.items ≡ take place list ++ (c.args.change ∷ drop place list) = rw c.in_ok-insert.was at c.insert.ensures.items in
    ap (λ (xs : List NarrowPair). map narrow_pair_of xs) items
    ∙ map-append narrow_pair_of (take place list) (c.args.change ∷ drop place list)
    ∙ ap₂ (λ xs ys. xs ++ (narrow_pair_of c.args.change ∷ ys)) (sym (take-map narrow_pair_of place list)) (sym (drop-map narrow_pair_of place list))
