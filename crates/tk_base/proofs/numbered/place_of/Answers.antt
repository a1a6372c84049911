use Rattle.std.proofs.Common.{rules}
use Rattle.std.proofs.lemmas.List.Sorted.{answers_always}
use Rattle.tk_base.proofs.SearchLemmas.{absent, found}
use Rattle.tk_base.proofs.numbered.place_of.Goals as goal

pub returns-clause-found : goal.returns-clause-found
returns-clause-found g c =
    let number = g.T.Numbered.number in
    rw c.ok.ensures.value
    (found number c.args.list.now c.args.o.0 c.binary_search_by_key.result c.requires c.binary_search_by_key.ensures.bound
    (c.binary_search_by_key.ensures.position number (answers_always _ _ _ (λ f a r q k. search rules))))

pub returns-clause-none : goal.returns-clause-none
returns-clause-none g c =
    let number = g.T.Numbered.number in
    rw c.ok.ensures.value
    (absent number c.args.list.now c.args.o.0 c.binary_search_by_key.result c.requires c.binary_search_by_key.ensures.bound
    (c.binary_search_by_key.ensures.position number (answers_always _ _ _ (λ f a r q k. search rules))))
