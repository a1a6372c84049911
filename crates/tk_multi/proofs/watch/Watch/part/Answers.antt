use Rattle.std.proofs.Common.{ℕ, ℤ, List, [], ◌∷◌, ◌++◌, take, sym, ap, ◌∙◌, arith}
use Rattle.std.specs.Prelude.{filter_map, option_to_list}
use Rattle.std.proofs.lemmas.List.{take_all}
use Rattle.std.proofs.lemmas.List.Elements.{filter_map-append}
use Rattle.tk_input.specs.Changes.{pair_of}
use Rattle.tk_input.proofs.TakingLemmas.{take_one_more}
use Rattle.tk_multi.specs.Projection.{watched_change, watched_in}
use Rattle.tk_multi.proofs.ListLemmas.{filter_map_one}
use Rattle.tk_multi.proofs.watch.Watch.part.Goals as goal

pub loop-i-preserved : goal.loop-i-preserved
loop-i-preserved c =
    let all = c.changes-all.result.now in
    let i = c.loop-i.i in
    let see = watched_change c.args.self.now in
    let here = pair_of c.at.result in
    c.in_ok-add_to.ensures
    ∙ ap (λ (l : List (ℕ × ℤ)). l ++ option_to_list (see here)) c.loop-i.invariant
    ∙ sym (ap (filter_map see) (take_one_more all i here c.at.ensures)
    ∙ filter_map-append see (take i all) (here ∷ [])
    ∙ ap (λ (l : List (ℕ × ℤ)). filter_map see (take i all) ++ l) (filter_map_one see here))

pub returns : goal.returns
unfolding watched_in
returns c =
    let all = c.changes-all.result.now in
    let see = watched_change c.args.self.now in
    c.new.ensures ∙ c.shrink_to_fit.ensures ∙ c.loop-i.invariant
    ∙ ap (filter_map see) (take_all c.loop-i.i all (omega (arith, c.len-i-end.ensures)) ∙ c.changes-all.ensures)
