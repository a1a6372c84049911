use Rattle.std.proofs.Common.{ℕ, ℤ, List, [], ◌∷◌, ◌++◌, map, take, get_or, sym, ap, ◌∙◌}
use Rattle.std.proofs.lemmas.List.{append_assoc, map_more, map-append, take_all}
use Rattle.tk_input.specs.Judged.{Assigned, under}
use Rattle.tk_multi.specs.Projection.{watched_in}
use Rattle.tk_multi.proofs.watched.add_parts.Goals as goal

pub loop-part-preserved : goal.loop-part-preserved
loop-part-preserved c =
    let items = c.as_slice-part-items.result.now in
    let i = c.loop-part.part-index in
    let mon = c.args.mon.0 in
    let see = watched_in c.args.watch.now in
    c.in_ok-push.ensures.items
    ∙ ap (λ (l : Assigned). l ++ (c.args.mon, c.in_ok-part.field-0) ∷ []) c.loop-part.invariant
    ∙ append_assoc c.args.list.now.items (under mon (map see (take i items))) ((c.args.mon, c.in_ok-part.field-0) ∷ [])
    ∙ ap (λ (l : Assigned). c.args.list.now.items ++ l)
    (ap (λ (p : List (ℕ × ℤ)). under mon (map see (take i items)) ++ (c.args.mon, p) ∷ []) (c.in_ok-part.ensures ∙ ap see c.part-item.is)
    ∙ sym (map-append (λ (p : List (ℕ × ℤ)). (c.args.mon, p)) (map see (take i items)) (see (get_or items i c.part-item.result) ∷ []))
    ∙ ap (under mon) (sym (map_more see items i c.part-item.result c.loop-part-test.true)))

pub returns : goal.returns
returns c =
    let items = c.as_slice-part-items.result.now in
    c.loop-part.invariant
    ∙ ap (λ (l : List (List (ℕ × ℤ))). c.args.list.now.items ++ under c.args.mon.0 (map (watched_in c.args.watch.now) l))
    (take_all c.loop-part.part-index items c.loop-part-test.false ∙ c.as_slice-part-items.ensures.value ∙ c.in_ok-parts.ensures.parts)
