use Rattle.std.proofs.Common.{◌≡◌, ℕ, ◌+◌, ◌-◌, ◌<◌, ◌≤◌, List, [], ◌∷◌, ◌++◌, Option, option_map, length, get_or, map, take, sym, subst, ap, ◌∙◌, arith}
use Rattle.std.specs.Prelude.{slice_get}
use Rattle.std.proofs.lemmas.List.{map_more, take_all}
use Rattle.std.proofs.lemmas.Option.{get_or_from_slice_get}
use Rattle.tk_base.specs.declared.ids.Obj.{Obj}
use Rattle.tk_input.specs.Catalog.{object_of}
use Rattle.tk_multi.specs.Projection.{Numbers}
use Rattle.tk_multi.proofs.WatchLemmas.{numbers, numbers_of, numbers_push}
use Rattle.tk_multi.proofs.watch.Watch.new.Goals as goal

pub loop-place-preserved : goal.loop-place-preserved
loop-place-preserved c =
    let names = c.args.names.now in
    let watched = c.args.watched.now in
    let i = c.loop-place.place in
    let within : i < length names = let e = c.len-place-end.ensures.value in let t = c.loop-place-test.true in omega (arith, e, t) in
    let name : get_or names i [] ≡ c.name.result.now = get_or_from_slice_get names i c.name.result.now [] (ap (slice_get names) (let e : i ≡ i + 1 - 1 = omega arith in e) ∙ c.name.ensures) in
    ap numbers_of c.in_ok-push.ensures.items
    ∙ numbers_push c.loop-place.objects.items c.find.result
    ∙ ap (λ (l : List (Option ℕ)). l ++ option_map (λ (obj : Obj). obj.0) c.find.result ∷ []) c.loop-place.invariant
    ∙ ap (λ (o : Option ℕ). map (object_of watched) (take i names) ++ o ∷ []) (c.find.ensures ∙ ap (object_of watched) (sym name))
    ∙ sym (map_more (object_of watched) names i [] within)

pub returns-clause-value : goal.returns-clause-value
returns-clause-value c =
    let names = c.args.names.now in
    let past : length names ≤ c.loop-place.place = let e = c.len-place-end.ensures.value in let t = c.loop-place-test.false in omega (arith, e, t) in
    c.loop-place.invariant ∙ ap (map (object_of c.args.watched.now)) (take_all c.loop-place.place names past)

pub returns-clause-numbers : goal.returns-clause-numbers
returns-clause-numbers c =
    let names = c.args.names.now in
    let past : length names ≤ c.loop-place.place = let e = c.len-place-end.ensures.value in let t = c.loop-place-test.false in omega (arith, e, t) in
    subst (λ (w : List (Option ℕ)). Numbers (length c.args.watched.now) w)
    (sym (c.loop-place.invariant ∙ ap (map (object_of c.args.watched.now)) (take_all c.loop-place.place names past)))
    (numbers c.args.watched.now names c.len.ensures.differ)
