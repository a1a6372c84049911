use Rattle.std.proofs.Common.{◌≡◌, ◌<◌, length, map, get_or, subst, arith, ap, sym, ◌∙◌, add-one}
use Rattle.std.proofs.lemmas.List.{take_all, length-map, get_or-map}
use Rattle.tk_base.specs.Ascending.{IsAscending}
use Rattle.tk_base.proofs.AscendingLemmas.{ascending_more}
use Rattle.tk_base.proofs.numbered.first_disorder.Goals as goal

pub loop-place-preserved : goal.loop-place-preserved
loop-place-preserved g c =
    let number = g.T.Numbered.number in
    let numbers = map number c.args.list.now in
    let within : c.loop-place.place < length numbers = omega (arith, length-map c.args.list.now number) in
    let here : get_or numbers c.loop-place.place 0 ≡ c.number-number.result =
    get_or-map number c.args.list.now c.loop-place.place c.index-list-place.result 0 c.loop-place-test.true
    ∙ ap number (sym c.index-list-place.is) ∙ sym c.number-number.ensures in (
      ascending_more numbers c.loop-place.place within c.loop-place.invariant.0 (omega (arith, c.loop-place.invariant.1)),
      rw add-one (sym here),
    )

pub returns-clause-none : goal.returns-clause-none
returns-clause-none g c =
    let numbers = map g.T.Numbered.number c.args.list.now in
    subst IsAscending (take_all c.loop-place.place numbers (omega (arith, length-map c.args.list.now g.T.Numbered.number))) c.loop-place.invariant.0
