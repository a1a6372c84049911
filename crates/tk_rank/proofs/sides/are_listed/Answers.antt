use Rattle.std.proofs.Common.{◌≡◌, ◌∙◌, ◌<◌, arith, length}
use Rattle.std.proofs.lemmas.List.{length-map, get_or-map, take_more_same}
use Rattle.tk_base.specs.Ascending.{numbers_of}
use Rattle.tk_rank.proofs.sides.are_listed.Goals as goal

pub loop-index-preserved : goal.loop-index-preserved
loop-index-preserved c =
    let list = c.args.list.now in
    let i = c.loop-index.index in
    let size : length list ≡ length c.args.members.now = c.if-list-len.false ∙ c.len.ensures.value in
    let numbers : length (numbers_of list) ≡ length list = length-map list (λ o. o.0) in
    let listed : i < length (numbers_of list) = omega (arith, c.loop-index-test.true, numbers) in
    let named : i < length c.args.members.now = omega (arith, c.loop-index-test.true, size) in
    take_more_same (numbers_of list) c.args.members.now i 0 listed named c.loop-index.invariant
    (get_or-map (λ o. o.0) list i (record { 0 = 0 }) 0 c.loop-index-test.true ∙ c.if-list-index.false ∙ c.at.ensures.value)
