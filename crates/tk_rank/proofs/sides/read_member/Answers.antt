use Rattle.std.proofs.Common.{◌∙◌, ap, arith, pos, ◌-ℤ◌, Some}
use Rattle.std.proofs.lemmas.List.{length-map}
use Rattle.tk_base.specs.Ascending.{numbers_of}
use Rattle.tk_base.specs.declared.ids.Obj.{Obj}
use Rattle.tk_border.specs.Levels.{level_at}
use Rattle.tk_rank.proofs.SidesLemmas.{member_here, turned_back}
use Rattle.tk_rank.proofs.sides.read_member.Goals as goal

pub returns-in-Some-clause-value : goal.returns-in-Some-clause-value
returns-in-Some-clause-value c levels s here =
    let list = c.args.list.now in
    let place = c.in-Some.place in
    let leaf = member_here levels (numbers_of list) c.args.members.now.leaves place (omega (arith, c.in-Some.ensures.within, length-map list (λ (x : Obj). x.0))) s
    ∙ ap (λ q. Some (pos 0 -ℤ level_at levels q)) c.in-Some.ensures.found in
    let is = c.number_in.ensures.value (pos 0 -ℤ level_at levels c.args.o.0) leaf in
    turned_back (level_at levels c.args.o.0) c.number_in.result c.number_in.ensures.size is
