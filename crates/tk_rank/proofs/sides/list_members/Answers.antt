use Rattle.std.proofs.Common.{◌≡◌, ◌∙◌, ◌++◌, ◌∷◌, [], refl, sym, ap, ap₂, arith, length}
use Rattle.std.proofs.lemmas.List.{length-map, length-take-le, map_push, take_all, take_more}
use Rattle.tk_base.specs.Ascending.{numbers_of}
use Rattle.tk_base.specs.declared.ids.Obj.{Obj}
use Rattle.tk_rank.proofs.sides.list_members.Goals as goal

pub loop-i-init : goal.loop-i-init
loop-i-init c = record {
  items = ap numbers_of c.clear.ensures.items;
  room = refl;
}

pub at-requires : goal.at-requires
at-requires c = omega (arith, c.loop-i-test.true, c.len-i-end.ensures.value)

pub push_reserved-requires : goal.push_reserved-requires
push_reserved-requires c =
    let list = c.loop-i.list in
    let members = c.args.members.now in
    let less = c.loop-i-test.true in
    let long : length list.items ≡ c.loop-i.i =
    sym (length-map list.items (λ (x : Obj). x.0))
    ∙ ap length c.loop-i.invariant.items
    ∙ length-take-le c.loop-i.i members (omega (arith, less, c.len-i-end.ensures.value)) in
    omega (arith, less, c.len-i-end.ensures.value, c.requires, c.clear.ensures.capacity, c.loop-i.invariant.room, list.ok.0, long)

pub loop-i-preserved : goal.loop-i-preserved
loop-i-preserved c = record {
  items =
      ap numbers_of c.push_reserved.ensures.items
      ∙ map_push (λ (x : Obj). x.0) c.loop-i.list.items c.at.result
      ∙ ap₂ (λ list x. list ++ x ∷ []) c.loop-i.invariant.items c.at.ensures.value
      ∙ sym (take_more c.args.members.now c.loop-i.i 0 (omega (arith, c.loop-i-test.true, c.len-i-end.ensures.value)));
  room = c.push_reserved.ensures.capacity ∙ c.loop-i.invariant.room;
}

pub returns-clause-items : goal.returns-clause-items
returns-clause-items c =
    c.loop-i.invariant.items ∙ take_all c.loop-i.i c.args.members.now (omega (arith, c.loop-i-test.false, c.len-i-end.ensures.value))

pub returns-clause-room : goal.returns-clause-room
returns-clause-room c = c.loop-i.invariant.room ∙ c.clear.ensures.capacity
