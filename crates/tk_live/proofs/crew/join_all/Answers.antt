use Rattle.std.proofs.Common.{◌≡◌, map, arith, rules, sym, ◌∙◌, subst}
use Rattle.std.proofs.lemmas.Iterator.Adapters.{YieldsList-from_vec}
use Rattle.std.proofs.lemmas.Iterator.Consumers.{YieldsList-end, YieldsList-turn}
use Rattle.std.proofs.lemmas.List.{map-id}
use Rattle.tk_live.specs.Crew.{made_in}
use Rattle.tk_live.specs.Slots.{slot_made}
use Rattle.tk_live.proofs.crew.join_all.Goals as goal

pub push_reserved-requires : goal.push_reserved-requires
push_reserved-requires g c =
    let turn = YieldsList-turn (YieldsList-from_vec {s = c.into_iter-slot-iterator.result} c.args.slots.items (search rules) (search rules)) c.loop-slot.yielded c.loop-slot.slot-iterator c.loop-slot.yielded_by c.next.result c.next.new.self c.in-Some.slot c.in-Some.is c.next.ensures.steps in
    omega (arith, c.loop-slot.invariant.count, c.loop-slot.invariant.room, turn.0, c.loop-slot.all.ok.0)

pub returns : goal.returns
returns g c =
    let whole = YieldsList-end (YieldsList-from_vec {s = c.into_iter-slot-iterator.result} c.args.slots.items (search rules) (search rules)) c.loop-slot.yielded c.loop-slot.slot-iterator c.loop-slot.yielded_by c.next.result c.next.new.self c.in-None.is c.next.ensures.steps in
    subst (λ xs. map (λ w. made_in w.served.end.monitor w.version) c.loop-slot.all.items ≡ map slot_made xs) (sym (map-id c.loop-slot.yielded) ∙ whole.0) c.loop-slot.invariant.made
