use Rattle.std.proofs.Common.{◌≡◌, length, map, arith, rules, sym, ◌∙◌, subst, ap}
use Rattle.std.proofs.lemmas.Iterator.Adapters.{YieldsList-from_vec}
use Rattle.std.proofs.lemmas.Iterator.Consumers.{YieldsList-end, YieldsList-turn}
use Rattle.std.proofs.lemmas.List.{map-id}
use Rattle.tk_live.specs.Crew.{made_in}
use Rattle.tk_live.specs.Slots.{slot_made}
use Rattle.tk_live.proofs.crew.start.Goals as goal

pub push_reserved-requires : goal.push_reserved-requires
push_reserved-requires g c =
    let turn = YieldsList-turn (YieldsList-from_vec {s = c.into_iter-berth-iterator.result} c.args.berths.items (search rules) (search rules)) c.loop-berth.yielded c.loop-berth.berth-iterator c.loop-berth.yielded_by c.next.result c.next.new.self c.in-Some.berth c.in-Some.is c.next.ensures.steps in
    omega (arith, c.loop-berth.invariant.count, c.loop-berth.invariant.room, turn.0, c.loop-berth.slots.ok.0)

pub returns-clause-made : goal.returns-clause-made
returns-clause-made g c =
    let whole = YieldsList-end (YieldsList-from_vec {s = c.into_iter-berth-iterator.result} c.args.berths.items (search rules) (search rules)) c.loop-berth.yielded c.loop-berth.berth-iterator c.loop-berth.yielded_by c.next.result c.next.new.self c.in-None.is c.next.ensures.steps in
    subst (λ xs. map slot_made c.loop-berth.slots.items ≡ map (λ b. made_in b.port.monitor b.version) xs) (sym (map-id c.loop-berth.yielded) ∙ whole.0) c.loop-berth.invariant.made

pub returns-clause-count : goal.returns-clause-count
returns-clause-count g c =
    let whole = YieldsList-end (YieldsList-from_vec {s = c.into_iter-berth-iterator.result} c.args.berths.items (search rules) (search rules)) c.loop-berth.yielded c.loop-berth.berth-iterator c.loop-berth.yielded_by c.next.result c.next.new.self c.in-None.is c.next.ensures.steps in
    c.loop-berth.invariant.count ∙ ap (λ xs. length xs) (sym (map-id c.loop-berth.yielded) ∙ whole.0)
