use Rattle.std.proofs.Common.{◌*◌, ◌∙◌, ap, subst, arith, length, map, [], refl}
use Rattle.std.proofs.lemmas.List.{length-map}
use Rattle.tk_rank.specs.Tree.{HasNodes}
use Rattle.tk_rank.proofs.BlockLemmas.{empty_blocks}
use Rattle.tk_rank.proofs.NodeLemmas.{power_positive}
use Rattle.tk_rank.proofs.TreeLemmas.{room_for}
use Rattle.tk_rank.proofs.blocks.Blocks.with_room.Goals as goal

pub invariant_of-result : goal.invariant_of-result
invariant_of-result g c =
    let number = g.N.Node.number in
    let nodes = map number c.empty.new.nodes.items in
    record {
      blocks = rw (c.in_ok-room.ensures.items) (empty_blocks [] nodes (omega arith) c.empty.ensures.tree (omega arith) (λ i. refl) c.empty.ensures.empty);
      enough =
          rw (c.in_ok-room.ensures.exact, c.empty.ensures.room, c.in_ok-nodes.ensures.exact)
          (subst (λ n. HasNodes n (2 * c.next_power_of_two.result)) c.count.ensures
          (room_for c.count.result c.next_power_of_two.result c.next_power_of_two.ensures.power c.next_power_of_two.ensures.lower_bound));
    }

pub count-requires : goal.count-requires
count-requires g c = c.requires

pub next_power_of_two-requires : goal.next_power_of_two-requires
next_power_of_two-requires g c = omega (arith, c.count.ensures, c.requires)

pub overflow_mul-next_power_of_two : goal.overflow_mul-next_power_of_two
overflow_mul-next_power_of_two g c = omega (arith, c.next_power_of_two.ensures.upper_bound, c.count.ensures, c.requires)

pub empty-requires-clause-few : goal.empty-requires-clause-few
empty-requires-clause-few g c = omega arith

pub empty-requires-clause-room : goal.empty-requires-clause-room
empty-requires-clause-room g c width power low =
    omega (arith, low, c.in_ok-nodes.ensures.exact, power_positive c.next_power_of_two.result c.next_power_of_two.ensures.power)

pub returns-clause-none : goal.returns-clause-none
returns-clause-none g c = length-map c.in_ok-room.room.items g.N.Node.number ∙ ap length c.in_ok-room.ensures.items

pub returns-clause-room : goal.returns-clause-room
returns-clause-room g c = c.in_ok-room.ensures.exact
