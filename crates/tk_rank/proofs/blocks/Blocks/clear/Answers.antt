use Rattle.std.proofs.Common.{ℕ, ◌≡◌, ◌∙◌, ◌++◌, ◌∷◌, [], ap, ap₂, sym, arith, refl, length, map, replicate, get_or, None, vec_capacity}
use Rattle.std.proofs.lemmas.List.{length-map, length-replicate, map_push, replicate-append-replicate}
use Rattle.tk_rank.specs.Blocks.{blocks_of}
use Rattle.tk_rank.specs.Tree.{LeavesView}
use Rattle.tk_rank.proofs.BlockLemmas.{empty_blocks}
use Rattle.tk_rank.proofs.TreeLemmas.{no_number}
use Rattle.tk_rank.proofs.blocks.Blocks.clear.Given.{Over}
use Rattle.tk_rank.proofs.blocks.Blocks.clear.Goals as goal

pub loop-init : goal.loop-init
loop-init g c = record {
  items = ap (map g.N.Node.number) c.clear.ensures.items;
  room = c.clear.ensures.capacity ∙ ap (λ (t : LeavesView). t.room) c.self.view_is;
  nodes = refl;
}

pub push_reserved-requires : goal.push_reserved-requires
push_reserved-requires g c =
    let items = c.loop.self-inside.leaves.items in
    let long : length items ≡ c.loop.counter = sym (length-map items g.N.Node.number) ∙ ap length c.loop.invariant.items ∙ length-replicate c.loop.counter None in
    omega (arith, c.requires.room, long, c.loop.invariant.room, c.loop.self-inside.leaves.ok)

pub loop-preserved : goal.loop-preserved
loop-preserved g c = record {
  items =
      ap (map g.N.Node.number) c.push_reserved.ensures.items
      ∙ map_push g.N.Node.number c.loop.self-inside.leaves.items c.none.result
      ∙ ap₂ (λ list x. list ++ x ∷ []) c.loop.invariant.items c.none.ensures
      ∙ replicate-append-replicate c.loop.counter 1 None;
  room = c.push_reserved.ensures.capacity ∙ c.loop.invariant.room;
  nodes = c.loop.invariant.nodes;
}

-- all leaves are written
whole : (g : Over) (c : goal.After-empty g) → map g.N.Node.number c.loop.self-inside.leaves.items ≡ replicate c.args.leaves None
whole g c = c.loop.invariant.items ∙ ap (λ n. replicate n None) (omega (arith, c.loop-test.false, c.loop.auto.counter-end))

long : (g : Over) (c : goal.After-empty g) → length (map g.N.Node.number c.loop.self-inside.leaves.items) ≡ c.args.leaves
long g c = ap length (whole g c) ∙ length-replicate c.args.leaves None

none : (g : Over) (c : goal.After-empty g) (i : ℕ) → get_or (map g.N.Node.number c.loop.self-inside.leaves.items) i None ≡ None
none g c i = ap (λ list. get_or list i None) (whole g c) ∙ no_number c.args.leaves i

pub invariant_of-self : goal.invariant_of-self
invariant_of-self g c =
    let number = g.N.Node.number in
    let room : vec_capacity c.loop.self-inside.leaves ≡ vec_capacity c.self.inside.leaves = c.loop.invariant.room ∙ sym (ap (λ (t : LeavesView). t.room) c.self.view_is) in
    record {
      blocks =
          empty_blocks (map number c.loop.self-inside.leaves.items) (map number c.empty.new.nodes.items) (omega (arith, long g c, c.requires.few)) c.empty.ensures.tree
          (omega (arith, ap blocks_of (long g c), c.count.ensures, c.empty.ensures.enough)) (none g c) c.empty.ensures.empty;
      enough = rw (room, c.empty.ensures.room, c.loop.invariant.nodes) c.self.invariant.enough;
    }

pub returns-clause-count : goal.returns-clause-count
returns-clause-count g c = long g c

pub returns-clause-empty : goal.returns-clause-empty
returns-clause-empty g c = none g c

pub returns-clause-room : goal.returns-clause-room
returns-clause-room g c = c.loop.invariant.room
