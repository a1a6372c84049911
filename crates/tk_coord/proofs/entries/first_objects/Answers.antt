use Rattle.std.proofs.Common.{◌≡◌, ◌+◌, ◌∷◌, [], ◌++◌, List, ℕ, refl, ap, sym, ◌∙◌, subst, arith, false, true}
use Rattle.std.proofs.lemmas.List.{map-append}
use Rattle.tk_base.specs.Ascending.{IsAscending, numbers_of}
use Rattle.tk_base.specs.Objects.{objects}
use Rattle.tk_border.proofs.RisingLemmas.{ascends, objects_more, rises-objects}
use Rattle.tk_coord.proofs.entries.first_objects.Goals as goal

-- a catalogue of none
objects_none : objects 0 ≡ []
unfolding objects
objects_none = refl

pub loop-o-init : goal.loop-o-init
loop-o-init c = record {
  same = rw c.in_ok-list.ensures.items (sym objects_none);
  len = c.in_ok-list.ensures.len;
  room = c.in_ok-list.ensures.capacity;
}

pub loop-o-preserved : goal.loop-o-preserved
loop-o-preserved c = record {
  same =
      ap numbers_of c.push_reserved.ensures.items
      ∙ map-append (λ o. o.0) c.loop-o.list.items (record { 0 = c.loop-o.o + 1 } ∷ [])
      ∙ ap (λ (l : List ℕ). l ++ (c.loop-o.o + 1) ∷ []) c.loop-o.invariant.same
      ∙ sym (objects_more c.loop-o.o);
  len = omega (arith, c.push_reserved.ensures.len, c.loop-o.invariant.len);
  room = omega (arith, c.push_reserved.ensures.capacity, c.loop-o.invariant.room);
}

pub unreachable-requires : goal.unreachable-requires
unreachable-requires c =
    let up : IsAscending (numbers_of c.loop-o.list.items) = subst IsAscending (sym c.loop-o.invariant.same) (ascends (objects c.loop-o.o) (rises-objects c.loop-o.o)) in
    let never : false ≡ true = c.in-Err.ensures.ascends.1 up in
    cc
