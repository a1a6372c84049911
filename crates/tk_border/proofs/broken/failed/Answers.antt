use Rattle.std.proofs.Common.{◌≡◌, ◌+◌, ◌++◌, ◌∷◌, [], ℕ, ◌∙◌, sym, ap, subst, arith, filter, Some, to_z, of_z}
use Rattle.std.specs.Prelude.{FitsSigned}
use Rattle.std.specs.Int.{w128}
use Rattle.std.proofs.lemmas.Int.{to_z-of_z, ints}
use Rattle.std.proofs.lemmas.List.{map_push}
use Rattle.tk_base.specs.Ascending.{IsAscending, numbers_of}
use Rattle.tk_base.specs.declared.ids.Obj.{Obj}
use Rattle.tk_border.specs.Levels.{level_at, is_above, least_member, outside}
use Rattle.tk_border.proofs.LevelLemmas.{filter_met, filter_kept, filter_left, broken_ascends, outside_none}
use Rattle.tk_border.proofs.broken.failed.Goals as goal
use Rattle.tk_border.proofs.broken.failed.Goals.{then-is_met, else-is_met+then-is_broken+in_ok-push, else-is_met+else-is_broken}

pub loop-i-init : goal.loop-i-init
loop-i-init c =
    let test = λ (o : ℕ). is_above (least_member c.args.levels.now c.args.members.now) (level_at c.args.levels.now o) in
    record {
      passed = c.start-place.ensures;
      broken = ap numbers_of c.new-list.ensures.items ∙ sym (ap (filter test) (outside_none c.args.members.now));
    }

pub loop-i-preserved : goal.loop-i-preserved
loop-i-preserved c =
    let levels = c.args.levels.now in
    let members = c.args.members.now in
    let i = c.loop-i.i in
    let test = λ (o : ℕ). is_above (least_member levels members) (level_at levels o) in
    let fits : FitsSigned w128 c.least_member-least.result = omega (arith, ints) in
    let least : least_member levels members ≡ Some (to_z w128 (of_z w128 c.least_member-least.result)) =
    c.least_member-least.ensures ∙ ap Some (sym (to_z-of_z w128 c.least_member-least.result fits)) in
    let tested = ap (λ m. is_above m (level_at levels (i + 1))) least in
    elim c.if-is_met.branch [
      | then-is_met w ↦ record {
        passed = rw w.place-is (c.is_met.ensures.met w.if-is_met.true);
        broken = rw w.list-is (c.loop-i.invariant.broken ∙ sym (filter_met test i members (sym c.is_met.ensures.value ∙ w.if-is_met.true)));
      }
      | else-is_met+then-is_broken+in_ok-push w ↦ record {
        passed = rw w.place-is (c.is_met.ensures.missed w.if-is_met.false);
        broken =
            rw w.list-is
            (ap numbers_of w.in_ok-push.ensures.items
            ∙ map_push (λ (o : Obj). o.0) c.loop-i.list.items (record { 0 = i + 1 })
            ∙ ap (λ list. list ++ (i + 1) ∷ []) c.loop-i.invariant.broken
            ∙ sym (filter_kept test i members (sym c.is_met.ensures.value ∙ w.if-is_met.false) (tested ∙ sym w.is_broken.ensures ∙ w.if-is_broken.true)));
      }
      | else-is_met+else-is_broken w ↦ record {
        passed = rw w.place-is (c.is_met.ensures.missed w.if-is_met.false);
        broken = rw w.list-is (c.loop-i.invariant.broken ∙ sym (filter_left test i members (sym c.is_met.ensures.value ∙ w.if-is_met.false) (tested ∙ sym w.is_broken.ensures ∙ w.if-is_broken.false)));
      }
    ]

pub unwrap-requires : goal.unwrap-requires
unwrap-requires c =
    let test = λ (o : ℕ). is_above (least_member c.args.levels.now c.args.members.now) (level_at c.args.levels.now o) in
    let whole = c.loop-i.invariant.broken ∙ ap (λ n. filter test (outside n c.args.members.now)) (omega arith) in
    c.new.ensures.ascends.1 (subst IsAscending (sym whole) (broken_ascends c.args.levels.now c.args.members.now))
