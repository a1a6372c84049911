use Rattle.std.proofs.Common.{◌≡◌, [], ℕ, ◌+◌, ◌<◌, ◌≤◌, ◌∙◌, ap, arith, drop, length, refl, subst, sym, take, List}
use Rattle.std.proofs.lemmas.Grind.{drop_more_same}
use Rattle.std.proofs.lemmas.List.{drop-set-lt, length-set, take_all, take_more_set}
use Rattle.tk_base.specs.declared.ids.Feeder.{Feeder}
use Rattle.tk_base.specs.declared.ids.Mon.{Mon}
use Rattle.tk_story.specs.Kept.{KeptStory}
use Rattle.tk_story.specs.Story.{IsStory}
use Rattle.tk_world.specs.Events.{raise_at}
use Rattle.tk_drain.specs.Passing.{MayRaise, Passes, raises}
use Rattle.tk_world.specs.declared.moved.Moved.{Moved}
use Rattle.tk_drain.proofs.BeginLemmas.{part_begun}
use Rattle.tk_drain.proofs.LegLemmas.{err_by}
use Rattle.tk_drain.proofs.PassingLemmas.{each_idle, each_yes, next_taken, passes_none}
use Rattle.tk_drain.proofs.finishing.raise_each.Goals as goal
use Rattle.tk_drain.proofs.finishing.raise_each.Goals.{in-Yes, in-Idle}

pub loop-i-init : goal.loop-i-init
loop-i-init g c =
    let touched = sym c.touch.ensures in
    record {
      story = subst (λ (w : KeptStory). IsStory w.story) touched c.requires;
      passes = subst (λ (w : KeptStory). Passes [] [] c.args.world.now w) touched (passes_none c.args.world.now);
      ahead = refl;
      behind = omega arith;
      size = refl;
    }

pub returns-in_err-raise_one-clause-err : goal.returns-in_err-raise_one-clause-err
returns-in_err-raise_one-clause-err g c =
    let i = c.loop-i.i in
    let front = c.args.parts.now.items in
    let items = c.loop-i.parts.items in
    let part = c.index-part.result.now in
    let within : i < length items = let low = c.loop-i-test.true in let end = c.len-i-end.ensures in let size = c.loop-i.invariant.size in omega (arith, low, end, size) in
    err_by c.from_residual.result
    (part_begun front i part c.args.world.now c.loop-i.world c.raise_one.new.world (next_taken front items i part within c.loop-i.invariant.size c.loop-i.invariant.ahead c.index-part.ensures)
    c.loop-i.invariant.passes.finishes c.in_err-raise_one.ensures.err)

pub loop-i-preserved : goal.loop-i-preserved
loop-i-preserved g c =
    let i = c.loop-i.i in
    let front = c.args.parts.now.items in
    let items = c.loop-i.parts.items in
    let kept = c.loop-i.kept in
    let part = c.index-part.result.now in
    let now = c.loop-i.world in
    let new = c.raise_one.new.world in
    let event = raise_at part.0.0 part.1.0 in
    let behind = c.loop-i.invariant.behind in
    let within : i < length items = let low = c.loop-i-test.true in let end = c.len-i-end.ensures in let size = c.loop-i.invariant.size in omega (arith, low, end, size) in
    let taken = next_taken front items i part within c.loop-i.invariant.size c.loop-i.invariant.ahead c.index-part.ensures in
    let ahead = drop_more_same items front i c.loop-i.invariant.ahead in
    elim c.match-branch-2.branch [
      | in-Yes w ↦
          let is = ap (λ v. v.items) w.parts-is in
          let count : c.match-branch-2.kept ≡ kept + 1 = w.kept-is in
          record {
            story = c.raise_one.ensures.legal;
            passes = subst (λ (z : ℕ). Passes (raises (take (i + 1) front)) (raises (take z c.match-branch-2.parts.items)) c.args.world.now new) (sym count)
                (each_yes front (take kept items) (take (kept + 1) c.match-branch-2.parts.items) i part c.args.world.now now new c.loop-i.invariant.story taken
                (ap (take (kept + 1)) is ∙ take_more_set items kept part (omega (arith, within, behind))) c.loop-i.invariant.passes
                (subst (λ (m : Moved). MayRaise event m now new) w.in-Yes.is c.in_ok-raise_one.ensures.ok));
            ahead = ap (drop (i + 1)) is ∙ drop-set-lt (i + 1) items kept part (omega (arith, behind)) ∙ ahead;
            behind = omega (arith, behind, count);
            size = ap length is ∙ length-set items kept part ∙ c.loop-i.invariant.size;
          }
      | in-Idle w ↦
          let is = ap (λ v. v.items) w.parts-is in
          let count : c.match-branch-2.kept ≡ kept = w.kept-is in
          record {
            story = c.raise_one.ensures.legal;
            passes = subst (λ (left : List (Mon × Feeder)). Passes (raises (take (i + 1) front)) (raises left) c.args.world.now new)
                (ap (λ (z : ℕ). take z items) (sym count) ∙ ap (take c.match-branch-2.kept) (sym is))
                (each_idle front (take kept items) i part c.args.world.now now new taken c.loop-i.invariant.passes
                (subst (λ (m : Moved). MayRaise event m now new) w.in-Idle.is c.in_ok-raise_one.ensures.ok));
            ahead = ap (drop (i + 1)) is ∙ ahead;
            behind = omega (arith, behind, count);
            size = ap length is ∙ c.loop-i.invariant.size;
          }
    ]

pub returns-clause-ok : goal.returns-clause-ok
returns-clause-ok g c =
    let i = c.loop-i.i in
    let front = c.args.parts.now.items in
    let over : length front ≤ i = let done = c.loop-i-test.false in let end = c.len-i-end.ensures in omega (arith, done, end) in
    subst (λ (left : List (Mon × Feeder)). Passes (raises front) (raises left) c.args.world.now c.loop-i.world) (sym c.truncate.ensures.items)
    (subst (λ (all : List (Mon × Feeder)). Passes (raises all) (raises (take c.loop-i.kept c.loop-i.parts.items)) c.args.world.now c.loop-i.world) (take_all i front over) c.loop-i.invariant.passes)
