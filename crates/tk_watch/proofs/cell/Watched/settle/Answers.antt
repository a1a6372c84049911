use Rattle.std.proofs.Common.{◌≡◌, ℕ, List, refl, sym, subst, ◌∙◌}
use Rattle.std.specs.Prelude.{ℤ}
use Rattle.tk_recent.specs.Kept.{Kept}
use Rattle.tk_watch.specs.Each.{IsUntold}
use Rattle.tk_watch.specs.Windows.{window_of}
use Rattle.tk_watch.proofs.TakingLemmas.{counted_takes, first_back, settled_told, settled_windows, settling_first, settling_next, settling_stops, told_within, untold_takes, untold_told, within_counts}
use Rattle.tk_watch.proofs.cell.Watched.settle.Goals as goal

pub loop-change-init : goal.loop-change-init
loop-change-init g c = (settling_first c.args.self.now.watch c.args.self.now.windows c.args.f c.monitor.ensures.kept, refl)

pub returns-in-Some-untold_of-clause-stops : goal.returns-in-Some-untold_of-clause-stops
returns-in-Some-untold_of-clause-stops g c =
    let s = c.loop-change.self in
    let then = c.take_back-told.new.self in
    let f = c.args.f in
    let change : ℕ × ℤ = (c.in-Some.change.obj.0, c.in-Some.change.by) in
    let told = c.take_back-told.result in
    let untold = c.in-Some-untold_of.untold in
    let is = sym c.in-Some-untold_of.ensures in
    let same : then.windows ≡ s.windows = untold_takes s.windows then.windows f.0 told c.in-Some.change.obj untold is c.take_back-told.ensures.takes in
    settling_stops c.args.self.now.watch s.watch then.watch c.args.self.now.windows s.windows then.windows f untold c.loop-change.invariant.0
    (subst (λ (ks : List Kept). IsUntold untold s.watch f (window_of s.windows f.0).back ks then.watch) (sym same)
    (untold_told s.watch then.watch s.windows f change c.in-Some.change.obj told untold (window_of s.windows f.0).back is refl (first_back (window_of s.windows f.0).back change c.in-Some.ensures.value)
    (told_within s.watch then.watch s.windows f change told c.take_back-told.ensures.tells)))

pub loop-change-preserved : goal.loop-change-preserved
loop-change-preserved g c =
    let s = c.loop-change.self in
    let then = c.take_back-told.new.self in
    let f = c.args.f in
    let change : ℕ × ℤ = (c.in-Some.change.obj.0, c.in-Some.change.by) in
    let told = c.take_back-told.result in
    let is = sym c.in_default-untold_of.ensures in (
      settling_next c.args.self.now.watch s.watch then.watch c.args.self.now.windows s.windows then.windows f change c.loop-change.invariant.0 c.in-Some.ensures.window c.in-Some.ensures.value
          (within_counts s.watch then.watch s.windows f change told c.in-Some.change.obj is (told_within s.watch then.watch s.windows f change told c.take_back-told.ensures.tells) c.take_back-told.ensures.kept)
          (counted_takes s.windows then.windows f.0 told c.in-Some.change.obj is c.take_back-told.ensures.takes),
      c.take_back-told.ensures.ends ∙ c.loop-change.invariant.1,
    )

pub returns-clause-told : goal.returns-clause-told
returns-clause-told g c = settled_told c.args.self.now.watch c.loop-change.self.watch c.args.self.now.windows c.loop-change.self.windows c.args.f c.loop-change.invariant.0 c.in_default.ensures.value

pub returns-clause-settled : goal.returns-clause-settled
returns-clause-settled g c = settled_windows c.args.self.now.watch c.loop-change.self.watch c.args.self.now.windows c.loop-change.self.windows c.args.f c.loop-change.invariant.0 c.in_default.ensures.value

pub returns-clause-kept : goal.returns-clause-kept
returns-clause-kept g c = c.loop-change.invariant.0.kept

pub returns-clause-ends : goal.returns-clause-ends
returns-clause-ends g c = c.loop-change.invariant.1

pub returns-in-Some-untold_of-clause-ends : goal.returns-in-Some-untold_of-clause-ends
returns-in-Some-untold_of-clause-ends g c = c.take_back-told.ensures.ends ∙ c.loop-change.invariant.1
