use Rattle.std.proofs.Common.{ap, ◌∙◌, subst, List}
use Rattle.std.proofs.lemmas.Result.{IfErr-weaker, on_ok_weaker}
use Rattle.tk_recent.specs.Kept.{Kept}
use Rattle.tk_watch.specs.Each.{Stops, TellsEach}
use Rattle.tk_watch.specs.Watch.{Named}
use Rattle.tk_watch.specs.Windows.{settled_in, window_of}
use Rattle.tk_watch.proofs.BalanceLemmas.{either_balanced, either_windows}
use Rattle.tk_watch.proofs.EndsLemmas.{ends_ticked}
use Rattle.tk_watch.proofs.TakingLemmas.{wants_none}
use Rattle.tk_watch.proofs.cell.Watched.move_on.Goals as goal

pub invariant_of-self : goal.invariant_of-self
invariant_of-self g c =
    let s = c.args.self.now in
    let e = c.tick.ensures in
    record {
      named_is = s.named_is;
      are_windows = either_windows c.tick.result _ s.windows c.tick.new.self c.args.f.0 s.are_windows e.ok e.err;
      balanced = either_balanced c.tick.result _ s.watch.monitor s.windows c.tick.new.self c.args.f.0 (ap (λ (n : Named). n.objects) s.named_is) s.are_windows c.requires.from_one c.requires.stream c.requires.settled e.ok e.err s.balanced;
      are_ends = ends_ticked _ _ s.windows c.tick.new.self s.ends c.count.new.self c.args.f.0 c.requires.from_one s.are_ends c.in-Ok.ensures.ok c.count.ensures;
    }

pub returns-in-Ok-clause-told : goal.returns-in-Ok-clause-told
returns-in-Ok-clause-told g c =
    on_ok_weaker c.settle.result (λ each. subst (λ (ks : List Kept). TellsEach c.args.self.now.watch c.args.f (window_of ks c.args.f.0).back c.settle.new.self.watch) c.in-Ok.ensures.ok each) c.settle.ensures.told

pub returns-in-Ok-clause-ended : goal.returns-in-Ok-clause-ended
returns-in-Ok-clause-ended g c = on_ok_weaker c.settle.result (λ is. is ∙ ap (λ (ks : List Kept). settled_in ks c.args.f.0) c.in-Ok.ensures.ok) c.settle.ensures.settled

pub returns-in-Ok-clause-stops : goal.returns-in-Ok-clause-stops
returns-in-Ok-clause-stops g c =
    IfErr-weaker c.settle.result _ _ (λ untold stops. subst (λ (ks : List Kept). Stops c.args.self.now.watch c.args.f (window_of ks c.args.f.0).back untold c.settle.new.self.windows c.settle.new.self.watch) c.in-Ok.ensures.ok stops) c.settle.ensures.stops

pub returns-in-Err-clause-stops : goal.returns-in-Err-clause-stops
returns-in-Err-clause-stops g c = wants_none _ _ _ _
