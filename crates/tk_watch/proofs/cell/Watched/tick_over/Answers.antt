use Rattle.std.proofs.Common.{refl, ◌∙◌, ap, List}
use Rattle.std.proofs.lemmas.Result.{IfErr-weaker, on_ok_weaker}
use Rattle.tk_recent.specs.Kept.{Kept}
use Rattle.tk_watch.specs.Ends.{TickEndsView, counted_in}
use Rattle.tk_watch.specs.Windows.{ticked_in, window_of}
use Rattle.tk_watch.proofs.TakingLemmas.{settled_back, stops_further, tick_ended, tick_stops, tick_told}
use Rattle.tk_watch.proofs.cell.Watched.tick_over.Goals as goal

pub move_on-requires-clause-settled : goal.move_on-requires-clause-settled
move_on-requires-clause-settled g c =
    ap (λ (ks : List Kept). (window_of ks c.args.f.0).back) c.in-Ok.ensures.settled ∙ settled_back c.args.self.now.windows c.args.f.0

pub returns-in-Ok-clause-told : goal.returns-in-Ok-clause-told
returns-in-Ok-clause-told g c =
    let s = c.args.self.now in
    let mid = c.settle.new.self in
    on_ok_weaker c.move_on.result (λ each. tick_told s.watch mid.watch c.move_on.new.self.watch s.windows mid.windows (ticked_in mid.windows c.args.f.0) c.args.f c.in-Ok.ensures.told c.in-Ok.ensures.settled refl each) c.move_on.ensures.told

pub returns-in-Ok-clause-ended : goal.returns-in-Ok-clause-ended
returns-in-Ok-clause-ended g c =
    let s = c.args.self.now in
    let mid = c.settle.new.self in
    on_ok_weaker c.move_on.result (λ is. tick_ended s.windows mid.windows (ticked_in mid.windows c.args.f.0) c.move_on.new.self.windows c.args.f.0 c.in-Ok.ensures.settled refl is) c.move_on.ensures.ended

pub returns-in-Ok-clause-stops : goal.returns-in-Ok-clause-stops
returns-in-Ok-clause-stops g c =
    let s = c.args.self.now in
    let mid = c.settle.new.self in
    let then = c.move_on.new.self in
    IfErr-weaker c.move_on.result _ _ (λ untold stops. tick_stops s.watch mid.watch then.watch s.windows mid.windows (ticked_in mid.windows c.args.f.0) then.windows c.args.f untold c.in-Ok.ensures.told c.in-Ok.ensures.settled refl stops) c.move_on.ensures.stops

pub returns-in-Err-clause-stops : goal.returns-in-Err-clause-stops
returns-in-Err-clause-stops g c = stops_further _ _ _ _ _ _ _ c.in-Err.ensures.stops

pub returns-in-Ok-clause-counted : goal.returns-in-Ok-clause-counted
returns-in-Ok-clause-counted g c =
    on_ok_weaker c.move_on.result (λ is. is ∙ ap (λ (e : TickEndsView). counted_in e c.args.f.0) c.settle.ensures.ends) c.move_on.ensures.counted
