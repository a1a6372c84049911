use Rattle.std.proofs.lemmas.Result.{IfErr-weaker, on_ok_weaker}
use Rattle.tk_watch.proofs.PassingLemmas.{stopped_one, told_one}
use Rattle.tk_watch.proofs.attending.tell_ended.Goals as goal

pub returns-clause-ok : goal.returns-clause-ok
returns-clause-ok g c = on_ok_weaker c.tell_tick-told.result (λ line. told_one _ _ c.in-Some.end _ _ (rw c.in-Some.is at c.requires) line) c.tell_tick-told.ensures.ok

pub returns-clause-err : goal.returns-clause-err
returns-clause-err g c = IfErr-weaker c.tell_tick-told.result _ _ (λ v stops. stopped_one _ _ c.in-Some.end v _ _ (rw c.in-Some.is at c.requires) stops) c.tell_tick-told.ensures.err
