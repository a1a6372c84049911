use Rattle.tk_ledger.proofs.SinkLemmas.{put_done, put_front}
use Rattle.tk_host.proofs.HoldingLemmas.{parts_ended, parts_failed, parts_finished, parts_unmade, parts_unwritten}
use Rattle.tk_host.specs.Text.{ended_text}
use Rattle.tk_host.proofs.holding.leave.Goals as goal

pub returns-in_err-ended_line-in-Ended-clause-parts : goal.returns-in_err-ended_line-in-Ended-clause-parts
returns-in_err-ended_line-in-Ended-clause-parts g c =
    parts_unmade c.args.over c.in-Ended.cause c.from_residual.result _ _ c.in-Ended.is c.from_residual.ensures.1

pub returns-in_err-put_line-in-Ended-clause-parts : goal.returns-in_err-put_line-in-Ended-clause-parts
returns-in_err-put_line-in-Ended-clause-parts g c =
    parts_unwritten c.args.over c.in-Ended.cause c.from_residual-in_err-put_line-in-Ended.result _ _ _ c.in-Ended.is c.from_residual-in_err-put_line-in-Ended.ensures.1
    (put_front _ _ _ (ended_text c.args.number c.in-Ended.cause) c.in_ok-ended_line-in-Ended.ensures c.in_err-put_line-in-Ended.ensures.err)

pub returns-in-Finished-clause-parts : goal.returns-in-Finished-clause-parts
returns-in-Finished-clause-parts g c = parts_finished c.args.over c.args.number _ c.in-Finished.is

pub returns-in_ok-put_line-in-Ended-clause-parts : goal.returns-in_ok-put_line-in-Ended-clause-parts
returns-in_ok-put_line-in-Ended-clause-parts g c =
    parts_ended c.into_again-again.result c.args.over c.in-Ended.cause _ _ _ c.in-Ended.is
    (put_done _ _ _ (ended_text c.args.number c.in-Ended.cause) c.in_ok-ended_line-in-Ended.ensures c.in_ok-put_line-in-Ended.ensures.ok)

pub returns-in-HostFailed-clause-parts : goal.returns-in-HostFailed-clause-parts
returns-in-HostFailed-clause-parts g c = parts_failed c.args.over c.args.number _ c.in-HostFailed.is
