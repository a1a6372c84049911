use Rattle.tk_ledger.proofs.SinkLemmas.{put_done, put_front}
use Rattle.tk_host.proofs.HoldingLemmas.{opened_told, opened_untold}
use Rattle.tk_host.specs.Text.{listening_text}
use Rattle.tk_host.proofs.holding.open.Goals as goal

pub returns-in_err-put_line-clause-opens : goal.returns-in_err-put_line-clause-opens
returns-in_err-put_line-clause-opens g c =
    opened_untold c.from_residual-in_err-put_line.result c.address.result.now _ _ c.from_residual-in_err-put_line.ensures.1
    (put_front _ _ _ (listening_text c.address.result.now) c.in_ok-listening_line.ensures c.in_err-put_line.ensures.err)

pub returns-clause-opens : goal.returns-clause-opens
returns-clause-opens g c =
    opened_told tt c.address.result.now _ _
    (put_done _ _ _ (listening_text c.address.result.now) c.in_ok-listening_line.ensures c.in_ok-put_line.ensures.ok)
