use Rattle.std.proofs.Common.{subst}
use Rattle.std.specs.Prelude.{OnOk}
use Rattle.tk_input.specs.Sink.{Grows}
use Rattle.tk_ledger.specs.Text.{ledger_text}
use Rattle.tk_live.proofs.joining.print.Goals as goal

pub returns-clause-ok : goal.returns-clause-ok
returns-clause-ok g c = subst (λ l. OnOk c.print_ledger.result (Grows (g.O.Sink.written c.args.out.now) (g.O.Sink.written c.print_ledger.new.out) (ledger_text l))) c.in-Ok.ensures c.print_ledger.ensures.ok
