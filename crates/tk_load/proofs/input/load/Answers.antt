use Rattle.std.proofs.Common.{Option}
use Rattle.tk_input.specs.Order.{OrderView}
use Rattle.tk_words.specs.Asked.{asked_sources}
use Rattle.tk_load.specs.Input.{File, input_with, order_in}
use Rattle.tk_load.specs.declared.basis.Basis.{Basis}
use Rattle.tk_load.specs.declared.input.Input.{Input}
use Rattle.tk_load.proofs.LoadLemmas.{basis_refused, loaded, order_refused}
use Rattle.tk_load.proofs.FailLemmas.{none_behind, told_behind}
use Rattle.tk_load.proofs.input.load.Goals as goal

pub returns-in-Err-clause-read : goal.returns-in-Err-clause-read
returns-in-Err-clause-read g c =
    basis_refused {O = OrderView} {I = Input} (λ (basis : Basis) (order : Option File). order_in basis.settings order) input_with
    g.F.Files c.args.files.now c.load_basis.new.files (asked_sources c.args.words.now)
    c.in-Err.status c.in-Err.ensures.read

pub returns-in-Err-read_order-clause-read : goal.returns-in-Err-read_order-clause-read
returns-in-Err-read_order-clause-read g c =
    order_refused {O = OrderView} {I = Input} (λ (basis : Basis) (order : Option File). order_in basis.settings order) input_with
    g.F.Files c.args.files.now c.load_basis.new.files (asked_sources c.args.words.now)
    c.in-Ok.basis c.in-Ok.ensures.read c.read_order.new.files c.load_basis.ensures.kept c.read_order.ensures.kept
    c.in-Err-read_order.status c.in-Err-read_order.ensures.read

pub returns-in-Ok-read_order-clause-read : goal.returns-in-Ok-read_order-clause-read
returns-in-Ok-read_order-clause-read g c =
    loaded {O = OrderView} {I = Input} (λ (basis : Basis) (order : Option File). order_in basis.settings order) input_with
    g.F.Files c.args.files.now c.load_basis.new.files (asked_sources c.args.words.now)
    c.in-Ok.basis c.in-Ok.ensures.read c.read_order.new.files c.load_basis.ensures.kept c.read_order.ensures.kept
    c.in-Ok-read_order.order c.in-Ok-read_order.ensures.read

pub returns-in-Err-read_order-clause-counts : goal.returns-in-Err-read_order-clause-counts
returns-in-Err-read_order-clause-counts g c =
    told_behind g.F.Files c.args.files.now c.load_basis.new.files c.read_order.new.files c.in-Ok.ensures.counts c.in-Err-read_order.status c.in-Err-read_order.ensures.counts

pub returns-in-Ok-read_order-clause-counts : goal.returns-in-Ok-read_order-clause-counts
returns-in-Ok-read_order-clause-counts g c =
    none_behind g.F.Files c.args.files.now c.load_basis.new.files c.read_order.new.files c.in-Ok.ensures.counts c.in-Ok-read_order.ensures.counts
