use Rattle.std.proofs.Common.{List, Option, ℕ}
use Rattle.tk_session.specs.declared.session_line.SessionLine.{SessionLine}
use Rattle.tk_words.specs.Asked.{asked_sources}
use Rattle.tk_load.specs.Input.{File}
use Rattle.tk_commands.specs.SessionInput.{session_order_in, sessions_with}
use Rattle.tk_load.specs.declared.basis.Basis.{Basis}
use Rattle.tk_commands.specs.declared.sessions.SessionInput.{SessionInput}
use Rattle.tk_load.proofs.LoadLemmas.{basis_refused, loaded, order_refused}
use Rattle.tk_load.proofs.FailLemmas.{none_behind, told_behind}
use Rattle.tk_commands.proofs.sessions.load_sessions.Goals as goal

pub returns-in-Err-clause-read : goal.returns-in-Err-clause-read
returns-in-Err-clause-read g c =
    basis_refused {O = List (ℕ × SessionLine)} {I = SessionInput} (λ (basis : Basis) (order : Option File). session_order_in basis.settings basis.logs order) sessions_with
    g.F.Files c.args.files.now c.load_basis.new.files (asked_sources c.args.words.now)
    c.in-Err.status c.in-Err.ensures.read

pub returns-in-Err-read_order-clause-read : goal.returns-in-Err-read_order-clause-read
returns-in-Err-read_order-clause-read g c =
    order_refused {O = List (ℕ × SessionLine)} {I = SessionInput} (λ (basis : Basis) (order : Option File). session_order_in basis.settings basis.logs order) sessions_with
    g.F.Files c.args.files.now c.load_basis.new.files (asked_sources c.args.words.now)
    c.in-Ok.basis c.in-Ok.ensures.read c.read_order.new.files c.load_basis.ensures.kept c.read_order.ensures.kept
    c.in-Err-read_order.status c.in-Err-read_order.ensures.read

pub returns-in-Ok-read_order-clause-read : goal.returns-in-Ok-read_order-clause-read
returns-in-Ok-read_order-clause-read g c =
    loaded {O = List (ℕ × SessionLine)} {I = SessionInput} (λ (basis : Basis) (order : Option File). session_order_in basis.settings basis.logs order) sessions_with
    g.F.Files c.args.files.now c.load_basis.new.files (asked_sources c.args.words.now)
    c.in-Ok.basis c.in-Ok.ensures.read c.read_order.new.files c.load_basis.ensures.kept c.read_order.ensures.kept
    c.in-Ok-read_order.order c.in-Ok-read_order.ensures.read

pub returns-in-Err-read_order-clause-counts : goal.returns-in-Err-read_order-clause-counts
returns-in-Err-read_order-clause-counts g c =
    told_behind g.F.Files c.args.files.now c.load_basis.new.files c.read_order.new.files c.in-Ok.ensures.counts c.in-Err-read_order.status c.in-Err-read_order.ensures.counts

pub returns-in-Ok-read_order-clause-counts : goal.returns-in-Ok-read_order-clause-counts
returns-in-Ok-read_order-clause-counts g c =
    none_behind g.F.Files c.args.files.now c.load_basis.new.files c.read_order.new.files c.in-Ok.ensures.counts c.in-Ok-read_order.ensures.counts
