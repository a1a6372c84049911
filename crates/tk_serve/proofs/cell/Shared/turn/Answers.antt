use Rattle.std.proofs.Common.{sym, ◌∙◌}
use Rattle.tk_serve.proofs.NameLemmas.{is_open, turn_named}
use Rattle.tk_serve.proofs.cell.Shared.turn.Goals as goal

pub invariant_of-self : goal.invariant_of-self
invariant_of-self g c =
    let old = c.args.self.now.port in
    let open_ = is_open old c.monitor.ensures.kept (sym c.halted.ensures ∙ c.if-halted.false) in
    let named = turn_named c.turn.result old c.turn.new.self (c.turn.ensures.open open_) in record {
      settings_are = named.settings ∙ c.args.self.now.settings_are;
      setup_is = named.setup ∙ c.args.self.now.setup_is;
      version_is = named.version ∙ c.args.self.now.version_is;
    }
