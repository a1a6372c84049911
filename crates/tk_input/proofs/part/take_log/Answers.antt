use Rattle.std.proofs.Common.{◌≡◌, ℕ, ℤ, List, Result, Ok, sym, subst, ◌∙◌}
use Rattle.std.specs.Prelude.{IfErr, OnOk}
use Rattle.tk_input.specs.Log.{IsFault}
use Rattle.tk_input.specs.declared.part.PartFault.{PartFault}
use Rattle.tk_input.proofs.PlainLogLemmas.{log_cut}
use Rattle.tk_input.proofs.part.take_log.Goals as goal

pub returns-then-is_plain-clause-ok : goal.returns-then-is_plain-clause-ok
returns-then-is_plain-clause-ok c =
    let new = c.take_plain.new.changes in
    subst (λ (r : Result (List (ℕ × ℤ)) PartFault). OnOk c.take_plain.result (r ≡ Ok new))
    (log_cut c.args.names.now c.args.changes.now c.args.bytes.now c.requires (sym c.is_plain.ensures ∙ c.if-is_plain.true))
    c.take_plain.ensures.ok

pub returns-then-is_plain-clause-err : goal.returns-then-is_plain-clause-err
returns-then-is_plain-clause-err c =
    subst (λ (r : Result (List (ℕ × ℤ)) PartFault). IfErr c.take_plain.result (λ e. IsFault e r))
    (log_cut c.args.names.now c.args.changes.now c.args.bytes.now c.requires (sym c.is_plain.ensures ∙ c.if-is_plain.true))
    c.take_plain.ensures.err
