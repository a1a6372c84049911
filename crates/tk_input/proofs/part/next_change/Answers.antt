use Rattle.std.proofs.Common.{◌≡◌, ℕ, List, Option, Ok, Err, subst}
use Rattle.std.specs.Prelude.{IfErr, IfOk}
use Rattle.tk_input.specs.Log.{change_behind}
use Rattle.tk_input.proofs.part.next_change.Goals as goal

pub returns-clause-ok : goal.returns-clause-ok
returns-clause-ok c =
    subst (λ (fields : Option (List ℕ × List ℕ)). IfOk c.change_after.result (λ d. change_behind c.args.names.now c.args.before fields ≡ Ok (d.obj.0, d.by)))
    c.both_fields.ensures c.change_after.ensures.ok

pub returns-clause-err : goal.returns-clause-err
returns-clause-err c =
    subst (λ (fields : Option (List ℕ × List ℕ)). IfErr c.change_after.result (λ e. change_behind c.args.names.now c.args.before fields ≡ Err e))
    c.both_fields.ensures c.change_after.ensures.err
