use Rattle.std.proofs.Common.{◌≡◌, ◌+◌, List, [], ◌∷◌, length, drop, ap, sym, ◌∙◌, arith}
use Rattle.std.proofs.lemmas.Result.{err_from_is_err_and}
use Rattle.std.proofs.lemmas.List.{drop_all, length-append}
use Rattle.tk_multi.specs.Alone.{settings_added}
use Rattle.tk_multi.proofs.SetLemmas.{settings_fault, settings_more}
use Rattle.tk_multi.proofs.setting_up.each_settings.Goals as goal
use Rattle.tk_input.proofs.ThroughLemmas.{through-none}

pub loop-query-preserved : goal.loop-query-preserved
loop-query-preserved c =
    let before = c.loop-query.list.items in
    let made = c.in_ok-push.ensures.items in
    let number : c.len.result + 1 ≡ length before + 1 = let a = c.len.ensures in let b = c.loop-query.list.ok.0 in omega (arith, a, b) in
    record {
      same = settings_more c.args.names.now c.args.monitors before c.push.new.self.items c.args.queries.now c.loop-query.query-index c.query-item.result c.in_ok-settings_of.field-0 (c.len.result + 1)
          c.loop-query-test.true c.query-item.is number c.in_ok-settings_of.ensures.ok made
          ∙ c.loop-query.invariant.same;
      count = ap (λ (l : List _). length l) made ∙ length-append before (c.in_ok-settings_of.field-0 ∷ []) ∙ omega (arith, c.loop-query.invariant.count);
    }

pub returns-in_err-settings_of-clause-err : goal.returns-in_err-settings_of-clause-err
returns-in_err-settings_of-clause-err c =
    let before = c.loop-query.list.items in
    let number : c.len.result + 1 ≡ length before + 1 = let a = c.len.ensures in let b = c.loop-query.list.ok.0 in omega (arith, a, b) in
    let given = err_from_is_err_and c.from_residual-in_err-settings_of.result c.from_residual-in_err-settings_of.ensures.1 in
    rw (given.1, given.2)
    (settings_fault c.args.names.now c.args.monitors before c.args.queries.now c.loop-query.query-index c.query-item.result c.in_err-settings_of.field-0.0 (c.len.result + 1)
    c.loop-query-test.true c.query-item.is number c.in_err-settings_of.ensures.err c.loop-query.invariant.same)

pub returns-clause-ok : goal.returns-clause-ok
returns-clause-ok c =
    sym c.loop-query.invariant.same
    ∙ through-none (settings_added c.args.names.now c.args.monitors) c.loop-query.list.items (drop c.loop-query.query-index c.args.queries.now) (drop_all c.loop-query.query-index c.args.queries.now c.loop-query-test.false)
