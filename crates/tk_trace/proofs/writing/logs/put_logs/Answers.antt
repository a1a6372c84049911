use Rattle.std.proofs.Common.{◌≡◌, ℕ, [], ◌<◌, ◌≤◌, ◌+◌, ◌-◌, All, length, get_or, sym, subst, ap, ◌∙◌, arith}
use Rattle.std.proofs.lemmas.Result.{err_from_is_err_and}
use Rattle.tk_trace.specs.Spelling.{row}
use Rattle.tk_trace.proofs.WritingLemmas.{all_out, at_place, more, none_out, not_ok}
use Rattle.tk_trace.proofs.writing.logs.put_logs.Goals as goal

pub loop-i-init : goal.loop-i-init
loop-i-init c = none_out row c.args.logs.now.logs c.args.out.now.items

pub row-requires-clause-few : goal.row-requires-clause-few
row-requires-clause-few c = subst (λ ps. length ps ≤ 8) (sym (c.as_slice.ensures.value ∙ c.in_ok-parts.ensures.parts)) c.parts.ensures.limits.feeders

pub row-requires-clause-lengths : goal.row-requires-clause-lengths
row-requires-clause-lengths c = subst (All (λ part. length part ≤ 1000000)) (sym (c.as_slice.ensures.value ∙ c.in_ok-parts.ensures.parts)) c.parts.ensures.limits.lengths

pub returns-in_err-parts-clause-bytes : goal.returns-in_err-parts-clause-bytes
returns-in_err-parts-clause-bytes c =
    let p = err_from_is_err_and c.from_residual.result c.from_residual.ensures.1 in
    not_ok c.from_residual.result p.0 _ p.1

pub returns-in_err-row-clause-bytes : goal.returns-in_err-row-clause-bytes
returns-in_err-row-clause-bytes c =
    let p = err_from_is_err_and c.from_residual-in_err-row.result c.from_residual-in_err-row.ensures.1 in
    not_ok c.from_residual-in_err-row.result p.0 _ p.1

pub loop-i-preserved : goal.loop-i-preserved
loop-i-preserved c =
    let logs = c.args.logs.now.logs in
    let i = c.loop-i.i in
    let x = c.as_slice.result.now in
    let within : i < length logs = omega (arith, c.loop-i-test.true, c.monitors-i-end.ensures.value) in
    let place : i + 1 - 1 ≡ i = omega arith in
    let here : x ≡ get_or logs i [] = c.as_slice.ensures.value ∙ c.in_ok-parts.ensures.parts ∙ ap (λ (k : ℕ). get_or logs k []) place in
    more row logs i x c.args.out.now.items c.loop-i.out.items c.row.new.out.items within (at_place logs i [] x within here) c.loop-i.invariant c.in_ok-row.ensures

pub returns-clause-bytes : goal.returns-clause-bytes
returns-clause-bytes c = all_out row c.args.logs.now.logs c.loop-i.i c.args.out.now.items c.loop-i.out.items (omega (arith, c.loop-i-test.false, c.monitors-i-end.ensures.value)) c.loop-i.invariant
