use Rattle.std.proofs.Common.{◌≡◌, ◌<◌, ◌+◌, ◌-◌, length, arith}
use Rattle.std.proofs.lemmas.Result.{err_from_is_err_and}
use Rattle.tk_trace.specs.Spelling.{name}
use Rattle.tk_trace.proofs.WritingLemmas.{all_out, got_at, more, none_out, not_ok, one_within}
use Rattle.tk_trace.proofs.writing.head.put_names.Goals as goal

pub loop-i-preserved : goal.loop-i-preserved
loop-i-preserved c =
    let xs = c.args.names.now in
    let i = c.loop-i.i in
    let x = c.name.result.now in
    let within : i < length xs = omega (arith, c.loop-i-test.true, c.len-i-end.ensures.value) in
    let place : i + 1 - 1 ≡ i = omega arith in
    more name xs i x c.args.out.now.items c.loop-i.out.items c.name-in-loop-i.new.out.items within (got_at xs i (i + 1 - 1) x place c.name.ensures) c.loop-i.invariant c.in_ok-name.ensures

pub loop-i-init : goal.loop-i-init
loop-i-init c = none_out name c.args.names.now c.args.out.now.items

pub name-requires-in-loop-i : goal.name-requires-in-loop-i
name-requires-in-loop-i c =
    let xs = c.args.names.now in
    let i = c.loop-i.i in
    let within : i < length xs = omega (arith, c.loop-i-test.true, c.len-i-end.ensures.value) in
    let place : i + 1 - 1 ≡ i = omega arith in
    one_within (λ n. length n < 256) xs i c.name.result.now within (got_at xs i (i + 1 - 1) c.name.result.now place c.name.ensures) c.requires

pub returns-in_err-name : goal.returns-in_err-name
returns-in_err-name c =
    let p = err_from_is_err_and c.from_residual.result c.from_residual.ensures.1 in
    not_ok c.from_residual.result p.0 _ p.1

pub returns : goal.returns
returns c = all_out name c.args.names.now c.loop-i.i c.args.out.now.items c.loop-i.out.items (omega (arith, c.loop-i-test.false, c.len-i-end.ensures.value)) c.loop-i.invariant
