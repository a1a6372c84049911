use Rattle.std.proofs.Common.{◌<◌, ◌^◌, length, arith}
use Rattle.std.proofs.lemmas.List.Elements.{All-nil}
use Rattle.std.proofs.lemmas.Result.{err_from_is_err_and}
use Rattle.tk_trace.specs.Spelling.{number}
use Rattle.tk_trace.proofs.WritingLemmas.{all_out, all_within, more, more_within, none_out, not_ok, number_at_place}
use Rattle.tk_trace.proofs.writing.fields.places_items.Goals as goal

pub loop-i-preserved : goal.loop-i-preserved
loop-i-preserved c =
    let xs = c.args.places.now in
    let i = c.loop-i.i in
    let x = c.at.result in
    let within : i < length xs = omega (arith, c.loop-i-test.true, c.len-i-end.ensures) in
    let is = number_at_place xs i x within c.at.ensures in
    record {
      told = more (number 4) xs i x c.args.out.now.items c.loop-i.out.items c.number_u32.new.out.items within is c.loop-i.invariant.told c.in_ok-number_u32.ensures.bytes;
      within = more_within (λ o. o < 2 ^ 32) xs i x within is c.loop-i.invariant.within c.number_u32.ensures.within;
    }

pub loop-i-init : goal.loop-i-init
loop-i-init c = record { told = none_out (number 4) c.args.places.now c.args.out.now.items; within = All-nil (λ n. n < 2 ^ 32) }

pub returns-in_err-number_u32-clause-bytes : goal.returns-in_err-number_u32-clause-bytes
returns-in_err-number_u32-clause-bytes c =
    let p = err_from_is_err_and c.from_residual.result c.from_residual.ensures.1 in
    not_ok c.from_residual.result p.0 _ p.1

pub returns-in_err-number_u32-clause-within : goal.returns-in_err-number_u32-clause-within
returns-in_err-number_u32-clause-within c =
    let p = err_from_is_err_and c.from_residual.result c.from_residual.ensures.1 in
    not_ok c.from_residual.result p.0 _ p.1

pub returns-clause-bytes : goal.returns-clause-bytes
returns-clause-bytes c = all_out (number 4) c.args.places.now c.loop-i.i c.args.out.now.items c.loop-i.out.items (omega (arith, c.loop-i-test.false, c.len-i-end.ensures)) c.loop-i.invariant.told

pub returns-clause-within : goal.returns-clause-within
returns-clause-within c = all_within (λ n. n < 2 ^ 32) c.args.places.now c.loop-i.i (omega (arith, c.loop-i-test.false, c.len-i-end.ensures)) c.loop-i.invariant.within
