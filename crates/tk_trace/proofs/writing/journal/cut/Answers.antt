use Rattle.std.proofs.Common.{◌<◌, ◌^◌, length, refl, arith}
use Rattle.std.proofs.lemmas.List.Elements.{All-nil}
use Rattle.std.proofs.lemmas.Result.{err_from_is_err_and}
use Rattle.tk_frames.specs.Spelling.{ArePlaces, places}
use Rattle.tk_trace.proofs.WritingLemmas.{all_out, all_within, got_at, more, more_within, none_out, not_ok, one_within}
use Rattle.tk_trace.proofs.writing.journal.cut.Goals as goal

pub loop-i-preserved : goal.loop-i-preserved
loop-i-preserved c =
    let xs = c.args.cut.now in
    let i = c.loop-i.i in
    let x = c.at.result.now in
    let within : i < length xs = omega (arith, c.loop-i-test.true, c.len-i-end.ensures) in
    let is = got_at xs i i x refl c.at.ensures in
    record {
      told = more (places 1) xs i x c.args.out.now.items c.loop-i.out.items c.places.new.out.items within is c.loop-i.invariant.told c.in_ok-places.ensures.bytes;
      within = more_within ArePlaces xs i x within is c.loop-i.invariant.within c.in_ok-places.ensures.within;
    }

pub loop-i-init : goal.loop-i-init
loop-i-init c = record { told = none_out (places 1) c.args.cut.now c.args.out.now.items; within = All-nil ArePlaces }

pub places-requires : goal.places-requires
places-requires c =
    let xs = c.args.cut.now in
    let within : c.loop-i.i < length xs = omega (arith, c.loop-i-test.true, c.len-i-end.ensures) in
    one_within (λ ps. length ps < 2 ^ 32) xs c.loop-i.i c.at.result.now within (got_at xs c.loop-i.i c.loop-i.i c.at.result.now refl c.at.ensures) c.requires

pub returns-in_err-places-clause-bytes : goal.returns-in_err-places-clause-bytes
returns-in_err-places-clause-bytes c =
    let p = err_from_is_err_and c.from_residual.result c.from_residual.ensures.1 in
    not_ok c.from_residual.result p.0 _ p.1

pub returns-in_err-places-clause-within : goal.returns-in_err-places-clause-within
returns-in_err-places-clause-within c =
    let p = err_from_is_err_and c.from_residual.result c.from_residual.ensures.1 in
    not_ok c.from_residual.result p.0 _ p.1

pub returns-clause-bytes : goal.returns-clause-bytes
returns-clause-bytes c = all_out (places 1) c.args.cut.now c.loop-i.i c.args.out.now.items c.loop-i.out.items (omega (arith, c.loop-i-test.false, c.len-i-end.ensures)) c.loop-i.invariant.told

pub returns-clause-within : goal.returns-clause-within
returns-clause-within c = all_within ArePlaces c.args.cut.now c.loop-i.i (omega (arith, c.loop-i-test.false, c.len-i-end.ensures)) c.loop-i.invariant.within
