use Rattle.std.proofs.lemmas.List.Elements.{All-nil}
use Rattle.std.proofs.lemmas.Result.{err_from_is_err_and}
use Rattle.tk_trace.specs.Spelling.{IsNoted, noted}
use Rattle.tk_trace.specs.Writing.{CanBeNoted}
use Rattle.tk_trace.proofs.WritingLemmas.{all_out, all_within, more, more_within, none_out, not_ok, one_within}
use Rattle.tk_trace.proofs.writing.journal.entries.Goals as goal

pub loop-entry-preserved : goal.loop-entry-preserved
loop-entry-preserved c =
    let xs = c.args.entries.now in
    let i = c.loop-entry.entry-index in
    let x = c.entry-item.result in
    record {
      told = more noted xs i x c.args.out.now.items c.loop-entry.out.items c.noted.new.out.items c.loop-entry-test.true c.entry-item.is c.loop-entry.invariant.told c.in_ok-noted.ensures.bytes;
      within = more_within (IsNoted c.args.monitors) xs i x c.loop-entry-test.true c.entry-item.is c.loop-entry.invariant.within c.in_ok-noted.ensures.within;
    }

pub loop-entry-init : goal.loop-entry-init
loop-entry-init c = record { told = none_out noted c.args.entries.now c.args.out.now.items; within = All-nil (IsNoted c.args.monitors) }

pub noted-requires : goal.noted-requires
noted-requires c = one_within (CanBeNoted c.args.monitors) c.args.entries.now c.loop-entry.entry-index c.entry-item.result c.loop-entry-test.true c.entry-item.is c.requires

pub returns-in_err-noted-clause-bytes : goal.returns-in_err-noted-clause-bytes
returns-in_err-noted-clause-bytes c =
    let p = err_from_is_err_and c.from_residual.result c.from_residual.ensures.1 in
    not_ok c.from_residual.result p.0 _ p.1

pub returns-in_err-noted-clause-within : goal.returns-in_err-noted-clause-within
returns-in_err-noted-clause-within c =
    let p = err_from_is_err_and c.from_residual.result c.from_residual.ensures.1 in
    not_ok c.from_residual.result p.0 _ p.1

pub returns-clause-bytes : goal.returns-clause-bytes
returns-clause-bytes c = all_out noted c.args.entries.now c.loop-entry.entry-index c.args.out.now.items c.loop-entry.out.items c.loop-entry-test.false c.loop-entry.invariant.told

pub returns-clause-within : goal.returns-clause-within
returns-clause-within c = all_within (IsNoted c.args.monitors) c.args.entries.now c.loop-entry.entry-index c.loop-entry-test.false c.loop-entry.invariant.within
