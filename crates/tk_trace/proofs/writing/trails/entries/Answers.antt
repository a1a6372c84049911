use Rattle.std.proofs.lemmas.List.Elements.{All-nil}
use Rattle.std.proofs.lemmas.Result.{err_from_is_err_and}
use Rattle.tk_trace.specs.Spelling.{IsEntry, entry}
use Rattle.tk_trace.specs.Writing.{CanBeEntered}
use Rattle.tk_trace.proofs.WritingLemmas.{all_out, all_within, more, more_within, none_out, not_ok, one_within}
use Rattle.tk_trace.proofs.writing.trails.entries.Goals as goal

pub loop-item-preserved : goal.loop-item-preserved
loop-item-preserved c =
    let xs = c.args.entries.now in
    let i = c.loop-item.item-index in
    let x = c.item-item.result in
    record {
      told = more entry xs i x c.args.out.now.items c.loop-item.out.items c.entry.new.out.items c.loop-item-test.true c.item-item.is c.loop-item.invariant.told c.in_ok-entry.ensures.bytes;
      within = more_within (IsEntry c.args.feeders) xs i x c.loop-item-test.true c.item-item.is c.loop-item.invariant.within c.in_ok-entry.ensures.within;
    }

pub loop-item-init : goal.loop-item-init
loop-item-init c = record { told = none_out entry c.args.entries.now c.args.out.now.items; within = All-nil (IsEntry c.args.feeders) }

pub entry-requires-clause-entry : goal.entry-requires-clause-entry
entry-requires-clause-entry c = one_within (CanBeEntered c.args.feeders) c.args.entries.now c.loop-item.item-index c.item-item.result c.loop-item-test.true c.item-item.is c.requires.entries

pub returns-in_err-entry-clause-bytes : goal.returns-in_err-entry-clause-bytes
returns-in_err-entry-clause-bytes c =
    let p = err_from_is_err_and c.from_residual.result c.from_residual.ensures.1 in
    not_ok c.from_residual.result p.0 _ p.1

pub returns-in_err-entry-clause-within : goal.returns-in_err-entry-clause-within
returns-in_err-entry-clause-within c =
    let p = err_from_is_err_and c.from_residual.result c.from_residual.ensures.1 in
    not_ok c.from_residual.result p.0 _ p.1

pub returns-clause-bytes : goal.returns-clause-bytes
returns-clause-bytes c = all_out entry c.args.entries.now c.loop-item.item-index c.args.out.now.items c.loop-item.out.items c.loop-item-test.false c.loop-item.invariant.told

pub returns-clause-within : goal.returns-clause-within
returns-clause-within c = all_within (IsEntry c.args.feeders) c.args.entries.now c.loop-item.item-index c.loop-item-test.false c.loop-item.invariant.within
