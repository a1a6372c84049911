use Rattle.std.proofs.Common.{length}
use Rattle.std.specs.List.{flat_map}
use Rattle.std.proofs.lemmas.Result.{on_ok_weaker}
use Rattle.tk_frames.specs.Spelling.{set}
use Rattle.tk_trace.specs.Spelling.{number}
use Rattle.tk_trace.proofs.WritingLemmas.{counted_out, is_set, set_is}
use Rattle.tk_trace.proofs.writing.fields.set.Goals as goal

pub returns-clause-bytes : goal.returns-clause-bytes
returns-clause-bytes c =
    let xs = c.args.set.now in
    on_ok_weaker c.set_items.result (counted_out c.len.result (length xs) (flat_map (number 4) xs) (set 1 xs) c.args.out.now.items c.count.new.out.items c.set_items.new.out.items c.len.ensures.value (set_is xs) c.in_ok-count.ensures) c.set_items.ensures.bytes

pub returns-clause-within : goal.returns-clause-within
returns-clause-within c = on_ok_weaker c.set_items.result (is_set c.args.set.now c.requires c.len.ensures.ascends) c.set_items.ensures.within
