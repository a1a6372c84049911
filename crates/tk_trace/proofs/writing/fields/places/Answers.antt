use Rattle.std.proofs.Common.{length}
use Rattle.std.specs.List.{flat_map}
use Rattle.std.proofs.lemmas.Result.{on_ok_weaker}
use Rattle.tk_frames.specs.Spelling.{places}
use Rattle.tk_trace.specs.Spelling.{number}
use Rattle.tk_trace.proofs.WritingLemmas.{are_places, counted_out, places_are}
use Rattle.tk_trace.proofs.writing.fields.places.Goals as goal

pub returns-clause-bytes : goal.returns-clause-bytes
returns-clause-bytes c =
    let xs = c.args.places.now in
    on_ok_weaker c.places_items.result (counted_out c.len.result (length xs) (flat_map (number 4) xs) (places 1 xs) c.args.out.now.items c.count.new.out.items c.places_items.new.out.items c.len.ensures (places_are xs) c.in_ok-count.ensures) c.places_items.ensures.bytes

pub returns-clause-within : goal.returns-clause-within
returns-clause-within c = on_ok_weaker c.places_items.result (are_places c.args.places.now c.requires) c.places_items.ensures.within
