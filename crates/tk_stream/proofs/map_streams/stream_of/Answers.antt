use Rattle.std.proofs.Common.{ℕ, List, Some, sym, ap, ◌∙◌}
use Rattle.tk_input.proofs.FilesLemmas.{content_found, content_missing, content_within}
use Rattle.tk_stream.proofs.map_streams.stream_of.Goals as goal

pub bounds-streams-place : goal.bounds-streams-place
bounds-streams-place c = content_within c.args.streams.now c.args.name.now c.place_of.result c.in_ok-place.place c.place_of.ensures c.in_ok-place.was

pub returns-in_err-place : goal.returns-in_err-place
returns-in_err-place c = rw c.from_residual.ensures (sym (content_missing c.args.streams.now c.args.name.now c.place_of.result c.place_of.ensures c.in_err-place.was))

pub returns : goal.returns
returns c =
    ap (λ (bytes : List ℕ). Some bytes) c.as_slice.ensures.value
    ∙ sym (content_found c.args.streams.now c.args.name.now c.place_of.result c.in_ok-place.place c.index-streams-place.result c.place_of.ensures c.in_ok-place.was)
