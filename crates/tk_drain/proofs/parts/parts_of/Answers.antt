use Rattle.std.proofs.Common.{ap, sym, ◌∙◌, ◌++◌, ◌+◌}
use Rattle.tk_input.specs.declared.event.Event.{Event}
use Rattle.std.specs.Prelude.{List, ℕ, map, flat_map}
use Rattle.std.specs.List.{range_with_len}
use Rattle.tk_world.specs.Events.{raise_at}
use Rattle.tk_drain.specs.Drive.{raises_of}
use Rattle.tk_drain.proofs.PartLemmas.{monitor_more}
use Rattle.tk_drain.proofs.parts.parts_of.Goals as goal

pub loop-j-preserved : goal.loop-j-preserved
loop-j-preserved c =
    c.in_ok-push_parts.ensures
    ∙ ap (λ (es : List Event). es ++ map (raise_at (c.loop-j.j + 1)) (range_with_len 1 c.feeders.result)) c.loop-j.invariant
    ∙ ap (λ (n : ℕ). flat_map (raises_of c.args.logs.now) (range_with_len 1 c.loop-j.j) ++ map (raise_at (c.loop-j.j + 1)) (range_with_len 1 n)) c.feeders.ensures.value
    ∙ sym (monitor_more c.args.logs.now c.loop-j.j)
