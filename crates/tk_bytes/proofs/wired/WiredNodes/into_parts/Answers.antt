use Rattle.std.proofs.Common.{◌∙◌, map, ap}
use Rattle.tk_world.specs.Nodes.{NodesView}
use Rattle.tk_world.specs.declared.seat.Seat.{Seat}
use Rattle.tk_bytes.proofs.WiredLemmas.{monitors_again}
use Rattle.tk_bytes.proofs.wired.WiredNodes.into_parts.Goals as goal

pub returns-in-Ok-clause-monitors : goal.returns-in-Ok-clause-monitors
returns-in-Ok-clause-monitors c =
    c.in-Ok.ensures ∙ monitors_again c.self.inside.lines.items ∙ ap (λ (v : NodesView). map (λ (seat : Seat). seat.monitor) v.seats) c.self.view_is
