use Rattle.std.proofs.Common.{◌∙◌, IfOk, List, [], ℕ, ap, subst}
use Rattle.tk_story.specs.Kept.{KeptStory}
use Rattle.tk_drain.specs.Drive.{Drives, events_in}
use Rattle.tk_world.specs.Events.{begin}
use Rattle.tk_bytes.proofs.telling.byte_story.Goals as goal

-- the world began at the places in front of all changes
pub returns-clause-driven : goal.returns-clause-driven
returns-clause-driven c =
    let settings = c.args.settings in
    let logs = c.args.logs in
    let begins = c.in_ok-begun.ensures ∙ ap (λ (from : List (List ℕ)). record { story = begin settings logs from; events = [] }) c.in_ok-from.ensures.value in
    subst (λ (k : KeptStory). IfOk c.tell.result (λ (told : KeptStory). Drives (events_in c.args.order.now) k told)) begins c.tell.ensures.driven
