-- What a world is where an event found no memory.
use Rattle.std.proofs.Common.{◌≡◌, ℕ, List, ap₂, sym, subst, ◌∙◌}
use Rattle.tk_input.specs.Logs.{LogSet}
use Rattle.tk_input.specs.declared.event.Event.{Event}
use Rattle.tk_story.specs.Kept.{KeptStory}
use Rattle.tk_story.specs.Story.{IsStory}
use Rattle.tk_world.specs.Nodes.{NodesView}
use Rattle.tk_world.specs.Seats.{HoldsWith, story_with}
use Rattle.tk_world.specs.declared.work.Work.{Work}

pub same_story : (v after : NodesView) (logs : LogSet) (from : List (List ℕ)) (events later : List Event) (before : KeptStory) → after ≡ v → later ≡ events
    → record { story = story_with v logs from; events = events } ≡ before → record { story = story_with after logs from; events = later } ≡ before
same_story v after logs from events later before same kept is =
    ap₂ (λ (z : NodesView) (es : List Event). record { story = story_with z logs from; events = es }) same kept ∙ is

pub holds_still : (v after : NodesView) (logs : LogSet) (from : List (List ℕ)) (raises later : ℕ) (work : Work) → after ≡ v → later ≡ raises
    → HoldsWith v logs from raises work → HoldsWith after logs from later work
holds_still v after logs from raises later work same kept holds =
    subst (λ (z : NodesView). HoldsWith z logs from later work) (sym same) (subst (λ (r : ℕ). HoldsWith v logs from r work) (sym kept) holds)

pub legal_still : (v after : NodesView) (logs : LogSet) (from : List (List ℕ)) → after ≡ v → IsStory (story_with v logs from) → IsStory (story_with after logs from)
legal_still v after logs from same legal = subst (λ (z : NodesView). IsStory (story_with z logs from)) (sym same) legal
