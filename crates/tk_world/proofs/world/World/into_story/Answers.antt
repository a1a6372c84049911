use Rattle.std.proofs.Common.{List, ap₂, sym, subst, ◌∙◌}
use Rattle.tk_input.specs.declared.event.Event.{Event}
use Rattle.tk_story.specs.Story.{IsStory, StoryView}
use Rattle.tk_world.proofs.NodesLemmas.{parts_are}
use Rattle.tk_world.proofs.world.World.into_story.Goals as goal

pub of-requires-clause-settings : goal.of-requires-clause-settings
of-requires-clause-settings g c = sym c.settings-settings.ensures

pub of-requires-clause-story : goal.of-requires-clause-story
of-requires-clause-story g c =
    let w = c.self.inside in
    let parts = c.in-Ok.parts in
    subst IsStory (sym (parts_are (g.N.Nodes.seen w.nodes) w.logs w.from parts.0 parts.1.items c.settings-settings.result.now c.settings-settings.ensures c.in-Ok.ensures.coordinator c.in-Ok.ensures.monitors)) c.self.invariant.story

pub returns : goal.returns
returns g c =
    let w = c.self.inside in
    let parts = c.in-Ok.parts in
    ap₂ (λ (s : StoryView) (es : List Event). record { story = s; events = es })
    (c.of.ensures.story ∙ parts_are (g.N.Nodes.seen w.nodes) w.logs w.from parts.0 parts.1.items c.settings-settings.result.now c.settings-settings.ensures c.in-Ok.ensures.coordinator c.in-Ok.ensures.monitors)
    (c.of.ensures.events ∙ c.into_events.ensures)
    ∙ c.self.view_is
