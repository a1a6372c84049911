use Rattle.std.proofs.Common.{◌∙◌}
use Rattle.tk_session.proofs.CutLemmas.{can_run}
use Rattle.tk_session.proofs.sessions.next_world.Goals as goal

pub new-requires : goal.new-requires
new-requires c =
    let s = c.args.world.now.story in
    let h = c.settings-settings.ensures.legal in
    can_run s c.settings-settings.result.now c.in_ok-logs.logs c.in_ok-from.from c.settings-settings.ensures.value (c.in_ok-logs.ensures ∙ c.logs.ensures) c.in_ok-from.ensures h (c.a_story_ends_at_a_cut.ensures s h)
