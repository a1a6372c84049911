use Rattle.std.proofs.Common.{◌∙◌, ap, sym}
use Rattle.tk_base.specs.Settings.{Setup}
use Rattle.tk_drain.specs.Drive.{events_in}
use Rattle.tk_input.specs.Logs.{beginnings}
use Rattle.tk_run.specs.Ends.{begun_by}
use Rattle.tk_run.proofs.playing.story_of.Goals as goal

pub returns-clause-sound : goal.returns-clause-sound
returns-clause-sound c = c.a_finished_run_is_sound.ensures.over c.in-Ok.story.story c.in-Ok.ensures.legal c.in-Ok.ensures.over

pub returns-clause-story : goal.returns-clause-story
returns-clause-story c =
    let input = c.args.input in
    let story = c.in-Ok.story in
    let reached = c.a_drive_is_reached.ensures.driven (events_in input.order) (begun_by input) story c.in-Ok.ensures.driven in
    record {
      runs = c.what_is_reached_runs.ensures input.settings input.logs (beginnings input.logs) story c.in-Ok.ensures.legal reached;
      driven = c.in-Ok.ensures.driven;
      over = c.in-Ok.ensures.over;
    }

pub returns-clause-names : goal.returns-clause-names
returns-clause-names c =
    let input = c.args.input in
    let story = c.in-Ok.story in
    let reached = c.a_drive_is_reached.ensures.driven (events_in input.order) (begun_by input) story c.in-Ok.ensures.driven in
    let ran = c.what_is_reached_runs.ensures input.settings input.logs (beginnings input.logs) story c.in-Ok.ensures.legal reached in
    c.requires.agreed.names ∙ ap (λ (s : Setup). s.objects) (sym ran.settings_is)
