use Rattle.tk_run.specs.Sessions.{lines_in}
use Rattle.tk_run.proofs.SessionsLemmas.{are_named}
use Rattle.tk_run.proofs.sessions.stories_of.Goals as goal

pub returns-clause-names : goal.returns-clause-names
returns-clause-names c =
    let input = c.args.input in
    are_named input.names input.settings input.logs (lines_in input.order) c.in_ok-stories.stories.items c.requires.agreed.names c.in_ok-stories.ensures

pub returns-clause-stories : goal.returns-clause-stories
returns-clause-stories c =
    let input = c.args.input in record {
      chain = c.in_ok-stories.ensures;
      sound = c.sessions_are_sound.ensures input.settings input.logs (lines_in input.order) c.in_ok-stories.stories.items c.in_ok-stories.ensures;
    }
