use Rattle.std.proofs.Common.{get_or}
use Rattle.tk_input.specs.Logs.{beginnings}
use Rattle.tk_session.specs.Order.{stretches}
use Rattle.tk_run.proofs.SessionsLemmas.{last_legal, last_over}
use Rattle.tk_run.proofs.headline.sessions_are_sound.Goals as goal

pub returns : goal.returns
returns c = λ settings logs order stories chain.
    let legal = c.each_session_is_legal.ensures settings logs (beginnings logs) stories chain.chain in record {
      each = λ i d within. c.a_story_is_sound_so_far.ensures (get_or stories i d).story (legal i d within);
      last = λ front last is. c.a_finished_run_is_sound.ensures.over last.story (last_legal stories legal front last is) (last_over (stretches order) stories chain.kept front last is);
    }
