use Rattle.std.proofs.Common.{subst, List}
use Rattle.tk_journal.specs.Legal.{IsLegal, start}
use Rattle.tk_journal.specs.declared.noted.Noted.{Noted}
use Rattle.tk_story.proofs.StoppedLemmas.{finished_is_stopped}
use Rattle.tk_story.proofs.headline.a_finished_run_is_sound.Goals as goal

pub returns-clause-finished : goal.returns-clause-finished
returns-clause-finished c = λ s h end.
    let set_up = c.a_start_is_set_up.ensures s.settings h.limits in record {
      quiet = λ t at quiet. c.quiet_is_valid.ensures t (c.a_moment_is_a_story.ensures t s h at) quiet;
      published = λ before after p is. c.published_is_valid.ensures s before after p h is;
      final = end;
      alone = c.stop_ends_the_journal.ensures (start s.settings) s.journal set_up h.journal_legal (finished_is_stopped s h end);
      numbered = c.publications_are_numbered.ensures (start s.settings) s.journal h.journal_legal;
      forward = λ x y z p q mon i is monitor. c.publications_never_go_back.ensures (start s.settings) x y z p q mon i (subst (λ (j : List Noted). IsLegal (start s.settings) j) is h.journal_legal) monitor;
      legal = h;
    }

pub returns-clause-over : goal.returns-clause-over
returns-clause-over c = λ s h over.
    returns-clause-finished c s h (record { front = over.front; final = over.final; is = over.is; last = over.last; cut = over.cut; valid = over.valid })
