use Rattle.std.proofs.Common.{subst, List}
use Rattle.tk_journal.specs.Legal.{IsLegal, start}
use Rattle.tk_journal.specs.declared.noted.Noted.{Noted}
use Rattle.tk_story.proofs.headline.a_story_is_sound_so_far.Goals as goal

pub returns : goal.returns
returns c = λ s h. record {
  quiet = λ t at quiet. c.quiet_is_valid.ensures t (c.a_moment_is_a_story.ensures t s h at) quiet;
  published = λ before after p is. c.published_is_valid.ensures s before after p h is;
  numbered = c.publications_are_numbered.ensures (start s.settings) s.journal h.journal_legal;
  forward = λ x y z p q mon i is monitor. c.publications_never_go_back.ensures (start s.settings) x y z p q mon i (subst (λ (j : List Noted). IsLegal (start s.settings) j) is h.journal_legal) monitor;
  legal = h;
}
