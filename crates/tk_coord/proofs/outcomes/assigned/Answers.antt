use Rattle.std.proofs.Common.{refl, ap, ◌∙◌, subst}
use Rattle.std.specs.List.{All}
use Rattle.tk_journal.specs.Entries.{IsEntryOf}
use Rattle.tk_coord.specs.Dealing.{assigns_over}
use Rattle.tk_coord.proofs.OutcomesLemmas.{decides_same}
use Rattle.tk_coord.proofs.outcomes.assigned.Goals as goal

pub returns-clause-assigns : goal.returns-clause-assigns
returns-clause-assigns c grid decided is = record {
  change = c.args.reallocation;
  decides = is;
  reply = refl;
  sends = c.in_ok-entries.ensures.value ∙ ap (assigns_over c.args.peers.now) (decides_same grid decided c.args.reallocation is);
  room = c.in_ok-entries.ensures.room;
  holds = refl;
}

pub returns-clause-entries : goal.returns-clause-entries
returns-clause-entries c n = subst (λ m. All (IsEntryOf m n) c.in_ok-entries.entries.items) c.requires.count (c.in_ok-entries.ensures.entries n)
