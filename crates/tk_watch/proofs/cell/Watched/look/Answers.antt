use Rattle.std.proofs.Common.{◌∙◌}
use Rattle.tk_watch.proofs.BalanceLemmas.{turned_balanced}
use Rattle.tk_watch.proofs.NamedLemmas.{goes_on_as, has_ended, has_left}
use Rattle.tk_watch.proofs.TurningLemmas.{turned_named}
use Rattle.tk_watch.proofs.cell.Watched.look.Goals as goal

pub invariant_of-self : goal.invariant_of-self
invariant_of-self g c =
    let s = c.args.self.now in
    record {
      named_is = turned_named c.turn.result s.watch c.turn.new.self c.turn.ensures.turns ∙ s.named_is;
      are_windows = s.are_windows;
      are_ends = s.are_ends;
      balanced = turned_balanced c.turn.result s.watch c.turn.new.self s.windows c.turn.ensures.turns s.balanced;
    }

pub returns-in-Quiet : goal.returns-in-Quiet
returns-in-Quiet g c = goes_on_as _ c.args.self.now.watch c.turn.new.self c.args.self.now.named_is c.turn.ensures.kept (rw c.in-Quiet.is at c.turn.ensures.turns)

pub returns-in-Left : goal.returns-in-Left
returns-in-Left g c = has_left _ _ c.args.self.now.watch c.turn.new.self c.args.self.now.named_is c.turn.ensures.kept (rw c.in-Left.is at c.turn.ensures.turns)

pub returns-in_ok-from_slice-in-Stopped : goal.returns-in_ok-from_slice-in-Stopped
returns-in_ok-from_slice-in-Stopped g c =
    has_ended _ c.args.self.now.watch c.turn.new.self _ c.args.self.now.named_is c.turn.ensures.kept (rw c.in-Stopped.is at c.turn.ensures.turns) (c.in_ok-from_slice-in-Stopped.ensures.items ∙ c.counts.ensures.value)
