use Rattle.std.proofs.Common.{◌∙◌}
use Rattle.tk_watch.proofs.BalanceLemmas.{begun_balanced}
use Rattle.tk_watch.proofs.NamedLemmas.{begins_named}
use Rattle.tk_watch.proofs.cell.Watched.begin.Goals as goal

pub invariant_of-self-2 : goal.invariant_of-self-2
invariant_of-self-2 g c =
    let s = c.args.self.now in
    record {
      named_is = begins_named s.watch c.begin.new.self c.counts.ensures.kept c.in_ok-begin.ensures.ok ∙ s.named_is;
      are_windows = s.are_windows;
      are_ends = s.are_ends;
      balanced = begun_balanced s.watch c.begin.new.self s.windows c.counts.ensures.kept c.in_ok-begin.ensures.ok s.balanced;
    }
