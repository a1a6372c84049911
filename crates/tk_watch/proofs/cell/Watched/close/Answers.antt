use Rattle.std.proofs.Common.{◌∙◌}
use Rattle.tk_watch.proofs.BalanceLemmas.{closed_balanced}
use Rattle.tk_watch.proofs.NamedLemmas.{closes_named, streams_of}
use Rattle.tk_watch.proofs.cell.Watched.close.Goals as goal

pub invariant_of-self : goal.invariant_of-self
invariant_of-self g c =
    let s = c.args.self.now in
    record {
      named_is = closes_named s.watch c.close-raised.new.self c.args.ended.stream c.close-raised.result c.close-raised.ensures ∙ s.named_is;
      are_windows = s.are_windows;
      are_ends = s.are_ends;
      balanced = closed_balanced s.watch c.close-raised.new.self c.args.ended.stream c.close-raised.result s.windows c.monitor.ensures.kept c.requires.from_one (streams_of _ s.watch c.args.ended.stream.0 s.named_is c.requires.stream) c.close-raised.ensures s.balanced;
    }
