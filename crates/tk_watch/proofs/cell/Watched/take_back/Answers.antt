use Rattle.std.proofs.Common.{◌∙◌, ℕ}
use Rattle.std.specs.Prelude.{ℤ}
use Rattle.tk_watch.proofs.BalanceLemmas.{taken_balanced, windows_taken}
use Rattle.tk_watch.proofs.EndsLemmas.{ends_taken}
use Rattle.tk_watch.proofs.NamedLemmas.{tells_named}
use Rattle.tk_watch.proofs.cell.Watched.take_back.Goals as goal

pub invariant_of-self : goal.invariant_of-self
invariant_of-self g c =
    let s = c.args.self.now in
    let change : ℕ × ℤ = (c.args.change.obj.0, c.args.change.by) in
    let tells = c.tell-told.ensures in
    let takes = c.take_told.ensures in
    record {
      named_is = tells_named s.watch c.tell-told.new.self c.args.f change c.tell-told.result c.monitor.ensures.kept tells ∙ s.named_is;
      are_windows = windows_taken _ s.windows c.take_told.new.self c.args.f.0 c.tell-told.result s.are_windows takes;
      balanced = taken_balanced _ s.watch c.tell-told.new.self s.windows c.take_told.new.self c.args.f change c.tell-told.result c.monitor.ensures.kept s.are_windows c.requires.from_one c.requires.stream c.requires.next tells takes s.balanced;
      are_ends = ends_taken _ _ s.windows c.take_told.new.self s.ends c.args.f.0 c.tell-told.result c.requires.from_one s.are_ends takes;
    }
