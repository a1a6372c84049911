use Rattle.std.proofs.Common.{◌∙◌, ℕ}
use Rattle.std.specs.Prelude.{ℤ}
use Rattle.tk_watch.proofs.BalanceLemmas.{noted_balanced, windows_noted}
use Rattle.tk_watch.proofs.EndsLemmas.{ends_noted}
use Rattle.tk_watch.proofs.NamedLemmas.{tells_named}
use Rattle.tk_watch.proofs.cell.Watched.tell.Goals as goal

pub invariant_of-self : goal.invariant_of-self
invariant_of-self g c =
    let s = c.args.self.now in
    let change : ℕ × ℤ = (c.args.change.obj.0, c.args.change.by) in
    let tells = c.tell-told.ensures in
    let notes = c.note_told.ensures in
    record {
      named_is = tells_named s.watch c.tell-told.new.self c.args.f change c.tell-told.result c.monitor.ensures.kept tells ∙ s.named_is;
      are_windows = windows_noted _ s.windows c.note_told.new.self c.args.f.0 change c.tell-told.result s.are_windows notes;
      balanced = noted_balanced _ s.watch c.tell-told.new.self s.windows c.note_told.new.self c.args.f change c.tell-told.result s.named_is c.monitor.ensures.kept s.are_windows c.requires.from_one c.requires.stream c.requires.object tells notes s.balanced;
      are_ends = ends_noted _ _ s.windows c.note_told.new.self s.ends c.args.f.0 c.args.change c.tell-told.result c.requires.from_one c.requires.object s.are_ends notes;
    }
