use Rattle.std.proofs.Common.{◌≡◌, ℕ, List, length, sym, ap, ◌∙◌, subst}
use Rattle.tk_base.specs.Settings.{Setup}
use Rattle.tk_monitor.specs.Monitored.{MonitorView}
use Rattle.tk_recent.specs.Kept.{Kept}
use Rattle.tk_watch.specs.Ends.{ends_for}
use Rattle.tk_watch.specs.Fresh.{windows_for}
use Rattle.tk_watch.specs.Watch.{Named}
use Rattle.tk_watch.specs.Windows.{AreBalanced, AreWindows}
use Rattle.tk_watch.proofs.BeginningLemmas.{fresh_are, fresh_balanced}
use Rattle.tk_watch.proofs.EndsLemmas.{ends_first}
use Rattle.tk_watch.proofs.cell.Watched.new.Goals as goal

pub invariant_of-result : goal.invariant_of-result
invariant_of-result g c =
    let named : Named = g.N.WatchName.named in
    let streams : length c.counts.result.now ≡ named.streams = ap (λ (ns : List ℕ). length ns) c.counts.ensures.value ∙ c.counts.ensures.kept.counts ∙ ap (λ (n : Named). n.streams) c.requires.named in
    let objects : c.objects-objects.result ≡ named.objects =
    c.objects-objects.ensures.value
    ∙ ap (λ (s : Setup). s.objects) c.settings.ensures.value
    ∙ sym c.settings.ensures.objects
    ∙ ap (λ (m : MonitorView). m.setup.objects) c.monitor.ensures.value
    ∙ ap (λ (n : Named). n.objects) c.requires.named in
    let same : c.in-Ok.windows ≡ windows_for c.args.window named.streams named.objects =
    c.in-Ok.ensures
    ∙ ap (λ n. windows_for c.args.window n c.objects-objects.result) streams
    ∙ ap (λ n. windows_for c.args.window named.streams n) objects in
    let are : AreWindows named c.in-Ok.windows = subst (λ (ks : List Kept). AreWindows named ks) (sym same) (fresh_are named c.args.window) in
    let balanced : AreBalanced c.args.watch.monitor c.in-Ok.windows = subst (λ (ks : List Kept). AreBalanced c.args.watch.monitor ks) (sym same) (fresh_balanced named c.args.watch c.args.window c.requires.uncounted) in
    record {
      named_is = c.requires.named;
      are_windows = are;
      balanced = balanced;
      are_ends =
          ends_first named c.args.watch c.args.window c.in-Ok.windows c.in-Ok-new.ends same
          (c.in-Ok-new.ensures ∙ ap (λ (ns : List ℕ). ends_for c.args.window ns) c.counts-2.ensures.value)
          c.requires.named c.counts.ensures.kept (c.counts.ensures.kept.counts ∙ ap (λ (n : Named). n.streams) c.requires.named) are balanced;
    }
