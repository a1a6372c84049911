use Rattle.std.proofs.Common.{rules, ◌≡◌, ℕ, ◌∙◌, List, sym, subst}
use Rattle.std.specs.Prelude.{ℤ, replicate}
use Rattle.tk_input.specs.Logs.{AreParts}
use Rattle.tk_watch.specs.Fresh.{IsUncounted}
use Rattle.tk_watch.specs.Watch.{IsWatch, WatchView}
use Rattle.tk_watch.proofs.BeginningLemmas.{fresh_uncounted}
use Rattle.tk_watch.proofs.FreshLemmas.{are_unfed, fresh_by, fresh_is}
use Rattle.tk_watch.proofs.watch.Watch.new.Goals as goal

pub new-requires-clause-parts : goal.new-requires-clause-parts
new-requires-clause-parts g c =
    subst (λ (ps : List (List (ℕ × ℤ))). AreParts c.args.settings.now.objects ps) (sym c.in_ok-parts.ensures)
    (are_unfed c.args.settings.now c.args.streams c.requires.settings c.requires.streams.0 c.requires.streams.1)

pub invariant_of-result : goal.invariant_of-result
invariant_of-result g c =
    let settings = c.args.settings.now in
    let zeros : c.in_ok-from_elem.field-0.items ≡ replicate c.args.streams 0 = (search rules) in
    let none : c.in_ok-counts.counts.items ≡ replicate c.args.streams 0 = (search rules) in
    subst (λ (v : WatchView _). IsWatch v)
    (sym (fresh_by settings c.args.number.0 c.args.streams c.args.run c.args.version c.idle.result c.in_ok-monitor.monitor c.in_ok-parts.parts.items _ c.in_ok-counts.counts.items
    c.idle.ensures c.in_ok-monitor.ensures.ok c.in_ok-parts.ensures (c.new-from.ensures ∙ zeros) none))
    (fresh_is settings c.args.number.0 c.args.streams c.args.run c.args.version c.requires.settings c.requires.number.0 c.requires.number.1 c.requires.streams.0 c.requires.streams.1 c.requires.version)

pub returns-clause-uncounted : goal.returns-clause-uncounted
returns-clause-uncounted g c =
    let settings = c.args.settings.now in
    let zeros : c.in_ok-from_elem.field-0.items ≡ replicate c.args.streams 0 = (search rules) in
    let none : c.in_ok-counts.counts.items ≡ replicate c.args.streams 0 = (search rules) in
    subst (λ (v : WatchView _). IsUncounted v)
    (sym (fresh_by settings c.args.number.0 c.args.streams c.args.run c.args.version c.idle.result c.in_ok-monitor.monitor c.in_ok-parts.parts.items _ c.in_ok-counts.counts.items
    c.idle.ensures c.in_ok-monitor.ensures.ok c.in_ok-parts.ensures (c.new-from.ensures ∙ zeros) none))
    (fresh_uncounted g.row.W.Denot settings c.args.number.0 c.args.streams c.args.run c.args.version)
