use Rattle.std.proofs.Common.{◌+◌, ap}
use Rattle.tk_base.specs.declared.ids.Mon.{Mon}
use Rattle.tk_alloc.specs.Parts.{monitor}
use Rattle.tk_alloc.specs.Terms.{border_by}
use Rattle.tk_alloc.proofs.DealtLemmas.{weights_are, dealt_to, changes_more}
use Rattle.tk_alloc.proofs.reallocating.all_changes.Goals as goal

pub loop-place-preserved : goal.loop-place-preserved
loop-place-preserved c =
    let terms = c.args.terms.now in
    let report = c.index-reports-place.result in
    changes_more c.args.table.now terms c.args.reports.now c.loop-place.at.items c.push.new.self.items c.loop-place.place report c.in_ok-changes_at.field-0
    c.loop-place-test.true c.index-reports-place.is (ap (λ (m : Mon). m.0) c.in_ok-changes_at.ensures.mon)
    (dealt_to c.args.table.now terms c.args.reports.now (monitor (border_by terms.borders report) report) (c.loop-place.place + 1) c.args.weights.now c.args.leeways.now c.in_ok-changes_at.field-0.changes
    (weights_are terms c.args.reports.now c.args.weights.now c.requires.weights) c.requires.leeways c.in_ok-changes_at.ensures.changes)
    c.in_ok-push.ensures.items c.loop-place.invariant
