use Rattle.std.proofs.Common.{◌≡◌, false, true, nat_lt, refl, sym, ◌∙◌, subst}
use Rattle.tk_base.proofs.BoolLemmas.{not_true, not_false}
use Rattle.tk_journal.specs.declared.turn.TurnKind.{TurnKind}
use Rattle.tk_journal.specs.Turns.{passes_at, streak}
use Rattle.tk_coord.specs.Steps.{IsCounted, IsStep, asks_wide, report_frame}
use Rattle.tk_coord.proofs.AnswerLemmas.{deals, report_step, takes_part}
use Rattle.tk_coord.proofs.CountedTurns.{full_counts, short_counts, tired_counts}
use Rattle.tk_coord.proofs.GroundLemmas.{entries_of, force_large}
use Rattle.tk_coord.proofs.OutcomesLemmas.{alone_can_end}
use Rattle.tk_coord.proofs.ReportTurns.{open_follows, same_test, short_follows, tired_follows}
use Rattle.tk_coord.proofs.coordinator.Coordinator.answered.Goals as goal

pub passes-requires-clause-ready : goal.passes-requires-clause-ready
passes-requires-clause-ready c = (deals c.args.self.now.settings c.args.self.now.journal c.grounds-grounds.result c.args.report c.args.frame.now c.grounds-grounds.ensures c.requires).ready

pub passes-requires-clause-report : goal.passes-requires-clause-report
passes-requires-clause-report c = takes_part c.args.self.now.settings c.args.self.now.journal c.grounds-grounds.result c.args.report c.args.frame.now c.grounds-grounds.ensures c.requires

pub end_short-requires : goal.end_short-requires
end_short-requires c =
    let s = c.args.self.now.settings in
    let j = c.args.self.now.journal in
    let g = c.grounds-grounds.result in
    let h = c.grounds-grounds.ensures in
    record {
      ready = (deals s j g c.args.report c.args.frame.now h c.requires).ready;
      takes = takes_part s j g c.args.report c.args.frame.now h c.requires;
      test = sym c.passes.ensures ∙ c.if-passes.true;
      count = h.are_peers.count ∙ sym (force_large s j g.phase.settings h.stands.settings).monitors;
    }

pub returns-then-passes : goal.returns-then-passes
returns-then-passes c =
    let s = c.args.self.now.settings in
    let j = c.args.self.now.journal in
    let report = c.args.report in
    let frame = c.args.frame.now in
    let g = c.grounds-grounds.result in
    let h = c.grounds-grounds.ensures in
    let a = c.requires in
    let o = c.in_ok-outcome.outcome in
    let ends = c.in_ok-outcome.ensures.ends in
    let test : passes_at s j report ≡ true = sym (same_test s j g report h) ∙ sym c.passes.ensures ∙ c.if-passes.true in
    subst (IsStep s j report.mon frame) (sym c.step.ensures) (report_step s j report frame _ h.journal a refl
    (short_follows s j g report frame o h a test ends (entries_of s j g.phase o.entries.items h.stands (c.in_ok-outcome.ensures.entries s.objects)))
    (subst (λ (k : TurnKind). IsCounted s j report.mon.0 (report_frame j report a.failed) k false (asks_wide o.reply)) (sym c.short_kind-kind.ensures) (short_counts s j g report frame o h a test ends)))

pub returns-then-is_tired : goal.returns-then-is_tired
returns-then-is_tired c =
    let s = c.args.self.now.settings in
    let j = c.args.self.now.journal in
    let report = c.args.report in
    let frame = c.args.frame.now in
    let g = c.grounds-grounds.result in
    let h = c.grounds-grounds.ensures in
    let a = c.requires in
    let o = c.in_ok-outcome-2.outcome in
    let opens = c.in_ok-outcome-2.ensures.opens in
    let test : passes_at s j report ≡ false = sym (same_test s j g report h) ∙ sym c.passes.ensures ∙ c.if-passes.false in
    let many : nat_lt (streak s j) 8 ≡ false = not_true (nat_lt (streak s j) 8) c.is_tired.result c.is_tired.ensures c.if-is_tired.true in
    subst (IsStep s j report.mon frame) (sym c.step-then-is_tired.ensures) (report_step s j report frame _ h.journal a refl
    (tired_follows s j g report frame o h a test many opens (entries_of s j g.phase o.entries.items h.stands (c.in_ok-outcome-2.ensures.entries s.objects)))
    (tired_counts s j g report frame o a test many opens))

pub open_full-requires : goal.open_full-requires
open_full-requires c =
    let s = c.args.self.now.settings in
    let j = c.args.self.now.journal in
    let report = c.args.report in
    let g = c.grounds-grounds.result in
    let h = c.grounds-grounds.ensures in
    alone_can_end g.phase.settings g.board.now.table g.board.now.members g.peers.now report (deals s j g report c.args.frame.now h c.requires).ready
    (takes_part s j g report c.args.frame.now h c.requires) (h.are_peers.count ∙ sym (force_large s j g.phase.settings h.stands.settings).monitors)

pub returns : goal.returns
returns c =
    let s = c.args.self.now.settings in
    let j = c.args.self.now.journal in
    let report = c.args.report in
    let frame = c.args.frame.now in
    let g = c.grounds-grounds.result in
    let h = c.grounds-grounds.ensures in
    let a = c.requires in
    let o = c.in_ok-outcome-3.outcome in
    let opens = c.in_ok-outcome-3.ensures.opens in
    let test : passes_at s j report ≡ false = sym (same_test s j g report h) ∙ sym c.passes.ensures ∙ c.if-passes.false in
    let few : nat_lt (streak s j) 8 ≡ true = not_false (nat_lt (streak s j) 8) c.is_tired.result c.is_tired.ensures c.if-is_tired.false in
    subst (IsStep s j report.mon frame) (sym c.step-2.ensures) (report_step s j report frame _ h.journal a refl
    (open_follows s j g report frame o h a test few opens (entries_of s j g.phase o.entries.items h.stands (c.in_ok-outcome-3.ensures.entries s.objects)))
    (full_counts s j g report frame o h a test few opens))
