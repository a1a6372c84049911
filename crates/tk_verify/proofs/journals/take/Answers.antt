use Rattle.std.proofs.Common.{refl, ap, arith, subst}
use Rattle.std.specs.Prelude.{OnOk}
use Rattle.tk_base.specs.Settings.{Setup}
use Rattle.tk_coord.specs.Coordinator.{CoordinatorView}
use Rattle.tk_frames.specs.declared.frame.Frame.{Frame}
use Rattle.tk_journal.specs.Legal.{IsLegal, start}
use Rattle.tk_journal.specs.declared.noted.Noted.TheVariants as n
use Rattle.tk_verify.specs.Driving.{Leads}
use Rattle.tk_verify.proofs.JournalLemmas.{refused_leads, strange, turned}
use Rattle.tk_verify.proofs.journals.take.Goals.{then-mon-eq0-via-then-mon-eq0, then-mon-eq0-via-else-mon-eq0+then-mon-monitors}
use Rattle.tk_verify.proofs.journals.take.Goals as goal

pub returns-then-mon-eq0-clause-leads : goal.returns-then-mon-eq0-clause-leads
returns-then-mon-eq0-clause-leads c =
    let old = c.args.coordinator.now in
    elim c.then-mon-eq0.branch [
      | then-mon-eq0-via-then-mon-eq0 w ↦ strange old.settings old.journal c.args.mon c.args.frame.now c.requires (λ low high. let none = w.if-mon-eq0.true in omega (arith, none, low))
      | then-mon-eq0-via-else-mon-eq0+then-mon-monitors w ↦
          strange old.settings old.journal c.args.mon c.args.frame.now c.requires (λ low high.
          let past = w.if-mon-monitors.true in
          let count = w.monitors.ensures.value in
          let same = ap (λ (s : Setup). s.monitors) w.settings.ensures in
          omega (arith, past, count, same, high))
    ]

pub returns-in-Ok-clause-leads : goal.returns-in-Ok-clause-leads
returns-in-Ok-clause-leads c =
    let old = c.args.coordinator.now in
    let new = c.take.new.self.journal in
    let frame = c.in_ok-frame.frame in
    subst (λ (f : Frame). Leads (IsLegal (start old.settings)) old.journal (n.Got c.args.mon f) new) c.in_ok-frame.ensures
    (turned (start old.settings) old.journal (n.Got c.args.mon frame) new refl (c.take.ensures.legal (start old.settings) refl c.requires) c.in-Ok.ensures.turn)

pub returns-in-Err-clause-leads : goal.returns-in-Err-clause-leads
returns-in-Err-clause-leads c =
    let old = c.args.coordinator.now in
    let new = c.take.new.self.journal in
    let frame = c.in_ok-frame.frame in
    subst (λ (f : Frame). OnOk c.unless_memory.result (Leads (IsLegal (start old.settings)) old.journal (n.Got c.args.mon f) new)) c.in_ok-frame.ensures
    (refused_leads old.settings old.journal c.args.mon frame c.in-Err.refusal new c.unless_memory.result c.requires (ap (λ (v : CoordinatorView). v.journal) c.in-Err.ensures.err.1) c.in-Err.ensures.refused c.unless_memory.ensures)
