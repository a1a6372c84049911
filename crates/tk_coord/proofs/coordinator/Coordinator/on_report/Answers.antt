use Rattle.std.proofs.Common.{FitsSigned, ◌≡◌, ℕ, ℤ, List, None, false, true, sym, ap, ◌∙◌, subst, arith}
use Rattle.std.specs.Int.{w128}
use Rattle.std.specs.Prelude.{nat_lt}
use Rattle.std.proofs.lemmas.Int.{ints, to_z-of_z}
use Rattle.std.proofs.lemmas.Bool.{ltb-true}
use Rattle.tk_base.specs.Settings.{Setup}
use Rattle.tk_base.specs.declared.ids.Mon.{Mon}
use Rattle.tk_frames.specs.declared.frame.Frame.{Frame}
use Rattle.tk_frames.specs.declared.frame.Frame.TheVariants as f
use Rattle.tk_alloc.specs.declared.reported.Reported.{Reported}
use Rattle.tk_journal.specs.Readings.{assigns_sent, is_open}
use Rattle.tk_journal.specs.Refusal.{refusal_of}
use Rattle.tk_journal.specs.declared.noted.Noted.{Noted}
use Rattle.tk_coord.specs.Coordinator.{CoordinatorView}
use Rattle.tk_coord.specs.Steps.{Follows, IsCounted, IsStep, Tells, report_frame}
use Rattle.tk_coord.specs.declared.step.Step.{Step}
use Rattle.tk_coord.specs.declared.step.Statement.{Statement}
use Rattle.tk_coord.specs.declared.step.Statement.TheVariants as stated
use Rattle.tk_journal.specs.declared.turn.TurnKind.TheVariants.{Note, Stale}
use Rattle.tk_coord.proofs.CountedTurns.{counts_quiet, noted_report_counts, stale_report_counts}
use Rattle.tk_coord.proofs.GrowLemmas.{orderly_at}
use Rattle.tk_journal.proofs.Turning.{fresh_seq}
use Rattle.std.proofs.lemmas.Bool.{eqb-true}
use Rattle.tk_coord.proofs.SettledTurns.{noted_report_follows, stale_report_follows}
use Rattle.tk_coord.proofs.TellLemmas.{report_stale, report_tells}
use Rattle.tk_coord.proofs.coordinator.Coordinator.on_report.Goals as goal

-- a step, by what its frame tells
step_of : (s : Setup) (j : List Noted) (mon : Mon) (frame : Frame) (t : Statement) (step : Step) → step.statement ≡ t → Tells s j mon frame t → Follows s j mon frame step.outcome
    → IsCounted s j mon.0 frame step.turn.kind step.turn.fails step.turn.widens → IsStep s j mon frame step
step_of s j mon frame t step is tells follows counts = record { told = subst (λ (x : Statement). Tells s j mon frame x) (sym is) tells; outcome = follows; counted = counts }

-- a Report that is not stale is fresh
fresh_of : (s : Setup) (j : List Noted) (mon : Mon) (seq : ℕ) (border : ℤ) (failed : List ℕ) (values : List (ℕ × ℤ)) → refusal_of s j mon.0 (f.Report seq border failed values) ≡ None
    → nat_lt seq (assigns_sent mon.0 j) ≡ false → seq ≡ assigns_sent mon.0 j
fresh_of s j mon seq border failed values none late = eqb-true seq (assigns_sent mon.0 j) (fresh_seq s j mon seq border failed values none late)

pub returns-then-is_stale : goal.returns-then-is_stale
returns-then-is_stale c =
    let s = c.args.self.now.settings in
    let j = c.args.self.now.journal in
    let mon = c.args.mon in
    let r = c.in-Report in
    let frame = f.Report r.seq r.border r.failed r.values in
    let none : refusal_of s j mon.0 frame ≡ None = subst (λ (x : Frame). refusal_of s j mon.0 x ≡ None) r.is c.requires.taken in
    let late : nat_lt r.seq (assigns_sent mon.0 j) ≡ true = sym c.is_stale.ensures.value ∙ c.if-is_stale.true in
    subst (λ (x : Frame). IsStep s j mon x c.quiet.result) (sym r.is)
    (step_of s j mon frame stated.Nothing c.quiet.result c.quiet.ensures.statement (report_stale s j mon r.seq r.border r.failed r.values (ltb-true r.seq (assigns_sent mon.0 j) late))
    (stale_report_follows s j mon r.seq r.border r.failed r.values c.quiet.result.outcome c.is_stale.ensures.journal c.requires.monitor none late c.quiet.ensures.entries c.quiet.ensures.reply c.quiet.ensures.phase)
    (counts_quiet s j mon.0 frame c.quiet.result.turn Stale c.quiet.ensures.turn (stale_report_counts s j mon.0 r.seq r.border r.failed r.values late)))

pub returns-then-self : goal.returns-then-self
returns-then-self c =
    let s = c.args.self.now.settings in
    let j = c.args.self.now.journal in
    let mon = c.args.mon in
    let r = c.in-Report in
    let q = c.quiet-then-self in
    let frame = f.Report r.seq r.border r.failed r.values in
    let none : refusal_of s j mon.0 frame ≡ None = subst (λ (x : Frame). refusal_of s j mon.0 x ≡ None) r.is c.requires.taken in
    let late : nat_lt r.seq (assigns_sent mon.0 j) ≡ false = sym c.is_stale.ensures.value ∙ c.if-is_stale.false in
    let opened : is_open s j ≡ true = sym (ap (λ (v : CoordinatorView). is_open v.settings v.journal) c.self.view_is) ∙ sym c.self.invariant.0.holds.round.waiting ∙ c.if-self.true in
    subst (λ (x : Frame). IsStep s j mon x q.result) (sym r.is)
    (step_of s j mon frame stated.Report q.result q.ensures.statement
    (report_tells s j mon r.seq r.border r.failed r.values (orderly_at s j c.is_stale.ensures.journal) none (fresh_of s j mon r.seq r.border r.failed r.values none late))
    (noted_report_follows s j mon r.seq r.border r.failed r.values q.result.outcome c.is_stale.ensures.journal c.requires.monitor none late opened q.ensures.entries q.ensures.reply q.ensures.phase)
    (counts_quiet s j mon.0 frame q.result.turn Note q.ensures.turn (noted_report_counts s j mon r.seq r.border r.failed r.values none late opened)))

-- the frame, by what it reports
frame_is : (j : List Noted) (seq : ℕ) (report : Reported) (border : ℤ) (failed : List ℕ) (values : List (ℕ × ℤ)) → seq ≡ assigns_sent report.mon.0 j → report.border ≡ border
    → report.values ≡ values → report_frame j report failed ≡ f.Report seq border failed values
frame_is j seq report border failed values fresh edge all =
    ap (λ (k : ℕ). f.Report k report.border failed report.values) (sym fresh) ∙ ap (λ (z : ℤ). f.Report seq z failed report.values) edge ∙ ap (λ (ps : List (ℕ × ℤ)). f.Report seq border failed ps) all

pub answered-requires : goal.answered-requires
answered-requires c =
    let s = c.args.self.now.settings in
    let j = c.args.self.now.journal in
    let mon = c.args.mon in
    let r = c.in-Report in
    let fits : FitsSigned w128 r.border = omega (arith, ints) in
    let none : refusal_of s j mon.0 (f.Report r.seq r.border r.failed r.values) ≡ None = subst (λ (x : Frame). refusal_of s j mon.0 x ≡ None) r.is c.requires.taken in
    let late : nat_lt r.seq (assigns_sent mon.0 j) ≡ false = sym c.is_stale.ensures.value ∙ c.if-is_stale.false in
    let is = frame_is j r.seq _ r.border r.failed r.values (fresh_of s j mon r.seq r.border r.failed r.values none late) (to_z-of_z w128 r.border fits) c.in_ok-try_clone.ensures in
    record {
      failed = r.failed;
      is = r.is ∙ sym is;
      range = c.requires.monitor;
      taken = subst (λ (x : Frame). refusal_of s j mon.0 x ≡ None) (sym is) none;
      closed = sym (ap (λ (v : CoordinatorView). is_open v.settings v.journal) c.self.view_is) ∙ sym c.self.invariant.0.holds.round.waiting ∙ c.if-self.false;
    }
