-- What a fresh Report that finds no round open can be dealt over, and its step.
use Rattle.std.proofs.Common.{◌≡◌, List, [], ◌∷◌, None, refl, sym, subst}
use Rattle.std.specs.Prelude.{Result, Ok, Err, IfOk}
use Rattle.std.proofs.lemmas.List.Elements.{All-head}
use Rattle.tk_base.specs.Pairs.{objects_of}
use Rattle.tk_base.specs.Settings.{Setup}
use Rattle.tk_frames.specs.declared.frame.Frame.{Frame}
use Rattle.tk_alloc.specs.Limit.{CanDeal}
use Rattle.tk_alloc.specs.Resolving.{CanTakePart}
use Rattle.tk_alloc.specs.declared.reported.Reported.{Reported}
use Rattle.tk_journal.specs.Laws.{IsMonitor}
use Rattle.tk_journal.specs.Readings.{assigns_sent, in_force, members_at, table_at}
use Rattle.tk_journal.specs.Refusal.{refusal_of}
use Rattle.tk_journal.specs.declared.noted.Noted.{Noted}
use Rattle.tk_journal.proofs.Dealable.{report_dealable}
use Rattle.tk_coord.specs.Coordinator.{IsJournal}
use Rattle.tk_coord.specs.Grounds.{IsAnswered, IsGrounded}
use Rattle.tk_coord.specs.Steps.{Follows, IsCounted, IsStep, Tells, report_frame}
use Rattle.tk_coord.specs.declared.outcomes.Grounds.{Grounds}
use Rattle.tk_coord.specs.declared.step.Step.{Step}
use Rattle.tk_coord.specs.declared.step.Statement.TheVariants as stated
use Rattle.tk_coord.proofs.GroundLemmas.{grounds_are, holds_over}
use Rattle.tk_coord.proofs.GrowLemmas.{orderly_at}
use Rattle.tk_coord.proofs.TellLemmas.{report_tells}

-- what holds of a result for two reasons
pub both_ok : {A E : Type 0} (P Q R : A → Type 0) (r : Result A E) → ((x : A) → P x → Q x → R x) → IfOk r P → IfOk r Q → IfOk r R
both_ok P Q R (Ok x) both p q = both x p q
both_ok P Q R (Err e) both p q = tt

-- a fresh Report can be dealt over, by the readings of the journal
can_deal : (s : Setup) (j : List Noted) (report : Reported) (frame : Frame) → IsJournal s j → IsAnswered s j frame report
    → CanDeal (in_force s j) (table_at s j) (members_at j) (objects_of report.values) (report ∷ [])
can_deal s j report frame h a =
    subst (λ (q : Setup). CanDeal (in_force q j) (table_at q j) (members_at j) (objects_of report.values) (report ∷ [])) h.settings
    (report_dealable h.opening j report.mon.0 (assigns_sent report.mon.0 j) report.border a.failed report.values h.set_up h.legal
    (subst (λ (q : Setup). IsMonitor q report.mon.0) (sym h.settings) a.range)
    (subst (λ (q : Setup). refusal_of q j report.mon.0 (report_frame j report a.failed) ≡ None) (sym h.settings) a.taken) refl)

-- and by the fields that the coordinator keeps
pub deals : (s : Setup) (j : List Noted) (g : Grounds) (report : Reported) (frame : Frame) → IsGrounded s j g → IsAnswered s j frame report
    → CanDeal g.phase.settings g.board.now.table g.board.now.members (objects_of report.values) (report ∷ [])
deals s j g report frame h a =
    holds_over (λ q t ms. CanDeal q t ms (objects_of report.values) (report ∷ [])) s j g.phase.settings g.board.now.table g.board.now.members (grounds_are s j g h) (can_deal s j report frame h.journal a)

-- its Report takes part in what is dealt
pub takes_part : (s : Setup) (j : List Noted) (g : Grounds) (report : Reported) (frame : Frame) → IsGrounded s j g → IsAnswered s j frame report
    → CanTakePart g.board.now.table g.board.now.members (objects_of report.values) report
takes_part s j g report frame h a = All-head (CanTakePart g.board.now.table g.board.now.members (objects_of report.values)) report [] (deals s j g report frame h a).take

-- its step, by what follows it and how it counts
pub report_step : (s : Setup) (j : List Noted) (report : Reported) (frame : Frame) (step : Step) → IsJournal s j → (a : IsAnswered s j frame report) → step.statement ≡ stated.Report
    → Follows s j report.mon (report_frame j report a.failed) step.outcome
    → IsCounted s j report.mon.0 (report_frame j report a.failed) step.turn.kind step.turn.fails step.turn.widens → IsStep s j report.mon frame step
report_step s j report frame step h a tells follows counts =
    subst (λ (x : Frame). IsStep s j report.mon x step) (sym a.is) (record {
      told = subst (Tells s j report.mon (report_frame j report a.failed)) (sym tells)
          (report_tells s j report.mon (assigns_sent report.mon.0 j) report.border a.failed report.values (orderly_at s j h) a.taken refl);
      outcome = follows;
      counted = counts;
    })
