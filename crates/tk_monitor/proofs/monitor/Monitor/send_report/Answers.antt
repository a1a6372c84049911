use Rattle.std.proofs.Common.{◌≡◌, ◌∷◌, ◌++◌, [], ◌∙◌, List, true, ap, ap₂, sym, subst}
use Rattle.tk_frames.specs.declared.frame.Frame.{Frame}
use Rattle.tk_trail.specs.Setup.{MonitorSetup}
use Rattle.tk_trail.specs.Frames.{report_at, report_is_due}
use Rattle.tk_trail.specs.declared.entry.Entry.{Entry}
use Rattle.tk_trail.specs.declared.entry.Entry.TheVariants as e
use Rattle.tk_monitor.specs.Trail.{TrailView}
use Rattle.tk_monitor.specs.Kept.{report_on}
use Rattle.tk_monitor.specs.Monitored.{MonitorView}
use Rattle.tk_monitor.specs.declared.phase.Phase.{Phase}
use Rattle.tk_monitor.proofs.BoardLemmas.{some_members}
use Rattle.tk_monitor.proofs.MessageLemmas.{report-standing}
use Rattle.tk_monitor.proofs.KeptLemmas.{kept_reported, kept_broken, due_broken}
use Rattle.tk_monitor.proofs.monitor.Monitor.send_report.Goals as goal

pub report-requires : goal.report-requires
report-requires c =
    let inside = c.self.inside in
    let kept = c.self.invariant in
    let setup : MonitorSetup = record { number = inside.number.0; objects = inside.settings.objects; parts = inside.parts.items; from = inside.from } in
    let trail : List Entry = inside.trail.entries in
    let due : report_is_due setup trail ≡ true = subst (λ (m : MonitorView). report_is_due m.setup m.trail ≡ true) (sym c.self.view_is) c.requires in
    some_members inside.board.levels inside.board.members (kept_broken setup trail inside.board kept.standing ∙ due_broken setup trail due)

pub entries-sent : (c : goal.After-self-1) → c.sent.new.self.entries ≡ c.self.inside.trail.entries ++ e.Sent (report_at (record { number = c.self.inside.number.0; objects = c.self.inside.settings.objects; parts = c.self.inside.parts.items; from = c.self.inside.from }) c.self.inside.trail.entries) ∷ []
entries-sent c =
    let inside = c.self.inside in
    let kept = c.self.invariant in
    let setup : MonitorSetup = record { number = inside.number.0; objects = inside.settings.objects; parts = inside.parts.items; from = inside.from } in
    let trail : List Entry = inside.trail.entries in
    let frame : c.in_ok-frame.frame ≡ report_at setup trail =
    c.in_ok-frame.ensures ∙ ap₂ report_on kept.standing (ap (λ (p : Phase). p.seq) kept.phase_is) ∙ report-standing setup trail in
    ap (λ (l : TrailView). l.entries) c.sent.ensures ∙ ap₂ (λ (es : List Entry) (sent : Frame). es ++ e.Sent sent ∷ []) c.reserve.ensures.entries frame

pub invariant_of-self-2 : goal.invariant_of-self-2
invariant_of-self-2 c =
    let inside = c.self.inside in
    let kept = c.self.invariant in
    let setup : MonitorSetup = record { number = inside.number.0; objects = inside.settings.objects; parts = inside.parts.items; from = inside.from } in
    let trail : List Entry = inside.trail.entries in
    let due : report_is_due setup trail ≡ true = subst (λ (m : MonitorView). report_is_due m.setup m.trail ≡ true) (sym c.self.view_is) c.requires in
    kept_reported setup inside.trail c.sent.new.self inside.board inside.next.items inside.phase kept due (entries-sent c)
    (ap (λ (l : TrailView). l.raises) c.sent.ensures ∙ c.reserve.ensures.raises)

pub returns-clause-ok : goal.returns-clause-ok
returns-clause-ok c =
    let inside = c.self.inside in
    let kept = c.self.invariant in
    let setup : MonitorSetup = record { number = inside.number.0; objects = inside.settings.objects; parts = inside.parts.items; from = inside.from } in
    let trail : List Entry = inside.trail.entries in
    ap (λ (es : List Entry). record { settings = inside.settings; setup = setup; trail = es }) (entries-sent c)
    ∙ ap (λ (m : MonitorView). record m { trail = m.trail ++ e.Sent (report_at m.setup m.trail) ∷ [] }) c.self.view_is

pub returns-clause-legal : goal.returns-clause-legal
returns-clause-legal c = (invariant_of-self-2 c).legal
