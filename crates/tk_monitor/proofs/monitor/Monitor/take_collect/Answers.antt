use Rattle.std.proofs.Common.{◌≡◌, ◌<◌, ◌∷◌, ◌++◌, [], ◌∙◌, List, length, None, ap, ap₂, sym, subst, arith}
use Rattle.tk_frames.specs.declared.frame.Frame.{Frame}
use Rattle.tk_frames.specs.declared.frame.Frame.TheVariants as f
use Rattle.tk_trail.specs.Setup.{MonitorSetup}
use Rattle.tk_trail.specs.Refusal.{refusal_of}
use Rattle.tk_trail.specs.Legal.{after_take}
use Rattle.tk_trail.specs.declared.entry.Entry.{Entry}
use Rattle.tk_trail.specs.declared.entry.Entry.TheVariants as e
use Rattle.tk_monitor.specs.Board.{BoardView}
use Rattle.tk_monitor.specs.Trail.{TrailView}
use Rattle.tk_monitor.specs.Monitored.{MonitorView}
use Rattle.tk_monitor.specs.declared.phase.Phase.{Phase}
use Rattle.tk_trail.specs.Frames.{values_at}
use Rattle.tk_border.specs.Levels.{holds}
use Rattle.tk_trail.proofs.LegalLemmas.{legal_members}
use Rattle.tk_monitor.specs.Kept.{values_frame}
use Rattle.tk_monitor.proofs.KeptLemmas.{kept_size}
use Rattle.tk_monitor.proofs.TakeLemmas.{kept_collect, collect_passes, values_answer}
use Rattle.tk_monitor.proofs.monitor.Monitor.take_collect.Goals as goal

pub values-answer-requires-clause-members : goal.values-answer-requires-clause-members
values-answer-requires-clause-members c =
    let inside = c.self.inside in
    let kept = c.self.invariant in
    let setup : MonitorSetup = record { number = inside.number.0; objects = inside.settings.objects; parts = inside.parts.items; from = inside.from } in
    let trail : List Entry = inside.trail.entries in
    let frame = f.Collect c.args.round c.args.objects in
    let none : refusal_of setup trail frame ≡ None = subst (λ (m : MonitorView). refusal_of m.setup m.trail frame ≡ None) (sym c.self.view_is) c.requires in
    let passes = collect_passes setup trail c.args.round c.args.objects none in
    subst (λ (s : BoardView). 0 < length s.members) (sym kept.standing) (legal_members setup trail kept.legal.each passes.after_assign)

pub values-answer-requires-clause-asked : goal.values-answer-requires-clause-asked
values-answer-requires-clause-asked c k d below =
    let inside = c.self.inside in
    let kept = c.self.invariant in
    let setup : MonitorSetup = record { number = inside.number.0; objects = inside.settings.objects; parts = inside.parts.items; from = inside.from } in
    let trail : List Entry = inside.trail.entries in
    let frame = f.Collect c.args.round c.args.objects in
    let none : refusal_of setup trail frame ≡ None = subst (λ (m : MonitorView). refusal_of m.setup m.trail frame ≡ None) (sym c.self.view_is) c.requires in
    let passes = collect_passes setup trail c.args.round c.args.objects none in
    omega (arith, passes.within k d below, kept_size setup trail inside.board kept.standing)

pub entries-sent : (c : goal.After-sent) → c.sent.new.self.entries ≡ after_take (record { number = c.self.inside.number.0; objects = c.self.inside.settings.objects; parts = c.self.inside.parts.items; from = c.self.inside.from }) c.self.inside.trail.entries (f.Collect c.args.round c.args.objects)
entries-sent c =
    let inside = c.self.inside in
    let kept = c.self.invariant in
    let setup : MonitorSetup = record { number = inside.number.0; objects = inside.settings.objects; parts = inside.parts.items; from = inside.from } in
    let trail : List Entry = inside.trail.entries in
    let frame = f.Collect c.args.round c.args.objects in
    let none : refusal_of setup trail frame ≡ None = subst (λ (m : MonitorView). refusal_of m.setup m.trail frame ≡ None) (sym c.self.view_is) c.requires in
    let passes = collect_passes setup trail c.args.round c.args.objects none in
    let made : c.in-Ok-Ok.answer ≡ values_frame inside.board inside.phase.seq c.args.round c.args.objects = rw c.in-Ok-Ok.is-0 at c.values-answer.ensures in
    let answer : c.in-Ok-Ok.answer ≡ values_at setup (trail ++ e.Took frame ∷ []) c.args.round c.args.objects =
    made ∙ values_answer setup trail inside.board inside.phase.seq c.args.round c.args.objects kept.standing (ap (λ (p : Phase). p.seq) kept.phase_is) c.len.ensures.ascends passes.within in
    ap (λ (l : TrailView). l.entries) c.sent.ensures
    ∙ ap₂ (λ (es : List Entry) (sent : Frame). es ++ e.Sent sent ∷ [])
    (ap (λ (l : TrailView). l.entries) c.took.ensures ∙ ap₂ (λ (es : List Entry) (took : Frame). es ++ e.Took took ∷ []) c.reserve.ensures.entries c.in_ok-took.ensures.ok)
    answer

pub invariant_of-self-2 : goal.invariant_of-self-2
invariant_of-self-2 c =
    let inside = c.self.inside in
    let kept = c.self.invariant in
    let setup : MonitorSetup = record { number = inside.number.0; objects = inside.settings.objects; parts = inside.parts.items; from = inside.from } in
    let trail : List Entry = inside.trail.entries in
    let frame = f.Collect c.args.round c.args.objects in
    let none : refusal_of setup trail frame ≡ None = subst (λ (m : MonitorView). refusal_of m.setup m.trail frame ≡ None) (sym c.self.view_is) c.requires in
    kept_collect setup inside.trail c.sent.new.self inside.board inside.next.items inside.phase c.args.round c.args.objects kept none (entries-sent c)
    (ap (λ (l : TrailView). l.raises) c.sent.ensures ∙ ap (λ (l : TrailView). l.raises) c.took.ensures ∙ c.reserve.ensures.raises)

pub returns-clause-ok : goal.returns-clause-ok
returns-clause-ok c =
    let inside = c.self.inside in
    let kept = c.self.invariant in
    let setup : MonitorSetup = record { number = inside.number.0; objects = inside.settings.objects; parts = inside.parts.items; from = inside.from } in
    let trail : List Entry = inside.trail.entries in
    ap (λ (es : List Entry). record { settings = inside.settings; setup = setup; trail = es }) (entries-sent c)
    ∙ ap (λ (m : MonitorView). record m { trail = after_take m.setup m.trail (f.Collect c.args.round c.args.objects) }) c.self.view_is

pub returns-clause-legal : goal.returns-clause-legal
returns-clause-legal c = (invariant_of-self-2 c).legal

pub values-answer-requires-clause-held : goal.values-answer-requires-clause-held
values-answer-requires-clause-held c =
    let inside = c.self.inside in
    let kept = c.self.invariant in
    let setup : MonitorSetup = record { number = inside.number.0; objects = inside.settings.objects; parts = inside.parts.items; from = inside.from } in
    let trail : List Entry = inside.trail.entries in
    let frame = f.Collect c.args.round c.args.objects in
    let none : refusal_of setup trail frame ≡ None = subst (λ (m : MonitorView). refusal_of m.setup m.trail frame ≡ None) (sym c.self.view_is) c.requires in
    let passes = collect_passes setup trail c.args.round c.args.objects none in
    ap (λ (s : BoardView). holds c.args.objects s.members) kept.standing ∙ passes.held
