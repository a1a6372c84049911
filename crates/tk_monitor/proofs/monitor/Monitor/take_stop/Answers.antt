use Rattle.std.proofs.Common.{◌≡◌, ◌∷◌, ◌++◌, [], ◌∙◌, List, None, ap, ap₂, sym, subst}
use Rattle.tk_frames.specs.declared.frame.Frame.{Frame}
use Rattle.tk_frames.specs.declared.frame.Frame.TheVariants as f
use Rattle.tk_trail.specs.Setup.{MonitorSetup}
use Rattle.tk_trail.specs.Refusal.{refusal_of}
use Rattle.tk_trail.specs.declared.entry.Entry.{Entry}
use Rattle.tk_trail.specs.declared.entry.Entry.TheVariants as e
use Rattle.tk_monitor.specs.Trail.{TrailView}
use Rattle.tk_monitor.specs.Monitored.{MonitorView}
use Rattle.tk_monitor.proofs.TakeLemmas.{kept_stop}
use Rattle.tk_monitor.proofs.monitor.Monitor.take_stop.Goals as goal

pub invariant_of-self-2 : goal.invariant_of-self-2
invariant_of-self-2 c =
    let inside = c.self.inside in
    let kept = c.self.invariant in
    let setup : MonitorSetup = record { number = inside.number.0; objects = inside.settings.objects; parts = inside.parts.items; from = inside.from } in
    let trail : List Entry = inside.trail.entries in
    let passes : refusal_of setup trail f.Stop ≡ None = subst (λ (m : MonitorView). refusal_of m.setup m.trail f.Stop ≡ None) (sym c.self.view_is) c.requires in
    kept_stop setup inside.trail c.took.new.self inside.board inside.next.items inside.phase kept passes
    (ap (λ (l : TrailView). l.entries) c.took.ensures ∙ ap₂ (λ (es : List Entry) (frame : Frame). es ++ e.Took frame ∷ []) c.reserve.ensures.entries c.in_ok-took.ensures.ok)
    (ap (λ (l : TrailView). l.raises) c.took.ensures ∙ c.reserve.ensures.raises)

pub returns-clause-legal : goal.returns-clause-legal
returns-clause-legal c = (invariant_of-self-2 c).legal
