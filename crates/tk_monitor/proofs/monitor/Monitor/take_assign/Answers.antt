use Rattle.std.proofs.Common.{◌≡◌, ℕ, ◌∷◌, ◌++◌, [], ◌∙◌, ◌==◌, List, None, ap, ap₂, sym, subst}
use Rattle.tk_frames.specs.declared.frame.Frame.{Frame}
use Rattle.tk_frames.specs.declared.frame.Frame.TheVariants as f
use Rattle.tk_trail.specs.Setup.{MonitorSetup}
use Rattle.tk_trail.specs.Readings.{at_ends}
use Rattle.tk_trail.specs.Refusal.{refusal_of}
use Rattle.tk_trail.specs.Legal.{after_take}
use Rattle.tk_trail.specs.declared.entry.Entry.{Entry}
use Rattle.tk_trail.specs.declared.entry.Entry.TheVariants as e
use Rattle.tk_monitor.specs.Board.{BoardView}
use Rattle.tk_monitor.specs.Trail.{TrailView}
use Rattle.tk_monitor.specs.Monitored.{MonitorView}
use Rattle.tk_monitor.specs.declared.phase.Phase.{Phase}
use Rattle.std.specs.Prelude.{ℤ}
use Rattle.tk_border.specs.Levels.{AreMembers}
use Rattle.tk_trail.specs.Frames.{answer_at}
use Rattle.tk_trail.proofs.PlacesLemmas.{places_at-took}
use Rattle.tk_trail.proofs.ReadingsLemmas.{seq_of-assign}
use Rattle.tk_monitor.specs.Board.{assigned, AreFactors}
use Rattle.tk_monitor.specs.Kept.{IsKept, standing_of}
use Rattle.tk_monitor.proofs.KeptLemmas.{kept_size, kept_ends, kept_broken}
use Rattle.tk_monitor.proofs.TakeLemmas.{assign_passes, kept_assigned, standing_assigned, answer_made, ends-took}
use Rattle.tk_monitor.proofs.monitor.Monitor.take_assign.Goals as goal

pub assign-requires-clause-members : goal.assign-requires-clause-members
assign-requires-clause-members c =
    let inside = c.self.inside in
    let kept = c.self.invariant in
    let setup : MonitorSetup = record { number = inside.number.0; objects = inside.settings.objects; parts = inside.parts.items; from = inside.from } in
    let trail : List Entry = inside.trail.entries in
    let frame = f.Assign c.args.seq c.args.members c.args.changes in
    let none : refusal_of setup trail frame ≡ None = subst (λ (m : MonitorView). refusal_of m.setup m.trail frame ≡ None) (sym c.self.view_is) c.requires in
    let passes = assign_passes setup trail c.args.seq c.args.members c.args.changes none in
    let mine : c.in-Ok-Ok.mine ≡ c.args.members = c.in-Ok-Ok.ensures in
    subst (λ (n : ℕ). AreMembers n c.in-Ok-Ok.mine) (sym (kept_size setup trail inside.board kept.standing))
    (subst (λ (os : List ℕ). AreMembers inside.settings.objects os) (sym mine) passes.members_are)

pub assign-requires-clause-factors : goal.assign-requires-clause-factors
assign-requires-clause-factors c =
    let inside = c.self.inside in
    let kept = c.self.invariant in
    let setup : MonitorSetup = record { number = inside.number.0; objects = inside.settings.objects; parts = inside.parts.items; from = inside.from } in
    let trail : List Entry = inside.trail.entries in
    let frame = f.Assign c.args.seq c.args.members c.args.changes in
    let none : refusal_of setup trail frame ≡ None = subst (λ (m : MonitorView). refusal_of m.setup m.trail frame ≡ None) (sym c.self.view_is) c.requires in
    let passes = assign_passes setup trail c.args.seq c.args.members c.args.changes none in
    let took : c.in_ok-took.took ≡ frame = c.in_ok-took.ensures.ok in
    let got : c.get.result.now ≡ c.in_ok-took.took = c.get.ensures in
    let is : c.get.result.now ≡ f.Assign c.in-Assign.seq c.in-Assign.members c.in-Assign.changes = c.in-Assign.is in
    let changes : c.in-Assign.changes ≡ c.args.changes = cc in
    subst (λ (n : ℕ). AreFactors n c.in-Assign.changes) (sym (kept_size setup trail inside.board kept.standing))
    (subst (λ (ps : List (ℕ × ℤ)). AreFactors inside.settings.objects ps) (sym changes) passes.factors_are)

changes-are : (c : goal.After-sent) → c.in-Assign.changes ≡ c.args.changes
changes-are c =
    let took : c.in_ok-took.took ≡ f.Assign c.args.seq c.args.members c.args.changes = c.in_ok-took.ensures.ok in
    let got : c.get.result.now ≡ c.in_ok-took.took = c.get.ensures in
    let is : c.get.result.now ≡ f.Assign c.in-Assign.seq c.in-Assign.members c.in-Assign.changes = c.in-Assign.is in
    cc

entries-sent : (c : goal.After-sent) → c.sent.new.self.entries ≡ after_take (record { number = c.self.inside.number.0; objects = c.self.inside.settings.objects; parts = c.self.inside.parts.items; from = c.self.inside.from }) c.self.inside.trail.entries (f.Assign c.args.seq c.args.members c.args.changes)
entries-sent c =
    let inside = c.self.inside in
    let kept = c.self.invariant in
    let setup : MonitorSetup = record { number = inside.number.0; objects = inside.settings.objects; parts = inside.parts.items; from = inside.from } in
    let trail : List Entry = inside.trail.entries in
    let frame = f.Assign c.args.seq c.args.members c.args.changes in
    let none : refusal_of setup trail frame ≡ None = subst (λ (m : MonitorView). refusal_of m.setup m.trail frame ≡ None) (sym c.self.view_is) c.requires in
    let passes = assign_passes setup trail c.args.seq c.args.members c.args.changes none in
    let taken = trail ++ e.Took frame ∷ [] in
    let mine : c.in-Ok-Ok.mine ≡ c.args.members = c.in-Ok-Ok.ensures in
    let changes : c.in-Assign.changes ≡ c.args.changes = changes-are c in
    let now : c.assign.new.self ≡ record inside.board { levels = assigned inside.board.values inside.board.levels c.args.changes; members = c.args.members } =
    c.in-Ok.ensures.ok ∙ ap₂ (λ (ps : List (ℕ × ℤ)) (os : List ℕ). record inside.board { levels = assigned inside.board.values inside.board.levels ps; members = os }) changes mine in
    let stands : c.assign.new.self ≡ standing_of setup taken =
    now ∙ ap (λ (s : BoardView). record s { levels = assigned s.values s.levels c.args.changes; members = c.args.members }) kept.standing ∙ standing_assigned setup trail c.args.seq c.args.members c.args.changes in
    let ended : (c.raises-ended.result == 0) ≡ at_ends setup taken =
    ap (λ n. n == 0) (c.raises-ended.ensures ∙ c.reserve.ensures.raises) ∙ kept_ends setup inside.trail inside.board inside.next.items inside.phase kept ∙ sym (ends-took setup trail frame) in
    let took : c.in_ok-took.took ≡ frame = c.in_ok-took.ensures.ok in
    let answer : c.in-Ok.answer ≡ answer_at setup taken =
    c.in-Ok.ensures.answer
    ∙ answer_made setup taken c.assign.new.self c.args.seq c.as_slice-next.result.now (c.raises-ended.result == 0) stands
    (passes.next ∙ sym (seq_of-assign trail c.args.seq c.args.members c.args.changes))
    (c.as_slice-next.ensures.value ∙ kept.places ∙ sym (places_at-took setup trail frame))
    ended in
    ap (λ (l : TrailView). l.entries) c.sent.ensures
    ∙ ap₂ (λ (es : List Entry) (sent : Frame). es ++ e.Sent sent ∷ [])
    (ap (λ (l : TrailView). l.entries) c.took.ensures ∙ ap₂ (λ (es : List Entry) (took : Frame). es ++ e.Took took ∷ []) c.reserve.ensures.entries took)
    answer

pub invariant_of-self-in-Ok : goal.invariant_of-self-in-Ok
invariant_of-self-in-Ok c =
    let inside = c.self.inside in
    let kept = c.self.invariant in
    let setup : MonitorSetup = record { number = inside.number.0; objects = inside.settings.objects; parts = inside.parts.items; from = inside.from } in
    let trail : List Entry = inside.trail.entries in
    let frame = f.Assign c.args.seq c.args.members c.args.changes in
    let none : refusal_of setup trail frame ≡ None = subst (λ (m : MonitorView). refusal_of m.setup m.trail frame ≡ None) (sym c.self.view_is) c.requires in
    let passes = assign_passes setup trail c.args.seq c.args.members c.args.changes none in
    let taken = trail ++ e.Took frame ∷ [] in
    let mine : c.in-Ok-Ok.mine ≡ c.args.members = c.in-Ok-Ok.ensures in
    let changes : c.in-Assign.changes ≡ c.args.changes = changes-are c in
    let now : c.assign.new.self ≡ record inside.board { levels = assigned inside.board.values inside.board.levels c.args.changes; members = c.args.members } =
    c.in-Ok.ensures.ok ∙ ap₂ (λ (ps : List (ℕ × ℤ)) (os : List ℕ). record inside.board { levels = assigned inside.board.values inside.board.levels ps; members = os }) changes mine in
    let stands : c.assign.new.self ≡ standing_of setup taken =
    now ∙ ap (λ (s : BoardView). record s { levels = assigned s.values s.levels c.args.changes; members = c.args.members }) kept.standing ∙ standing_assigned setup trail c.args.seq c.args.members c.args.changes in
    let ended : (c.raises-ended.result == 0) ≡ at_ends setup taken =
    ap (λ n. n == 0) (c.raises-ended.ensures ∙ c.reserve.ensures.raises) ∙ kept_ends setup inside.trail inside.board inside.next.items inside.phase kept ∙ sym (ends-took setup trail frame) in
    subst (λ (phase : Phase). IsKept setup c.sent.new.self c.assign.new.self inside.next.items phase) (sym c.assigned-self-inside.ensures)
    (kept_assigned setup inside.trail c.sent.new.self inside.board c.assign.new.self inside.next.items inside.phase c.args.seq c.args.members c.args.changes c.is_broken.result (c.raises-ended.result == 0) kept none now
    (c.is_broken.ensures ∙ kept_broken setup taken c.assign.new.self stands)
    ended
    (entries-sent c)
    (ap (λ (l : TrailView). l.raises) c.sent.ensures ∙ ap (λ (l : TrailView). l.raises) c.took.ensures ∙ c.reserve.ensures.raises))

pub returns-in-Ok-clause-ok : goal.returns-in-Ok-clause-ok
returns-in-Ok-clause-ok c =
    let inside = c.self.inside in
    let kept = c.self.invariant in
    let setup : MonitorSetup = record { number = inside.number.0; objects = inside.settings.objects; parts = inside.parts.items; from = inside.from } in
    let trail : List Entry = inside.trail.entries in
    let frame = f.Assign c.args.seq c.args.members c.args.changes in
    let none : refusal_of setup trail frame ≡ None = subst (λ (m : MonitorView). refusal_of m.setup m.trail frame ≡ None) (sym c.self.view_is) c.requires in
    let passes = assign_passes setup trail c.args.seq c.args.members c.args.changes none in
    ap (λ (es : List Entry). record { settings = inside.settings; setup = setup; trail = es }) (entries-sent c)
    ∙ ap (λ (m : MonitorView). record m { trail = after_take m.setup m.trail frame }) c.self.view_is

pub returns-in-Ok-clause-legal : goal.returns-in-Ok-clause-legal
returns-in-Ok-clause-legal c = (invariant_of-self-in-Ok c).legal
