use Rattle.std.proofs.Common.{◌≡◌, ◌∙◌, false, refl, sym, subst, ap, inl, inr}
use Rattle.tk_journal.specs.Readings.{is_open}
use Rattle.tk_journal.specs.declared.turn.TurnKind.TheVariants.{Note}
use Rattle.tk_coord.specs.Coordinator.{CoordinatorView}
use Rattle.tk_coord.specs.Steps.{IsStep, asks_wide}
use Rattle.tk_coord.specs.declared.step.Reply.{Reply}
use Rattle.tk_coord.specs.declared.step.Step.{Step}
use Rattle.tk_coord.proofs.SettledSteps.{calm_step, settled_taken, stale_step, stirred_step}
use Rattle.tk_coord.proofs.coordinator.Coordinator.on_settled.Goals.{then-self-via-then-self, then-self-via-else-self+then-not-others_settled}
use Rattle.tk_coord.proofs.coordinator.Coordinator.on_settled.Goals as goal

pub returns-then-is_stale : goal.returns-then-is_stale
returns-then-is_stale c =
    let now = c.args.self.now in
    let f = c.self.inside in
    let s = c.in-Settled in
    let peers = c.as_slice-peers.result.now in
    let e = c.quiet.ensures in
    stale_step now.settings now.journal peers c.args.mon c.args.frame.now s.seq s.last s.places c.quiet.result
    (settled_taken (record { settings = f.settings; journal = f.journal.entries }) now peers f.state.peers.items
    c.args.mon c.args.frame.now s.seq s.last s.places c.self.view_is c.self.invariant.0.journal c.as_slice-peers.ensures.value c.self.invariant.0.holds.peers
    c.requires.monitor s.is c.requires.taken)
    (sym c.if-is_stale.ensures.value) e.statement e.entries e.reply e.phase e.turn

pub returns-then-self : goal.returns-then-self
returns-then-self c =
    let now = c.args.self.now in
    let f = c.self.inside in
    let s = c.in-Settled in
    let peers = c.as_slice-peers.result.now in
    let e = c.quiet-then-self.ensures in
    let waits = subst (λ (v : CoordinatorView). f.state.round.waiting ≡ is_open v.settings v.journal) c.self.view_is c.self.invariant.0.holds.round.waiting in
    stirred_step now.settings now.journal peers c.args.mon c.args.frame.now s.seq s.last s.places c.in_ok-progress.progress c.quiet-then-self.result
    (settled_taken (record { settings = f.settings; journal = f.journal.entries }) now peers f.state.peers.items
    c.args.mon c.args.frame.now s.seq s.last s.places c.self.view_is c.self.invariant.0.journal c.as_slice-peers.ensures.value c.self.invariant.0.holds.peers
    c.requires.monitor s.is c.requires.taken)
    (sym c.if-is_stale.ensures.value) c.in_ok-progress.ensures
    (elim c.then-self.branch [
      | then-self-via-then-self w ↦ inl (sym waits ∙ w.if-self.true)
      | then-self-via-else-self+then-not-others_settled w ↦ inr w.if-not-others_settled.ensures.one
    ]) e.statement e.entries e.reply e.phase e.turn

pub returns : goal.returns
returns c =
    let now = c.args.self.now in
    let f = c.self.inside in
    let s = c.in-Settled in
    let peers = c.as_slice-peers.result.now in
    let waits = subst (λ (v : CoordinatorView). f.state.round.waiting ≡ is_open v.settings v.journal) c.self.view_is c.self.invariant.0.holds.round.waiting in
    subst (λ (x : Step). IsStep now.settings now.journal c.args.mon c.args.frame.now x) (sym c.step.ensures)
    (calm_step now.settings now.journal peers c.args.mon c.args.frame.now s.seq s.last s.places c.in_ok-progress.progress _
    (settled_taken (record { settings = f.settings; journal = f.journal.entries }) now peers f.state.peers.items
    c.args.mon c.args.frame.now s.seq s.last s.places c.self.view_is c.self.invariant.0.journal c.as_slice-peers.ensures.value c.self.invariant.0.holds.peers
    c.requires.monitor s.is c.requires.taken)
    (sym c.if-is_stale.ensures.value) c.in_ok-progress.ensures (sym waits ∙ c.if-self.false) c.if-not-others_settled.ensures.all c.in_ok-outcome.ensures refl
    (ap (λ (r : Reply). record { kind = Note; fails = false; widens = asks_wide r; calm = false }) c.in_ok-outcome.ensures.replies))
