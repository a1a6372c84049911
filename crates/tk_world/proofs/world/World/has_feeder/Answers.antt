use Rattle.std.proofs.Common.{◌≡◌, length, ap, arith}
use Rattle.std.proofs.lemmas.Bool.{le-leb, lt-ltb, true≢false}
use Rattle.std.proofs.Common.{sym, ◌∙◌}
use Rattle.tk_input.specs.Logs.{parts_of}
use Rattle.tk_story.specs.Kept.{KeptStory}
use Rattle.tk_world.proofs.WorldLemmas.{no_feeder, no_monitor}
use Rattle.tk_world.proofs.world.World.has_feeder.Goals as goal
use Rattle.tk_world.proofs.world.World.has_feeder.Goals.{then-mon-eq0-via-then-mon-eq0, then-mon-eq0-via-else-mon-eq0+then-mon-monitors}

pub returns-then-mon-eq0-clause-none : goal.returns-then-mon-eq0-clause-none
returns-then-mon-eq0-clause-none g c = λ e.
    let s = c.args.self.now.story in
    let count : (g.N.Nodes.seen c.self.inside.nodes).coordinator.settings.monitors ≡ s.settings.monitors = ap (λ (k : KeptStory). k.story.settings.monitors) c.self.view_is in
    no_monitor s c.args.mon c.args.f (λ m. elim c.then-mon-eq0.branch [
      | then-mon-eq0-via-then-mon-eq0 w ↦ let a = m.from_one in omega (arith, a, w.if-mon-eq0.true)
      | then-mon-eq0-via-else-mon-eq0+then-mon-monitors w ↦
          let b = m.within in
          let n : w.settings.result.now.monitors ≡ (g.N.Nodes.seen c.self.inside.nodes).coordinator.settings.monitors = ap (λ z. z.monitors) w.settings.ensures ∙ ap (λ z. z.settings.monitors) w.coordinator.ensures in
          omega (arith, b, w.if-mon-monitors.true, w.monitors.ensures.value, n, count)
    ])

pub returns-then-f-gt0-clause-none : goal.returns-then-f-gt0-clause-none
returns-then-f-gt0-clause-none g c = λ no_such.
    let s = c.args.self.now.story in
    let parts : length (parts_of c.self.inside.logs.logs c.args.mon.0) ≡ length (parts_of s.logs.logs c.args.mon.0) = ap (λ (k : KeptStory). length (parts_of k.story.logs.logs c.args.mon.0)) c.self.view_is in
    no_feeder s c.args.mon c.args.f (λ both. absurd (true≢false (sym (le-leb c.args.f.0 c.feeders.result (omega (arith, both.1, parts, c.feeders.ensures.value))) ∙ no_such)))

pub returns-else-f-gt0-clause-none : goal.returns-else-f-gt0-clause-none
returns-else-f-gt0-clause-none g c = λ no_such. no_feeder c.args.self.now.story c.args.mon c.args.f (λ both. absurd (true≢false (sym (lt-ltb 0 c.args.f.0 (omega (arith, both.0))) ∙ no_such)))
