use Rattle.std.proofs.Common.{◌≡◌, ◌∙◌, ap, arith}
use Rattle.tk_base.specs.Settings.{Setup}
use Rattle.tk_world.proofs.SerializingLemmas.{ends_more, walked_all}
use Rattle.tk_world.proofs.serializing.walk_trails.Goals as goal

pub loop-j-init : goal.loop-j-init
loop-j-init c = record {
  walking = c.requires;
  ends = λ i below. absurd (omega (arith, below));
}

pub loop-j-preserved : goal.loop-j-preserved
loop-j-preserved c = record {
  walking = c.in_ok-go_to_end.ensures.walking;
  ends = ends_more c.args.story.now.story c.loop-j.walk.places.items c.go_to_end.new.walk.places.items c.loop-j.j c.loop-j.invariant.ends c.in_ok-go_to_end.ensures.end c.in_ok-go_to_end.ensures.others;
}

pub returns : goal.returns
returns c =
    let s = c.args.story.now.story in
    let count : c.monitors-j-end.result ≡ s.settings.monitors = c.monitors-j-end.ensures.value ∙ ap (λ (q : Setup). q.monitors) c.settings.ensures in
    walked_all s c.loop-j.walk.places.items c.loop-j.walk.events.items c.loop-j.invariant.walking (λ i below. c.loop-j.invariant.ends i (omega (arith, below, count, c.loop-j-test.false)))
