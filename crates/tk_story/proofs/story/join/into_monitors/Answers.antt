use Rattle.std.proofs.Common.{List, length, ap, arith}
use Rattle.tk_story.specs.declared.ends.mon_end.MonEnd.{MonEnd}
use Rattle.tk_story.proofs.story.join.into_monitors.Goals as goal

pub push_reserved-requires : goal.push_reserved-requires
push_reserved-requires c =
    let rest = ap (λ (ends : List MonEnd). length ends) c.in-Some.ensures.steps.0 in
    omega (arith, c.loop-end.invariant.room, rest)
