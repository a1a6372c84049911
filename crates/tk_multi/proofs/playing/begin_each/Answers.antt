use Rattle.std.proofs.Common.{ℕ, ◌+◌, ◌≡◌, ◌<◌, List, length, ap, subst, arith}
use Rattle.tk_multi.specs.Beginning.{HasRoom}
use Rattle.tk_multi.specs.declared.alone.Alone.{Alone}
use Rattle.tk_multi.proofs.BeginningLemmas.{begun_more, room_for_one}
use Rattle.tk_multi.proofs.playing.begin_each.Goals as goal

pub begin_one-requires-clause-room : goal.begin_one-requires-clause-room
begin_one-requires-clause-room c =
    let rest = ap (λ (alones : List Alone). length alones) c.in-Some.ensures.steps.0 in
    room_for_one _ c.loop-alone.lists (omega (arith, rest)) c.loop-alone.invariant.room

pub loop-alone-preserved : goal.loop-alone-preserved
loop-alone-preserved c =
    let rest = ap (λ (alones : List Alone). length alones) c.in-Some.ensures.steps.0 in
    record {
      begun = begun_more c.loop-alone.yielded c.in-Some.alone c.loop-alone.lists c.begin_one.new.lists c.loop-alone.invariant.begun c.in_ok-begin_one.ensures.begins;
      room = c.in_ok-begin_one.ensures.room _ (subst (λ (n : ℕ). HasRoom n c.loop-alone.lists) (omega (arith, rest)) c.loop-alone.invariant.room);
    }
