use Rattle.std.proofs.Common.{◌≡◌, ◌≤◌, ◌∙◌, length, take, drop, ◌++◌, min, ap, arith}
use Rattle.std.proofs.lemmas.List.{length-take-le, take_at}
use Rattle.tk_wire.proofs.QueueLemmas.{moved_on}
use Rattle.tk_wire.proofs.pipe.Pipe.move_to.Goals as goal

pub loop-moved-preserved : goal.loop-moved-preserved
loop-moved-preserved c =
    let chunk : c.min-size.result ≤ length c.loop-moved.chunk = omega (arith, c.min-size.ensures) in
    let old : length (take c.min-size.result c.loop-moved.chunk) ≡ c.min-size.result = length-take-le c.min-size.result c.loop-moved.chunk chunk in
    let now : length c.get.new.into ≡ c.min-size.result = c.get.auto.into ∙ old in
    let lent : take c.min-size.result (c.get.new.into ++ drop c.min-size.result c.loop-moved.chunk) ≡ c.get.new.into = take_at _ _ _ now in
    moved_on c.loop-moved.moved c.min-size.result c.min-count.result _ _ _ _ _ _ _ _ _ c.loop-moved-test.true c.min-size.ensures (omega (arith, c.min.ensures, c.min-count.ensures, c.len.ensures)) (omega (arith, c.min-count.ensures, c.free.ensures)) c.loop-moved.invariant.1 c.loop-moved.invariant.2 (c.get.ensures.value ∙ ap (λ n. min n (length c.loop-moved.self.bytes)) old) (ap (take c.get.result) lent ∙ c.get.ensures.bytes) c.get.ensures.got (ap length lent ∙ now) c.put.ensures.value c.put.ensures.put
