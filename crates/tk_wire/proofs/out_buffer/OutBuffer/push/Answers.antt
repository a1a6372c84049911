use Rattle.std.proofs.Common.{◌≤◌, ◌+◌, ◌∙◌, length, take, drop, vec_len, ap, subst, arith}
use Rattle.std.proofs.lemmas.List.{take_rest}
use Rattle.tk_wire.specs.Meanings.{Departs}
use Rattle.tk_wire.proofs.BufferLemmas.{loses_more}
use Rattle.tk_wire.proofs.StoreLemmas.{slice_size}
use Rattle.tk_wire.proofs.out_buffer.OutBuffer.push.Goals as goal

pub loop-self-preserved : goal.loop-self-preserved
loop-self-preserved g c =
    let size = slice_size c.loop-self.self-inside.start (length c.deref.result.now) c.deref.result.now in
    let within : c.loop-self.self-inside.start + c.in-Bytes.count ≤ vec_len c.loop-self.self-inside.bytes = omega (arith, c.in-Bytes.ensures.fits, c.deref.ensures.len) in
    let left = take_rest c.deref.result.now c.loop-self.self-inside.start ∙ ap (drop c.loop-self.self-inside.start) c.deref.ensures.value in
    (within, c.loop-self.invariant.1, loses_more c.loop-self.self-inside.start c.in-Bytes.count g.W.Wire.tells _ c.loop-self.self-inside.bytes.items _ _ _ c.loop-self.invariant.2 (λ is. subst (λ bytes. Departs (take c.in-Bytes.count bytes) (g.W.Wire.traffic c.loop-self.wire) (g.W.Wire.traffic c.give.new.self)) left (c.in-Bytes.ensures.told is)), c.in-Bytes.ensures.counted ∙ c.loop-self.invariant.3, c.give.ensures.shut ∙ c.loop-self.invariant.4)
