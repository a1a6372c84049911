use Rattle.std.proofs.Common.{◌≡◌, ◌≤◌, ◌-◌, drop, vec_len}
use Rattle.tk_wire.specs.Buffered.{Loses}
use Rattle.tk_wire.proofs.out_buffer.OutBuffer.push.Given as goal

-- some front of the bytes has gone to the wire
abbrev pub invariant-loop-self : goal.invariant-loop-self
invariant-loop-self g l =
    (l.self-inside.start ≤ vec_len l.self-inside.bytes)
    × (l.self-inside.version ≡ l.initial.self-inside.version)
    × Loses g.W.Wire.tells (drop l.initial.self-inside.start l.initial.self-inside.bytes.items) (drop l.self-inside.start l.self-inside.bytes.items) (g.W.Wire.traffic l.initial.wire) (g.W.Wire.traffic l.wire)
    × (g.W.Wire.counts l.wire ≡ g.W.Wire.counts l.initial.wire)
    × (g.W.Wire.is_shut l.wire ≡ g.W.Wire.is_shut l.initial.wire)

abbrev pub decreases-loop-self : goal.decreases-loop-self
decreases-loop-self g l = vec_len l.self-inside.bytes - l.self-inside.start
