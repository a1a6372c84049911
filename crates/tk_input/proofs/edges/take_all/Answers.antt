use Rattle.std.proofs.Common.{◌≡◌, ◌++◌, ap, arith}
use Rattle.tk_input.proofs.EdgeLemmas.{consumed_front, known_front, read_whole}
use Rattle.tk_input.proofs.edges.take_all.Goals as goal

pub returns-in-Ok-2-clause-ok : goal.returns-in-Ok-2-clause-ok
returns-in-Ok-2-clause-ok g c =
    let known = g.F.Read.remaining in
    let limited = c.take.result in
    let front = known_front limited.limit 67108865 (known limited.inner) (known c.args.from) (λ xs. c.read_to_end.new.buf.items ≡ c.args.bytes.now.items ++ xs) c.take.ensures.limit (ap known c.take.ensures.inner) c.in-Ok-2.ensures.bytes in
    read_whole (known c.args.from) 67108865 c.args.bytes.now.items c.read_to_end.new.buf.items c.requires front (omega (arith, c.if-len-gt-MAX_LENGTH.false, c.len.ensures))

pub returns-in-Ok-2-clause-front : goal.returns-in-Ok-2-clause-front
returns-in-Ok-2-clause-front g c =
    let known = g.F.Read.remaining in
    consumed_front c.take.result.limit (known c.take.result.inner) (known c.args.from) _ c.args.bytes.now.items c.read_to_end.new.buf.items c.requires (ap known c.take.ensures.inner) c.read_to_end.ensures.none_lost

pub returns-clause-front : goal.returns-clause-front
returns-clause-front g c =
    let known = g.F.Read.remaining in
    consumed_front c.take.result.limit (known c.take.result.inner) (known c.args.from) _ c.args.bytes.now.items c.read_to_end.new.buf.items c.requires (ap known c.take.ensures.inner) c.read_to_end.ensures.none_lost
