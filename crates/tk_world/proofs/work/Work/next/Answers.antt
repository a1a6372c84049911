use Rattle.std.proofs.Common.{◌-◌, ◌*◌, ◌%◌, ◌^◌, ap, ◌∙◌, arith, bit_and}
use Rattle.std.specs.Int.{bit_at, w64}
use Rattle.std.proofs.lemmas.Nat.{and_le_l}
use Rattle.std.proofs.lemmas.Nat.Bits.{bit_at-trailing_zeros, bit_at-zero}
use Rattle.tk_world.specs.Work.{has}
use Rattle.tk_world.proofs.WorkLemmas.{past_at, free_at, found_at}
use Rattle.tk_world.proofs.work.Work.next.Goals as goal

pub returns-then-below-ge-MOST-clause-skipped : goal.returns-then-below-ge-MOST-clause-skipped
unfolding has
returns-then-below-ge-MOST-clause-skipped c = λ q from before. past_at c.args.self.now.bits q (omega arith) (omega arith)

pub returns-then-rest-eq0-clause-skipped : goal.returns-then-rest-eq0-clause-skipped
unfolding has
returns-then-rest-eq0-clause-skipped c = λ q from before.
    free_at c.args.self.now.bits c.saturating_sub-below.result q q (omega arith) c.if-below-ge-MOST.false (λ some. omega arith)
    (λ i under. ap (λ n. bit_at n i) c.if-rest-eq0.true ∙ bit_at-zero i) (omega arith)

pub returns-else-rest-eq0-clause-found : goal.returns-else-rest-eq0-clause-found
unfolding has
returns-else-rest-eq0-clause-found c =
    let bits = c.args.self.now.bits in
    let rest = bit_and bits ((2 ^ 64 - 1) * 2 ^ c.saturating_sub-below.result % 2 ^ 64) in
    let less = and_le_l bits ((2 ^ 64 - 1) * 2 ^ c.saturating_sub-below.result % 2 ^ 64) in
    let some = c.if-rest-eq0.false in
    let low = bit_at-trailing_zeros w64 rest (omega arith) (omega arith) in
    let found = found_at bits c.saturating_sub-below.result _ c.if-below-ge-MOST.false low.0 low.1 in
    (omega arith, found.1)

pub returns-else-rest-eq0-clause-skipped : goal.returns-else-rest-eq0-clause-skipped
unfolding has
returns-else-rest-eq0-clause-skipped c = λ q from before.
    let bits = c.args.self.now.bits in
    let rest = bit_and bits ((2 ^ 64 - 1) * 2 ^ c.saturating_sub-below.result % 2 ^ 64) in
    let less = and_le_l bits ((2 ^ 64 - 1) * 2 ^ c.saturating_sub-below.result % 2 ^ 64) in
    let some = c.if-rest-eq0.false in
    let low = bit_at-trailing_zeros w64 rest (omega arith) (omega arith) in
    free_at bits c.saturating_sub-below.result q _ (omega arith) c.if-below-ge-MOST.false (λ some. omega arith) low.2 (omega arith)
