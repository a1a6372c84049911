use Rattle.std.proofs.Common.{◌-◌, ◌==◌, ap, refl, sym, ◌∙◌, arith, inl, inr}
use Rattle.std.proofs.lemmas.Nat.Bits.{shr_and_one}
use Rattle.tk_world.specs.Work.{has}
use Rattle.tk_world.proofs.WorkLemmas.{at, at_bit, past_at}
use Rattle.tk_world.proofs.work.Work.contains.Goals as goal

pub returns-then-mon-eq0 : goal.returns-then-mon-eq0
unfolding has
returns-then-mon-eq0 c = elim c.then-mon-eq0.either [
  | inl none ↦ sym (ap (at c.args.self.now.bits) none)
  | inr past ↦ sym (past_at c.args.self.now.bits c.args.mon.0 (omega arith) past.1)
]

pub returns : goal.returns
unfolding has
returns c =
    let some = c.if-mon-eq0.false in
    ap (λ n. n == 1) (shr_and_one c.args.self.now.bits (c.args.mon.0 - 1))
    ∙ sym (at_bit c.args.self.now.bits c.args.mon.0 _ (omega arith) refl)
