use Rattle.std.proofs.Common.{◌-◌, arith}
use Rattle.std.specs.Prelude.{FitsSigned}
use Rattle.std.specs.Int.{w128}
use Rattle.std.proofs.lemmas.Int.{ints, to_z-of_z}
use Rattle.tk_recent.proofs.KeptLemmas.{kept_noted}
use Rattle.tk_recent.proofs.recent.Recent.note.Goals as goal

pub invariant_of-self : goal.invariant_of-self
invariant_of-self c =
    let s = c.self.inside in
    let small = c.in_ok-sum.ensures.size in
    let fits : FitsSigned w128 c.in_ok-sum.sum = omega (arith, ints, small) in
    rw (to_z-of_z w128 c.in_ok-sum.sum fits)
    (kept_noted s.width s.ended.items s.sums.items s.leaves s.told (c.args.change.obj.0 - 1) c.in_ok-sum.sum c.self.invariant small)
