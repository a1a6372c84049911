use Rattle.std.proofs.Common.{◌≡◌, ◌∷◌, length, pos, get_or, ℕ, ℤ, take, FitsSigned, to_z, of_z, arith, ap, sym}
use Rattle.std.specs.Int.{w128}
use Rattle.std.proofs.lemmas.Int.{ints, to_z-of_z}
use Rattle.std.proofs.lemmas.Option.{get_or_from_slice_get}
use Rattle.tk_rows.specs.declared.mon_change.MonChange.{MonChange}
use Rattle.tk_rows.specs.Writing.{named_at}
use Rattle.tk_rows.proofs.WritingLemmas.{length-written, written_more}
use Rattle.tk_rows.proofs.factors.Factors.replace.Goals as goal

pub index_mut-requires-in-loop-change : goal.index_mut-requires-in-loop-change
index_mut-requires-in-loop-change c =
    let own = to_z w128 (of_z w128 c.args.own) in
    let node = c.requires.nodes c.loop-change.change-index c.change-item.result c.loop-change-test.true in
    let same : c.change-item.result.mon.0 ≡ (get_or c.args.at.now c.loop-change.change-index c.change-item.result).mon.0 = ap (λ (m : MonChange). m.mon.0) c.change-item.is in
    omega (arith, node, same, ap length c.loop-change.invariant, length-written ((0, own) ∷ named_at (take c.loop-change.change-index c.args.at.now) c.args.place) c.args.self.now)

pub loop-change-preserved : goal.loop-change-preserved
loop-change-preserved c =
    let fits : FitsSigned w128 c.at-factor.result.1 = omega (arith, ints) in
    rw (to_z-of_z w128 c.at-factor.result.1 fits)
    (written_more c.args.self.now c.loop-change.self-inside.list.items (to_z w128 (of_z w128 c.args.own)) c.at-factor.result.1 c.args.at.now c.loop-change.change-index c.args.place c.change-item.result
    c.loop-change-test.true c.change-item.is
    (sym (ap (λ (p : ℕ × ℤ). p.1) (get_or_from_slice_get c.change-item.result.changes c.args.place (c.at-factor.result.0.0, c.at-factor.result.1) (0, pos 0) c.at-factor.ensures.value)))
    c.loop-change.invariant)
