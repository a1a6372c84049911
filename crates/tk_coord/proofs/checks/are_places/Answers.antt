use Rattle.std.proofs.Common.{◌&&◌, length, arith, sym, ap₂}
use Rattle.std.specs.Prelude.{nat_le}
use Rattle.std.proofs.lemmas.Bool.{lt-ltb, le-leb}
use Rattle.tk_coord.proofs.SearchLemmas.{all_pass}
use Rattle.tk_coord.proofs.checks.are_places.Goals as goal

pub returns : goal.returns
returns c =
    let count = length c.args.places.now in
    sym (ap₂ ◌&&◌ (ap₂ ◌&&◌ (lt-ltb 0 count (omega (arith, c.len.ensures, c.if-len-eq0.false)))
    (le-leb count 8 (omega (arith, c.len-else-len-eq0.ensures, c.if-len-gt-MAX_FEEDERS.false))))
    (all_pass (λ p. nat_le p 1000000) c.args.places.now 0 (λ k within. c.loop-f.invariant k (omega (arith, c.len-f-end.ensures)))))
