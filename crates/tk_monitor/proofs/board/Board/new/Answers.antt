use Rattle.std.proofs.Common.{◌≡◌, List, [], ℕ, length, ap, arith, rules}
use Rattle.std.specs.Prelude.{pos, replicate}
use Rattle.tk_monitor.proofs.ValuesLemmas.{board_zero, view_zero}
use Rattle.tk_monitor.proofs.board.Board.new.Goals as goal

pub invariant_of-result : goal.invariant_of-result
invariant_of-result c =
    let levels : c.in_ok-rank.rank.levels ≡ replicate c.args.objects (pos 0) = search rules in
    let members : c.unwrap-2.result ≡ [] = search rules in (
      board_zero c.args.objects c.in_ok-rank.rank.levels c.new-4.result c.unwrap-2.result c.requires.few levels c.new-4.ensures members,
      λ some. absurd (omega (arith, ap (λ (os : List ℕ). length os) members)),
    )

pub returns : goal.returns
returns c =
    let levels : c.in_ok-rank.rank.levels ≡ replicate c.args.objects (pos 0) = search rules in
    let members : c.unwrap-2.result ≡ [] = search rules in
    view_zero c.args.objects c.in_ok-rank.rank.levels c.new-4.result c.unwrap-2.result levels c.new-4.ensures members
