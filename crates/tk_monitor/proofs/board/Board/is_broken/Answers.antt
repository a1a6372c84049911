use Rattle.std.proofs.Common.{◌≡◌, ◌∙◌, arith, ap, sym, length, false, inl, inr}
use Rattle.std.specs.Prelude.{nat_lt}
use Rattle.std.proofs.lemmas.Bool.{cases_Bool, le-ltb}
use Rattle.tk_border.specs.Levels.{broken}
use Rattle.tk_monitor.specs.Board.{BoardView}
use Rattle.tk_monitor.proofs.BoardLemmas.{some_members}
use Rattle.tk_monitor.proofs.board.Board.is_broken.Goals as goal

-- without members nothing is broken
pub returns-else-len-gt0 : goal.returns-else-len-gt0
returns-else-len-gt0 c =
    let now = c.args.self.now in
    let none : length now.members ≡ 0 = sym (ap (λ (s : BoardView). length s.members) c.self.view_is) ∙ omega (arith, c.len.ensures.value, c.if-len-gt0.false) in
    let still : nat_lt 0 (length (broken now.levels now.members)) ≡ false =
    elim (cases_Bool (nat_lt 0 (length (broken now.levels now.members)))) [
      | inl some ↦ absurd (omega (arith, none, some_members now.levels now.members some))
      | inr nothing ↦ nothing
    ] in
    le-ltb 0 c.len.result (omega (arith, c.if-len-gt0.false)) ∙ sym still
