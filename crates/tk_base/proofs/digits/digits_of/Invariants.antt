use Rattle.std.proofs.Common.{◌≤◌, length}
use Rattle.tk_base.proofs.DigitsLemmas.{DigitsRead}
use Rattle.tk_base.proofs.digits.digits_of.Given as goal

-- so many digits were read
abbrev pub invariant-loop-digit : goal.invariant-loop-digit
invariant-loop-digit l = record {
  read : DigitsRead l.text l.digit-index l.number;
  short : length l.text ≤ 38;
}
