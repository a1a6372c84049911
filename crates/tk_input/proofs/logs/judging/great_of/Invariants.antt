use Rattle.std.proofs.Common.{◌≡◌, ◌<◌, ℕ, [], None, get_or}
use Rattle.tk_input.specs.Judged.{great_object}
use Rattle.tk_input.specs.Rows.{logs_in}
use Rattle.tk_input.proofs.logs.judging.great_of.Given as goal

-- no object of a monitor before is too great
abbrev pub invariant-loop-place : goal.invariant-loop-place
invariant-loop-place l = (k : ℕ) → k < l.place → great_object l.objects (get_or (logs_in l.rows) k []) ≡ None
