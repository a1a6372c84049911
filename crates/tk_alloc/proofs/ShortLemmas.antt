-- A short round is a round of one monitor.
use Rattle.std.proofs.Common.{ℕ, suc, zero, ◌<◌, List, [], ◌∷◌, Contains, arith}
use Rattle.std.specs.List.{All}
use Rattle.std.proofs.lemmas.List.Elements.{All-contains, All-cons, All-nil}
use Rattle.tk_base.specs.Ascending.{IsAscending}
use Rattle.tk_base.specs.Pairs.{objects_of}
use Rattle.tk_base.specs.Settings.{Setup}
use Rattle.tk_rows.specs.declared.reallocation.Reallocation.{Reallocation}
use Rattle.tk_rows.specs.Factors.{Grid}
use Rattle.tk_alloc.specs.declared.reported.Reported.{Reported}
use Rattle.tk_alloc.specs.Resolving.{CanTakePart, IsReady, IsShortRound, PassesShortTest}
use Rattle.tk_alloc.proofs.RoundLemmas.{IsEnded, present_no_debt}

pub one_takes : (grid : Grid) (present : List ℕ) (report : Reported) → CanTakePart grid present (objects_of report.values) report → All (CanTakePart grid present (objects_of report.values)) (report ∷ [])
one_takes grid present report take = All-cons (CanTakePart grid present (objects_of report.values)) report [] take (All-nil (CanTakePart grid present (objects_of report.values)))

one_ascends : (n : ℕ) → 0 < n → IsAscending (n ∷ [])
one_ascends n some zero h = some
one_ascends n some (suc k) h = absurd (omega arith)

pub one_order : (report : Reported) → 0 < report.mon.0 → IsAscending (report.mon.0 ∷ [])
one_order report some = one_ascends report.mon.0 some

pub short_ends : (setup : Setup) (grid : Grid) (present : List ℕ) (report : Reported) (change : Reallocation) → IsReady setup grid present (objects_of report.values) → CanTakePart grid present (objects_of report.values) report
    → PassesShortTest setup grid present report → IsShortRound setup grid present report change → IsEnded setup grid present present (objects_of report.values) (report ∷ []) change
short_ends setup grid present report change ready take test is = record {
  ready = ready;
  take = one_takes grid present report take;
  order = one_order report take.some;
  some = omega arith;
  among = λ t in'. All-contains (Contains (objects_of report.values)) present t ready.members in';
  ranked = test;
  no_debt = λ t in'. present_no_debt setup grid present present (objects_of report.values) (report ∷ []) t ready (one_takes grid present report take) in' in';
  is = is;
}
