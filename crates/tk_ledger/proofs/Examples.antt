-- Two stories' texts written out.
use Rattle.std.proofs.Common.{◌≡◌, ℕ, pos, true, false, List, [], ◌∷◌, refl}
use Rattle.std.specs.Prelude.{codes}
use Rattle.std.specs.Fmt.{digits}
use Rattle.std.specs.List.{concat}
use Rattle.tk_journal.specs.declared.noted.Noted.{Noted}
use Rattle.tk_journal.specs.declared.noted.Noted.TheVariants as n
use Rattle.tk_ledger.specs.Text.{ledger_text, lines_of, totals_text}
use Rattle.tk_ledger.specs.declared.ledger.Ledger.{Ledger}

abbrev names : List (List ℕ)
names = codes "a" ∷ codes "b" ∷ []

-- a is the member, at these places
abbrev set_at : ℕ → List (List ℕ) → Noted
set_at number cut = n.Published (record { number = number; last = false; k = 1; epsilon = pos 0; members = 1 ∷ []; cut = cut })

abbrev final_at : ℕ → List (List ℕ) → Noted
final_at number cut = n.Published (record { number = number; last = true; k = 1; epsilon = pos 0; members = 1 ∷ []; cut = cut })

-- ---- two monitors

abbrev two_monitors : Ledger
two_monitors = record {
  per =
      record { assign = 2; report = 0; collect = 1; values = 1; settled = 3; stop = 1 }
      ∷ record { assign = 2; report = 1; collect = 0; values = 0; settled = 2; stop = 1 }
      ∷ [];
  short = 0;
  full = 1;
  wide = 0;
  stale = 0;
  bytes = 487;
}

two_monitors_lines : concat (lines_of names (set_at 1 ((0 ∷ []) ∷ (0 ∷ []) ∷ []) ∷ final_at 2 ((1 ∷ []) ∷ (1 ∷ []) ∷ []) ∷ []))
    ≡ codes "set 1 cut 1:0 2:0 members a\nfinal 2 cut 1:1 2:1 members a\n"
unfolding lines_of digits
two_monitors_lines = refl

two_monitors_totals : totals_text two_monitors ≡ codes "frames assign 4 report 1 collect 1 values 1 settled 5 stop 2\nrounds short 0 full 1 wide 0 stale 0\nbytes 487\n"
unfolding digits
two_monitors_totals = refl

two_monitors_ledger : ledger_text two_monitors
    ≡ codes "frames assign 4 report 1 collect 1 values 1 settled 5 stop 2\nrounds short 0 full 1 wide 0 stale 0\nbytes 487\nmonitor 1 assign 2 report 0 collect 1 values 1 settled 3 stop 1\nmonitor 2 assign 2 report 1 collect 0 values 0 settled 2 stop 1\n"
unfolding digits
two_monitors_ledger = refl

-- ---- two feeders

abbrev two_feeders : Ledger
two_feeders = record {
  per = record { assign = 1; report = 0; collect = 0; values = 0; settled = 2; stop = 1 } ∷ [];
  short = 0;
  full = 0;
  wide = 0;
  stale = 0;
  bytes = 82;
}

two_feeders_lines : concat (lines_of names (set_at 1 ((0 ∷ 0 ∷ []) ∷ []) ∷ final_at 2 ((1 ∷ 2 ∷ []) ∷ []) ∷ []))
    ≡ codes "set 1 cut 1:0,0 members a\nfinal 2 cut 1:1,2 members a\n"
unfolding lines_of digits
two_feeders_lines = refl

two_feeders_ledger : ledger_text two_feeders
    ≡ codes "frames assign 1 report 0 collect 0 values 0 settled 2 stop 1\nrounds short 0 full 0 wide 0 stale 0\nbytes 82\nmonitor 1 assign 1 report 0 collect 0 values 0 settled 2 stop 1\n"
unfolding digits
two_feeders_ledger = refl

-- ---- a journal that was tuned

-- k and epsilon stand on the line behind the retune, and not on the one before it
retuned_lines : lines_of names (set_at 1 ((0 ∷ []) ∷ []) ∷ n.Tuned 2 (pos 7) ∷ n.Published (record { number = 2; last = false; k = 2; epsilon = pos 7; members = 1 ∷ 2 ∷ []; cut = (1 ∷ []) ∷ [] }) ∷ [])
    ≡ codes "set 1 cut 1:0 members a\n" ∷ codes "set 2 k 2 epsilon 7 cut 1:1 members a b\n" ∷ []
unfolding lines_of digits
retuned_lines = refl
