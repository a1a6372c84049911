-- What follows where a round ends, by what was dealt.
use Rattle.std.proofs.Common.{◌≡◌, ℕ, ◌<◌, true, List, [], ◌∷◌, length, get_or, sym, ap, ◌∙◌, arith}
use Rattle.std.specs.List.{range_with_len}
use Rattle.std.proofs.lemmas.Bool.{eqb-true, true≢false}
use Rattle.std.proofs.lemmas.List.{get_or-map, length-map}
use Rattle.tk_base.specs.Pairs.{objects_of}
use Rattle.tk_base.specs.Settings.{Setup}
use Rattle.tk_base.proofs.AscendingLemmas.{ascending_positive}
use Rattle.tk_rows.specs.Factors.{Grid}
use Rattle.tk_rows.specs.Replacing.{IsReplacement, monitors_of}
use Rattle.tk_rows.specs.declared.mon_change.MonChange.{MonChange}
use Rattle.tk_rows.specs.declared.reallocation.Reallocation.{Reallocation}
use Rattle.tk_alloc.specs.Resolving.{IsReady, CanTakePart}
use Rattle.tk_alloc.specs.Rounds.{AreValues}
use Rattle.tk_alloc.specs.declared.reported.Reported.{Reported}
use Rattle.tk_journal.specs.Deciding.{Decided, is_within_limit}
use Rattle.tk_journal.proofs.FirmTurns.{one_report}
use Rattle.tk_coord.specs.Checks.{AreNamed}
use Rattle.tk_coord.specs.Dealing.{AreDealtTo, CanOpenFull, Ends, IsAssigned, IsDealt, IsDecided, decided_in}
use Rattle.tk_coord.specs.declared.dealing.Dealt.{Dealt}
use Rattle.tk_coord.specs.declared.dealing.Dealt.TheVariants as dealt
use Rattle.tk_coord.specs.declared.peer.Peer.{Peer}
use Rattle.tk_coord.specs.declared.phase.Phase.{Phase}
use Rattle.tk_coord.specs.declared.step.TurnOutcome.{TurnOutcome}

-- ---- what is dealt, and its Assigns

-- a table of so many monitors takes changes of those alone
pub fits_named : (grid : Grid) (r : Reallocation) (m : ℕ) → IsReplacement grid r → grid.monitors ≡ m → AreNamed m r.at.items
fits_named grid r m fits size k d below =
    let here : get_or (monitors_of r.at.items) k 0 ≡ (get_or r.at.items k d).mon.0 = get_or-map (λ (c : MonChange). c.mon.0) r.at.items k d 0 below in
    let inside : k < length (monitors_of r.at.items) = omega (arith, below, length-map r.at.items (λ c. c.mon.0)) in
    let low = ascending_positive (monitors_of r.at.items) fits.order k inside in
    let high = fits.monitors k 0 inside in
    (omega (arith, low, here), omega (arith, high, here, size))

-- what is dealt over such a table goes to those monitors
pub dealt_named : (grid : Grid) (decided : Decided) (m : ℕ) (d : Dealt) → IsDealt grid decided d → grid.monitors ≡ m → AreDealtTo m d
dealt_named grid decided m (dealt.Factors r) is size = fits_named grid r m is.0.fits size
dealt_named grid decided m dealt.PastLimit is size = tt

-- a reallocation that was decided decides just that
pub decides_same : (grid : Grid) (decided : Decided) (r : Reallocation) → IsDecided grid decided r → decided_in r ≡ decided
decides_same grid decided r is = λ i. record { members = is.members i; dealt = is.dealt i }

-- where each factor is within its limit, the Assigns are the end
pub ends_within : (grid : Grid) (peers : List Peer) (phase : Phase) (rounds : ℕ) (decided : Decided) (outcome : TurnOutcome) → is_within_limit decided ≡ true
    → IsAssigned grid peers phase decided outcome → Ends grid peers phase rounds decided outcome
ends_within grid peers phase rounds decided outcome within is = record { within = λ _. is; past = λ past. absurd (true≢false (sym within ∙ past)) }

-- ---- what the end of a round begins with

-- with one monitor, its Report alone ends a full round
pub alone_can_end : (s : Setup) (grid : Grid) (present : List ℕ) (peers : List Peer) (report : Reported) → IsReady s grid present (objects_of report.values)
    → CanTakePart grid present (objects_of report.values) report
    → length peers ≡ s.monitors → CanOpenFull s grid present peers report
alone_can_end s grid present peers report ready takes count alone =
    let one : s.monitors ≡ 1 = eqb-true s.monitors 1 alone in
    let mon : report.mon.0 ≡ 1 = (let low = takes.some in let high = takes.monitor in let size = ready.size.monitors in omega (arith, low, high, size, one)) in
    record {
      ready = ready;
      order = record {
        order = ap (λ (m : ℕ). m ∷ []) mon ∙ ap (range_with_len 1) (sym one);
        values = one_report (λ r. AreValues (objects_of report.values) r.values) report takes.values;
      };
      take = one_report (CanTakePart grid present (objects_of report.values)) report takes;
      count = count;
    }
