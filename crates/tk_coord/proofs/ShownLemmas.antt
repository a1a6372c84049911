-- What the tests of a frame look at, by the journal.
use Rattle.std.proofs.Common.{◌≡◌, ℕ, ℤ, Bool, Option, List, sym, ap, ◌∙◌, arith}
use Rattle.tk_base.specs.Settings.{Setup}
use Rattle.tk_rows.specs.Factors.{Grid, factor_at}
use Rattle.tk_alloc.specs.declared.reported.Reported.{Reported}
use Rattle.tk_journal.specs.Laws.{IsMonitor}
use Rattle.tk_journal.specs.Readings.{answer_of, assigns_sent, factor, is_stopped, members_at, own, progress_of, table_at}
use Rattle.tk_journal.specs.Refusal.{is_report, known_by, shown_by, waits_at}
use Rattle.tk_journal.specs.declared.noted.Noted.{Noted}
use Rattle.tk_journal.proofs.Tables.{IsObject, factor_is, own_is, rows_count, table_size}
use Rattle.tk_coord.specs.Checks.{IsKnown}
use Rattle.tk_coord.specs.Coordinator.{IsJournal}
use Rattle.tk_coord.specs.Refusals.{shown_from, waits_by}
use Rattle.tk_coord.specs.State.{IsRound, peer_at}
use Rattle.tk_coord.specs.declared.peer.Peer.{Peer}
use Rattle.tk_coord.specs.declared.round.Round.{Round}
use Rattle.tk_coord.proofs.GrowLemmas.{firm_at}
use Rattle.tk_coord.proofs.PeerReadings.{is_report_of, waits_of}

-- what the fields know of a monitor is what the journal does
pub known_is : (s : Setup) (j : List Noted) (mon objects : ℕ) (members : List ℕ) (table : Grid) → objects ≡ s.objects → members ≡ members_at j → table ≡ table_at s j
    → record { mon = mon; objects = objects; members = members; table = table } ≡ known_by s mon j
known_is s j mon objects members table size named dealt =
    ap (λ (k : ℕ). record { mon = mon; objects = k; members = members; table = table }) size
    ∙ ap (λ (ms : List ℕ). record { mon = mon; objects = s.objects; members = ms; table = table }) named
    ∙ ap (λ (g : Grid). record { mon = mon; objects = s.objects; members = members_at j; table = g }) dealt

-- what is known of a monitor has its sizes
pub known_fits : (s : Setup) (j : List Noted) (mon : ℕ) → IsJournal s j → IsMonitor s mon → IsKnown (known_by s mon j)
known_fits s j mon h m = record {
  some = m.from_one;
  monitor = (let w = m.within in let e = table_size s j in omega (arith, w, e));
  objects = rows_count s j;
  within = (firm_at s j h).standing.chosen.within;
}

-- what a peer and the round show of a monitor is what the journal shows
pub shown_is : (s : Setup) (j : List Noted) (mon : ℕ) (peer : Peer) (round : Round) (gathered : List Reported) (stopped : Bool) → IsMonitor s mon → peer ≡ peer_at j mon
    → IsRound s j round gathered → stopped ≡ is_stopped j
    → shown_from peer round stopped ≡ shown_by mon j
shown_is s j mon peer round gathered stopped m is r ended =
    ap (λ (l : Peer). shown_from l round stopped) is
    ∙ ap (λ (b : Bool). record { at = assigns_sent mon j; reported = b; progress = progress_of mon j; waits = waits_by (peer_at j mon) round; stopped = stopped })
    (sym (is_report_of mon j))
    ∙ ap (λ (w : Option (ℕ × List ℕ)). record { at = assigns_sent mon j; reported = is_report (answer_of mon j); progress = progress_of mon j; waits = w; stopped = stopped })
    (sym (waits_of s j round gathered mon r m))
    ∙ ap (λ (b : Bool). record { at = assigns_sent mon j; reported = is_report (answer_of mon j); progress = progress_of mon j; waits = waits_at mon j; stopped = b }) ended

-- ---- the factors

-- the coordinator's own factor of an object is the one in the table
pub own_of : (s : Setup) (j : List Noted) (table : Grid) (o : ℕ) (z : ℤ) → table ≡ table_at s j → IsObject s o → z ≡ factor_at table 0 o → z ≡ own s j o
own_of s j table o z dealt object is = is ∙ ap (λ (g : Grid). factor_at g 0 o) dealt ∙ own_is s j o object

-- a monitor's factor of an object is the one in the table
pub factor_of : (s : Setup) (j : List Noted) (table : Grid) (o mon : ℕ) (z : ℤ) → table ≡ table_at s j → IsObject s o → IsMonitor s mon → z ≡ factor_at table mon o → z ≡ factor mon j o
factor_of s j table o mon z dealt object m is = is ∙ ap (λ (g : Grid). factor_at g mon o) dealt ∙ factor_is s j o mon object m
