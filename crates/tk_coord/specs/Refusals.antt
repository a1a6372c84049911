-- What the code that refuses a frame looks at. No public clause cites this.
use Rattle.std.specs.Prelude.{ℕ, ◌≡◌, Bool, true, false, if◌then◌else◌, List, Option, Some, None}
use Rattle.tk_journal.specs.Refusal.{Shown, asked_in, is_awaited, refusal_of_answer, refusal_of_cut}
use Rattle.tk_journal.specs.declared.refusal.CoordRefusal.{CoordRefusal}
use Rattle.tk_coord.specs.declared.answer.Answer.{Answer}
use Rattle.tk_coord.specs.declared.answer.Answer.TheVariants as a
use Rattle.tk_coord.specs.declared.peer.Peer.{Peer}
use Rattle.tk_coord.specs.declared.round.Round.{Round}
use Rattle.tk_coord.specs.declared.refusals.Awaited.{Awaited}
use Rattle.tk_coord.specs.declared.refusals.Shown.{Shown as Seen}

-- the round that waits for a monitor, with the objects that it asks for
abbrev pub waits_in : Option Awaited → Option (ℕ × List ℕ)
waits_in None = None
waits_in (Some awaited) = Some (awaited.round, awaited.asked.now)

-- it is this round that waits, and it asks for these objects
abbrev pub Asks : Option Awaited → ℕ → List ℕ → Type 0
Asks waits round asked = (is_awaited (waits_in waits) round ≡ true) × (asked ≡ asked_in (waits_in waits))

-- the first test that a Settled does not pass, over what a journal shows
abbrev pub refusal_of_settled : Shown → ℕ → Bool → List ℕ → Option CoordRefusal
refusal_of_settled shown seq last places = refusal_of_answer shown seq (refusal_of_cut shown.progress last places)

-- what the code sees, as what a journal shows
abbrev pub shown_in : Seen → Shown
shown_in seen = record {
  at = seen.at;
  reported = seen.reported;
  progress = seen.progress.now;
  waits = waits_in seen.waits;
  stopped = seen.stopped;
}

-- whether an answer is a Report
abbrev pub is_report_in : Option Answer → Bool
is_report_in (Some a.Report) = true
is_report_in answer = false

-- the round that waits for the monitor of a peer, with the objects that it asks for
abbrev pub waits_by : Peer → Round → Option (ℕ × List ℕ)
waits_by peer round = if peer.waits then Some (round.number, round.asked) else None

-- what a peer and the round show of a monitor
abbrev pub shown_from : Peer → Round → Bool → Shown
shown_from peer round stopped = record {
  at = peer.assigns;
  reported = is_report_in peer.answer;
  progress = peer.progress;
  waits = waits_by peer round;
  stopped = stopped;
}
