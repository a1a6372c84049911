-- What a Settled brings about.
use Rattle.std.proofs.Common.{◌≡◌, ◌≢◌, ◌⊎◌, ℕ, ◌+◌, ◌-◌, Bool, true, false, List, [], length, Some, None, refl, sym, ap, ◌∙◌, subst}
use Rattle.std.specs.Prelude.{nat_lt, slice_get}
use Rattle.std.proofs.lemmas.Bool.{ltb-true}
use Rattle.tk_base.specs.Settings.{Setup}
use Rattle.tk_base.specs.declared.ids.Mon.{Mon}
use Rattle.tk_frames.specs.declared.frame.Frame.{Frame}
use Rattle.tk_frames.specs.declared.frame.Frame.TheVariants as f
use Rattle.tk_journal.specs.Laws.{IsMonitor}
use Rattle.tk_journal.specs.Publishing.{publications}
use Rattle.tk_journal.specs.Readings.{Progress, assigns_sent, in_force, is_open, is_stopped, members_at}
use Rattle.tk_journal.specs.Refusal.{refusal_of}
use Rattle.tk_journal.specs.declared.noted.Noted.{Noted}
use Rattle.tk_journal.specs.declared.turn.TurnKind.TheVariants.{Note, Stale}
use Rattle.tk_coord.specs.Closing.{Closes, has_news_at, said_by, settled_by}
use Rattle.tk_coord.specs.Coordinator.{IsJournal, CoordinatorView}
use Rattle.tk_coord.specs.State.{ArePeers, Stands}
use Rattle.tk_coord.specs.Steps.{Follows, IsCounted, IsStep, Tells, quiet_turn}
use Rattle.tk_coord.specs.declared.peer.Peer.{Peer}
use Rattle.tk_coord.specs.declared.step.Reply.TheVariants as reply
use Rattle.tk_coord.specs.declared.step.Step.{Step}
use Rattle.tk_coord.specs.declared.step.Statement.TheVariants as stated
use Rattle.tk_coord.proofs.CountedTurns.{counts_quiet, settled_counts, stale_settled_counts}
use Rattle.tk_coord.proofs.GrowLemmas.{orderly_at}
use Rattle.tk_coord.proofs.SettledTurns.{HaveOthersSettled, calm_follows_settled, settled_seq, stale_settled_follows, stirred_follows}
use Rattle.tk_coord.proofs.TellLemmas.{settled_stale, settled_tells}

-- a Settled that no test refuses, and what the coordinator knows when it takes it
pub record IsSettledTaken (s : Setup) (j : List Noted) (peers : List Peer) (mon : Mon) (frame : Frame) (seq : ℕ) (last : Bool) (places : List ℕ) : Type 0 where
  pub journal : IsJournal s j
  pub are_peers : ArePeers s j peers
  pub range : IsMonitor s mon.0
  pub is : frame ≡ f.Settled seq last places
  pub accepted : refusal_of s j mon.0 frame ≡ None

-- what the fields know of it is so of the journal that is seen
pub settled_taken : (seen now : CoordinatorView) (peers kept : List Peer) (mon : Mon) (frame : Frame) (seq : ℕ) (last : Bool) (places : List ℕ) → seen ≡ now → IsJournal seen.settings seen.journal
    → peers ≡ kept → ArePeers seen.settings seen.journal kept → IsMonitor now.settings mon.0 → frame ≡ f.Settled seq last places
    → refusal_of now.settings now.journal mon.0 frame ≡ None → IsSettledTaken now.settings now.journal peers mon frame seq last places
settled_taken seen now peers kept mon frame seq last places same journal is_kept are_peers range is accepted = record {
  journal = subst (λ (v : CoordinatorView). IsJournal v.settings v.journal) same journal;
  are_peers = subst (λ (v : CoordinatorView). ArePeers v.settings v.journal peers) same (subst (ArePeers seen.settings seen.journal) (sym is_kept) are_peers);
  range = range;
  is = is;
  accepted = accepted;
}

-- no test refuses it
settled_accepted : (s : Setup) (j : List Noted) (peers : List Peer) (mon : Mon) (frame : Frame) (seq : ℕ) (last : Bool) (places : List ℕ) → IsSettledTaken s j peers mon frame seq last places
    → refusal_of s j mon.0 (f.Settled seq last places) ≡ None
settled_accepted s j peers mon frame seq last places t = ap (refusal_of s j mon.0) (sym t.is) ∙ t.accepted

-- what a frame tells and what follows it is its step
step_of : (s : Setup) (j : List Noted) (mon : Mon) (frame settled : Frame) (step : Step) → frame ≡ settled
    → Tells s j mon settled step.statement → Follows s j mon settled step.outcome → IsCounted s j mon.0 settled step.turn.kind step.turn.fails step.turn.widens → IsStep s j mon frame step
step_of s j mon frame settled step is tells follows counts = subst (λ (x : Frame). IsStep s j mon x step) (sym is) (record { told = tells; outcome = follows; counted = counts })

-- nothing comes of a stale Settled
pub stale_step : (s : Setup) (j : List Noted) (peers : List Peer) (mon : Mon) (frame : Frame) (seq : ℕ) (last : Bool) (places : List ℕ) (step : Step)
    → IsSettledTaken s j peers mon frame seq last places → nat_lt seq (assigns_sent mon.0 j) ≡ true
    → step.statement ≡ stated.Nothing → step.outcome.entries.items ≡ [] → step.outcome.reply ≡ reply.Nothing → Stands s j step.outcome.phase → step.turn ≡ quiet_turn Stale → IsStep s j mon frame step
stale_step s j peers mon frame seq last places step t late tells sends replies stands turn =
    step_of s j mon frame (f.Settled seq last places) step t.is
    (subst (Tells s j mon (f.Settled seq last places)) (sym tells) (settled_stale s j mon seq last places (ltb-true seq (assigns_sent mon.0 j) late)))
    (stale_settled_follows s j mon seq last places step.outcome t.journal t.range (settled_accepted s j peers mon frame seq last places t) late sends replies stands)
    (counts_quiet s j mon.0 (f.Settled seq last places) step.turn Stale turn (stale_settled_counts s j mon.0 seq last places late))

-- what a fresh Settled tells
fresh_told : (s : Setup) (j : List Noted) (peers : List Peer) (mon : Mon) (frame : Frame) (seq : ℕ) (last : Bool) (places : List ℕ) (progress : Progress) (step : Step)
    → IsSettledTaken s j peers mon frame seq last places → nat_lt seq (assigns_sent mon.0 j) ≡ false → progress ≡ record { places = places; last = last }
    → step.statement ≡ stated.Settled progress → Tells s j mon (f.Settled seq last places) step.statement
fresh_told s j peers mon frame seq last places progress step t late is tells =
    let none = settled_accepted s j peers mon frame seq last places t in
    subst (Tells s j mon (f.Settled seq last places)) (ap stated.Settled (sym is) ∙ sym tells)
    (settled_tells s j mon seq last places (orderly_at s j t.journal) none (settled_seq s j mon.0 seq last places none late))

-- nothing follows a fresh Settled while a round is open, or another monitor has not settled
pub stirred_step : (s : Setup) (j : List Noted) (peers : List Peer) (mon : Mon) (frame : Frame) (seq : ℕ) (last : Bool) (places : List ℕ) (progress : Progress) (step : Step)
    → IsSettledTaken s j peers mon frame seq last places → nat_lt seq (assigns_sent mon.0 j) ≡ false → progress ≡ record { places = places; last = last }
    → (is_open s j ≡ true) ⊎ ((i : ℕ) × (l : Peer) × (i ≢ mon.0 - 1) × (slice_get peers i ≡ Some l) × (settled_by (Some l) ≡ None))
    → step.statement ≡ stated.Settled progress → step.outcome.entries.items ≡ [] → step.outcome.reply ≡ reply.Nothing → Stands s j step.outcome.phase → step.turn ≡ quiet_turn Note
    → IsStep s j mon frame step
stirred_step s j peers mon frame seq last places progress step t late is which tells sends replies stands turn =
    step_of s j mon frame (f.Settled seq last places) step t.is (fresh_told s j peers mon frame seq last places progress step t late is tells)
    (stirred_follows s j peers mon seq last places step.outcome t.journal t.are_peers t.range (settled_accepted s j peers mon frame seq last places t) which sends replies stands)
    (counts_quiet s j mon.0 (f.Settled seq last places) step.turn Note turn (settled_counts s j mon.0 seq last places late))

-- ---- where all have settled

-- what ends the turn follows the Settled with which all have settled
pub calm_step : (s : Setup) (j : List Noted) (peers : List Peer) (mon : Mon) (frame : Frame) (seq : ℕ) (last : Bool) (places : List ℕ) (progress : Progress) (step : Step)
    → IsSettledTaken s j peers mon frame seq last places → nat_lt seq (assigns_sent mon.0 j) ≡ false → progress ≡ record { places = places; last = last }
    → is_open s j ≡ false → HaveOthersSettled peers (mon.0 - 1) → Closes s j (said_by peers (mon.0 - 1) progress) step.outcome
    → step.statement ≡ stated.Settled progress → step.turn ≡ quiet_turn Note → IsStep s j mon frame step
calm_step s j peers mon frame seq last places progress step t late is closed others closes tells turn =
    step_of s j mon frame (f.Settled seq last places) step t.is (fresh_told s j peers mon frame seq last places progress step t late is tells)
    (calm_follows_settled s j peers mon seq last places progress (in_force s j) (members_at j) (has_news_at s j) (length (publications j) + 1)
    (is_stopped step.outcome.entries.items) closes.phase step.outcome
    t.journal t.are_peers t.range (settled_accepted s j peers mon frame seq last places t) late closed others is refl refl refl refl closes.stands closes.sends refl closes.replies closes.holds closes.range)
    (counts_quiet s j mon.0 (f.Settled seq last places) step.turn Note turn (settled_counts s j mon.0 seq last places late))
