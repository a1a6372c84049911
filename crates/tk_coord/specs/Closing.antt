-- What ends a turn in which every monitor has settled, by the answers. No public clause cites this.
use Rattle.std.specs.Prelude.{ℕ, ◌+◌, ◌-◌, ◌≡◌, ◌==◌, Bool, ◌||◌, if◌then◌else◌, List, [], ◌∷◌, map, length, Option, Some, None, unwrap_or, slice_get}
use Rattle.std.specs.List.{All, list_all, range_with_len}
use Rattle.tk_base.specs.Settings.{Setup}
use Rattle.tk_base.specs.History.{last_of}
use Rattle.tk_journal.specs.Entries.{IsEntryOf}
use Rattle.tk_journal.specs.Readings.{Progress, in_force, is_stopped, members_at}
use Rattle.tk_journal.specs.Publishing.{differs, publications, stops}
use Rattle.tk_journal.specs.declared.noted.Noted.{Noted}
use Rattle.tk_journal.specs.declared.noted.Noted.TheVariants as n
use Rattle.tk_coord.specs.declared.answer.Answer.{Answer}
use Rattle.tk_coord.specs.declared.answer.Answer.TheVariants as a
use Rattle.tk_coord.specs.declared.peer.Peer.{Peer}
use Rattle.tk_coord.specs.declared.publishing.Answers.{Answers}
use Rattle.tk_coord.specs.declared.phase.Phase.{Phase}
use Rattle.tk_coord.specs.declared.step.TurnOutcome.{TurnOutcome}
use Rattle.tk_coord.specs.declared.step.Reply.TheVariants as reply
use Rattle.tk_coord.specs.State.{Stands}

-- what the last fresh Settled says, if that is the current answer
abbrev pub settled_as : Option Answer → Option Progress → Option Progress
settled_as (Some a.Settled) progress = progress
settled_as (Some a.Report) progress = None
settled_as None progress = None

-- what the current answer of a peer's monitor says, if it is a Settled
abbrev pub settled_by : Option Peer → Option Progress
settled_by None = None
settled_by (Some peer) = settled_as peer.answer peer.progress

-- what a monitor says, where the one at a place says this now
abbrev pub said_at : List Peer → ℕ → Progress → ℕ → Progress
said_at peers place here mon = if mon == place + 1 then here else unwrap_or (settled_by (slice_get peers (mon - 1))) here

-- what all monitors say
abbrev pub said_by : List Peer → ℕ → Progress → List Progress
said_by peers place here = map (said_at peers place here) (range_with_len 1 (length peers))

-- what all say, where the code sees the peers and what the one says now
abbrev pub said_in : Answers → List Progress
said_in answers = said_by answers.peers.now answers.place answers.here.now

-- whether all say that their parts are at their ends
abbrev pub are_last : List Progress → Bool
are_last said = list_all (λ progress. progress.last) said

-- the publication, where one stands, and Stop behind the last
abbrev pub closing_by : Setup → List ℕ → List Progress → Bool → ℕ → List Noted
closing_by settings members said news number =
    if news || are_last said then n.Published (record {
      number = number;
      last = are_last said;
      k = settings.k;
      epsilon = settings.epsilon;
      members = members;
      cut = map (λ progress. progress.places) said;
    }) ∷ (if are_last said then stops settings else [])
    else []

-- whether the members, or the k and epsilon in force, differ from those last published
abbrev pub has_news_at : Setup → List Noted → Bool
has_news_at s j = differs (in_force s j) (members_at j) (last_of (publications j))

-- what ends a turn over a journal in which all say this: it stops where Stop is sent, and leaves the rest as it was
pub record Closes (s : Setup) (j : List Noted) (said : List Progress) (outcome : TurnOutcome) : Type 0 where
  pub sends : outcome.entries.items ≡ closing_by (in_force s j) (members_at j) said (has_news_at s j) (length (publications j) + 1)
  pub range : All (IsEntryOf s.monitors s.objects) outcome.entries.items
  pub replies : outcome.reply ≡ reply.Nothing
  pub phase : Phase
  pub stands : Stands s j phase
  pub holds : outcome.phase ≡ record phase { stopped = is_stopped outcome.entries.items }
