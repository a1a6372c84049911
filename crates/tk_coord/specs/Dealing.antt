-- What follows where a round ends or opens, by what it decides. No public clause cites this.
use Rattle.std.specs.Prelude.{ℕ, ◌+◌, ◌-◌, ◌^◌, ◌<◌, ◌≡◌, Bool, true, false, not, ◌==◌, List, [], ◌∷◌, length, map, drop, filter, Option, Some, None, Result, Ok, Err, slice_get}
use Rattle.std.specs.List.{All, range_with_len}
use Rattle.tk_base.specs.Objects.{objects}
use Rattle.tk_base.specs.Pairs.{objects_of}
use Rattle.tk_base.specs.Settings.{Setup}
use Rattle.tk_base.specs.declared.ids.Mon.{Mon}
use Rattle.tk_base.specs.declared.memory.NoMemory.{NoMemory}
use Rattle.tk_frames.specs.declared.frame.Frame.TheVariants as f
use Rattle.tk_rows.specs.Factors.{Grid}
use Rattle.tk_rows.specs.Replacing.{IsReplacement}
use Rattle.tk_rows.specs.declared.reallocation.Reallocation.{Reallocation}
use Rattle.tk_alloc.specs.Parts.{by_monitor}
use Rattle.tk_alloc.specs.Resolving.{IsReady, CanTakePart, objects_over}
use Rattle.tk_alloc.specs.Rounds.{IsOfSize, AreReports}
use Rattle.tk_alloc.specs.declared.alloc_fault.AllocFault.{AllocFault}
use Rattle.tk_alloc.specs.declared.alloc_fault.AllocFault.TheVariants as fault
use Rattle.tk_alloc.specs.declared.reported.Reported.{Reported}
use Rattle.tk_journal.specs.Deciding.{Decided, full_decides, is_within_limit, passes_short_test}
use Rattle.tk_journal.specs.Readings.{monitors}
use Rattle.tk_journal.specs.Turns.{collects, wide_collects}
use Rattle.tk_journal.specs.declared.noted.Noted.{Noted}
use Rattle.tk_journal.specs.declared.noted.Noted.TheVariants as n
use Rattle.tk_coord.specs.Checks.{AreNamed}
use Rattle.tk_coord.specs.declared.dealing.Dealt.{Dealt}
use Rattle.tk_coord.specs.declared.dealing.Dealt.TheVariants as dealt
use Rattle.tk_coord.specs.declared.peer.Peer.{Peer}
use Rattle.tk_coord.specs.declared.phase.Phase.{Phase}
use Rattle.tk_coord.specs.declared.step.TurnOutcome.{TurnOutcome}
use Rattle.tk_coord.specs.declared.step.Reply.TheVariants as reply

-- ---- what is dealt

-- a reallocation is what was decided, and a table can take it
pub record IsDecided (grid : Grid) (decided : Decided) (r : Reallocation) : Type 0 where
  pub members : r.members ≡ decided.members
  pub dealt : (0, r.own) ∷ by_monitor r.at.items ≡ decided.dealt
  pub fits : IsReplacement grid r

-- what a reallocation decides
abbrev pub decided_in : Reallocation → Decided
decided_in r = record { members = r.members; dealt = (0, r.own) ∷ by_monitor r.at.items }

-- what is dealt is what was decided, unless a factor would be past its limit
abbrev pub IsDealt : Grid → Decided → Dealt → Type 0
IsDealt grid decided (dealt.Factors r) = IsDecided grid decided r × (is_within_limit decided ≡ true)
IsDealt grid decided dealt.PastLimit = is_within_limit decided ≡ false

-- each monitor that is dealt new factors is one of so many
abbrev pub AreDealtTo : ℕ → Dealt → Type 0
AreDealtTo monitors (dealt.Factors r) = AreNamed monitors r.at.items
AreDealtTo monitors dealt.PastLimit = Unit {0}

-- what is dealt where a reallocation was made, or not
abbrev pub dealt_in : Result Reallocation AllocFault → Result Dealt NoMemory
dealt_in (Ok r) = Ok (dealt.Factors r)
dealt_in (Err (fault.PastLimit o node factor)) = Ok dealt.PastLimit
dealt_in (Err fault.NoMemory) = Err (record {})

-- ---- what the end of a round begins with

-- a short round with a Report that passes its test can end
pub record CanEndShort (s : Setup) (grid : Grid) (present : List ℕ) (peers : List Peer) (report : Reported) : Type 0 where
  pub ready : IsReady s grid present (objects_of report.values)
  pub takes : CanTakePart grid present (objects_of report.values) report
  pub test : passes_short_test s grid present report ≡ true
  pub count : length peers ≡ s.monitors

-- a full round with these reports can end
pub record CanEndFull (s : Setup) (grid : Grid) (present : List ℕ) (peers : List Peer) (reports : List Reported) : Type 0 where
  pub ready : IsReady s grid present (objects_over reports)
  pub order : AreReports s.monitors (objects_over reports) reports
  pub take : All (CanTakePart grid present (objects_over reports)) reports
  pub count : length peers ≡ s.monitors

-- a wide round with these reports can end
pub record CanEndWide (s : Setup) (grid : Grid) (peers : List Peer) (reports : List Reported) : Type 0 where
  pub size : IsOfSize s grid
  pub order : AreReports s.monitors (objects s.objects) reports
  pub count : length peers ≡ s.monitors

-- where there is one monitor, the full round with a Report can end
abbrev pub CanOpenFull : Setup → Grid → List ℕ → List Peer → Reported → Type 0
CanOpenFull s grid present peers report = s.monitors == 1 ≡ true → CanEndFull s grid present peers (report ∷ [])

-- what holds where a round has ended: the next k and epsilon are in force
abbrev pub closed : Phase → Phase
closed phase = record phase { settings = phase.next }

-- ---- what is sent

-- whether this is the monitor that is left out
abbrev pub is_but : Option Mon → ℕ → Bool
is_but None mon = false
is_but (Some but) mon = mon == but.0

-- the monitors from 1, but for one
abbrev pub mons_but : ℕ → Option Mon → List ℕ
mons_but monitors None = range_with_len 1 monitors
mons_but monitors (Some but) = filter (λ mon. not (mon == but.0)) (range_with_len 1 monitors)

-- how many Assigns a monitor was sent, by its peer
abbrev pub assigns_in : Option Peer → ℕ
assigns_in None = 0
assigns_in (Some peer) = peer.assigns

-- the same, by the peers of all monitors
abbrev pub assigns_by : List Peer → ℕ → ℕ
assigns_by peers mon = assigns_in (slice_get peers (mon - 1))

-- the next Assign to each monitor that is dealt new factors
abbrev pub assigns_over : List Peer → Decided → List Noted
assigns_over peers decided =
    map (λ d. n.Sent (record { 0 = d.0 }) (f.Assign (assigns_by peers d.0 + 1) decided.members d.1)) (drop 1 decided.dealt)

-- the Assigns of what was decided
pub record IsAssigned (grid : Grid) (peers : List Peer) (phase : Phase) (decided : Decided) (outcome : TurnOutcome) : Type 0 where
  pub change : Reallocation
  pub decides : IsDecided grid decided change
  pub reply : outcome.reply ≡ reply.Assign change
  pub sends : outcome.entries.items ≡ assigns_over peers decided
  pub room : All (λ c. assigns_by peers c.mon.0 < 2 ^ 64 - 1) change.at.items
  pub holds : outcome.phase ≡ phase

-- the Collects of a wide round, where so many rounds were opened before
pub record OpensWide (phase : Phase) (rounds : ℕ) (outcome : TurnOutcome) : Type 0 where
  pub reply : outcome.reply ≡ reply.Ask (record { number = rounds + 1; waiting = true; wide = true; asked = objects phase.settings.objects }) None
  pub sends : outcome.entries.items ≡ wide_collects phase.settings (rounds + 1)
  pub holds : outcome.phase ≡ phase

-- the Assigns of what was decided where each factor is within its limit, else a wide round
pub record Ends (grid : Grid) (peers : List Peer) (phase : Phase) (rounds : ℕ) (decided : Decided) (outcome : TurnOutcome) : Type 0 where
  pub within : is_within_limit decided ≡ true → IsAssigned grid peers phase decided outcome
  pub past : is_within_limit decided ≡ false → OpensWide phase rounds outcome

-- the Collects of a full round, to every monitor but the reporter
pub record OpensFull (phase : Phase) (rounds : ℕ) (report : Reported) (outcome : TurnOutcome) : Type 0 where
  pub reply : outcome.reply ≡ reply.Ask (record { number = rounds + 1; waiting = true; wide = false; asked = objects_of report.values }) (Some report)
  pub sends : outcome.entries.items ≡ collects (rounds + 1) (objects_of report.values) (filter (λ mon. not (mon == report.mon.0)) (monitors phase.settings))
  pub holds : outcome.phase ≡ phase

-- a full round opens, and with one monitor it ends at once
pub record OpensOrEnds (grid : Grid) (peers : List Peer) (phase : Phase) (rounds : ℕ) (members : List ℕ) (report : Reported) (outcome : TurnOutcome) : Type 0 where
  pub alone : phase.settings.monitors == 1 ≡ true → Ends grid peers phase (rounds + 1) (full_decides phase.settings grid members (report ∷ [])) outcome
  pub others : phase.settings.monitors == 1 ≡ false → OpensFull phase rounds report outcome
