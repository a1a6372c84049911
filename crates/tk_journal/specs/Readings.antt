-- What a front of a journal says: members, factors, answers, rounds, and the k and epsilon in force.
use Rattle.std.specs.Prelude.{ℕ, ℤ, neg_ℤ, Bool, true, false, not, ◌&&◌, ◌||◌, ◌==◌, nat_lt, if◌then◌else◌, List, [], ◌∷◌, length, map, filter, filter_map, Option, Some, None, is_some, unwrap_or}
use Rattle.std.specs.List.{range_with_len, list_any, list_all}
use Rattle.std.specs.Option.{option_map}
use Rattle.tk_base.specs.Objects.{objects}
use Rattle.tk_base.specs.Settings.{Setup}
use Rattle.tk_base.specs.Sum.{int_sum}
use Rattle.tk_frames.specs.Assigns.{Assign, assign_in, row}
use Rattle.tk_frames.specs.declared.frame.Frame.{Frame}
use Rattle.tk_frames.specs.declared.frame.Frame.TheVariants as f
use Rattle.tk_rows.specs.Factors.{Grid}
use Rattle.tk_alloc.specs.declared.reported.Reported.{Reported}
use Rattle.tk_journal.specs.Links.{Passed, frames_to, frames_from, link_of}
use Rattle.tk_journal.specs.Links.Passed.{Up, Down}
use Rattle.tk_base.specs.History.{last_of}
use Rattle.tk_frames.specs.Carried.{is_numbered}
use Rattle.tk_journal.specs.Walks.{walk}
use Rattle.tk_journal.specs.declared.noted.Noted.{Noted}
use Rattle.tk_journal.specs.declared.noted.Noted.TheVariants as n

-- the monitors, from 1
abbrev pub monitors : Setup → List ℕ
monitors setup = range_with_len 1 setup.monitors

-- the Assigns sent to a monitor
abbrev pub assigns_to : ℕ → List Noted → List Assign
assigns_to mon journal = filter_map assign_in (frames_to mon journal)

-- how many Assigns were sent to a monitor
unfoldable pub assigns_sent : ℕ → List Noted → ℕ
assigns_sent mon journal = length (assigns_to mon journal)

-- the sequence number of an Assign
abbrev pub seq_in : Frame → Option ℕ
seq_in (f.Assign seq members changes) = Some seq
seq_in frame = None

-- the sequence numbers of the Assigns sent to a monitor
abbrev pub seqs_to : ℕ → List Noted → List ℕ
seqs_to mon journal = filter_map seq_in (frames_to mon journal)

-- the members that an entry names, where it sends an Assign
abbrev pub members_in : Noted → Option (List ℕ)
members_in (n.Got from frame) = None
members_in (n.Sent to frame) = option_map (λ assign. assign.members) (assign_in frame)
members_in (n.Published publication) = None
members_in (n.Tuned k epsilon) = None

-- the members: those that the last Assign names
unfoldable pub members_at : List Noted → List ℕ
members_at journal = unwrap_or (last_of (filter_map members_in journal)) []

-- the factor of an object at a monitor
unfoldable pub factor : ℕ → List Noted → ℕ → ℤ
factor mon journal o = row (assigns_to mon journal) o

-- the coordinator's own factor of an object: minus the sum of all monitors'
unfoldable pub own : Setup → List Noted → ℕ → ℤ
own setup journal o = neg_ℤ (int_sum (map (λ mon. factor mon journal o) (monitors setup)))

-- the factors of all objects, the coordinator's first
unfoldable pub table_at : Setup → List Noted → Grid
table_at setup journal = record {
  monitors = setup.monitors;
  rows = map (λ o. own setup journal o ∷ map (λ mon. factor mon journal o) (monitors setup)) (objects setup.objects);
}

-- ---- answers

-- a frame that passed down, if it is an Assign
abbrev pub assign_down : Passed → Option Assign
assign_down (Up frame) = None
assign_down (Down frame) = assign_in frame

-- how many Assigns passed on a link
abbrev pub assigns_on : List Passed → ℕ
assigns_on link = length (filter_map assign_down link)

-- an Assign clears the answer, and a fresh Report or Settled is the answer from then on
abbrev pub answered : List Passed → Option Frame → Passed → Option Frame
answered before answer (Up frame) = if is_numbered (assigns_on before) frame then Some frame else answer
answered before answer (Down frame) = if is_some (assign_in frame) then None else answer

-- the current answer of a monitor: its last fresh Report or Settled after the last Assign to it
unfoldable pub answer_of : ℕ → List Noted → Option Frame
answer_of mon journal = walk answered [] None (link_of mon journal)

-- how far a Settled says that its monitor is: its places, and whether all its parts are at their ends
pub record Progress : Type 0 where
  pub places : List ℕ
  pub last : Bool

-- how far a frame says that its monitor is, if it is a Settled
abbrev pub progress_in : Frame → Option Progress
progress_in (f.Settled seq last places) = Some (record { places = places; last = last })
progress_in frame = None

-- a fresh Settled tells how far its monitor is; nothing else does
abbrev pub told : List Passed → Option Progress → Passed → Option Progress
told before progress (Up (f.Settled seq last places)) =
    if seq == assigns_on before then Some (record { places = places; last = last }) else progress
told before progress (Up frame) = progress
told before progress (Down frame) = progress

-- what the last fresh Settled of a monitor says
unfoldable pub progress_of : ℕ → List Noted → Option Progress
progress_of mon journal = walk told [] None (link_of mon journal)

-- what an answer says, where it is a Settled
abbrev pub settled_in : Option Frame → Option Progress
settled_in None = None
settled_in (Some frame) = progress_in frame

-- the same of the current answer of a monitor
abbrev pub settled_of : ℕ → List Noted → Option Progress
settled_of mon journal = settled_in (answer_of mon journal)

-- ---- rounds

-- the round and the objects of a Collect
abbrev pub collect_in : Frame → Option (ℕ × List ℕ)
collect_in (f.Collect round asked) = Some (round, asked)
collect_in frame = None

-- the round of the Collect that an entry sends, if it sends one
abbrev pub round_in : Noted → Option ℕ
round_in (n.Got from frame) = None
round_in (n.Sent to frame) = option_map (λ c. c.0) (collect_in frame)
round_in (n.Published publication) = None
round_in (n.Tuned k epsilon) = None

-- the number of the last round, 0 where none was opened
unfoldable pub last_round : List Noted → ℕ
last_round journal = unwrap_or (last_of (filter_map round_in journal)) 0

-- the objects that a frame asks for, if it is a Collect of this round
abbrev pub asked_by : ℕ → Frame → Option (List ℕ)
asked_by round (f.Collect r asked) = if r == round then Some asked else None
asked_by round frame = None

-- the objects that a round asks of a monitor, if it asks it
unfoldable pub asked_of : ℕ → ℕ → List Noted → Option (List ℕ)
asked_of round mon journal = last_of (filter_map (asked_by round) (frames_to mon journal))

-- what a frame of a monitor says to a round, if it is Values of it
abbrev pub values_for : ℕ → ℕ → Frame → Option Reported
values_for round mon (f.Values r seq border values) =
    if r == round then Some (record { mon = record { 0 = mon }; values = values; border = border }) else None
values_for round mon frame = None

-- what a monitor's Values say to a round, if there are any
unfoldable pub values_of : ℕ → ℕ → List Noted → Option Reported
values_of round mon journal = last_of (filter_map (values_for round mon) (frames_from mon journal))

-- whether a round waits for a monitor: it asked it, and has no Values of it
unfoldable pub waits_for : ℕ → ℕ → List Noted → Bool
waits_for round mon journal = is_some (asked_of round mon journal) && not (is_some (values_of round mon journal))

-- whether a round is open: the last one waits for some monitor
unfoldable pub is_open : Setup → List Noted → Bool
is_open setup journal = list_any (λ mon. waits_for (last_round journal) mon journal) (monitors setup)

-- no round is open, and every current answer is a Settled
unfoldable pub is_calm : Setup → List Noted → Bool
is_calm setup journal =
    not (is_open setup journal) && list_all (λ mon. is_some (settled_of mon journal)) (monitors setup)

-- ---- k and epsilon

-- k and epsilon of a retune, with the number of the round that it opened: the next Collect names it
pub record Tuning : Type 0 where
  pub k : ℕ
  pub epsilon : ℤ
  pub round : Option ℕ

-- the round that the next Collect names, if there is one
abbrev pub first_round : List Noted → Option ℕ
first_round [] = None
first_round (e ∷ after) = if is_some (round_in e) then round_in e else first_round after

-- the retunes of a journal, in order
abbrev pub tunings : List Noted → List Tuning
tunings [] = []
tunings (n.Tuned k epsilon ∷ after) = record { k = k; epsilon = epsilon; round = first_round after } ∷ tunings after
tunings (e ∷ after) = tunings after

-- whether a round was opened and is not open: a later one was, or it is the last and waits for nobody
abbrev pub is_over : Setup → List Noted → Option ℕ → Bool
is_over setup journal None = false
is_over setup journal (Some round) =
    nat_lt round (last_round journal) || (round == last_round journal && not (is_open setup journal))

-- the settings with k and epsilon of a retune in place of their own
abbrev pub tuned_to : Setup → Option Tuning → Setup
tuned_to setup None = setup
tuned_to setup (Some tuning) = record setup { k = tuning.k; epsilon = tuning.epsilon }

-- the settings with the k and epsilon in force: those of the last retune whose round is over
unfoldable pub in_force : Setup → List Noted → Setup
in_force setup journal = tuned_to setup (last_of (filter (λ t. is_over setup journal t.round) (tunings journal)))

-- ---- publications and the end

-- whether an entry sends Stop
abbrev pub is_stop : Noted → Bool
is_stop (n.Sent to f.Stop) = true
is_stop e = false

-- whether Stop was sent
unfoldable pub is_stopped : List Noted → Bool
is_stopped journal = list_any is_stop journal
