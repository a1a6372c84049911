-- Which refusal a frame or a retune meets at the coordinator, over the journal before it.
use Rattle.std.specs.Prelude.{ℕ, ◌^◌, ℤ, pos, neg_ℤ, ◌+ℤ◌, int_lt, unsigned_abs, Bool, true, false, not, ◌&&◌, ◌||◌, ◌==◌, nat_eq, nat_lt, nat_le, if◌then◌else◌, List, [], length, map, find, Option, Some, None, unwrap_or}
use Rattle.std.specs.List.{list_all, zip}
use Rattle.std.specs.Option.{option_map}
use Rattle.std.specs.Cmp.Lexicographic.{pointwise}
use Rattle.tk_base.specs.Ascending.{ascends}
use Rattle.tk_base.specs.Objects.{is_in}
use Rattle.tk_base.specs.Pairs.{objects_of}
use Rattle.tk_base.specs.Settings.{Setup, is_k}
use Rattle.tk_border.specs.Levels.{least_of, is_above, resolution}
use Rattle.tk_rows.specs.Factors.{Grid, factor_at}
use Rattle.tk_alloc.specs.Parts.{value_of}
use Rattle.tk_frames.specs.declared.frame.Frame.{Frame}
use Rattle.tk_frames.specs.declared.frame.Frame.TheVariants as f
use Rattle.tk_frames.specs.declared.kind.Kind.TheVariants as k
use Rattle.tk_journal.specs.Readings.{Progress, assigns_sent, members_at, table_at, answer_of, progress_of, last_round, asked_of, waits_for, is_open, is_stopped}
use Rattle.tk_journal.specs.declared.noted.Noted.{Noted}
use Rattle.tk_journal.specs.declared.refusal.CoordRefusal.{CoordRefusal}
use Rattle.tk_journal.specs.declared.refusal.CoordRefusal.TheVariants.{AfterStop, NotForCoordinator, AheadOfSequence, NotAsked, BehindSequence, AfterReport, WrongObjects, TooGreatValue, NotBroken, BadBorder, BadCut}
use Rattle.tk_journal.specs.declared.refusal.RetuneRefusal.{RetuneRefusal}
use Rattle.tk_journal.specs.declared.refusal.RetuneRefusal.TheVariants as retune

-- what the tests look at, of one monitor: the Assigns sent to it, whether its current answer is a Report, what
-- its last fresh Settled says, the round that waits for it with the objects asked, and whether Stop was sent
pub record Shown : Type 0 where
  pub at : ℕ
  pub reported : Bool
  pub progress : Option Progress
  pub waits : Option (ℕ × List ℕ)
  pub stopped : Bool

-- the content is tested over these: the monitor, the catalogue, the members, and the factors
pub record Known : Type 0 where
  pub mon : ℕ
  pub objects : ℕ
  pub members : List ℕ
  pub table : Grid

-- ---- the content of Reports and Values

-- the level of an object at the monitor, by its reported value and the table
abbrev pub level_in : Known → List (ℕ × ℤ) → ℕ → ℤ
level_in known values o = value_of values o +ℤ factor_at known.table known.mon o

-- the least level of a member
abbrev pub least_in : Known → List (ℕ × ℤ) → Option ℤ
least_in known values = least_of (map (level_in known values) known.members)

-- some objects, ascending, all of the catalogue and no members
abbrev pub are_outsiders : Known → List ℕ → Bool
are_outsiders known failed =
    nat_lt 0 (length failed) && ascends failed && list_all (λ o. nat_le o known.objects && not (is_in known.members o)) failed

-- whether two lists of objects are the same
abbrev pub are_same : List ℕ → List ℕ → Bool
are_same xs ys = pointwise nat_eq xs ys

-- the first value that is over 2^100 in size
abbrev pub too_great : List (ℕ × ℤ) → Option CoordRefusal
too_great values = option_map (λ p. TooGreatValue (record { 0 = p.0 })) (find (λ p. nat_lt (2 ^ 100) (unsigned_abs p.1)) values)

-- the first failed object whose level is not above the least member level
abbrev pub not_broken : Known → List (ℕ × ℤ) → List ℕ → Option CoordRefusal
not_broken known values failed =
    option_map (λ o. NotBroken (record { 0 = o })) (find (λ o. not (is_above (least_in known values) (level_in known values o))) failed)

-- the border is above the least member level, or below -2^113
abbrev pub bad_border : ℤ → ℤ → Option CoordRefusal
bad_border border least =
    if int_lt least border || int_lt border (neg_ℤ (pos (2 ^ 113))) then Some (BadBorder border least) else None

-- the first refusal of two
abbrev pub or_else : Option CoordRefusal → Option CoordRefusal → Option CoordRefusal
or_else None next = next
or_else (Some refusal) next = Some refusal

-- whether a border is refused, by the least level of a member at these values
abbrev pub refusal_of_border : Known → List (ℕ × ℤ) → ℤ → Option CoordRefusal
refusal_of_border known values border = bad_border border (unwrap_or (least_in known values) (pos 0))

-- a Report is over the members and its failed objects, which are broken outsiders
abbrev pub refusal_of_report : Known → ℤ → List ℕ → List (ℕ × ℤ) → Option CoordRefusal
refusal_of_report known border failed values =
    if not (are_outsiders known failed && are_same (objects_of values) (resolution known.objects known.members failed)) then Some WrongObjects
    else or_else (too_great values) (or_else (not_broken known values failed) (refusal_of_border known values border))

-- Values are over the asked objects
abbrev pub refusal_of_values : Known → List ℕ → ℤ → List (ℕ × ℤ) → Option CoordRefusal
refusal_of_values known asked border values =
    if not (are_same (objects_of values) asked) then Some WrongObjects
    else or_else (too_great values) (refusal_of_border known values border)

-- ---- the places of a Settled

-- places of 1 to 8 feeders, none over 1,000,000
abbrev pub are_places : List ℕ → Bool
are_places places = nat_lt 0 (length places) && nat_le (length places) 8 && list_all (λ p. nat_le p 1000000) places

-- places go on from earlier ones: as many, none lower, and the same where those were the last
abbrev pub go_on : Option Progress → Bool → List ℕ → Bool
go_on None last places = true
go_on (Some before) last places =
    if before.last then last && are_same places before.places
    else length places == length before.places && list_all (λ p. nat_le p.0 p.1) (zip before.places places)

-- places are refused that no feeders can have, or that do not go on from earlier ones
abbrev pub refusal_of_cut : Option Progress → Bool → List ℕ → Option CoordRefusal
refusal_of_cut before last places = if are_places places && go_on before last places then None else Some BadCut

-- ---- the tests in their order

-- an answer is ahead of the Assigns sent, or stale, or stands after a Report; else its content is tested
abbrev pub refusal_of_answer : Shown → ℕ → Option CoordRefusal → Option CoordRefusal
refusal_of_answer shown seq content =
    if nat_lt shown.at seq then Some (AheadOfSequence shown.at seq)
    else (if nat_lt seq shown.at then None
    else (if shown.reported then Some (AfterReport seq) else content))

-- the round waits for the monitor
abbrev pub is_awaited : Option (ℕ × List ℕ) → ℕ → Bool
is_awaited None round = false
is_awaited (Some (r, asked)) round = r == round

-- the objects that it asks of the monitor, none where it does not wait
abbrev pub asked_in : Option (ℕ × List ℕ) → List ℕ
asked_in None = []
asked_in (Some (round, asked)) = asked

-- Values are ahead of the Assigns sent, or not asked for, or behind; else their content is tested
abbrev pub refusal_of_awaited : Shown → Known → ℕ → ℕ → ℤ → List (ℕ × ℤ) → Option CoordRefusal
refusal_of_awaited shown known round seq border values =
    if nat_lt shown.at seq then Some (AheadOfSequence shown.at seq)
    else (if not (is_awaited shown.waits round) then Some (NotAsked round)
    else (if nat_lt seq shown.at then Some (BehindSequence shown.at seq)
    else refusal_of_values known (asked_in shown.waits) border values))

-- a Report, a Settled and Values meet their tests, and no other kind is for the coordinator
abbrev pub refusal_of_kind : Shown → Known → Frame → Option CoordRefusal
refusal_of_kind shown known (f.Hello run version mon) = Some (NotForCoordinator k.Hello)
refusal_of_kind shown known (f.Report seq border failed values) = refusal_of_answer shown seq (refusal_of_report known border failed values)
refusal_of_kind shown known (f.Collect round asked) = Some (NotForCoordinator k.Collect)
refusal_of_kind shown known (f.Values round seq border values) = refusal_of_awaited shown known round seq border values
refusal_of_kind shown known (f.Assign seq members changes) = Some (NotForCoordinator k.Assign)
refusal_of_kind shown known (f.Settled seq last places) = refusal_of_answer shown seq (refusal_of_cut shown.progress last places)
refusal_of_kind shown known f.Stop = Some (NotForCoordinator k.Stop)

-- a frame behind Stop is refused, and one in front of it is tested by its kind
abbrev pub refusal_over : Shown → Known → Frame → Option CoordRefusal
refusal_over shown known frame = if shown.stopped then Some AfterStop else refusal_of_kind shown known frame

-- ---- what a journal shows

-- whether there is an answer, and it is a Report
abbrev pub is_report : Option Frame → Bool
is_report (Some (f.Report seq border failed values)) = true
is_report answer = false

-- the open round that waits for a monitor, with the objects that it asks of it
abbrev pub waits_at : ℕ → List Noted → Option (ℕ × List ℕ)
waits_at mon journal =
    if waits_for (last_round journal) mon journal then option_map (λ asked. (last_round journal, asked)) (asked_of (last_round journal) mon journal)
    else None

-- what a journal shows of a monitor
abbrev pub shown_by : ℕ → List Noted → Shown
shown_by mon journal = record {
  at = assigns_sent mon journal;
  reported = is_report (answer_of mon journal);
  progress = progress_of mon journal;
  waits = waits_at mon journal;
  stopped = is_stopped journal;
}

-- over what the content of a monitor's frames is tested, by a journal
abbrev pub known_by : Setup → ℕ → List Noted → Known
known_by setup mon journal = record {
  mon = mon;
  objects = setup.objects;
  members = members_at journal;
  table = table_at setup journal;
}

-- which refusal a frame of a monitor meets over a journal, if it meets one
unfoldable pub refusal_of : Setup → List Noted → ℕ → Frame → Option CoordRefusal
refusal_of setup journal mon frame = refusal_over (shown_by mon journal) (known_by setup mon journal) frame

-- which refusal a retune to k and epsilon meets, if it meets one
unfoldable pub retune_refusal_of : Setup → List Noted → ℕ → ℕ → Option RetuneRefusal
retune_refusal_of setup journal k epsilon =
    if is_stopped journal then Some retune.AfterStop
    else (if is_open setup journal then Some retune.RoundOpen
    else (if not (is_k k setup.objects) then Some retune.BadK
    else (if not (nat_le epsilon (2 ^ 100)) then Some retune.BadEpsilon else None)))
