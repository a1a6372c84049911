-- The turns of a journal, in order: the kind of each, and what the streak, the rounds and the ledger read of it.
use Rattle.tk_frames.specs.declared.frame.Frame.TheVariants as f
use Rattle.tk_journal.specs.declared.noted.Noted.TheVariants as n
use Rattle.std.specs.Prelude.{ℕ, ◌+◌, Bool, true, false, not, ◌&&◌, ◌==◌, if◌then◌else◌, List, [], ◌∷◌, ◌++◌, map, fold, count_by}
use Rattle.tk_base.specs.Settings.{Setup}
use Rattle.tk_frames.specs.declared.frame.Frame.{Frame}
use Rattle.tk_alloc.specs.declared.reported.Reported.{Reported}
use Rattle.tk_journal.specs.Deciding.{is_within_limit, reports_at}
use Rattle.tk_journal.specs.Legal.{turn_of}
use Rattle.tk_journal.specs.Readings.{is_calm}
use Rattle.tk_journal.specs.Turns.{fails_at, full_at, is_wide, kind_of, reported}
use Rattle.tk_journal.specs.declared.turn.TurnKind.TheVariants.{Tune, Stale, Note, Short, Wide, Full, End}
use Rattle.tk_journal.specs.Walks.{walk}
use Rattle.tk_journal.specs.declared.turn.TurnKind.{TurnKind}
use Rattle.tk_journal.specs.declared.turn.Turn.{Turn}
use Rattle.tk_journal.specs.declared.noted.Noted.{Noted}

-- a Report opens a wide round by its kind, or with one monitor where its full round passes the limit
abbrev pub report_widens : Setup → List Noted → Reported → TurnKind → Bool
report_widens setup before report Tune = false
report_widens setup before report Stale = false
report_widens setup before report Note = false
report_widens setup before report Short = false
report_widens setup before report Wide = true
report_widens setup before report Full = (setup.monitors == 1) && not (is_within_limit (full_at setup before (report ∷ [])))
report_widens setup before report End = false

-- Values open one where they end a full round that passes the limit
abbrev pub values_widen : Setup → List Noted → TurnKind → Bool
values_widen setup now Tune = false
values_widen setup now Stale = false
values_widen setup now Note = false
values_widen setup now Short = false
values_widen setup now Wide = false
values_widen setup now Full = false
values_widen setup now End = not (is_wide setup now) && not (is_within_limit (full_at setup now (reports_at setup now)))

-- whether a frame opens a wide round
unfoldable pub opens_wide : Setup → List Noted → ℕ → Frame → Bool
opens_wide setup before mon (f.Report seq border failed values) = report_widens setup before (reported mon border values) (kind_of setup before mon (f.Report seq border failed values))
opens_wide setup before mon (f.Values round seq border values) =
    values_widen setup (before ++ n.Got (record { 0 = mon }) (f.Values round seq border values) ∷ []) (kind_of setup before mon (f.Values round seq border values))
opens_wide setup before mon frame = false

-- the turn of an input
abbrev pub turned : Setup → List Noted → Noted → List Turn
turned setup before (n.Got from frame) = record {
  kind = kind_of setup before from.0 frame;
  fails = fails_at setup before from.0 frame;
  widens = opens_wide setup before from.0 frame;
  calm = is_calm setup (before ++ turn_of setup before (n.Got from frame));
} ∷ []
turned setup before (n.Tuned k epsilon) = record {
  kind = Tune;
  fails = false;
  widens = true;
  calm = is_calm setup (before ++ turn_of setup before (n.Tuned k epsilon));
} ∷ []
turned setup before (n.Sent to frame) = []
turned setup before (n.Published publication) = []

-- the turns of a journal, in order
unfoldable pub turns_of : Setup → List Noted → List Turn
turns_of setup journal = walk (λ before turns e. turns ++ turned setup before e) [] [] journal

-- the kinds of its turns
abbrev pub turns : Setup → List Noted → List TurnKind
turns setup journal = map (λ t. t.kind) (turns_of setup journal)

-- ---- readings

-- whether a turn of this kind is a short round
abbrev pub is_short_kind : TurnKind → Bool
is_short_kind Tune = false
is_short_kind Stale = false
is_short_kind Note = false
is_short_kind Short = true
is_short_kind Wide = false
is_short_kind Full = false
is_short_kind End = false

-- whether a turn of this kind opens a full round
abbrev pub is_full_kind : TurnKind → Bool
is_full_kind Tune = false
is_full_kind Stale = false
is_full_kind Note = false
is_full_kind Short = false
is_full_kind Wide = false
is_full_kind Full = true
is_full_kind End = false

-- whether a turn of this kind takes a stale frame
abbrev pub is_stale_kind : TurnKind → Bool
is_stale_kind Tune = false
is_stale_kind Stale = true
is_stale_kind Note = false
is_stale_kind Short = false
is_stale_kind Wide = false
is_stale_kind Full = false
is_stale_kind End = false

-- the four counts of the ledger
pub record RoundCounts : Type 0 where
  pub short : ℕ
  pub full : ℕ
  pub wide : ℕ
  pub stale : ℕ

-- how many of some turns are short, open a full round, open a wide one, or are stale
abbrev pub counts_of : List Turn → RoundCounts
counts_of turned = record {
  short = count_by (λ t. is_short_kind t.kind) turned;
  full = count_by (λ t. is_full_kind t.kind) turned;
  wide = count_by (λ t. t.widens) turned;
  stale = count_by (λ t. is_stale_kind t.kind) turned;
}

-- the short tests failed since the last turn whose end was calm
abbrev pub failed_since : ℕ → Turn → ℕ
failed_since count t = if t.calm then 0 else (if t.fails then count + 1 else count)

-- the streak at the end of some turns
abbrev pub streak_of : List Turn → ℕ
streak_of turned = fold failed_since 0 turned
