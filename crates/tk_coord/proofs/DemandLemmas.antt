-- What a taken frame demands, by its kind.
use Rattle.std.proofs.Common.{◌≡◌, ℕ, ◌+◌, Bool, true, false, not, ◌&&◌, ℤ, List, [], None, refl, ap, ◌∙◌}
use Rattle.std.specs.Prelude.{nat_lt, if◌then◌else◌}
use Rattle.tk_base.specs.Settings.{Setup}
use Rattle.tk_base.specs.declared.ids.Mon.{Mon}
use Rattle.tk_frames.specs.declared.frame.Frame.TheVariants as f
use Rattle.tk_journal.specs.Deciding.{is_within_limit}
use Rattle.tk_journal.specs.Readings.{assigns_sent, is_open}
use Rattle.tk_journal.specs.Refusal.{refusal_of}
use Rattle.tk_journal.specs.Turns.{reported, passes_at, short_at, fails_at, streak, is_lone_full, kind_of, report_demands, rounds, values_demand, demanded}
use Rattle.tk_journal.specs.declared.noted.Noted.{Noted}
use Rattle.tk_journal.specs.declared.turn.TurnKind.{TurnKind}
use Rattle.tk_journal.specs.declared.turn.TurnKind.TheVariants.{Note, End, Stale}
use Rattle.tk_journal.proofs.Counting.{got_count}
use Rattle.tk_journal.proofs.Turning.{kind_by, fresh_seq}
use Rattle.tk_coord.specs.Steps.{with_got}

-- ---- Reports

-- the kind of a fresh Report that finds no open round, by the tests
pub report_kind : (s : Setup) (j : List Noted) (mon seq : ℕ) (border : ℤ) (failed : List ℕ) (values : List (ℕ × ℤ)) (passes within few : Bool) → nat_lt seq (assigns_sent mon j) ≡ false
    → is_open s j ≡ false
    → passes_at s j (reported mon border values) ≡ passes → is_within_limit (short_at s j (reported mon border values)) ≡ within → nat_lt (streak s j) 8 ≡ few
    → kind_of s j mon (f.Report seq border failed values) ≡ kind_by false false passes within few
unfolding kind_of
report_kind s j mon seq border failed values passes within few late closed passed small left =
    let report = reported mon border values in
    ap (λ b. kind_by b (is_open s j) (passes_at s j report) (is_within_limit (short_at s j report)) (nat_lt (streak s j) 8)) late
    ∙ ap (λ b. kind_by false b (passes_at s j report) (is_within_limit (short_at s j report)) (nat_lt (streak s j) 8)) closed
    ∙ ap (λ b. kind_by false false b (is_within_limit (short_at s j report)) (nat_lt (streak s j) 8)) passed
    ∙ ap (λ b. kind_by false false passes b (nat_lt (streak s j) 8)) small
    ∙ ap (λ b. kind_by false false passes within b) left

-- what the turn of a Report demands, by its kind
pub report_demanded : (s : Setup) (j : List Noted) (mon seq : ℕ) (border : ℤ) (failed : List ℕ) (values : List (ℕ × ℤ)) (kind : TurnKind) → kind_of s j mon (f.Report seq border failed values) ≡ kind
    → demanded s j mon (f.Report seq border failed values) ≡ report_demands s j (reported mon border values) kind
unfolding demanded
report_demanded s j mon seq border failed values kind is = ap (report_demands s j (reported mon border values)) is

-- a Report that opens no round demands nothing, by whether it is stale
pub report_demands_none : (s : Setup) (j : List Noted) (mon seq : ℕ) (border : ℤ) (failed : List ℕ) (values : List (ℕ × ℤ)) (late : Bool)
    → nat_lt seq (assigns_sent mon j) ≡ late → (late ≡ false → is_open s j ≡ true)
    → demanded s j mon (f.Report seq border failed values) ≡ []
unfolding kind_of
report_demands_none s j mon seq border failed values true late opened =
    let report = reported mon border values in
    report_demanded s j mon seq border failed values Stale (ap (λ b. kind_by b (is_open s j) (passes_at s j report) (is_within_limit (short_at s j report)) (nat_lt (streak s j) 8)) late)
report_demands_none s j mon seq border failed values false late opened =
    let report = reported mon border values in
    report_demanded s j mon seq border failed values Note
    (ap (λ b. kind_by b (is_open s j) (passes_at s j report) (is_within_limit (short_at s j report)) (nat_lt (streak s j) 8)) late
    ∙ ap (λ b. kind_by false b (passes_at s j report) (is_within_limit (short_at s j report)) (nat_lt (streak s j) 8)) (opened refl))

-- the fresh Report over a journal with no open round fails where it does not pass
pub fails_fresh : (s : Setup) (j : List Noted) (mon : Mon) (seq : ℕ) (border : ℤ) (failed : List ℕ) (values : List (ℕ × ℤ)) → refusal_of s j mon.0 (f.Report seq border failed values) ≡ None
    → nat_lt seq (assigns_sent mon.0 j) ≡ false → fails_at s j mon.0 (f.Report seq border failed values) ≡ (not (is_open s j) && not (passes_at s j (reported mon.0 border values)))
fails_fresh s j mon seq border failed values none late =
    ap (λ b. b && not (is_open s j) && not (passes_at s j (reported mon.0 border values))) (fresh_seq s j mon seq border failed values none late)

-- ---- Settled

-- a Settled demands nothing
pub settled_demands : (s : Setup) (j : List Noted) (mon seq : ℕ) (last : Bool) (places : List ℕ) → demanded s j mon (f.Settled seq last places) ≡ []
unfolding demanded
settled_demands s j mon seq last places = refl

-- ---- Values

-- the journal with Values
abbrev pub with_values : List Noted → Mon → ℕ → ℕ → ℤ → List (ℕ × ℤ) → List Noted
with_values j mon round seq border values = with_got j mon (f.Values round seq border values)

-- Values demand something where they leave no round open
pub values_demanded : (s : Setup) (j : List Noted) (mon : Mon) (round seq : ℕ) (border : ℤ) (values : List (ℕ × ℤ)) (more : Bool) → is_open s (with_values j mon round seq border values) ≡ more
    → demanded s j mon.0 (f.Values round seq border values) ≡ values_demand s (with_values j mon round seq border values) (if more then Note else End)
unfolding demanded kind_of
values_demanded s j mon round seq border values more is = ap (λ b. values_demand s (with_values j mon round seq border values) (if b then Note else End)) is

-- a Note or an End alone is no full turn
pub values_alone : (s : Setup) (b : Bool) → is_lone_full s (if b then Note else End) ≡ false
values_alone s true = refl
values_alone s false = refl

-- so the rounds stay as many
pub values_count : (s : Setup) (j : List Noted) (mon : Mon) (round seq : ℕ) (border : ℤ) (values : List (ℕ × ℤ)) → rounds s (with_values j mon round seq border values) ≡ rounds s j
unfolding kind_of
values_count s j mon round seq border values =
    got_count s j mon (f.Values round seq border values)
    ∙ ap (λ b. if b then rounds s j + 1 else rounds s j) (values_alone s (is_open s (with_values j mon round seq border values)))
