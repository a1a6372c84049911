-- How many rounds a turn opens.
use Rattle.tk_frames.specs.declared.frame.Frame.TheVariants as f
use Rattle.std.proofs.Common.{◌≡◌, ℕ, suc, zero, ◌+◌, ◌<◌, ◌&&◌, ◌==◌, ℤ, Bool, true, false, not, List, [], ◌∷◌, ◌++◌, drop, None, refl, sym, ap, ◌∙◌, arith}
use Rattle.std.specs.Prelude.{filter, nat_lt, if◌then◌else◌}
use Rattle.std.specs.List.{range_with_len}
use Rattle.std.proofs.lemmas.Bool.{and_parts, eq-eqb, eqb-true, false≢true, true≢false, le-ltb, lt-ltb, not-true}
use Rattle.tk_base.specs.Objects.{objects}
use Rattle.tk_base.specs.Settings.{Setup}
use Rattle.tk_base.specs.declared.ids.Mon.{Mon}
use Rattle.tk_frames.specs.declared.frame.Frame.{Frame}
use Rattle.tk_journal.specs.Deciding.{Decided, is_within_limit}
use Rattle.tk_journal.specs.Readings.{assigns_sent, is_open, monitors}
use Rattle.tk_journal.specs.Refusal.{refusal_of}
use Rattle.tk_journal.specs.Turns.{assigns, collects, demanded, fails_at, is_lone_full, kind_of, passes_at, reported, rounds, short_at, streak, wide_collects}
use Rattle.tk_journal.specs.declared.turn.TurnKind.TheVariants.{Stale, Note, Short, Wide, Full}
use Rattle.tk_journal.specs.declared.noted.Noted.{Noted}
use Rattle.tk_journal.proofs.Counting.{collects_count, got_count, named_count}
use Rattle.tk_journal.proofs.Orderly.{Row, others_of}
use Rattle.tk_journal.proofs.Turning.{fresh_seq}
use Rattle.tk_journal.proofs.GrowLemmas.{with_got}
use Rattle.tk_coord.proofs.DemandLemmas.{values_alone}
use Rattle.tk_story.specs.Story.{StoryView}
use Rattle.tk_drain.proofs.TurnReads.{Turning, same_mid, turned}
use Rattle.tk_drain.proofs.TurnFalls.{nothing_mid}

lone_by : (s : Setup) (late opened passes within few fresh : Bool) → (late ≡ false → fresh ≡ true) → (fresh && not opened && not passes) ≡ false
    → is_lone_full s (if late then Stale else (if opened then Note else (if passes then (if within then Short else Wide) else (if few then Full else Wide)))) ≡ false
lone_by s true opened passes within few fresh h none = refl
lone_by s false true passes within few fresh h none = refl
lone_by s false false true true few fresh h none = refl
lone_by s false false true false few fresh h none = refl
lone_by s false false false within false fresh h none = refl
lone_by s false false false within true true h none = absurd (true≢false none)
lone_by s false false false within true false h none = absurd (false≢true (h refl))

settled_not : (s : Setup) (late : Bool) → is_lone_full s (if late then Stale else Note) ≡ false
settled_not s true = refl
settled_not s false = refl

pub not_lone : (s : Setup) (j : List Noted) (from : Mon) (frame : Frame) → refusal_of s j from.0 frame ≡ None → fails_at s j from.0 frame ≡ false → is_lone_full s (kind_of s j from.0 frame) ≡ false
unfolding kind_of
not_lone s j from (f.Report seq border failed values) none fails =
    lone_by s (nat_lt seq (assigns_sent from.0 j)) (is_open s j) (passes_at s j (reported from.0 border values)) (is_within_limit (short_at s j (reported from.0 border values))) (nat_lt (streak s j) 8) (seq == assigns_sent from.0 j)
    (λ late. fresh_seq s j from seq border failed values none late) fails
not_lone s j from (f.Settled seq last places) none fails = settled_not s (nat_lt seq (assigns_sent from.0 j))
not_lone s j from (f.Values round seq border values) none fails = values_alone s (is_open s (with_got j from (f.Values round seq border values)))
not_lone s j from (f.Hello run version mon) none fails = refl
not_lone s j from (f.Collect round asked) none fails = refl
not_lone s j from (f.Assign seq members changes) none fails = refl
not_lone s j from f.Stop none fails = refl

lone_true : (s : Setup) (late opened passes within few : Bool) → late ≡ false → opened ≡ false → passes ≡ false → few ≡ true
    → is_lone_full s (if late then Stale else (if opened then Note else (if passes then (if within then Short else Wide) else (if few then Full else Wide)))) ≡ (s.monitors == 1)
lone_true s false false false within true a b c d = refl
lone_true s true opened passes within few a b c d = absurd (true≢false a)
lone_true s false true passes within few a b c d = absurd (true≢false b)
lone_true s false false true within few a b c d = absurd (true≢false c)
lone_true s false false false within false a b c d = absurd (false≢true d)

pub is_lone : (s : Setup) (j : List Noted) (from : Mon) (seq : ℕ) (border : ℤ) (failed : List ℕ) (values : List (ℕ × ℤ)) → fails_at s j from.0 (f.Report seq border failed values) ≡ true → streak s j < 8 → (s.monitors == 1) ≡ true
    → is_lone_full s (kind_of s j from.0 (f.Report seq border failed values)) ≡ true
unfolding kind_of
is_lone s j from seq border failed values fails few lone =
    let report = reported from.0 border values in
    let outer = and_parts ((seq == assigns_sent from.0 j) && not (is_open s j)) (not (passes_at s j report)) fails in
    let inner = and_parts (seq == assigns_sent from.0 j) (not (is_open s j)) outer.0 in
    lone_true s (nat_lt seq (assigns_sent from.0 j)) (is_open s j) (passes_at s j report) (is_within_limit (short_at s j report)) (nat_lt (streak s j) 8)
    (le-ltb seq (assigns_sent from.0 j) (let e = eqb-true seq (assigns_sent from.0 j) inner.0 in omega (arith, e))) (not-true (is_open s j) inner.1) (not-true (passes_at s j report) outer.1) (lt-ltb (streak s j) 8 few)
    ∙ lone

-- ---- the rounds of a turn

pub got_none : (s : StoryView) (from : Mon) (frame : Frame) → Turning s from frame → fails_at s.settings s.journal from.0 frame ≡ false → rounds s.settings (with_got s.journal from frame) ≡ rounds s.settings s.journal
got_none s from frame t fails = got_count s.settings s.journal from frame ∙ ap (λ b. if b then rounds s.settings s.journal + 1 else rounds s.settings s.journal) (not_lone s.settings s.journal from frame t.none fails)

pub nothing_rounds : (s : StoryView) (from : Mon) (frame : Frame) → demanded s.settings s.journal from.0 frame ≡ [] → rounds s.settings (turned s from frame).journal ≡ rounds s.settings (with_got s.journal from frame)
nothing_rounds s from frame e = (same_mid s from frame).count ∙ ap (rounds s.settings) (nothing_mid s from frame e)

pub assigned_rounds : (s : StoryView) (from : Mon) (frame : Frame) (j : List Noted) (decided : Decided) → demanded s.settings s.journal from.0 frame ≡ assigns j decided → rounds s.settings (turned s from frame).journal ≡ rounds s.settings (with_got s.journal from frame)
assigned_rounds s from frame j decided e =
    let now = with_got s.journal from frame in
    (same_mid s from frame).count ∙ ap (λ xs. rounds s.settings (now ++ xs)) e ∙ named_count s.settings now (λ (d : Row). d.0) (λ d. assigns_sent d.0 j + 1) decided.members (λ d. d.1) (drop 1 decided.dealt)

asked_rounds : (s : StoryView) (from : Mon) (frame : Frame) (round : ℕ) (asked : List ℕ) (q : ℕ) (mons : List ℕ) → demanded s.settings s.journal from.0 frame ≡ collects round asked (q ∷ mons) → rounds s.settings (turned s from frame).journal ≡ round
asked_rounds s from frame round asked q mons e =
    let now = with_got s.journal from frame in
    (same_mid s from frame).count ∙ ap (λ xs. rounds s.settings (now ++ xs)) e ∙ collects_count s.settings now round asked q mons

pub wide_rounds : (s : StoryView) (from : Mon) (frame : Frame) → Turning s from frame → (round : ℕ) → demanded s.settings s.journal from.0 frame ≡ wide_collects s.settings round → rounds s.settings (turned s from frame).journal ≡ round
wide_rounds s from frame t round e = asked_rounds s from frame round (objects s.settings.objects) 1 (range_with_len (1 + 1) t.k) (e ∙ ap (λ xs. collects round (objects s.settings.objects) xs) (ap (range_with_len 1) t.some))

pub full_rounds : (s : StoryView) (from : Mon) (frame : Frame) (k round : ℕ) (asked : List ℕ) → s.settings.monitors ≡ suc k → (s.settings.monitors == 1) ≡ false → demanded s.settings s.journal from.0 frame ≡ collects round asked (filter (λ mon. not (mon == from.0)) (monitors s.settings))
    → rounds s.settings (turned s from frame).journal ≡ round
full_rounds s from frame zero round asked some lone e = absurd (true≢false (sym (eq-eqb s.settings.monitors 1 some) ∙ lone))
full_rounds s from frame (suc k) round asked some lone e =
    let others = others_of k from.0 in
    asked_rounds s from frame round asked others.0 others.1 (e ∙ ap (λ xs. collects round asked xs) (ap (λ m. filter (λ mon. not (mon == from.0)) (range_with_len 1 m)) some ∙ others.2))
