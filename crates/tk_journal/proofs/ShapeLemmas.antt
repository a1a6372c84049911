-- Each turn of a taken frame has a shape.
use Rattle.tk_frames.specs.declared.frame.Frame.TheVariants as f
use Rattle.tk_journal.specs.declared.noted.Noted.TheVariants as n
use Rattle.std.proofs.Common.{◌≡◌, ℕ, ◌+◌, ◌<◌, ◌&&◌, ◌==◌, ℤ, Bool, true, false, not, List, [], ◌∷◌, ◌++◌, None, refl, sym, ap, ◌∙◌, arith}
use Rattle.std.specs.Prelude.{nat_lt, if◌then◌else◌, filter}
use Rattle.std.proofs.lemmas.Bool.{true≢false, false≢true, ltb-true, ne_eqb}
use Rattle.std.proofs.lemmas.Map.Views.{exact_unsigned_eq}
use Rattle.tk_base.specs.Pairs.{objects_of}
use Rattle.tk_base.specs.Settings.{Setup}
use Rattle.tk_base.specs.declared.ids.Mon.{Mon}
use Rattle.tk_frames.specs.declared.frame.Frame.{Frame}
use Rattle.tk_journal.specs.Laws.{IsMonitor}
use Rattle.tk_journal.specs.Readings.{monitors, assigns_sent, is_open}
use Rattle.tk_journal.specs.Deciding.{reports_at, is_within_limit}
use Rattle.tk_journal.specs.Refusal.{refusal_of, shown_by, known_by}
use Rattle.tk_journal.specs.Turns.{reported, passes_at, short_at, fails_at, streak, rounds, collects, wide_collects, assigns, full_at, full_end, wide_end, is_wide, demanded, kind_of, report_demands, values_demand}
use Rattle.tk_journal.specs.declared.turn.TurnKind.TheVariants.{Note, End}
use Rattle.tk_journal.specs.declared.noted.Noted.{Noted}
use Rattle.tk_journal.proofs.Accepted.{accepted_kind, accepted_values}
use Rattle.tk_journal.proofs.Turning.{kind_by, fresh_seq, values_open}
use Rattle.tk_journal.proofs.FirmTurns.{not_values}
use Rattle.tk_journal.specs.Shapes.{IsFreshReport, IsLastValues, Shape}
use Rattle.tk_journal.specs.Shapes.Shape.{Plain, Short, Wide, Full, LoneEnd, LoneWide, EndFull, EndOver, EndWide}

-- a Report that is stale, or finds an open round, fails no test
stale_fails : (a b : Bool) (seq sent : ℕ) → nat_lt seq sent ≡ true → (seq == sent && a && b) ≡ false
stale_fails a b seq sent stale = ap (λ x. x && a && b) (ne_eqb seq sent (λ e. let l = ltb-true seq sent stale in omega (arith, l, e)))

open_fails : (x o b : Bool) → o ≡ true → (x && not o && b) ≡ false
open_fails true true b e = refl
open_fails false true b e = refl
open_fails x false b e = absurd (false≢true e)

all_fail : (x o p : Bool) → x ≡ true → o ≡ false → p ≡ false → (x && not o && not p) ≡ true
all_fail true false false a b c = refl
all_fail true false true a b c = absurd (true≢false c)
all_fail true true p a b c = absurd (true≢false b)
all_fail false o p a b c = absurd (false≢true a)

fresh_report : (s : Setup) (before : List Noted) (from : Mon) (seq : ℕ) (border : ℤ) (failed : List ℕ) (values : List (ℕ × ℤ)) → refusal_of s before from.0 (f.Report seq border failed values) ≡ None
    → nat_lt seq (assigns_sent from.0 before) ≡ false → is_open s before ≡ false → IsFreshReport s before from (f.Report seq border failed values) border failed values
fresh_report s before from seq border failed values none late closed =
    record { is = ap (λ q. f.Report q border failed values) (exact_unsigned_eq seq (assigns_sent from.0 before) (fresh_seq s before from seq border failed values none late)); closed = closed }

lone_shape : (s : Setup) (before : List Noted) (from : Mon) (frame : Frame) (border : ℤ) (failed : List ℕ) (values : List (ℕ × ℤ)) (within : Bool) → IsFreshReport s before from frame border failed values → fails_at s before from.0 frame ≡ true → streak s before < 8
    → (s.monitors == 1) ≡ true → is_within_limit (full_at s before (reported from.0 border values ∷ [])) ≡ within
    → Shape s before from frame (if within then assigns before (full_at s before (reported from.0 border values ∷ [])) else wide_collects s (rounds s before + 1 + 1))
lone_shape s before from frame border failed values true r fails few lone is = LoneEnd border failed values r fails few lone is refl
lone_shape s before from frame border failed values false r fails few lone is = LoneWide border failed values r fails few lone refl

full_shape : (s : Setup) (before : List Noted) (from : Mon) (frame : Frame) (border : ℤ) (failed : List ℕ) (values : List (ℕ × ℤ)) (lone : Bool) → IsFreshReport s before from frame border failed values → fails_at s before from.0 frame ≡ true → streak s before < 8
    → (s.monitors == 1) ≡ lone
    → Shape s before from frame (if lone then full_end s before (rounds s before + 1 + 1) (reported from.0 border values ∷ []) else collects (rounds s before + 1) (objects_of values) (filter (λ mon. not (mon == from.0)) (monitors s)))
full_shape s before from frame border failed values true r fails few lone = lone_shape s before from frame border failed values (is_within_limit (full_at s before (reported from.0 border values ∷ []))) r fails few lone refl
full_shape s before from frame border failed values false r fails few lone = Full border failed values r fails few lone refl

report_shape : (s : Setup) (before : List Noted) (from : Mon) (seq : ℕ) (border : ℤ) (failed : List ℕ) (values : List (ℕ × ℤ)) (stale opened passes within few : Bool) → refusal_of s before from.0 (f.Report seq border failed values) ≡ None
    → nat_lt seq (assigns_sent from.0 before) ≡ stale → is_open s before ≡ opened → passes_at s before (reported from.0 border values) ≡ passes → is_within_limit (short_at s before (reported from.0 border values)) ≡ within → nat_lt (streak s before) 8 ≡ few
    → Shape s before from (f.Report seq border failed values) (report_demands s before (reported from.0 border values) (kind_by stale opened passes within few))
report_shape s before from seq border failed values true opened passes within few none late is p w l =
    Plain refl (stale_fails (not (is_open s before)) (not (passes_at s before (reported from.0 border values))) seq (assigns_sent from.0 before) late) (not_values s before from (f.Report seq border failed values) (λ r mon. refl))
    (λ own is'. absurd (false≢true (sym (ne_eqb seq (assigns_sent from.0 before) (λ e. let l' = ltb-true seq (assigns_sent from.0 before) late in omega (arith, l', e))) ∙ own)))
report_shape s before from seq border failed values false true passes within few none late is p w l =
    Plain refl (open_fails (seq == assigns_sent from.0 before) (is_open s before) (not (passes_at s before (reported from.0 border values))) is) (not_values s before from (f.Report seq border failed values) (λ r mon. refl)) (λ own is'. is)
report_shape s before from seq border failed values false false true true few none late is p w l = Short border failed values (fresh_report s before from seq border failed values none late is) p w refl
report_shape s before from seq border failed values false false true false few none late is p w l = Wide border failed values (fresh_report s before from seq border failed values none late is) refl
report_shape s before from seq border failed values false false false within true none late is p w l =
    full_shape s before from (f.Report seq border failed values) border failed values (s.monitors == 1) (fresh_report s before from seq border failed values none late is)
    (all_fail (seq == assigns_sent from.0 before) (is_open s before) (passes_at s before (reported from.0 border values)) (fresh_seq s before from seq border failed values none late) is p) (ltb-true (streak s before) 8 l) refl
report_shape s before from seq border failed values false false false within false none late is p w l = Wide border failed values (fresh_report s before from seq border failed values none late is) refl

end_shape : (s : Setup) (before : List Noted) (from : Mon) (frame : Frame) (within : Bool) → IsLastValues s before from frame → is_wide s (before ++ n.Got from frame ∷ []) ≡ false
    → is_within_limit (full_at s (before ++ n.Got from frame ∷ []) (reports_at s (before ++ n.Got from frame ∷ []))) ≡ within
    → Shape s before from frame (if within then assigns (before ++ n.Got from frame ∷ []) (full_at s (before ++ n.Got from frame ∷ []) (reports_at s (before ++ n.Got from frame ∷ []))) else wide_collects s (rounds s (before ++ n.Got from frame ∷ []) + 1))
end_shape s before from frame true v full is = EndFull v full is refl
end_shape s before from frame false v full is = EndOver v full refl

ended_shape : (s : Setup) (before : List Noted) (from : Mon) (frame : Frame) (wide : Bool) → IsLastValues s before from frame → is_wide s (before ++ n.Got from frame ∷ []) ≡ wide
    → Shape s before from frame
    (if wide then wide_end s (before ++ n.Got from frame ∷ []) (reports_at s (before ++ n.Got from frame ∷ [])) else full_end s (before ++ n.Got from frame ∷ []) (rounds s (before ++ n.Got from frame ∷ []) + 1) (reports_at s (before ++ n.Got from frame ∷ [])))
ended_shape s before from frame true v is = EndWide v is refl
ended_shape s before from frame false v is = end_shape s before from frame (is_within_limit (full_at s (before ++ n.Got from frame ∷ []) (reports_at s (before ++ n.Got from frame ∷ [])))) v is refl

values_shape : (s : Setup) (before : List Noted) (from : Mon) (round seq : ℕ) (border : ℤ) (values : List (ℕ × ℤ)) (still : Bool) → IsMonitor s from.0 → refusal_of s before from.0 (f.Values round seq border values) ≡ None
    → is_open s (before ++ n.Got from (f.Values round seq border values) ∷ []) ≡ still
    → Shape s before from (f.Values round seq border values) (values_demand s (before ++ n.Got from (f.Values round seq border values) ∷ []) (if still then Note else End))
values_shape s before from round seq border values true range none is = Plain refl refl (is ∙ sym (values_open s before from round seq border values range none)) (λ own is'. absurd (false≢true own))
values_shape s before from round seq border values false range none is =
    let frame = f.Values round seq border values in
    let now = before ++ n.Got from frame ∷ [] in
    let awaited = accepted_values (shown_by from.0 before) (known_by s from.0 before) round seq border values (accepted_kind s before from.0 frame none).1 in
    ended_shape s before from frame (is_wide s now) (record { round = round; border = border; values = values; is = ap (λ q. f.Values round q border values) awaited.now; opened = values_open s before from round seq border values range none; closed = is }) refl

-- the shape of every turn of a taken frame
pub shape : (s : Setup) (before : List Noted) (from : Mon) (frame : Frame) → IsMonitor s from.0 → refusal_of s before from.0 frame ≡ None → Shape s before from frame (demanded s before from.0 frame)
unfolding demanded kind_of
shape s before from (f.Report seq border failed values) range none =
    let report = reported from.0 border values in
    report_shape s before from seq border failed values (nat_lt seq (assigns_sent from.0 before)) (is_open s before) (passes_at s before report) (is_within_limit (short_at s before report)) (nat_lt (streak s before) 8) none refl refl refl refl refl
shape s before from (f.Values round seq border values) range none = values_shape s before from round seq border values (is_open s (before ++ n.Got from (f.Values round seq border values) ∷ [])) range none refl
shape s before from (f.Settled seq last places) range none = Plain refl refl (not_values s before from (f.Settled seq last places) (λ r mon. refl)) (λ own is'. absurd (false≢true is'))
shape s before from (f.Hello run version m) range none = Plain refl refl (not_values s before from (f.Hello run version m) (λ r mon. refl)) (λ own is'. absurd (false≢true own))
shape s before from (f.Collect round asked) range none = Plain refl refl (not_values s before from (f.Collect round asked) (λ r mon. refl)) (λ own is'. absurd (false≢true own))
shape s before from (f.Assign seq members changes) range none = Plain refl refl (not_values s before from (f.Assign seq members changes) (λ r mon. refl)) (λ own is'. absurd (false≢true own))
shape s before from f.Stop range none = Plain refl refl (not_values s before from f.Stop (λ r mon. refl)) (λ own is'. absurd (false≢true own))
