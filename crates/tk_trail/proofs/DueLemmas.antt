-- What is due behind the events of a settling.
use Rattle.tk_frames.specs.declared.frame.Frame.TheVariants as f
use Rattle.std.proofs.Common.{◌≡◌, ℕ, ◌&&◌, ◌||◌, Bool, true, false, not, List, [], ◌∷◌, ◌++◌, Some, None, refl, sym, ap, ◌∙◌, subst}
use Rattle.std.specs.Prelude.{is_some, nat_lt, if◌then◌else◌}
use Rattle.std.proofs.lemmas.Bool.{or_right, and_parts, not-true}
use Rattle.std.proofs.Math.Bool.{or-false}
use Rattle.tk_frames.specs.declared.frame.Frame.{Frame}
use Rattle.tk_trail.specs.Setup.{MonitorSetup}
use Rattle.tk_trail.specs.Readings.{seq_of, at_ends, is_broken, is_reported, is_end_told, is_report, is_end}
use Rattle.tk_trail.specs.Frames.{answer_at, report_at, settled_at, values_at, due_at, report_is_due, end_is_due}
use Rattle.tk_trail.specs.declared.entry.Entry.{Entry}
use Rattle.tk_trail.specs.declared.entry.Entry.TheVariants.{Took, Sent}
use Rattle.tk_trail.proofs.LevelsLemmas.{Same, same-sent, same-took, is_broken-same, ends-same}
use Rattle.tk_trail.proofs.ReadingsLemmas.{assigns_of-other, seq_of-sent, seq_of-other, reported-sent, reported-collect, reported-stop, told-sent, told-collect, told-stop}

-- what a check looks at
abbrev pub due_by : Bool → Bool → Bool → Bool → Bool → Bool
due_by running reported broken ends told = (running && not reported && broken) || (running && not reported && not broken && ends && not told)

is_due_by : (setup : MonitorSetup) (t : List Entry) (r e : Bool) → report_is_due setup t ≡ r → end_is_due setup t ≡ e → is_some (if r then Some (report_at setup t) else (if e then Some (settled_at setup t) else None)) ≡ (r || e)
is_due_by setup t true e p q = refl
is_due_by setup t false true p q = refl
is_due_by setup t false false p q = refl

-- whether something is due, by five readings
pub due_is : (setup : MonitorSetup) (t : List Entry) → is_some (due_at setup t) ≡ due_by (nat_lt 0 (seq_of t)) (is_reported t) (is_broken setup t) (at_ends setup t) (is_end_told t)
unfolding due_at report_is_due end_is_due
due_is setup t = is_due_by setup t (report_is_due setup t) (end_is_due setup t) refl refl

reported_none : (running broken ends told : Bool) → due_by running true broken ends told ≡ false
reported_none true broken ends told = refl
reported_none false broken ends told = refl

calm_none : (running reported ends : Bool) → due_by running reported false ends true ≡ false
calm_none true true ends = refl
calm_none true false true = refl
calm_none true false false = refl
calm_none false reported ends = refl

on_the_way : (running reported told : Bool) → due_by running reported false false told ≡ false
on_the_way true true told = refl
on_the_way true false told = refl
on_the_way false reported told = refl

pub report_there : (setup : MonitorSetup) (t : List Entry) → is_report (Sent (report_at setup t)) ≡ true
unfolding report_at
report_there setup t = refl

pub end_there : (setup : MonitorSetup) (t : List Entry) → is_end (Sent (settled_at setup t)) ≡ at_ends setup t
unfolding settled_at
end_there setup t = refl

-- behind a Report nothing is due
pub after_report : (setup : MonitorSetup) (t : List Entry) → is_some (due_at setup (t ++ Sent (report_at setup t) ∷ [])) ≡ false
after_report setup t =
    let t' = t ++ Sent (report_at setup t) ∷ [] in
    due_is setup t'
    ∙ ap (λ b. due_by (nat_lt 0 (seq_of t')) b (is_broken setup t') (at_ends setup t') (is_end_told t')) (reported-sent t (report_at setup t) ∙ or_right (is_reported t) (is_report (Sent (report_at setup t))) (report_there setup t))
    ∙ reported_none (nat_lt 0 (seq_of t')) (is_broken setup t') (at_ends setup t') (is_end_told t')

settled_by : (running reported ends told : Bool) (told' : Bool) → told' ≡ (told || ends) → due_by running reported false ends told' ≡ false
settled_by running reported true told told' e = ap (λ b. due_by running reported false true b) (e ∙ or_right told true refl) ∙ calm_none running reported true
settled_by running reported false told told' e = on_the_way running reported told'

-- behind a Settled that is sent where nothing is broken
pub after_settled : (setup : MonitorSetup) (t : List Entry) → is_broken setup t ≡ false → is_some (due_at setup (t ++ Sent (settled_at setup t) ∷ [])) ≡ false
after_settled setup t calm =
    let t' = t ++ Sent (settled_at setup t) ∷ [] in
    let same = same-sent setup t (settled_at setup t) in
    due_is setup t'
    ∙ ap (λ b. due_by (nat_lt 0 (seq_of t')) (is_reported t') b (at_ends setup t') (is_end_told t')) (is_broken-same setup t' t same ∙ calm)
    ∙ ap (λ b. due_by (nat_lt 0 (seq_of t')) (is_reported t') false b (is_end_told t')) (ends-same setup t' t same)
    ∙ settled_by (nat_lt 0 (seq_of t')) (is_reported t') (at_ends setup t) (is_end_told t) (is_end_told t') (told-sent t (settled_at setup t) ∙ ap (λ b. is_end_told t || b) (end_there setup t))

-- behind the answer to an Assign
answered_by : (setup : MonitorSetup) (t : List Entry) (broken : Bool) → is_broken setup t ≡ broken → is_some (due_at setup (t ++ Sent (if broken then report_at setup t else settled_at setup t) ∷ [])) ≡ false
answered_by setup t true e = after_report setup t
answered_by setup t false e = after_settled setup t e

pub after_answer : (setup : MonitorSetup) (t : List Entry) → is_some (due_at setup (t ++ Sent (answer_at setup t) ∷ [])) ≡ false
after_answer setup t = answered_by setup t (is_broken setup t) refl

-- behind a check that sent
checked_by : (setup : MonitorSetup) (t : List Entry) (sent : Frame) (r e : Bool) → report_is_due setup t ≡ r → end_is_due setup t ≡ e → (if r then Some (report_at setup t) else (if e then Some (settled_at setup t) else None)) ≡ Some sent
    → is_some (due_at setup (t ++ Sent sent ∷ [])) ≡ false
unfolding end_is_due
checked_by setup t sent true e p q is = let same : report_at setup t ≡ sent = cc in subst (λ (x : Frame). is_some (due_at setup (t ++ Sent x ∷ [])) ≡ false) same (after_report setup t)
checked_by setup t sent false true p q is =
    let same : settled_at setup t ≡ sent = cc in
    let calm = not-true (is_broken setup t) (and_parts _ _ (and_parts _ _ (and_parts _ _ q).0).0).1 in
    subst (λ (x : Frame). is_some (due_at setup (t ++ Sent x ∷ [])) ≡ false) same (after_settled setup t calm)
checked_by setup t sent false false p q is = absurd (cc)

pub after_check : (setup : MonitorSetup) (t : List Entry) (sent : Frame) → due_at setup t ≡ Some sent → is_some (due_at setup (t ++ Sent sent ∷ [])) ≡ false
unfolding due_at
after_check setup t sent is = checked_by setup t sent (report_is_due setup t) (end_is_due setup t) refl refl is

-- entries that change none of the five
pub due_kept : (setup : MonitorSetup) (t t' : List Entry) → Same setup t' t → seq_of t' ≡ seq_of t → is_reported t' ≡ is_reported t → is_end_told t' ≡ is_end_told t → is_some (due_at setup t') ≡ is_some (due_at setup t)
due_kept setup t t' same seq reported told =
    due_is setup t'
    ∙ ap (λ n. due_by (nat_lt 0 n) (is_reported t') (is_broken setup t') (at_ends setup t') (is_end_told t')) seq
    ∙ ap (λ b. due_by (nat_lt 0 (seq_of t)) b (is_broken setup t') (at_ends setup t') (is_end_told t')) reported
    ∙ ap (λ b. due_by (nat_lt 0 (seq_of t)) (is_reported t) b (at_ends setup t') (is_end_told t')) (is_broken-same setup t' t same)
    ∙ ap (λ b. due_by (nat_lt 0 (seq_of t)) (is_reported t) (is_broken setup t) b (is_end_told t')) (ends-same setup t' t same)
    ∙ ap (λ b. due_by (nat_lt 0 (seq_of t)) (is_reported t) (is_broken setup t) (at_ends setup t) b) told
    ∙ sym (due_is setup t)

values_quiet : (setup : MonitorSetup) (x : List Entry) (round : ℕ) (asked : List ℕ) (t : List Entry) → (is_reported (t ++ Sent (values_at setup x round asked) ∷ []) ≡ is_reported t) × (is_end_told (t ++ Sent (values_at setup x round asked) ∷ []) ≡ is_end_told t)
unfolding values_at
values_quiet setup x round asked t = (reported-sent t (values_at setup x round asked) ∙ or-false (is_reported t), told-sent t (values_at setup x round asked) ∙ or-false (is_end_told t))

-- a taken Collect with its Values, and a taken Stop
pub after_collect : (setup : MonitorSetup) (t : List Entry) (round : ℕ) (asked : List ℕ)
    → is_some (due_at setup (t ++ Took (f.Collect round asked) ∷ [] ++ Sent (values_at setup (t ++ Took (f.Collect round asked) ∷ []) round asked) ∷ [])) ≡ is_some (due_at setup t)
after_collect setup t round asked =
    let taken = t ++ Took (f.Collect round asked) ∷ [] in
    let values = values_at setup taken round asked in
    let quiet = values_quiet setup taken round asked taken in
    due_kept setup taken (taken ++ Sent values ∷ []) (same-sent setup taken values) (seq_of-sent taken values) quiet.0 quiet.1
    ∙ due_kept setup t taken (same-took setup t (f.Collect round asked) (assigns_of-other t (f.Collect round asked) refl)) (seq_of-other t (f.Collect round asked) refl) (reported-collect t round asked) (told-collect t round asked)

pub after_stop : (setup : MonitorSetup) (t : List Entry) → is_some (due_at setup (t ++ Took f.Stop ∷ [])) ≡ is_some (due_at setup t)
after_stop setup t = due_kept setup t (t ++ Took f.Stop ∷ []) (same-took setup t f.Stop (assigns_of-other t f.Stop refl)) (seq_of-other t f.Stop refl) (reported-stop t) (told-stop t)
