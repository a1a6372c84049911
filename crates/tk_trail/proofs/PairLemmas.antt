-- A trail sends as many Values as it takes Collects.
use Rattle.tk_frames.specs.declared.frame.Frame.TheVariants as f
use Rattle.std.proofs.Common.{◌≡◌, ℕ, ◌+◌, Bool, true, false, List, [], ◌∷◌, ◌++◌, Option, Some, None, refl, sym, ap, ◌∙◌, arith}
use Rattle.std.specs.Prelude.{if◌then◌else◌}
use Rattle.std.proofs.lemmas.List.Sums.{fold_push}
use Rattle.tk_base.specs.declared.ids.Feeder.{Feeder}
use Rattle.tk_base.proofs.HistoryLemmas.{each_carries}
use Rattle.tk_frames.specs.declared.frame.Frame.{Frame}
use Rattle.tk_trail.specs.Setup.{MonitorSetup}
use Rattle.tk_trail.specs.Frames.{report_at, settled_at, values_at, owed_at, owed_after}
use Rattle.tk_trail.specs.Legal.{Allowed, IsLegal}
use Rattle.tk_trail.specs.Readings.{is_broken, sent_by, taken_by}
use Rattle.tk_trail.specs.declared.entry.Entry.{Entry}
use Rattle.tk_trail.specs.declared.entry.Entry.TheVariants.{Raised, Took, Sent}
use Rattle.tk_trail.proofs.ReadingsLemmas.{sent_by-raised, sent_by-took, sent_by-sent, taken_by-raised, taken_by-took, taken_by-sent}
use Rattle.tk_frames.specs.Carried.{tally, is_collect, is_values}
use Rattle.tk_frames.proofs.CarriedLemmas.{tally-append}
use Rattle.tk_trail.proofs.SendsLemmas.{Sends, last_entry, sends}
use Rattle.tk_trail.proofs.SendsLemmas.Sends.{Answered, Gathered, Reported, Ended}

abbrev one : Bool → ℕ
one b = if b then 1 else 0

asks : Option Entry → Bool
asks (Some (Took (f.Collect round asked))) = true
asks last = false

abbrev Pairs : List Entry → Type 0
Pairs t = tally is_collect (taken_by t) ≡ tally is_values (sent_by t) + (if asks (last_entry t) then 1 else 0)

last-push : (t : List Entry) (e : Entry) → last_entry (t ++ e ∷ []) ≡ Some e
last-push t e = fold_push (λ (_ : Option Entry) (x : Entry). Some x) None t e

unowed_asks : (setup : MonitorSetup) (t : List Entry) (last : Option Entry) → owed_after setup t last ≡ None → asks last ≡ false
unfolding asks
unowed_asks setup t None none = refl
unowed_asks setup t (Some (Raised g)) none = refl
unowed_asks setup t (Some (Sent frame)) none = refl
unowed_asks setup t (Some (Took (f.Collect round asked))) none = absurd (cc)
unowed_asks setup t (Some (Took (f.Hello run version mon))) none = refl
unowed_asks setup t (Some (Took (f.Report seq border failed values))) none = refl
unowed_asks setup t (Some (Took (f.Values round seq border values))) none = refl
unowed_asks setup t (Some (Took (f.Assign seq members changes))) none = refl
unowed_asks setup t (Some (Took (f.Settled seq last places))) none = refl
unowed_asks setup t (Some (Took f.Stop)) none = refl

not_asking : (setup : MonitorSetup) (t : List Entry) → owed_at setup t ≡ None → asks (last_entry t) ≡ false
unfolding owed_at
not_asking setup t none = unowed_asks setup t (last_entry t) none

took_asks : (frame : Frame) → asks (Some (Took frame)) ≡ is_collect frame
unfolding asks
took_asks (f.Collect round asked) = refl
took_asks (f.Hello run version mon) = refl
took_asks (f.Report seq border failed values) = refl
took_asks (f.Values round seq border values) = refl
took_asks (f.Assign seq members changes) = refl
took_asks (f.Settled seq last places) = refl
took_asks f.Stop = refl

raised_asks : (g : Feeder) → asks (Some (Raised g)) ≡ false
unfolding asks
raised_asks g = refl

sent_asks : (frame : Frame) → asks (Some (Sent frame)) ≡ false
unfolding asks
sent_asks frame = refl

pub report_no_values : (setup : MonitorSetup) (t : List Entry) → is_values (report_at setup t) ≡ false
unfolding report_at
report_no_values setup t = refl

pub settled_no_values : (setup : MonitorSetup) (t : List Entry) → is_values (settled_at setup t) ≡ false
unfolding settled_at
settled_no_values setup t = refl

values_are : (setup : MonitorSetup) (t : List Entry) (round : ℕ) (asked : List ℕ) → is_values (values_at setup t round asked) ≡ true
unfolding values_at
values_are setup t round asked = refl

pub answer_no_values : (setup : MonitorSetup) (t : List Entry) (b : Bool) → is_values (if b then report_at setup t else settled_at setup t) ≡ false
answer_no_values setup t true = report_no_values setup t
answer_no_values setup t false = settled_no_values setup t

-- whether the frame sent is Values is whether a Collect was just taken
sends_pairs : (setup : MonitorSetup) (t : List Entry) (frame : Frame) → Sends setup t frame → is_values frame ≡ asks (last_entry t)
unfolding asks
sends_pairs setup t frame (Answered seq members changes last e) = ap is_values e ∙ answer_no_values setup t (is_broken setup t) ∙ sym (ap asks last)
sends_pairs setup t frame (Gathered round asked last e) = ap is_values e ∙ values_are setup t round asked ∙ sym (ap asks last)
sends_pairs setup t frame (Reported unowed free broken e) = ap is_values e ∙ report_no_values setup t ∙ sym (not_asking setup t unowed)
sends_pairs setup t frame (Ended unowed free calm ends told e) = ap is_values e ∙ settled_no_values setup t ∙ sym (not_asking setup t unowed)

pairs_go : (setup : MonitorSetup) (t : List Entry) (e : Entry) → Pairs t → Allowed setup t e → Pairs (t ++ e ∷ [])
pairs_go setup t (Raised g) h allowed =
    let a = ap (tally is_collect) (taken_by-raised t g) in
    let b = ap (tally is_values) (sent_by-raised t g) in
    let c = ap one (not_asking setup t allowed.0) in
    let d = ap one (ap asks (last-push t (Raised g)) ∙ raised_asks g) in
    omega (arith, h, a, b, c, d)
pairs_go setup t (Took frame) h allowed =
    let a = ap (tally is_collect) (taken_by-took t frame) ∙ tally-append is_collect (taken_by t) (frame ∷ []) in
    let b = ap (tally is_values) (sent_by-took t frame) in
    let c = ap one (not_asking setup t allowed.0) in
    let d = ap one (ap asks (last-push t (Took frame)) ∙ took_asks frame) in
    omega (arith, h, a, b, c, d)
pairs_go setup t (Sent frame) h allowed =
    let a = ap (tally is_collect) (taken_by-sent t frame) in
    let b = ap (tally is_values) (sent_by-sent t frame) ∙ tally-append is_values (sent_by t) (frame ∷ []) in
    let c = ap one (sends_pairs setup t frame (sends setup t frame allowed)) in
    let d = ap one (ap asks (last-push t (Sent frame)) ∙ sent_asks frame) in
    omega (arith, h, a, b, c, d)

none_yet : Pairs []
unfolding asks
none_yet = omega arith

pub values_answer_collects : (setup : MonitorSetup) (t : List Entry) → IsLegal setup t → tally is_collect (taken_by t) ≡ tally is_values (sent_by t)
values_answer_collects setup t legal =
    let h = each_carries (Allowed setup) Pairs (λ front e. pairs_go setup front e) [] t none_yet legal.each in
    let c = ap one (not_asking setup t legal.answered) in
    omega (arith, h, c)
