-- The laws of legal trails that the crates above use.
use Rattle.std.proofs.Common.{◌≡◌, ◌≢◌, ℕ, ◌≤◌, ◌+◌, Bool, true, false, not, ◌==◌, List, [], ◌∷◌, ◌++◌, length, take, Option, Some, None, refl, sym, ap, ◌∙◌, subst, arith, append_assoc, append-nil}
use Rattle.std.specs.Prelude.{ℤ, fold, nat_lt, IfSome, filter_map, if◌then◌else◌}
use Rattle.std.proofs.lemmas.Map.Views.{exact_unsigned_eq}
use Rattle.std.proofs.lemmas.List.{length-append}
use Rattle.std.proofs.lemmas.List.Elements.{filter_map-append}
use Rattle.std.proofs.lemmas.Bool.{and_parts, not-true, not-false}
use Rattle.tk_frames.specs.Frame.{kind_of}
use Rattle.tk_frames.specs.declared.frame.Frame.{Frame}
use Rattle.tk_frames.specs.declared.frame.Frame.TheVariants as f
use Rattle.tk_frames.specs.declared.kind.Kind.TheVariants as k
use Rattle.tk_frames.specs.Assigns.{Assign, assign_in}
use Rattle.tk_trail.specs.Setup.{MonitorSetup}
use Rattle.tk_trail.specs.Readings.{assigns_of, taken_by, taken_in, seq_of, is_broken, is_reported, is_stopped}
use Rattle.tk_frames.specs.Carried.{seq_in}
use Rattle.tk_trail.specs.Frames.{report_at, settled_at, values_at, answer_at, answer_to, owed_after, owed_at, due_at, report_is_due, end_is_due, may_report}
use Rattle.tk_trail.specs.Legal.{Allowed, IsLegal, to_send}
use Rattle.tk_trail.specs.Slack.{slack_of, moved_between, IsWithinSlack}
use Rattle.tk_trail.specs.declared.entry.Entry.{Entry}
use Rattle.tk_trail.specs.declared.entry.Entry.TheVariants.{Raised, Took, Sent}
use Rattle.tk_trail.specs.declared.refusal.MonitorRefusal.TheVariants.{WrongSequence}
use Rattle.tk_base.proofs.HistoryLemmas.{each_front, each_at}
use Rattle.tk_base.proofs.OptionLemmas.{if_none}
use Rattle.tk_trail.proofs.BrokenLemmas.{is_broken-slack}
use Rattle.tk_trail.proofs.LegalLemmas.{not_refused, IsAtRest, legal_told}
use Rattle.tk_trail.proofs.ReadingsLemmas.{stopped-stop, reported-assign, owed-push}
use Rattle.tk_trail.proofs.SlackLemmas.{calm_within, places_rise}

pub front_legal : (setup : MonitorSetup) (trail rest : List Entry) → IsLegal setup (trail ++ rest) → owed_at setup trail ≡ None → IsLegal setup trail
front_legal setup trail rest legal none = record { each = each_front (Allowed setup) [] trail rest legal.each; answered = none }

-- what was allowed where it stands
pub allowed_at : (setup : MonitorSetup) (before after : List Entry) (e : Entry) → IsLegal setup (before ++ e ∷ after) → Allowed setup before e
allowed_at setup before after e legal = each_at (Allowed setup) [] before e after legal.each

-- frames carry the number of their place
carries : (trail : List Entry) (frame sent : Frame) → IfSome (seq_in frame) (λ seq. seq ≡ seq_of trail) → Some frame ≡ Some sent → IfSome (seq_in sent) (λ seq. seq ≡ seq_of trail)
carries trail frame sent holds is = let same : frame ≡ sent = cc in subst (λ (g : Frame). IfSome (seq_in g) (λ seq. seq ≡ seq_of trail)) same holds

report_carries : (setup : MonitorSetup) (trail : List Entry) → IfSome (seq_in (report_at setup trail)) (λ seq. seq ≡ seq_of trail)
unfolding report_at
report_carries setup trail = refl

settled_carries : (setup : MonitorSetup) (trail : List Entry) → IfSome (seq_in (settled_at setup trail)) (λ seq. seq ≡ seq_of trail)
unfolding settled_at
settled_carries setup trail = refl

values_carry : (setup : MonitorSetup) (trail : List Entry) (round : ℕ) (asked : List ℕ) → IfSome (seq_in (values_at setup trail round asked)) (λ seq. seq ≡ seq_of trail)
unfolding values_at
values_carry setup trail round asked = refl

answer_carries : (setup : MonitorSetup) (trail : List Entry) (broken : Bool) → IfSome (seq_in (if broken then report_at setup trail else settled_at setup trail)) (λ seq. seq ≡ seq_of trail)
answer_carries setup trail true = report_carries setup trail
answer_carries setup trail false = settled_carries setup trail

answer_to_carries : (setup : MonitorSetup) (trail : List Entry) (frame sent : Frame) → answer_to setup trail frame ≡ Some sent → IfSome (seq_in sent) (λ seq. seq ≡ seq_of trail)
answer_to_carries setup trail (f.Assign seq members changes) sent is = carries trail (answer_at setup trail) sent (answer_carries setup trail (is_broken setup trail)) is
answer_to_carries setup trail (f.Collect round asked) sent is = carries trail (values_at setup trail round asked) sent (values_carry setup trail round asked) is
answer_to_carries setup trail (f.Hello run version mon) sent is = absurd (cc)
answer_to_carries setup trail (f.Report seq border failed values) sent is = absurd (cc)
answer_to_carries setup trail (f.Values round seq border values) sent is = absurd (cc)
answer_to_carries setup trail (f.Settled seq last places) sent is = absurd (cc)
answer_to_carries setup trail f.Stop sent is = absurd (cc)

owed_carries : (setup : MonitorSetup) (trail : List Entry) (last : Option Entry) (sent : Frame) → owed_after setup trail last ≡ Some sent → IfSome (seq_in sent) (λ seq. seq ≡ seq_of trail)
owed_carries setup trail None sent is = absurd (cc)
owed_carries setup trail (Some (Raised feeder)) sent is = absurd (cc)
owed_carries setup trail (Some (Took frame)) sent is = answer_to_carries setup trail frame sent is
owed_carries setup trail (Some (Sent frame)) sent is = absurd (cc)

due_carries : (setup : MonitorSetup) (trail : List Entry) (report end : Bool) (sent : Frame) → (if report then Some (report_at setup trail) else (if end then Some (settled_at setup trail) else None)) ≡ Some sent → IfSome (seq_in sent) (λ seq. seq ≡ seq_of trail)
due_carries setup trail true end sent is = carries trail (report_at setup trail) sent (report_carries setup trail) is
due_carries setup trail false true sent is = carries trail (settled_at setup trail) sent (settled_carries setup trail) is
due_carries setup trail false false sent is = absurd (cc)

sent_carries : (setup : MonitorSetup) (trail : List Entry) (owed : Option Frame) (sent : Frame) → owed_at setup trail ≡ owed → to_send setup trail owed ≡ Some sent → IfSome (seq_in sent) (λ seq. seq ≡ seq_of trail)
unfolding owed_at due_at
sent_carries setup trail None sent none is = due_carries setup trail (report_is_due setup trail) (end_is_due setup trail) sent is
sent_carries setup trail (Some answer) sent owed is = owed_carries setup trail (fold (λ (_ : Option Entry) (e : Entry). Some e) None trail) sent (owed ∙ is)

pub frames_carry : (setup : MonitorSetup) (before after : List Entry) (frame : Frame) → IsLegal setup (before ++ Sent frame ∷ after) → IfSome (seq_in frame) (λ seq. seq ≡ seq_of before)
frames_carry setup before after frame legal = sent_carries setup before (owed_at setup before) frame refl (allowed_at setup before after (Sent frame) legal).1

-- Assigns are numbered
pub assigns_numbered : (setup : MonitorSetup) (before after : List Entry) (seq : ℕ) (members : List ℕ) (changes : List (ℕ × ℤ)) → IsLegal setup (before ++ Took (f.Assign seq members changes) ∷ after) → seq ≡ seq_of before + 1
assigns_numbered setup before after seq members changes legal =
    let kind = not_refused setup before (f.Assign seq members changes) (allowed_at setup before after (Took (f.Assign seq members changes)) legal).1 in
    exact_unsigned_eq seq (seq_of before + 1) (not-false (seq == seq_of before + 1) (if_none (not (seq == seq_of before + 1)) (WrongSequence (seq_of before) seq) _ kind.1).0)

-- nothing follows Stop
stopped_allows : (setup : MonitorSetup) (trail : List Entry) (e : Entry) → is_stopped trail ≡ true → Allowed setup trail e → ⊥
stopped_allows setup trail (Raised feeder) stop allowed = let go = allowed.1 in cc
stopped_allows setup trail (Took frame) stop allowed = let go = (not_refused setup trail frame allowed.1).0 in cc
stopped_allows setup trail (Sent frame) stop allowed = let go = allowed.0 in cc

pub nothing_after : (setup : MonitorSetup) (before after : List Entry) → IsLegal setup (before ++ Took f.Stop ∷ after) → after ≡ []
nothing_after setup before [] legal = refl
nothing_after setup before (e ∷ after) legal =
    let legal' : IsLegal setup ((before ++ Took f.Stop ∷ []) ++ e ∷ after) = subst (IsLegal setup) (sym (append_assoc before (Took f.Stop ∷ []) (e ∷ after))) legal in
    absurd (stopped_allows setup (before ++ Took f.Stop ∷ []) e (stopped-stop before) (allowed_at setup (before ++ Took f.Stop ∷ []) after e legal'))

-- readings never fall
pub assigns_of-append : (before after : List Entry) → assigns_of (before ++ after) ≡ assigns_of before ++ assigns_of after
assigns_of-append before after = ap (λ frames. filter_map assign_in frames) (filter_map-append taken_in before after) ∙ filter_map-append assign_in (taken_by before) (taken_by after)

pub seq_grows : (before after : List Entry) → seq_of before ≤ seq_of (before ++ after)
seq_grows before after = omega (arith, ap (λ (assigns : List Assign). length assigns) (assigns_of-append before after), length-append (assigns_of before) (assigns_of after))

-- a Report is sent only where something is broken
broken_answer : (setup : MonitorSetup) (trail : List Entry) (broken : Bool) (sent : Frame) → is_broken setup trail ≡ broken → Some (if broken then report_at setup trail else settled_at setup trail) ≡ Some sent → kind_of sent ≡ k.Report → is_broken setup trail ≡ true
unfolding settled_at
broken_answer setup trail true sent broken is report = broken
broken_answer setup trail false sent calm is report = absurd (cc)

broken_answer_to : (setup : MonitorSetup) (trail : List Entry) (frame sent : Frame) → answer_to setup trail frame ≡ Some sent → kind_of sent ≡ k.Report → is_broken setup trail ≡ true
unfolding values_at
broken_answer_to setup trail (f.Assign seq members changes) sent is report = broken_answer setup trail (is_broken setup trail) sent refl is report
broken_answer_to setup trail (f.Collect round asked) sent is report = absurd (cc)
broken_answer_to setup trail (f.Hello run version mon) sent is report = absurd (cc)
broken_answer_to setup trail (f.Report seq border failed values) sent is report = absurd (cc)
broken_answer_to setup trail (f.Values round seq border values) sent is report = absurd (cc)
broken_answer_to setup trail (f.Settled seq last places) sent is report = absurd (cc)
broken_answer_to setup trail f.Stop sent is report = absurd (cc)

broken_owed : (setup : MonitorSetup) (trail : List Entry) (last : Option Entry) (sent : Frame) → owed_after setup trail last ≡ Some sent → kind_of sent ≡ k.Report → is_broken setup trail ≡ true
broken_owed setup trail None sent is report = absurd (cc)
broken_owed setup trail (Some (Raised feeder)) sent is report = absurd (cc)
broken_owed setup trail (Some (Took frame)) sent is report = broken_answer_to setup trail frame sent is report
broken_owed setup trail (Some (Sent frame)) sent is report = absurd (cc)

broken_due : (setup : MonitorSetup) (trail : List Entry) (due end : Bool) (sent : Frame) → report_is_due setup trail ≡ due → (if due then Some (report_at setup trail) else (if end then Some (settled_at setup trail) else None)) ≡ Some sent → kind_of sent ≡ k.Report → is_broken setup trail ≡ true
unfolding settled_at report_is_due
broken_due setup trail true end sent due is report = (and_parts (may_report trail) (is_broken setup trail) due).1
broken_due setup trail false true sent due is report = absurd (cc)
broken_due setup trail false false sent due is report = absurd (cc)

sent_broken : (setup : MonitorSetup) (trail : List Entry) (owed : Option Frame) (sent : Frame) → owed_at setup trail ≡ owed → to_send setup trail owed ≡ Some sent → kind_of sent ≡ k.Report → is_broken setup trail ≡ true
unfolding owed_at due_at
sent_broken setup trail None sent none is report = broken_due setup trail (report_is_due setup trail) (end_is_due setup trail) sent refl is report
sent_broken setup trail (Some answer) sent owed is report = broken_owed setup trail (fold (λ (_ : Option Entry) (e : Entry). Some e) None trail) sent (owed ∙ is) report

-- no Report is sent while the changes sum to at most an earlier slack under the same Assign
pub no_report_later : (setup : MonitorSetup) (before since after : List Entry) (frame : Frame) → IsLegal setup (before ++ since ++ Sent frame ∷ after) → assigns_of since ≡ [] → IsWithinSlack (moved_between setup before (before ++ since)) (slack_of setup before) → kind_of frame ≢ k.Report
no_report_later setup before since after frame legal none within report =
    let now = before ++ since in
    let broken : is_broken setup now ≡ true = sent_broken setup now (owed_at setup now) frame refl (allowed_at setup now after (Sent frame) legal).1 report in
    let same : assigns_of now ≡ assigns_of before = assigns_of-append before since ∙ ap (λ (rest : List Assign). assigns_of before ++ rest) none ∙ append-nil (assigns_of before) in
    calm_within setup before now (places_rise setup before since) same within (sym (is_broken-slack setup now) ∙ broken)

pub no_report : (setup : MonitorSetup) (before since after : List Entry) (seq : ℕ) (members : List ℕ) (changes : List (ℕ × ℤ)) (frame : Frame) → IsLegal setup (before ++ Took (f.Assign seq members changes) ∷ [] ++ since ++ Sent frame ∷ after) → assigns_of since ≡ [] → IsWithinSlack (moved_between setup (before ++ Took (f.Assign seq members changes) ∷ []) (before ++ Took (f.Assign seq members changes) ∷ [] ++ since)) (slack_of setup (before ++ Took (f.Assign seq members changes) ∷ [])) → kind_of frame ≢ k.Report
no_report setup before since after seq members changes frame = no_report_later setup (before ++ Took (f.Assign seq members changes) ∷ []) since after frame

-- the entry at the end of a trail
pub record EndsIn (trail : List Entry) (e : Entry) : Type 0 where
  pub front : List Entry
  pub is : trail ≡ front ++ e ∷ []

pub ends_from : (x : Entry) (xs : List Entry) (e : Entry) → fold (λ (_ : Option Entry) (y : Entry). Some y) (Some x) xs ≡ Some e → EndsIn (x ∷ xs) e
ends_from x [] e is = record { front = []; is = let same : x ≡ e = cc in ap (λ (y : Entry). y ∷ []) same }
ends_from x (y ∷ ys) e is = let at = ends_from y ys e is in record { front = x ∷ at.front; is = ap (λ (rest : List Entry). x ∷ rest) at.is }

ends_in : (trail : List Entry) (e : Entry) → fold (λ (_ : Option Entry) (y : Entry). Some y) None trail ≡ Some e → EndsIn trail e
ends_in [] e is = absurd (cc)
ends_in (x ∷ xs) e is = ends_from x xs e is

-- a Report is sent only where none was sent since the Assign
first_took : (setup : MonitorSetup) (trail : List Entry) (frame sent : Frame) → EndsIn trail (Took frame) → answer_to setup trail frame ≡ Some sent → kind_of sent ≡ k.Report → is_reported trail ≡ false
unfolding values_at
first_took setup trail (f.Assign seq members changes) sent at is report = ap (λ (t : List Entry). is_reported t) at.is ∙ reported-assign at.front seq members changes
first_took setup trail (f.Collect round asked) sent at is report = absurd (cc)
first_took setup trail (f.Hello run version mon) sent at is report = absurd (cc)
first_took setup trail (f.Report seq border failed values) sent at is report = absurd (cc)
first_took setup trail (f.Values round seq border values) sent at is report = absurd (cc)
first_took setup trail (f.Settled seq last places) sent at is report = absurd (cc)
first_took setup trail f.Stop sent at is report = absurd (cc)

first_owed : (setup : MonitorSetup) (trail : List Entry) (last : Option Entry) (sent : Frame) → fold (λ (_ : Option Entry) (e : Entry). Some e) None trail ≡ last → owed_after setup trail last ≡ Some sent → kind_of sent ≡ k.Report → is_reported trail ≡ false
first_owed setup trail None sent ends is report = absurd (cc)
first_owed setup trail (Some (Raised feeder)) sent ends is report = absurd (cc)
first_owed setup trail (Some (Took frame)) sent ends is report = first_took setup trail frame sent (ends_in trail (Took frame) ends) is report
first_owed setup trail (Some (Sent frame)) sent ends is report = absurd (cc)

first_due : (setup : MonitorSetup) (trail : List Entry) (due end : Bool) (sent : Frame) → report_is_due setup trail ≡ due → (if due then Some (report_at setup trail) else (if end then Some (settled_at setup trail) else None)) ≡ Some sent → kind_of sent ≡ k.Report → is_reported trail ≡ false
unfolding settled_at report_is_due
first_due setup trail true end sent due is report =
    not-true (is_reported trail) (and_parts (nat_lt 0 (seq_of trail)) (not (is_reported trail)) (and_parts (may_report trail) (is_broken setup trail) due).0).1
first_due setup trail false true sent due is report = absurd (cc)
first_due setup trail false false sent due is report = absurd (cc)

sent_first : (setup : MonitorSetup) (trail : List Entry) (owed : Option Frame) (sent : Frame) → owed_at setup trail ≡ owed → to_send setup trail owed ≡ Some sent → kind_of sent ≡ k.Report → is_reported trail ≡ false
unfolding owed_at due_at
sent_first setup trail None sent none is report = first_due setup trail (report_is_due setup trail) (end_is_due setup trail) sent refl is report
sent_first setup trail (Some answer) sent owed is report = first_owed setup trail (fold (λ (_ : Option Entry) (e : Entry). Some e) None trail) sent refl (owed ∙ is) report

pub reports_broken : (setup : MonitorSetup) (before after : List Entry) (frame : Frame) → IsLegal setup (before ++ Sent frame ∷ after) → kind_of frame ≡ k.Report → is_broken setup before ≡ true
reports_broken setup before after frame legal report = sent_broken setup before (owed_at setup before) frame refl (allowed_at setup before after (Sent frame) legal).1 report

pub reports_first : (setup : MonitorSetup) (before after : List Entry) (frame : Frame) → IsLegal setup (before ++ Sent frame ∷ after) → kind_of frame ≡ k.Report → is_reported before ≡ false
reports_first setup before after frame legal report = sent_first setup before (owed_at setup before) frame refl (allowed_at setup before after (Sent frame) legal).1 report

-- what is owed comes first
answer_first : (setup : MonitorSetup) (trail : List Entry) (e : Entry) (answer : Frame) → owed_at setup trail ≡ Some answer → Allowed setup trail e → e ≡ Sent answer
answer_first setup trail (Raised feeder) answer owed allowed = let go = allowed.0 in absurd (cc)
answer_first setup trail (Took frame) answer owed allowed = let go = allowed.0 in absurd (cc)
answer_first setup trail (Sent sent) answer owed allowed =
    let is : Some answer ≡ Some sent = subst (λ (o : Option Frame). to_send setup trail o ≡ Some sent) owed allowed.1 in
    cc

pub answered_at_once : (setup : MonitorSetup) (before after : List Entry) (frame answer : Frame) → IsLegal setup (before ++ Took frame ∷ after) → answer_to setup (before ++ Took frame ∷ []) frame ≡ Some answer → take 1 after ≡ Sent answer ∷ []
answered_at_once setup before [] frame answer legal is = let owed = owed-push setup before (Took frame) in let none = legal.answered in absurd (cc)
answered_at_once setup before (e ∷ rest) frame answer legal is =
    let taken = before ++ Took frame ∷ [] in
    let legal' : IsLegal setup (taken ++ e ∷ rest) = subst (IsLegal setup) (sym (append_assoc before (Took frame ∷ []) (e ∷ rest))) legal in
    ap (λ (x : Entry). x ∷ []) (answer_first setup taken e answer (owed-push setup before (Took frame) ∙ is) (allowed_at setup taken rest e legal'))

-- where Stop was taken the monitor is at rest
pub stopped_rest : (setup : MonitorSetup) (trail : List Entry) → length setup.from ≡ length setup.parts → IsLegal setup trail → is_stopped trail ≡ true → IsAtRest setup trail
stopped_rest setup trail shape legal stop = let told = legal_told setup shape trail legal.each in told.rest (told.stop stop)
