-- Strained or not, by what stands under the last number.
use Rattle.tk_frames.specs.declared.frame.Frame.TheVariants as f
use Rattle.std.proofs.Common.{◌≡◌, ℕ, ℤ, ◌+ℤ◌, Bool, true, false, List, length, map, Contains, Option, Some, None, refl, sym, ap, ◌∙◌, subst}
use Rattle.std.specs.Prelude.{nat_lt, if◌then◌else◌}
use Rattle.std.proofs.lemmas.Bool.{false≢true}
use Rattle.std.proofs.lemmas.Map.Views.{exact_unsigned_eq}
use Rattle.tk_base.specs.Objects.{objects}
use Rattle.tk_border.specs.Levels.{broken}
use Rattle.tk_frames.specs.Assigns.{Assign, row, members_of}
use Rattle.tk_frames.specs.declared.frame.Frame.{Frame}
use Rattle.tk_trail.specs.Setup.{MonitorSetup}
use Rattle.tk_trail.specs.Frames.{report_at, settled_at, values_at}
use Rattle.tk_frames.specs.Carried.{seq_in, is_numbered}
use Rattle.tk_trail.specs.Readings.{assigns_of, value_of_object, level_of, levels_of, broken_at, is_broken, sent_by}
use Rattle.tk_trail.specs.declared.entry.Entry.{Entry}
use Rattle.tk_trail.specs.declared.entry.Entry.TheVariants.{Sent}
use Rattle.tk_trail.proofs.LawLemmas.{allowed_at}
use Rattle.tk_trail.proofs.LevelsLemmas.{is_broken-same}
use Rattle.tk_journal.specs.Legal.{Opening}
use Rattle.tk_journal.specs.Links.{frames_from}
use Rattle.tk_journal.specs.Readings.{Progress, answer_of, assigns_sent, assigns_to, factor, members_at, settled_in}
use Rattle.tk_journal.specs.declared.noted.Noted.{Noted}
use Rattle.tk_journal.proofs.Answering.{answer_fresh}
use Rattle.tk_journal.proofs.LawLemmas.{orderly}
use Rattle.tk_story.specs.Links.{IsJoined}
use Rattle.tk_alloc.specs.Strain.{is_strained}
use Rattle.tk_trail.specs.Still.{is_present}
use Rattle.tk_journal.proofs.HeardLemmas.{answer_was_got}
use Rattle.tk_story.proofs.JoinLemmas.{SpeaksNow, front_has, under_the_last}
use Rattle.tk_journal.proofs.LevelledLemmas.{levels_by}
use Rattle.tk_trail.proofs.SendsLemmas.{Sends, sends}
use Rattle.tk_trail.proofs.SendsLemmas.Sends.{Answered, Gathered, Reported, Ended}

-- whether a monitor is strained, by its trail and the journal
abbrev pub strained_at : MonitorSetup → List Entry → ℕ → List Noted → Bool
strained_at setup trail mon j = is_strained (levels_by setup.objects (λ o. value_of_object setup trail o) (λ o. factor mon j o)) (members_at j)

-- where all Assigns are taken, strained is broken
pub strained_is_broken : (o : Opening) (j : List Noted) (mon : ℕ) (setup : MonitorSetup) (trail : List Entry) → IsJoined o j mon setup trail → assigns_of trail ≡ assigns_to mon j → strained_at setup trail mon j ≡ is_broken setup trail
unfolding broken_at levels_of level_of factor
strained_is_broken o j mon setup trail h taken =
    let named : members_of (assigns_to mon j) ≡ members_at j = (orderly o j h.set h.journal).named mon h.monitor in
    let levels : List Assign → List ℤ = λ xs. map (λ q. value_of_object setup trail q +ℤ row xs q) (objects setup.objects) in
    ap (λ ms. nat_lt 0 (length (broken (levels (assigns_to mon j)) ms))) (sym named)
    ∙ ap (λ (xs : List Assign). nat_lt 0 (length (broken (levels xs) (members_of xs)))) (sym taken)

-- ---- what a Settled and a Report say

abbrev pub is_settled : Frame → Bool
is_settled (f.Settled seq last places) = true
is_settled frame = false

abbrev pub is_a_report : Frame → Bool
is_a_report (f.Report seq border failed values) = true
is_a_report frame = false

pub report_not : (setup : MonitorSetup) (x : List Entry) → is_settled (report_at setup x) ≡ false
unfolding report_at
report_not setup x = refl

pub settled_not : (setup : MonitorSetup) (x : List Entry) → is_a_report (settled_at setup x) ≡ false
unfolding settled_at
settled_not setup x = refl

pub values_neither : (setup : MonitorSetup) (x : List Entry) (round : ℕ) (asked : List ℕ) → (is_settled (values_at setup x round asked) ≡ false) × (is_a_report (values_at setup x round asked) ≡ false)
unfolding values_at
values_neither setup x round asked = (refl, refl)

answer_settled : (setup : MonitorSetup) (x : List Entry) (b : Bool) → is_settled (if b then report_at setup x else settled_at setup x) ≡ true → b ≡ false
answer_settled setup x true is = absurd (false≢true (sym (report_not setup x) ∙ is))
answer_settled setup x false is = refl

answer_report : (setup : MonitorSetup) (x : List Entry) (b : Bool) → is_a_report (if b then report_at setup x else settled_at setup x) ≡ true → b ≡ true
answer_report setup x true is = refl
answer_report setup x false is = absurd (false≢true (sym (settled_not setup x) ∙ is))

settled_calm : (setup : MonitorSetup) (x : List Entry) (frame : Frame) → Sends setup x frame → is_settled frame ≡ true → is_broken setup x ≡ false
settled_calm setup x frame (Answered seq members changes last e) is = answer_settled setup x (is_broken setup x) (ap is_settled (sym e) ∙ is)
settled_calm setup x frame (Gathered round asked last e) is = absurd (false≢true (sym (values_neither setup x round asked).0 ∙ ap is_settled (sym e) ∙ is))
settled_calm setup x frame (Reported unowed free broken e) is = absurd (false≢true (sym (report_not setup x) ∙ ap is_settled (sym e) ∙ is))
settled_calm setup x frame (Ended unowed free calm ends told e) is = calm

report_broken : (setup : MonitorSetup) (x : List Entry) (frame : Frame) → Sends setup x frame → is_a_report frame ≡ true → is_broken setup x ≡ true
report_broken setup x frame (Answered seq members changes last e) is = answer_report setup x (is_broken setup x) (ap is_a_report (sym e) ∙ is)
report_broken setup x frame (Gathered round asked last e) is = absurd (false≢true (sym (values_neither setup x round asked).1 ∙ ap is_a_report (sym e) ∙ is))
report_broken setup x frame (Reported unowed free broken e) is = broken
report_broken setup x frame (Ended unowed free calm ends told e) is = absurd (false≢true (sym (settled_not setup x) ∙ ap is_a_report (sym e) ∙ is))

-- ---- under the last number, where the monitor is present

pub sent_there : (o : Opening) (j : List Noted) (mon : ℕ) (setup : MonitorSetup) (trail : List Entry) (frame : Frame) → IsJoined o j mon setup trail → (s : SpeaksNow mon j setup trail frame) → Sends setup s.before frame
sent_there o j mon setup trail frame h s = sends setup s.before frame (allowed_at setup s.before s.after (Sent frame) (subst (Rattle.tk_trail.specs.Legal.IsLegal setup) s.is h.ways))

now_broken : (mon : ℕ) (j : List Noted) (setup : MonitorSetup) (trail : List Entry) (frame : Frame) → (s : SpeaksNow mon j setup trail frame) → is_present (assigns_sent mon j) trail ≡ true → is_broken setup s.before ≡ is_broken setup trail
now_broken mon j setup trail frame s present = let e = s.now present in is_broken-same setup s.before trail (record { places = e.places; assigns = e.assigns })

-- a Report under the last number, of a monitor that is present: it is strained
pub reported_is_strained : (o : Opening) (j : List Noted) (mon : ℕ) (setup : MonitorSetup) (trail : List Entry) (frame : Frame) → IsJoined o j mon setup trail → Contains (sent_by trail) frame → seq_in frame ≡ Some (assigns_sent mon j)
    → is_present (assigns_sent mon j) trail ≡ true → is_a_report frame ≡ true → strained_at setup trail mon j ≡ true
reported_is_strained o j mon setup trail frame h in' number present is =
    let s = under_the_last o j mon setup trail frame h in' number in
    strained_is_broken o j mon setup trail h s.taken ∙ sym (now_broken mon j setup trail frame s present) ∙ report_broken setup s.before frame (sent_there o j mon setup trail frame h s) is

-- a Settled under the last number, of a monitor that is present: it is not
pub settled_is_not_strained : (o : Opening) (j : List Noted) (mon : ℕ) (setup : MonitorSetup) (trail : List Entry) (frame : Frame) → IsJoined o j mon setup trail → Contains (sent_by trail) frame → seq_in frame ≡ Some (assigns_sent mon j)
    → is_present (assigns_sent mon j) trail ≡ true → is_settled frame ≡ true → strained_at setup trail mon j ≡ false
settled_is_not_strained o j mon setup trail frame h in' number present is =
    let s = under_the_last o j mon setup trail frame h in' number in
    strained_is_broken o j mon setup trail h s.taken ∙ sym (now_broken mon j setup trail frame s present) ∙ settled_calm setup s.before frame (sent_there o j mon setup trail frame h s) is

-- a current answer that is a Settled
settled_answer : (seq : ℕ) (answer : Option Frame) (p : Progress) → settled_in answer ≡ Some p → (g : Frame) × (answer ≡ Some g) × (is_settled g ≡ true)
settled_answer seq None p is = absurd (cc)
settled_answer seq (Some (f.Settled s last places)) p is = (f.Settled s last places, refl, refl)
settled_answer seq (Some (f.Hello run version mon)) p is = absurd (cc)
settled_answer seq (Some (f.Report s border failed values)) p is = absurd (cc)
settled_answer seq (Some (f.Collect round asked)) p is = absurd (cc)
settled_answer seq (Some (f.Values round s border values)) p is = absurd (cc)
settled_answer seq (Some (f.Assign s members changes)) p is = absurd (cc)
settled_answer seq (Some f.Stop) p is = absurd (cc)

settled_number : (seq : ℕ) (frame : Frame) → is_settled frame ≡ true → is_numbered seq frame ≡ true → seq_in frame ≡ Some seq
settled_number seq (f.Settled s last places) is own = ap Some (exact_unsigned_eq s seq own)
settled_number seq (f.Hello run version mon) is own = absurd (cc)
settled_number seq (f.Report s border failed values) is own = absurd (cc)
settled_number seq (f.Collect round asked) is own = absurd (cc)
settled_number seq (f.Values round s border values) is own = absurd (cc)
settled_number seq (f.Assign s members changes) is own = absurd (cc)
settled_number seq f.Stop is own = absurd (cc)

-- so at a calm turn a monitor that is present is not strained
pub calm_is_not_strained : (o : Opening) (j : List Noted) (mon : ℕ) (setup : MonitorSetup) (trail : List Entry) (p : Progress) → IsJoined o j mon setup trail → settled_in (answer_of mon j) ≡ Some p → is_present (assigns_sent mon j) trail ≡ true
    → strained_at setup trail mon j ≡ false
calm_is_not_strained o j mon setup trail p h is present =
    let g = settled_answer (assigns_sent mon j) (answer_of mon j) p is in
    settled_is_not_strained o j mon setup trail g.0 h (front_has g.0 (frames_from mon j) (sent_by trail) h.up (answer_was_got mon j g.0 g.1)) (settled_number (assigns_sent mon j) g.0 g.2 (answer_fresh mon j g.0 g.1)) present g.2
