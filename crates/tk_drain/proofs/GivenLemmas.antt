-- Values under the last number, of a monitor that is present, are its present values.
use Rattle.tk_frames.specs.declared.frame.Frame.TheVariants as f
use Rattle.std.proofs.Common.{◌≡◌, ℕ, ℤ, pos, true, List, Contains, Option, refl, sym, ap, ◌∙◌, subst}
use Rattle.std.specs.Prelude.{unwrap_or}
use Rattle.std.proofs.lemmas.Bool.{true≢false}
use Rattle.tk_base.specs.Pairs.{objects_of}
use Rattle.tk_base.proofs.PairsLemmas.{objects_paired}
use Rattle.tk_alloc.specs.Parts.{value_of}
use Rattle.tk_alloc.proofs.LeewayLemmas.{value_put}
use Rattle.tk_trail.specs.Setup.{MonitorSetup}
use Rattle.tk_trail.specs.Frames.{values_at, values_over}
use Rattle.tk_frames.specs.Carried.{is_values}
use Rattle.tk_trail.specs.Readings.{is_broken, sent_by, value_of_object}
use Rattle.tk_trail.specs.declared.entry.Entry.{Entry}
use Rattle.tk_trail.proofs.LevelsLemmas.{value-same}
use Rattle.tk_journal.specs.Legal.{Opening}
use Rattle.tk_journal.specs.Readings.{assigns_sent}
use Rattle.tk_journal.specs.declared.noted.Noted.{Noted}
use Rattle.tk_story.specs.Links.{IsJoined}
use Rattle.tk_trail.specs.Still.{is_present}
use Rattle.tk_story.proofs.JoinLemmas.{under_the_last}
use Rattle.tk_trail.proofs.PairLemmas.{answer_no_values, report_no_values, settled_no_values}
use Rattle.tk_drain.proofs.StrainedLemmas.{sent_there}
use Rattle.tk_trail.proofs.SendsLemmas.{Sends}
use Rattle.tk_trail.proofs.SendsLemmas.Sends.{Answered, Gathered as Given, Reported as Told, Ended}

record Asked (setup : MonitorSetup) (x : List Entry) (values : List (ℕ × ℤ)) : Type 0 where
  asked : List ℕ
  is : values ≡ values_over setup x asked

given : (setup : MonitorSetup) (x : List Entry) (round seq : ℕ) (border : ℤ) (values : List (ℕ × ℤ)) (asked : List ℕ) (r : ℕ) → f.Values round seq border values ≡ values_at setup x r asked → Asked setup x values
unfolding values_at
given setup x round seq border values asked r e = record { asked = asked; is = cc }

values_said : (setup : MonitorSetup) (x : List Entry) (round seq : ℕ) (border : ℤ) (values : List (ℕ × ℤ)) → Sends setup x (f.Values round seq border values) → Asked setup x values
values_said setup x round seq border values (Answered s members changes last e) = absurd (true≢false (ap is_values e ∙ answer_no_values setup x (is_broken setup x)))
values_said setup x round seq border values (Given r asked last e) = given setup x round seq border values asked r e
values_said setup x round seq border values (Told unowed free broken e) = absurd (true≢false (ap is_values e ∙ report_no_values setup x))
values_said setup x round seq border values (Ended unowed free calm ends told e) = absurd (true≢false (ap is_values e ∙ settled_no_values setup x))

pub values_of_present : (o : Opening) (j : List Noted) (mon : ℕ) (setup : MonitorSetup) (trail : List Entry) (round : ℕ) (border : ℤ) (values : List (ℕ × ℤ)) → IsJoined o j mon setup trail
    → Contains (sent_by trail) (f.Values round (assigns_sent mon j) border values) → is_present (assigns_sent mon j) trail ≡ true
    → (q : ℕ) → Contains (objects_of values) q → value_of_object setup trail q ≡ value_of values q
values_of_present o j mon setup trail round border values h in' present q of =
    let frame = f.Values round (assigns_sent mon j) border values in
    let s = under_the_last o j mon setup trail frame h in' refl in
    let x = s.before in
    let now = s.now present in
    let said = values_said setup x round (assigns_sent mon j) border values (sent_there o j mon setup trail frame h s) in
    let asked : Contains said.asked q = subst (λ xs. Contains xs q) (ap objects_of said.is ∙ objects_paired (value_of_object setup x) said.asked) of in
    let read : value_of values q ≡ value_of_object setup x q = ap (λ vs. value_of vs q) said.is ∙ ap (λ (v : Option ℤ). unwrap_or v (pos 0)) (value_put (value_of_object setup x) said.asked q asked) in
    sym (value-same setup x trail (record { places = now.places; assigns = now.assigns }) q) ∙ sym read
