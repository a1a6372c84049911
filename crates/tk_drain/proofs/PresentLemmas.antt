-- A Report under the last number, of a monitor that is present, speaks of its present levels.
use Rattle.tk_frames.specs.declared.frame.Frame.TheVariants as f
use Rattle.std.proofs.Common.{◌≡◌, ℕ, ◌&&◌, ◌||◌, ℤ, ◌+ℤ◌, Bool, true, false, not, List, length, map, Contains, Some, refl, sym, ap, ◌∙◌, subst}
use Rattle.std.specs.Prelude.{if◌then◌else◌}
use Rattle.std.proofs.lemmas.Bool.{false≢true, and_parts, or_right}
use Rattle.tk_base.specs.Objects.{objects, is_in}
use Rattle.tk_base.specs.Pairs.{objects_of}
use Rattle.tk_base.proofs.PairsLemmas.{objects_paired}
use Rattle.tk_base.proofs.MemberLemmas.{contained_is_in, is_in_contained}
use Rattle.tk_border.specs.Levels.{broken, border, is_above, least_member, level_at, outside, resolution}
use Rattle.tk_border.proofs.RisingLemmas.{is_in-filter}
use Rattle.tk_frames.specs.Assigns.{Assign, row, members_of}
use Rattle.tk_frames.specs.declared.frame.Frame.{Frame}
use Rattle.tk_trail.specs.Setup.{MonitorSetup}
use Rattle.tk_trail.specs.Frames.{report_at, settled_at, resolution_at, border_over, values_over}
use Rattle.tk_trail.specs.Readings.{assigns_of, value_of_object, level_of, levels_of, broken_at, is_broken, members_at, sent_by}
use Rattle.tk_trail.specs.declared.entry.Entry.{Entry}
use Rattle.tk_trail.proofs.LevelsLemmas.{levels-same, length-levels_of}
use Rattle.tk_journal.specs.Legal.{Opening}
use Rattle.tk_journal.specs.Readings.{assigns_sent, assigns_to, factor, members_at as journal_members}
use Rattle.tk_journal.specs.Turns.{reported}
use Rattle.tk_journal.specs.declared.noted.Noted.{Noted}
use Rattle.tk_journal.proofs.LawLemmas.{orderly}
use Rattle.tk_story.specs.Links.{IsJoined}
use Rattle.tk_alloc.specs.Strain.{IsPresent}
use Rattle.tk_trail.specs.Still.{is_present}
use Rattle.tk_story.proofs.JoinLemmas.{under_the_last}
use Rattle.tk_journal.proofs.LevelledLemmas.{levels_by}
use Rattle.tk_drain.proofs.StrainedLemmas.{is_a_report, sent_there, settled_not, values_neither}
use Rattle.tk_trail.proofs.SendsLemmas.{Sends}
use Rattle.tk_trail.proofs.SendsLemmas.Sends.{Answered, Gathered, Reported, Ended}

-- the levels that the journal's factors give are those of the trail, where all Assigns are taken
levels_agree : (setup : MonitorSetup) (trail : List Entry) (mon : ℕ) (j : List Noted) → assigns_of trail ≡ assigns_to mon j → levels_of setup trail ≡ levels_by setup.objects (λ o. value_of_object setup trail o) (λ o. factor mon j o)
unfolding levels_of level_of factor
levels_agree setup trail mon j taken = ap (λ (xs : List Assign). map (λ o. value_of_object setup trail o +ℤ row xs o) (objects setup.objects)) taken

answer_is : (setup : MonitorSetup) (x : List Entry) (b : Bool) → is_a_report (if b then report_at setup x else settled_at setup x) ≡ true → (if b then report_at setup x else settled_at setup x) ≡ report_at setup x
answer_is setup x true is = refl
answer_is setup x false is = absurd (false≢true (sym (settled_not setup x) ∙ is))

report_is_at : (setup : MonitorSetup) (x : List Entry) (frame : Frame) → Sends setup x frame → is_a_report frame ≡ true → frame ≡ report_at setup x
report_is_at setup x frame (Answered seq members changes last e) is = e ∙ answer_is setup x (is_broken setup x) (ap is_a_report (sym e) ∙ is)
report_is_at setup x frame (Gathered round asked last e) is = absurd (false≢true (sym (values_neither setup x round asked).1 ∙ ap is_a_report (sym e) ∙ is))
report_is_at setup x frame (Reported unowed free broken e) is = e
report_is_at setup x frame (Ended unowed free calm ends told e) is = absurd (false≢true (sym (settled_not setup x) ∙ ap is_a_report (sym e) ∙ is))

record Says (setup : MonitorSetup) (x : List Entry) (border' : ℤ) (values : List (ℕ × ℤ)) : Type 0 where
  border : border' ≡ border_over setup x (resolution_at setup x)
  objects : objects_of values ≡ resolution_at setup x

says : (setup : MonitorSetup) (x : List Entry) (seq : ℕ) (border' : ℤ) (failed : List ℕ) (values : List (ℕ × ℤ)) → f.Report seq border' failed values ≡ report_at setup x → Says setup x border' values
unfolding report_at
says setup x seq border' failed values e =
    let same : values ≡ values_over setup x (resolution_at setup x) = cc in
    record { border = cc; objects = ap objects_of same ∙ objects_paired (value_of_object setup x) (resolution_at setup x) }

-- what is broken is in the resolution set
broken_resolved : (levels : List ℤ) (members : List ℕ) (o : ℕ) → Contains (broken levels members) o → Contains (resolution (length levels) members (broken levels members)) o
broken_resolved levels members o in' =
    let failed = broken levels members in
    let here = contained_is_in failed o in' in
    let outer = and_parts (is_in (outside (length levels) members) o) (is_above (least_member levels members) (level_at levels o)) (sym (is_in-filter (λ q. is_above (least_member levels members) (level_at levels q)) (outside (length levels) members) o) ∙ here) in
    let inner = and_parts (is_in (objects (length levels)) o) (not (is_in members o)) (sym (is_in-filter (λ q. not (is_in members q)) (objects (length levels)) o) ∙ outer.0) in
    is_in_contained (resolution (length levels) members failed) o
    (is_in-filter (λ q. is_in members q || is_in failed q) (objects (length levels)) o ∙ ap (λ b. b && (is_in members o || is_in failed o)) inner.0 ∙ or_right (is_in members o) (is_in failed o) here)

pub speaks_of_present : (o : Opening) (j : List Noted) (mon : ℕ) (setup : MonitorSetup) (trail : List Entry) (seq : ℕ) (border' : ℤ) (failed : List ℕ) (values : List (ℕ × ℤ)) → IsJoined o j mon setup trail
    → Contains (sent_by trail) (f.Report seq border' failed values) → seq ≡ assigns_sent mon j → is_present (assigns_sent mon j) trail ≡ true
    → IsPresent (journal_members j) (reported mon border' values) (levels_by setup.objects (λ q. value_of_object setup trail q) (λ q. factor mon j q))
unfolding broken_at
speaks_of_present o j mon setup trail seq border' failed values h in' number present =
    let frame = f.Report seq border' failed values in
    let s = under_the_last o j mon setup trail frame h in' (ap Some number) in
    let x = s.before in
    let now = s.now present in
    let said = says setup x seq border' failed values (report_is_at setup x frame (sent_there o j mon setup trail frame h s) refl) in
    let named : members_of (assigns_to mon j) ≡ journal_members j = (orderly o j h.set h.journal).named mon h.monitor in
    let members : members_at x ≡ journal_members j = ap members_of (now.assigns ∙ s.taken) ∙ named in
    let levels : levels_of setup x ≡ levels_by setup.objects (λ q. value_of_object setup trail q) (λ q. factor mon j q) = levels-same setup x trail (record { places = now.places; assigns = now.assigns }) ∙ levels_agree setup trail mon j s.taken in
    let count : length (levels_of setup x) ≡ setup.objects = length-levels_of setup x in
    record {
      broken = λ q found.
          let back : Contains (broken (levels_of setup x) (members_at x)) q = subst (λ ls. Contains (broken ls (members_at x)) q) (sym levels) (subst (λ ms. Contains (broken (levels_by setup.objects (λ z. value_of_object setup trail z) (λ z. factor mon j z)) ms) q) (sym members) found) in
          subst (λ xs. Contains xs q) (sym said.objects) (subst (λ n. Contains (resolution n (members_at x) (broken (levels_of setup x) (members_at x))) q) count (broken_resolved (levels_of setup x) (members_at x) q back));
      border = said.border
          ∙ ap (λ ls. border ls (members_at x) (resolution_at setup x)) levels
          ∙ ap (λ ms. border (levels_by setup.objects (λ z. value_of_object setup trail z) (λ z. factor mon j z)) ms (resolution_at setup x)) members
          ∙ ap (λ xs. border (levels_by setup.objects (λ z. value_of_object setup trail z) (λ z. factor mon j z)) (journal_members j) xs) (sym said.objects);
    }
