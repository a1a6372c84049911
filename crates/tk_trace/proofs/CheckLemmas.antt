-- What a checker found of the story that bytes tell is what is wrong with them.
use Rattle.std.proofs.Common.{◌≡◌, ◌⊎◌, ℕ, List, [], ◌∷◌, ◌++◌, length, map, true, Result, Ok, Err, IfOk, refl, sym, ap, subst, ◌∙◌, inl, inr}
use Rattle.std.proofs.lemmas.List.Elements.{filter_map-append}
use Rattle.std.proofs.lemmas.Slice.Zip.{AllZip-long}
use Rattle.tk_base.specs.History.{last_of}
use Rattle.tk_frames.specs.declared.frame.Frame.TheVariants as g
use Rattle.tk_input.specs.Logs.{beginnings}
use Rattle.tk_journal.specs.Publishing.{publications, published_in, stops}
use Rattle.tk_journal.specs.Readings.{monitors}
use Rattle.tk_journal.specs.declared.noted.Noted.{Noted}
use Rattle.tk_journal.specs.declared.noted.Noted.TheVariants as n
use Rattle.tk_journal.specs.declared.publication.Publication.{Publication}
use Rattle.tk_trail.specs.declared.entry.Entry.{Entry}
use Rattle.tk_journal.proofs.StandLemmas.{last_push}
use Rattle.tk_story.specs.Story.{IsStory, StoryView}
use Rattle.tk_story.specs.Headline.{ReachesItsEnd}
use Rattle.tk_verify.specs.Recorded.{Finds, is_final, recorded as told_by}
use Rattle.tk_verify.specs.declared.finding.Finding.{Finding}
use Rattle.tk_verify.specs.declared.finding.Finding.TheVariants as f
use Rattle.tk_verify.specs.Faulty.{as_found}
use Rattle.tk_trace.specs.Checked.{Faults, IsFoundIn, IsKeptOf, as_unread, told}
use Rattle.tk_trace.specs.Recorded.{Recorded, recorded_of}
use Rattle.tk_trace.specs.Spelling.{IsRecorded, IsTrace, IsTrail}
use Rattle.tk_trace.specs.declared.fault.ParseFault.{ParseFault}
use Rattle.tk_trace.specs.declared.fault.ParseFault.TheVariants as p
use Rattle.tk_trace.specs.declared.trace.Trace.{Trace}
use Rattle.tk_verify.specs.declared.trace_fault.TraceFault.{TraceFault}
use Rattle.tk_verify.specs.declared.trace_fault.TraceFault.TheVariants as t
use Rattle.tk_trace.proofs.TraceLemmas.{one_run}

-- ---- what a checker asks of a record

pub a_trail_each : (r : Recorded) → IsRecorded r → length r.trails ≡ r.settings.monitors
a_trail_each r is = AllZip-long IsTrail r.logs.logs r.trails is.trails ∙ is.monitors

-- the story that is told of lists that are those of a record
pub told_is : (r : Recorded) (journal : List Noted) (trails : List (List Entry)) → journal ≡ r.journal → trails ≡ r.trails → told_by r.settings r.logs journal trails ≡ told r
told_is r journal trails same all = λ i. told_by r.settings r.logs (same i) (all i)

-- ---- what is found

-- what is found of the story is wrong with its bytes
pub found_in : (bytes : List ℕ) (r : Recorded) (finding : Finding) → IsTrace bytes r → (finding ≡ f.NoMemory) ⊎ Finds (told r) finding → (as_found finding ≡ t.NoMemory) ⊎ Faults bytes (as_found finding)
found_in bytes r finding is (inl none) = inl (ap as_found none)
found_in bytes r (f.NotLegal part place) is (inr found) = inr (record { run = r; trace = is; found = found })
found_in bytes r (f.Links mon direction place) is (inr found) = inr (record { run = r; trace = is; found = found })
found_in bytes r f.NotFinal is (inr found) = inr (record { run = r; trace = is; found = found })
found_in bytes r f.NoMemory is (inr found) = absurd found

-- and what is wrong with bytes is found of the story of their run
here : (bytes : List ℕ) (r : Recorded) (finding : Finding) → IsTrace bytes r → IsFoundIn bytes finding → Finds (told r) finding
here bytes r finding is wrong = subst (λ run. Finds (told run) finding) (one_run bytes wrong.run r wrong.trace is) wrong.found

-- ---- what is answered

refuses_found : (finding other : Finding) → (other ≡ finding) ⊎ (other ≡ f.NoMemory) → (as_found other ≡ as_found finding) ⊎ (as_found other ≡ t.NoMemory)
refuses_found finding other (inl same) = inl (ap as_found same)
refuses_found finding other (inr none) = inr (ap as_found none)

-- where nothing was found, nothing is wrong
pub nothing_wrong : (bytes : List ℕ) (r : Recorded) (fault : TraceFault) → IsTrace bytes r → ((finding : Finding) → Finds (told r) finding → ⊥) → Faults bytes fault → ⊥
nothing_wrong bytes r t.NotATrace is none wrong = wrong r is
nothing_wrong bytes r (t.NotLegal part place) is none wrong = none (f.NotLegal part place) (here bytes r _ is wrong)
nothing_wrong bytes r (t.Links mon direction place) is none wrong = none (f.Links mon direction place) (here bytes r _ is wrong)
nothing_wrong bytes r t.NotFinal is none wrong = none f.NotFinal (here bytes r _ is wrong)
nothing_wrong bytes r t.NoMemory is none wrong = wrong

-- what is wrong is what was found
pub wrong_is : (bytes : List ℕ) (r : Recorded) (other : Finding) (fault : TraceFault) → IsTrace bytes r → ((finding : Finding) → Finds (told r) finding → (other ≡ finding) ⊎ (other ≡ f.NoMemory)) → Faults bytes fault
    → (as_found other ≡ fault) ⊎ (as_found other ≡ t.NoMemory)
wrong_is bytes r other t.NotATrace is exact wrong = absurd (wrong r is)
wrong_is bytes r other (t.NotLegal part place) is exact wrong = refuses_found (f.NotLegal part place) other (exact (f.NotLegal part place) (here bytes r _ is wrong))
wrong_is bytes r other (t.Links mon direction place) is exact wrong = refuses_found (f.Links mon direction place) other (exact (f.Links mon direction place) (here bytes r _ is wrong))
wrong_is bytes r other t.NotFinal is exact wrong = refuses_found f.NotFinal other (exact f.NotFinal (here bytes r _ is wrong))
wrong_is bytes r other t.NoMemory is exact wrong = absurd wrong

-- bytes that were not read are a trace of no run, or there was no memory
pub unread_is : (bytes : List ℕ) (fault : ParseFault) → ((r : Recorded) → IsTrace bytes r → fault ≡ p.NotATrace → ⊥) → (as_unread fault ≡ t.NoMemory) ⊎ Faults bytes (as_unread fault)
unread_is bytes p.NotATrace refused = inr (λ r is. refused r is refl)
unread_is bytes p.NoMemory refused = inl refl

pub unread_exact : (bytes : List ℕ) (fault : ParseFault) (wrong : TraceFault) → ((r : Recorded) → IsTrace bytes r → fault ≡ p.NotATrace → ⊥) → Faults bytes wrong → (as_unread fault ≡ wrong) ⊎ (as_unread fault ≡ t.NoMemory)
unread_exact bytes p.NoMemory wrong refused is = inr refl
unread_exact bytes p.NotATrace t.NotATrace refused is = inl refl
unread_exact bytes p.NotATrace (t.NotLegal part place) refused is = absurd (refused is.run is.trace refl)
unread_exact bytes p.NotATrace (t.Links mon direction place) refused is = absurd (refused is.run is.trace refl)
unread_exact bytes p.NotATrace t.NotFinal refused is = absurd (refused is.run is.trace refl)
unread_exact bytes p.NotATrace t.NoMemory refused is = absurd is

pub unread_none : (bytes : List ℕ) (fault : ParseFault) (r : Recorded) → ((r : Recorded) → IsTrace bytes r → fault ≡ p.NotATrace → ⊥) → IsTrace bytes r → as_unread fault ≡ t.NoMemory
unread_none bytes p.NoMemory r refused is = refl
unread_none bytes p.NotATrace r refused is = absurd (refused r is refl)

-- ---- stories from the beginning of their logs

-- a record tells the story that it was made of
pub told_again : (names : List (List ℕ)) (s : StoryView) → s.from ≡ beginnings s.logs → told (recorded_of names s) ≡ s
told_again names s from = λ i. record { settings = s.settings; logs = s.logs; from = (sym from) i; journal = s.journal; trails = s.trails }

-- and what was kept of it is spelled again
kept_again : (r : Recorded) (kept : Trace) → IsKeptOf r kept → recorded_of kept.names kept.story.story ≡ r
kept_again r kept is = ap (λ (names : List (List ℕ)). recorded_of names kept.story.story) is.names ∙ ap (recorded_of r.names) is.story

pub kept_spelled : (bytes : List ℕ) (r : Recorded) (result : Result Trace TraceFault) → IsTrace bytes r → IfOk result (IsKeptOf r) → IfOk result (λ kept. IsTrace bytes (recorded_of kept.names kept.story.story))
kept_spelled bytes r (Ok kept) trace is = subst (IsTrace bytes) (sym (kept_again r kept is)) trace
kept_spelled bytes r (Err e) trace is = tt

pub kept_starts : (r : Recorded) (result : Result Trace TraceFault) → IfOk result (IsKeptOf r) → IfOk result (λ kept. kept.story.story.from ≡ beginnings kept.story.story.logs)
kept_starts r (Ok kept) is = ap (λ (s : StoryView). s.from) is.story ∙ ap (λ (s : StoryView). beginnings s.logs) (sym is.story)
kept_starts r (Err e) is = tt

pub kept_events : (r : Recorded) (result : Result Trace TraceFault) → IfOk result (IsKeptOf r) → IfOk result (λ kept. kept.story.events ≡ [])
kept_events r (Ok kept) is = is.events
kept_events r (Err e) is = tt

pub kept_legal : (r : Recorded) (result : Result Trace TraceFault) → IfOk result (IsKeptOf r) → IfOk result (λ kept. IsStory kept.story.story)
kept_legal r (Ok kept) is = subst IsStory (sym is.story) is.legal
kept_legal r (Err e) is = tt

pub kept_finished : (r : Recorded) (result : Result Trace TraceFault) → IfOk result (IsKeptOf r) → IfOk result (λ kept. ReachesItsEnd kept.story.story)
kept_finished r (Ok kept) is = subst ReachesItsEnd (sym is.story) is.finished
kept_finished r (Err e) is = tt

-- whether the last publication of a run is the final one
abbrev pub is_over : Recorded → Type 0
is_over r = is_final (last_of (publications r.journal)) ≡ true

-- a trace of a finished story is of this run
pub kept_succeeds : {P : Type 0} (bytes : List ℕ) (r : Recorded) (names : List (List ℕ)) (s : StoryView) → IsTrace bytes r → IsTrace bytes (recorded_of names s) → s.from ≡ beginnings s.logs → IsStory s → is_final (last_of (publications s.journal)) ≡ true
    → (IsStory (told r) → is_over r → P) → P
kept_succeeds bytes r names s is other from legal over then =
    let same : recorded_of names s ≡ r = one_run bytes (recorded_of names s) r other is in
    let story : told r ≡ s = ap told (sym same) ∙ told_again names s from in
    then (subst IsStory (sym story) legal) (subst is_over same over)

-- ---- stories that are finished

no_more : (mons : List ℕ) → publications (map (λ mon. n.Sent (record { 0 = mon }) g.Stop) mons) ≡ []
no_more [] = refl
no_more (mon ∷ mons) = no_more mons

-- the final publication of a finished story is its last one
pub final_is : (s : StoryView) → ReachesItsEnd s → is_final (last_of (publications s.journal)) ≡ true
final_is s is =
    let last : publications s.journal ≡ publications is.front ++ is.final ∷ [] =
    ap publications is.is ∙ filter_map-append published_in is.front (n.Published is.final ∷ stops s.settings)
    ∙ ap (λ (more : List Publication). publications is.front ++ is.final ∷ more) (no_more (monitors s.settings)) in
    ap (λ (ps : List Publication). is_final (last_of ps)) last ∙ ap is_final (last_push (publications is.front) is.final) ∙ is.last

-- ---- one fault

module _ (one : (s : StoryView) (a b : Finding) → Finds s a → Finds s b → a ≡ b) (bytes : List ℕ) where
  one_found : (a b : Finding) → IsFoundIn bytes a → IsFoundIn bytes b → as_found a ≡ as_found b
  one_found a b wrong other = ap as_found (one (told wrong.run) a b wrong.found (here bytes wrong.run b wrong.trace other))

  pub one_wrong_of : (a b : TraceFault) → Faults bytes a → Faults bytes b → a ≡ b
  one_wrong_of t.NotATrace t.NotATrace is other = refl
  one_wrong_of t.NotATrace (t.NotLegal part place) is other = absurd (is other.run other.trace)
  one_wrong_of t.NotATrace (t.Links mon direction place) is other = absurd (is other.run other.trace)
  one_wrong_of t.NotATrace t.NotFinal is other = absurd (is other.run other.trace)
  one_wrong_of t.NotATrace t.NoMemory is other = absurd other
  one_wrong_of (t.NotLegal part place) t.NotATrace is other = absurd (other is.run is.trace)
  one_wrong_of (t.Links mon direction place) t.NotATrace is other = absurd (other is.run is.trace)
  one_wrong_of t.NotFinal t.NotATrace is other = absurd (other is.run is.trace)
  one_wrong_of t.NoMemory b is other = absurd is
  one_wrong_of (t.NotLegal part place) (t.NotLegal part' place') is other = one_found (f.NotLegal part place) (f.NotLegal part' place') is other
  one_wrong_of (t.NotLegal part place) (t.Links mon direction place') is other = one_found (f.NotLegal part place) (f.Links mon direction place') is other
  one_wrong_of (t.NotLegal part place) t.NotFinal is other = one_found (f.NotLegal part place) f.NotFinal is other
  one_wrong_of (t.NotLegal part place) t.NoMemory is other = absurd other
  one_wrong_of (t.Links mon direction place) (t.NotLegal part' place') is other = one_found (f.Links mon direction place) (f.NotLegal part' place') is other
  one_wrong_of (t.Links mon direction place) (t.Links mon' direction' place') is other = one_found (f.Links mon direction place) (f.Links mon' direction' place') is other
  one_wrong_of (t.Links mon direction place) t.NotFinal is other = one_found (f.Links mon direction place) f.NotFinal is other
  one_wrong_of (t.Links mon direction place) t.NoMemory is other = absurd other
  one_wrong_of t.NotFinal (t.NotLegal part' place') is other = one_found f.NotFinal (f.NotLegal part' place') is other
  one_wrong_of t.NotFinal (t.Links mon' direction' place') is other = one_found f.NotFinal (f.Links mon' direction' place') is other
  one_wrong_of t.NotFinal t.NotFinal is other = refl
  one_wrong_of t.NotFinal t.NoMemory is other = absurd other

pub one_wrong : ((s : StoryView) (a b : Finding) → Finds s a → Finds s b → a ≡ b) → (bytes : List ℕ) (a b : TraceFault) → Faults bytes a → Faults bytes b → a ≡ b
one_wrong one bytes a b is other = one_wrong_of one bytes a b is other
