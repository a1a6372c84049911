-- What a live run leaves, by how it ended.
use Rattle.std.proofs.Common.{◌≡◌, ◌⊎◌, ℕ, List, [], ◌++◌, true, Option, Some, None, Result, Ok, Err, refl, sym, subst, inl, inr, append-nil}
use Rattle.std.specs.List.{concat}
use Rattle.tk_input.specs.Sink.{Grows, GrowsByFront}
use Rattle.tk_journal.specs.Laws.{IsMonitor}
use Rattle.tk_journal.specs.Legal.{start}
use Rattle.tk_journal.specs.Publishing.{stops}
use Rattle.tk_journal.specs.Readings.{is_stopped as has_sent_stop}
use Rattle.tk_journal.proofs.Ended.{legal_ends}
use Rattle.tk_journal.proofs.LawLemmas.{one_less}
use Rattle.tk_ledger.specs.Text.{lines_of, text_of}
use Rattle.tk_ledger.specs.declared.printing.PrintFault.{PrintFault}
use Rattle.tk_ledger.specs.declared.printing.PrintFault.TheVariants as g
use Rattle.std.specs.Prelude.{OnOk, OnErr}
use Rattle.tk_load.specs.declared.input.Input.{Input}
use Rattle.tk_story.specs.Headline.{IsSound}
use Rattle.tk_story.proofs.PublishedLemmas.{IsPublished, last_is_full, published_holds}
use Rattle.tk_story.specs.Ends.{AreOfOneRun, HaveNothingOdd, TellsDifference, kept_by}
use Rattle.tk_story.specs.Kept.{KeptStory}
use Rattle.tk_story.specs.Moments.{IsOver}
use Rattle.tk_story.specs.Story.{IsStory, StoryView, trail_of}
use Rattle.tk_story.specs.declared.ends.Ends.{Ends}
use Rattle.tk_story.specs.declared.ends.join_fault.JoinFault.{JoinFault}
use Rattle.tk_story.specs.declared.ends.join_fault.JoinFault.TheVariants as f
use Rattle.tk_trail.specs.Readings.{is_stopped}
use Rattle.tk_world.specs.Runs.{RunsBy}
use Rattle.tk_live.specs.Complete.{IsComplete}
use Rattle.tk_live.specs.Joined.{joined_as}
use Rattle.tk_base.specs.Settings.{Setup}
use Rattle.tk_input.specs.Logs.{LogSet, beginnings}
use Rattle.tk_live.specs.Joining.{IsFrom, ledger_lines, printed_as}
use Rattle.tk_live.specs.Lived.{AreOfInput, Concludes, IsOfInput, TellsEnds}
use Rattle.tk_live.specs.declared.outcome.LiveOutcome.{LiveOutcome}
use Rattle.tk_load.specs.declared.status.Status.{Status}
use Rattle.tk_load.specs.declared.status.Status.TheVariants as st
use Rattle.tk_live.specs.Traffic.{traffic_of}
use Rattle.tk_live.proofs.CarriedLemmas.{carried}
use Rattle.tk_ledger.proofs.SinkLemmas.{front_more, grows_none, grows_more}

-- where Stop was sent and every monitor took it, the run is over
pub over_of : (s : StoryView) → IsStory s → has_sent_stop s.journal ≡ true → ((mon : ℕ) → IsMonitor s.settings mon → is_stopped (trail_of s mon) ≡ true) → IsOver s
over_of s h stopped halted =
    let k = one_less s.settings.monitors h.limits.some_monitor in
    let e = (legal_ends (start s.settings) k.0 k.1 s.journal h.journal_legal).ended stopped in
    let at : IsPublished s e.final = record { before = e.front; after = stops s.settings; is = e.is } in
    record { front = e.front; final = e.final; is = e.is; last = e.last; cut = last_is_full s h e.final at e.last; valid = published_holds s h e.final at; halted = halted }

-- the text of a story is the lines of its publications and then those of its ledger
text_is : (names : List (List ℕ)) (s : StoryView) → text_of names s ≡ concat (lines_of names s.journal) ++ ledger_lines s
unfolding text_of
text_is names s = refl

-- the ends were kept
pub concludes_kept : (input : Input) (version : ℕ) (was now : Option (List ℕ)) (taken taken' : ℕ) (status : Status) (ends : Ends) → AreOfInput input ends
    → GrowsByFront was now (concat (lines_of input.names ends.coordinator.coordinator.journal)) → (status ≡ st.Done → ⊥) → TellsEnds status (Some ends)
    → Concludes input version (traffic_of was now taken taken') (record { status = status; story = None; ends = Some ends })
concludes_kept input version was now taken taken' status ends are grown never tells = record {
  done = λ e. absurd (never e);
  lived = λ e. absurd (never e);
  sound = tt;
  over = tt;
  of_input = tt;
  ends = are;
  one = λ s. absurd (cc);
  written = grown;
  differs = tells;
}

-- the ends differ, or there was no memory to see it
pub joined_never : (fault : JoinFault) → joined_as fault ≡ st.Done → ⊥
joined_never (f.Differs difference) is = absurd (cc)
joined_never f.NoMemory is = absurd (cc)

pub joined_tells : (fault : JoinFault) (ends : Ends) → TellsDifference (kept_by ends.coordinator ends.monitors.items) fault → TellsEnds (joined_as fault) (Some ends)
joined_tells (f.Differs difference) ends tells = tells
joined_tells f.NoMemory ends tells = tt

-- there is a story
pub concludes_told : (law : (s : StoryView) → IsStory s → IsOver s → IsSound s) (input : Input) (version : ℕ) (was mid now : Option (List ℕ)) (taken taken' : ℕ) (kept : KeptStory) (status : Status)
    → IsStory kept.story → IsOfInput input kept.story → IsComplete input.names version kept.story (traffic_of was mid taken taken')
    → (status ≡ st.Done → RunsBy kept.story kept.events × Grows mid now (ledger_lines kept.story)) → GrowsByFront mid now (ledger_lines kept.story) → TellsEnds status None
    → Concludes input version (traffic_of was now taken taken') (record { status = status; story = Some kept; ends = None })
concludes_told law input version was mid now taken taken' kept status h of_input complete done front tells = record {
  done = λ e. refl;
  lived = λ e. record {
    runs = record { settings_is = of_input.settings; logs_is = of_input.logs; from_is = of_input.from; runs = (done e).0 };
    written = subst (Grows was now) (sym (text_is input.names kept.story)) (grows_more was mid now (concat (lines_of input.names kept.story.journal)) (ledger_lines kept.story) complete.written (done e).1);
    carried = carried version kept.story taken taken' h complete.halted complete.heard;
  };
  sound = law kept.story h (over_of kept.story h complete.stopped complete.halted);
  over = over_of kept.story h complete.stopped complete.halted;
  of_input = of_input;
  ends = tt;
  one = λ s. refl;
  written = subst (GrowsByFront was now) (sym (text_is input.names kept.story)) (front_more was mid now (concat (lines_of input.names kept.story.journal)) (ledger_lines kept.story) complete.written front);
  differs = tells;
}

-- ---- faults

-- a failed write or link, or want of memory
abbrev pub IsFault : Status → Type 0
IsFault st.Done = ⊥
IsFault (st.LinkDiffers difference) = ⊥
IsFault st.WriteFault = Unit {0}
IsFault st.LinkFault = Unit {0}
IsFault st.NoMemory = Unit {0}
IsFault st.Usage = ⊥
IsFault (st.ReadFault file) = ⊥
IsFault (st.BadInput file line kind) = ⊥
IsFault (st.TooGreat mon obj) = ⊥
IsFault (st.BadTrace file fault) = ⊥

pub fault_of : (x a b : Status) → IsFault a → IsFault b → (x ≡ a) ⊎ (x ≡ b) → IsFault x
fault_of x a b first second (inl is) = subst IsFault (sym is) first
fault_of x a b first second (inr is) = subst IsFault (sym is) second

fault_never : (status : Status) → IsFault status → status ≡ st.Done → ⊥
fault_never status fault is = subst IsFault is fault

fault_tells : (status : Status) (ends : Ends) → (status ≡ st.LinkFault → HaveNothingOdd (kept_by ends.coordinator ends.monitors.items)) → IsFault status → TellsEnds status (Some ends)
fault_tells st.Done ends linked fault = absurd fault
fault_tells (st.LinkDiffers difference) ends linked fault = absurd fault
fault_tells st.WriteFault ends linked fault = tt
fault_tells st.LinkFault ends linked fault = linked refl
fault_tells st.NoMemory ends linked fault = tt
fault_tells st.Usage ends linked fault = absurd fault
fault_tells (st.ReadFault file) ends linked fault = absurd fault
fault_tells (st.BadInput file line kind) ends linked fault = absurd fault
fault_tells (st.TooGreat mon obj) ends linked fault = absurd fault
fault_tells (st.BadTrace file fault) ends linked wrong = absurd wrong

-- the ends were kept beside a fault, and nothing is odd where a link is told to have failed
pub concludes_fault : (input : Input) (version : ℕ) (was now : Option (List ℕ)) (taken taken' : ℕ) (status : Status) (ends : Ends) (lived : LiveOutcome) → IsFault status
    → (status ≡ st.LinkFault → HaveNothingOdd (kept_by ends.coordinator ends.monitors.items)) → AreOfInput input ends
    → GrowsByFront was now (concat (lines_of input.names ends.coordinator.coordinator.journal)) → lived ≡ record { status = status; story = None; ends = Some ends }
    → Concludes input version (traffic_of was now taken taken') lived
concludes_fault input version was now taken taken' status ends lived fault linked are grown is =
    subst (λ l. Concludes input version (traffic_of was now taken taken') l) (sym is) (concludes_kept input version was now taken taken' status ends are grown (fault_never status fault) (fault_tells status ends linked fault))

-- the ends did not agree, or there was no memory to see it
pub concludes_joined : (input : Input) (version : ℕ) (was now : Option (List ℕ)) (taken taken' : ℕ) (fault : JoinFault) (ends : Ends) (lived : LiveOutcome) → AreOfInput input ends
    → GrowsByFront was now (concat (lines_of input.names ends.coordinator.coordinator.journal)) → TellsDifference (kept_by ends.coordinator ends.monitors.items) fault
    → lived ≡ record { status = joined_as fault; story = None; ends = Some ends } → Concludes input version (traffic_of was now taken taken') lived
concludes_joined input version was now taken taken' fault ends lived are grown tells is =
    subst (λ l. Concludes input version (traffic_of was now taken taken') l) (sym is) (concludes_kept input version was now taken taken' (joined_as fault) ends are grown (joined_never fault) (joined_tells fault ends tells))

-- there is a story, as the ledger was printed
pub printed_tells : {A : Type 0} (printed : Result A PrintFault) → TellsEnds (printed_as printed) None
printed_tells (Ok done) = refl
printed_tells (Err g.WriteFailed) = tt
printed_tells (Err g.NoMemory) = tt

-- no link failed of it
pub printed_linked : {A : Type 0} (printed : Result A PrintFault) → printed_as printed ≡ st.LinkFault → ⊥
printed_linked (Ok done) is = absurd (cc)
printed_linked (Err g.WriteFailed) is = absurd (cc)
printed_linked (Err g.NoMemory) is = absurd (cc)

-- what was printed, where the status is Done, and in any case
pub printed_done : {A : Type 0} (printed : Result A PrintFault) (P : Type 0) → OnOk printed P → printed_as printed ≡ st.Done → P
printed_done (Ok done) P ok was = ok
printed_done (Err g.WriteFailed) P ok was = absurd (cc)
printed_done (Err g.NoMemory) P ok was = absurd (cc)

pub printed_front : {A : Type 0} (printed : Result A PrintFault) (old new : Option (List ℕ)) (text : List ℕ) → OnOk printed (Grows old new text) → OnErr printed (GrowsByFront old new text) → GrowsByFront old new text
printed_front (Ok done) old new text ok err = (text, [], sym (append-nil text), ok)
printed_front (Err fault) old new text ok err = err

-- nothing is a front of any text
pub none_front : (at : Option (List ℕ)) (text : List ℕ) → GrowsByFront at at text
none_front at text = ([], text, refl, grows_none at)

-- the same story under another name
pub of_story : (input : Input) (s t : StoryView) → t ≡ s → IsOfInput input s → IsOfInput input t
of_story input s t same is = subst (λ x. IsOfInput input x) (sym same) is

pub complete_story : (names : List (List ℕ)) (version : ℕ) (s t : StoryView) (was now : Option (List ℕ)) (taken taken' : ℕ) → t ≡ s → IsComplete names version s (traffic_of was now taken taken') → IsComplete names version t (traffic_of was now taken taken')
complete_story names version s t was now taken taken' same is = subst (λ x. IsComplete names version x (traffic_of was now taken taken')) (sym same) is

-- ends that can be joined are those of an input
pub of_run : (input : Input) (settings : Setup) (logs : LogSet) (from : List (List ℕ)) (ends : Ends) → IsFrom input settings logs from → AreOfOneRun ends.coordinator ends.monitors.items logs settings from → AreOfInput input ends
of_run input settings logs from ends is run =
    subst (λ s. AreOfOneRun ends.coordinator ends.monitors.items input.logs s (beginnings input.logs)) is.settings_are
    (subst (λ l. AreOfOneRun ends.coordinator ends.monitors.items l settings (beginnings input.logs)) is.logs_are
    (subst (λ p. AreOfOneRun ends.coordinator ends.monitors.items logs settings p) is.from_is run))

-- no worker was started
pub concludes_unstarted : (input : Input) (version : ℕ) (at : Option (List ℕ)) (taken taken' : ℕ) (status : Status) (lived : LiveOutcome) → (status ≡ st.LinkFault) ⊎ (status ≡ st.NoMemory) → taken' ≡ taken
    → lived ≡ record { status = status; story = None; ends = None } → Concludes input version (traffic_of at at taken taken') lived
concludes_unstarted input version at taken taken' status lived which same is =
    let fault = fault_of status st.LinkFault st.NoMemory tt tt which in
    let told : TellsEnds status None = elim which [
      | inl linked ↦ subst (λ x. TellsEnds x None) (sym linked) tt
      | inr memory ↦ subst (λ x. TellsEnds x None) (sym memory) tt
    ] in
    let here : Concludes input version (traffic_of at at taken taken') (record { status = status; story = None; ends = None }) = record {
      done = λ e. absurd (fault_never status fault e);
      lived = λ e. absurd (fault_never status fault e);
      sound = tt;
      over = tt;
      of_input = tt;
      ends = tt;
      one = λ s. refl;
      written = (refl, same);
      differs = told;
    } in
    subst (λ l. Concludes input version (traffic_of at at taken taken') l) (sym is) here

-- ends that are kept beside a status
abbrev pub kept_as : Status → Ends → LiveOutcome
kept_as status ends = record { status = status; story = None; ends = Some ends }
