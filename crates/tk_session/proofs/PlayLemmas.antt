-- What an order leads to is a chain with one story for each of its stretches.
use Rattle.std.proofs.Common.{◌≡◌, ℕ, List, [], ◌∷◌, ◌++◌, length, map, refl, sym, ap, ◌∙◌, subst, append_assoc}
use Rattle.std.specs.Prelude.{filter_map}
use Rattle.std.specs.List.{onto_first, slice_split}
use Rattle.tk_base.specs.Settings.{IsWithinLimits, Setup}
use Rattle.tk_input.specs.Logs.{AreLogs, IsCut, LogSet, beginnings}
use Rattle.tk_input.specs.declared.event.Event.{Event}
use Rattle.tk_story.specs.Kept.{KeptStory}
use Rattle.tk_story.specs.Moments.{IsOver, cut_of}
use Rattle.tk_story.specs.Story.{IsStory, StoryView}
use Rattle.tk_world.specs.Events.{begin}
use Rattle.tk_drain.specs.Drive.{Drives, IsFinishing, IsReached, keep, keep_all}
use Rattle.tk_session.specs.Chain.{IsChainFrom, IsChainOf, IsSession, KeepStretches, begun}
use Rattle.tk_session.specs.Chain.KeepStretches.{Last, Restarts}
use Rattle.tk_session.specs.Order.{event_of, is_restart, stretches}
use Rattle.tk_session.specs.Sessions.{AreFinished, SessionsView, played, restarted}
use Rattle.tk_session.specs.declared.session_line.SessionLine.{SessionLine}
use Rattle.tk_session.specs.declared.session_line.SessionLine.TheVariants.{Step, Restart}
use Rattle.tk_session.proofs.ChainLemmas.{SessionsBegin, SessionsGoOn}
use Rattle.tk_session.proofs.SessionLemmas.{begins_there, keep_reached}

-- ---- the laws that are used

abbrev pub BeginningsAreStories : Type 0
BeginningsAreStories = (settings : Setup) (logs : LogSet) (from : List (List ℕ)) → IsWithinLimits settings → AreLogs logs → logs.objects ≡ settings.objects → length logs.logs ≡ settings.monitors → IsCut logs.logs from
    → IsStory (begin settings logs from)

abbrev pub StoriesEndAtCuts : Type 0
StoriesEndAtCuts = (s : StoryView) → IsStory s → IsCut s.logs.logs (cut_of s)

abbrev pub FinishesAreReached : Type 0
FinishesAreReached = (begun end : KeptStory) → IsFinishing begun end → IsReached begun end

-- ---- stretches

-- an event belongs to the first stretch of what follows
with_event : (event : Event) (parts : List (List SessionLine)) → map (filter_map event_of) (onto_first (Step event) parts) ≡ onto_first event (map (filter_map event_of) parts)
with_event event [] = refl
with_event event (part ∷ parts) = refl

behind_event : (event : Event) (lines : List SessionLine) → stretches (Step event ∷ lines) ≡ onto_first event (stretches lines)
behind_event event lines = with_event event (slice_split is_restart lines)

-- ---- stories that keep stretches, the first of them from where it stands

data KeepsFrom (at : KeptStory) : List (List Event) → List KeptStory → Type 0 where
  LastFrom : (stretch : List Event) (kept : KeptStory) → Drives stretch at kept → IsOver kept.story → KeepsFrom at (stretch ∷ []) (kept ∷ [])
  RestartsFrom : (stretch : List Event) (more : List (List Event)) (stories : List KeptStory) → KeepStretches more stories → KeepsFrom at (stretch ∷ more) (keep_all at stretch ∷ stories)

from_event : (event : Event) (at : KeptStory) (parts : List (List Event)) (stories : List KeptStory) → KeepsFrom (keep at event) parts stories → KeepsFrom at (onto_first event parts) stories
from_event event at [] stories keep = elim keep [ ]
from_event event at (stretch ∷ more) [] keep = elim keep [ ]
from_event event at (stretch ∷ []) (kept ∷ []) (LastFrom s k drives over) = LastFrom (event ∷ stretch) kept (record { finished = drives.finished }) over
from_event event at (stretch ∷ more) (kept ∷ stories) (RestartsFrom s m t rest) = RestartsFrom (event ∷ stretch) more stories rest

-- the first of them from its beginning
from_beginning : (settings : Setup) (logs : LogSet) (from : List (List ℕ)) (parts : List (List Event)) (stories : List KeptStory) → KeepsFrom (begun settings logs from) parts stories → IsChainFrom settings logs from stories
    → KeepStretches parts stories
from_beginning settings logs from [] stories keep chain = elim keep [ ]
from_beginning settings logs from (stretch ∷ more) [] keep chain = elim keep [ ]
from_beginning settings logs from (stretch ∷ []) (kept ∷ []) (LastFrom s k drives over) chain =
    Last stretch kept (subst (λ (b : KeptStory). Drives stretch b kept) (sym (begins_there settings logs from kept chain.0.runs)) drives) over
from_beginning settings logs from (stretch ∷ more) (kept ∷ stories) (RestartsFrom s m t rest) chain =
    Restarts stretch more kept stories (ap (λ (b : KeptStory). keep_all b stretch) (sym (begins_there settings logs from kept chain.0.runs))) rest

-- ---- what an order leads to

record PlaysOn (settings : Setup) (logs : LogSet) (from : List (List ℕ)) (old : SessionsView) (lines : List SessionLine) (stories : List KeptStory) : Type 0 where
  pub more : List KeptStory
  pub are : stories ≡ old.past ++ more
  pub chain : IsChainFrom settings logs from more
  pub kept : KeepsFrom old.present (stretches lines) more

record Laws : Type 0 where
  pub begin_stories : BeginningsAreStories
  pub end_at_cuts : StoriesEndAtCuts
  pub finish : FinishesAreReached
  pub begin_sessions : SessionsBegin
  pub go_on : SessionsGoOn

-- the session behind another one
next_session : Laws → (settings : Setup) (logs : LogSet) (from : List (List ℕ)) (kept : KeptStory) → IsSession settings logs from kept → IsSession settings logs (cut_of kept.story) (begun settings logs (cut_of kept.story))
next_session laws settings logs from kept s =
    let h = s.legal in
    let cut = cut_of kept.story in
    let there : IsStory (begin kept.story.settings kept.story.logs cut) = laws.begin_stories kept.story.settings kept.story.logs cut h.limits h.logs h.objects h.monitors (laws.end_at_cuts kept.story h) in
    laws.begin_sessions settings logs cut
    (subst (λ (l : LogSet). IsStory (begin settings l cut)) s.runs.logs_is (subst (λ (z : Setup). IsStory (begin z kept.story.logs cut)) s.runs.settings_is there))

same_next : (settings : Setup) (logs : LogSet) (from : List (List ℕ)) (kept : KeptStory) → IsSession settings logs from kept → begun kept.story.settings kept.story.logs (cut_of kept.story) ≡ begun settings logs (cut_of kept.story)
same_next settings logs from kept s =
    ap (λ (z : Setup). begun z kept.story.logs (cut_of kept.story)) s.runs.settings_is ∙ ap (λ (l : LogSet). begun settings l (cut_of kept.story)) s.runs.logs_is

plays : Laws → (lines : List SessionLine) (settings : Setup) (logs : LogSet) (from : List (List ℕ)) (old : SessionsView) (stories : List KeptStory) → IsSession settings logs from old.present → AreFinished (played old lines) stories
    → PlaysOn settings logs from old lines stories
plays laws [] settings logs from old stories s f = record {
  more = f.last ∷ [];
  are = f.are;
  chain = (laws.go_on settings logs from old.present f.last s (laws.finish old.present f.last f.finished), tt);
  kept = LastFrom [] f.last (record { finished = f.finished }) f.over;
}
plays laws (Step event ∷ lines) settings logs from old stories s f =
    let new : SessionsView = record old { present = keep old.present event } in
    let r = plays laws lines settings logs from new stories (laws.go_on settings logs from old.present new.present s (keep_reached old.present event)) f in
    record {
      more = r.more;
      are = r.are;
      chain = r.chain;
      kept = subst (λ (parts : List (List Event)). KeepsFrom old.present parts r.more) (sym (behind_event event lines)) (from_event event old.present (stretches lines) r.more r.kept);
    }
plays laws (Restart ∷ lines) settings logs from old stories s f =
    let cut = cut_of old.present.story in
    let next = begun settings logs cut in
    let same = same_next settings logs from old.present s in
    let r = plays laws lines settings logs cut (restarted old) stories (subst (λ (k : KeptStory). IsSession settings logs cut k) (sym same) (next_session laws settings logs from old.present s)) f in
    record {
      more = old.present ∷ r.more;
      are = r.are ∙ append_assoc old.past (old.present ∷ []) r.more;
      chain = (s, r.chain);
      kept = RestartsFrom [] (stretches lines) r.more (from_beginning settings logs cut (stretches lines) r.more (subst (λ (k : KeptStory). KeepsFrom k (stretches lines) r.more) same r.kept) r.chain);
    }

pub chain_keeps_its_stretches : BeginningsAreStories → StoriesEndAtCuts → FinishesAreReached → SessionsBegin → SessionsGoOn → (settings : Setup) (logs : LogSet) (lines : List SessionLine) (stories : List KeptStory)
    → IsStory (begun settings logs (beginnings logs)).story → AreFinished (played (record { past = []; present = begun settings logs (beginnings logs) }) lines) stories → IsChainOf settings logs lines stories
chain_keeps_its_stretches begin_stories end_at_cuts finish begin_sessions go_on settings logs lines stories h f =
    let laws : Laws = record { begin_stories = begin_stories; end_at_cuts = end_at_cuts; finish = finish; begin_sessions = begin_sessions; go_on = go_on } in
    let from = beginnings logs in
    let first = begun settings logs from in
    let r = plays laws lines settings logs from (record { past = []; present = first }) stories (begin_sessions settings logs from h) f in
    record {
      chain = subst (λ (all : List KeptStory). IsChainFrom settings logs from all) (sym r.are) r.chain;
      kept = subst (λ (all : List KeptStory). KeepStretches (stretches lines) all) (sym r.are) (from_beginning settings logs from (stretches lines) r.more r.kept r.chain);
    }
