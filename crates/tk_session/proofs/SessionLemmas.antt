-- What is reached from a session is one.
use Rattle.std.proofs.Common.{◌≡◌, ℕ, ◌+◌, List, [], ◌∷◌, ◌++◌, Option, Some, None, Result, Ok, Err, refl, sym, ap, ◌∙◌, subst, append-nil, take}
use Rattle.std.specs.Prelude.{IfOk, OnErr, slice_get}
use Rattle.std.proofs.lemmas.List.{take_more}
use Rattle.std.proofs.lemmas.List.Sums.{fold-append}
use Rattle.std.proofs.lemmas.Option.{get_or_from_slice_get, slice_get_within}
use Rattle.tk_base.specs.Settings.{Setup}
use Rattle.tk_base.specs.declared.memory.NoMemory.{NoMemory}
use Rattle.tk_input.specs.Logs.{LogSet}
use Rattle.tk_input.specs.declared.event.Event.{Event}
use Rattle.tk_story.specs.Kept.{KeptStory}
use Rattle.tk_story.specs.Story.{IsStory, StoryView}
use Rattle.tk_world.specs.Events.{after, begin, next_of}
use Rattle.tk_world.specs.Runs.{RunsBy}
use Rattle.tk_world.specs.World.{Moves}
use Rattle.tk_world.specs.declared.moved.Moved.{Moved}
use Rattle.tk_world.specs.declared.moved.Moved.TheVariants.{Yes, Idle}
use Rattle.tk_drain.specs.Drive.{IsReached, keep, keep_by}
use Rattle.tk_drain.specs.Resting.{RunsFrom}
use Rattle.tk_session.specs.Chain.{IsSession, begun, beginning_of}
use Rattle.tk_session.specs.Sessions.{SessionsView, played, with_line}
use Rattle.tk_session.specs.declared.session_line.SessionLine.{SessionLine}
use Rattle.tk_session.specs.declared.session_line.SessionLine.TheVariants.{Step}
use Rattle.tk_drain.proofs.KeepLemmas.{after_joined}
use Rattle.tk_drain.proofs.LegLemmas.{moves_keep}

-- ---- the laws of stories that are used

abbrev pub StoriesAreReached : Type 0
StoriesAreReached = (s : StoryView) (events : List Event) → IsStory s → RunsBy s events → after (Some (begin s.settings s.logs s.from)) events ≡ Some s

abbrev pub RunsLeaveStories : Type 0
RunsLeaveStories = (s t : StoryView) (events : List Event) → IsStory s → after (Some s) events ≡ Some t → IsStory t

abbrev pub WhatIsReachedRuns : Type 0
WhatIsReachedRuns = (settings : Setup) (logs : LogSet) (from : List (List ℕ)) (end : KeptStory) → IsStory end.story → IsReached (begun settings logs from) end → RunsFrom settings logs from end

-- ---- what is reached

pub reached_self : (kept : KeptStory) → IsReached kept kept
reached_self kept = record { events = []; runs = refl; kept_too = sym (append-nil kept.events) }

kept_reached : (kept : KeptStory) (event : Event) (o : Option StoryView) → next_of kept.story event ≡ o → IsReached kept (keep_by kept event o)
kept_reached kept event None is = reached_self kept
kept_reached kept event (Some t) is = record { events = event ∷ []; runs = ap (λ (o : Option StoryView). after o []) is; kept_too = refl }

-- a story after an event that is kept where it is enabled
pub keep_reached : (kept : KeptStory) (event : Event) → IsReached kept (keep kept event)
unfolding keep
keep_reached kept event = kept_reached kept event (next_of kept.story event) refl

-- a story after a step of a world
pub moves_reached : (old new : KeptStory) (event : Event) (moved : Moved) → Moves old event moved new → IsReached old new
moves_reached old new event Yes x = record { events = event ∷ []; runs = ap (λ (o : Option StoryView). after o []) x.0; kept_too = x.1 }
moves_reached old new event Idle x = subst (λ (k : KeptStory). IsReached old k) (sym x.1) (reached_self old)

abbrev pub Steps : KeptStory → Event → KeptStory → Result Moved NoMemory → Type 0
Steps old event new result = IfOk result (λ moved. Moves old event moved new)

-- a story after a step of a world, or after want of memory, which leaves it as it was
pub step_reached : (old new : KeptStory) (event : Event) (result : Result Moved NoMemory) → Steps old event new result → OnErr result (new ≡ old) → IsReached old new
step_reached old new event (Ok moved) ok err = moves_reached old new event moved ok
step_reached old new event (Err e) ok err = subst (λ (k : KeptStory). IsReached old k) (sym err) (reached_self old)

-- sessions after a step of the present one
pub took_step : (old new : SessionsView) (event : Event) (moved : Moved) → Moves old.present event moved new.present → new.past ≡ old.past → new ≡ with_line old (Step event)
took_step old new event moved moves past =
    ap (λ (ps : List KeptStory). record { past = ps; present = new.present }) past
    ∙ ap (λ (p : KeptStory). record { past = old.past; present = p }) (moves_keep old.present new.present event moved moves)

-- one more line
pub play_more : (lines : List SessionLine) (i : ℕ) (line : SessionLine) (old now new : SessionsView) → slice_get lines i ≡ Some line → now ≡ played old (take i lines) → new ≡ with_line now line → new ≡ played old (take (i + 1) lines)
play_more lines i line old now new at is next =
    let taken : take (i + 1) lines ≡ take i lines ++ line ∷ [] =
    take_more lines i line (slice_get_within lines i line at) ∙ ap (λ (x : SessionLine). take i lines ++ x ∷ []) (get_or_from_slice_get lines i line line at) in
    next ∙ ap (λ (s : SessionsView). with_line s line) is ∙ sym (fold-append with_line old (take i lines) (line ∷ [])) ∙ sym (ap (played old) taken)

-- ---- sessions

same_begin : (s t : Setup) (l m : LogSet) (f g : List (List ℕ)) → t ≡ s → m ≡ l → g ≡ f → begun t m g ≡ begun s l f
same_begin s t l m f g a b c = ap (λ z. begun z m g) a ∙ ap (λ z. begun s z g) b ∙ ap (λ z. begun s l z) c

-- a session began where it says
pub begins_there : (settings : Setup) (logs : LogSet) (from : List (List ℕ)) (kept : KeptStory) → RunsFrom settings logs from kept → beginning_of kept ≡ begun settings logs from
begins_there settings logs from kept r = same_begin settings kept.story.settings logs kept.story.logs from kept.story.from r.settings_is r.logs_is r.from_is

pub session_begins : WhatIsReachedRuns → (settings : Setup) (logs : LogSet) (from : List (List ℕ)) → IsStory (begun settings logs from).story → IsSession settings logs from (begun settings logs from)
session_begins reaches settings logs from h = record { legal = h; runs = reaches settings logs from (begun settings logs from) h (reached_self (begun settings logs from)) }

pub session_goes_on : StoriesAreReached → RunsLeaveStories → WhatIsReachedRuns → (settings : Setup) (logs : LogSet) (from : List (List ℕ)) (old new : KeptStory)
    → IsSession settings logs from old → IsReached old new → IsSession settings logs from new
session_goes_on replays leaves reaches settings logs from old new s r =
    let start = begin settings logs from in
    let there : after (Some start) old.events ≡ Some old.story =
    ap (λ (k : KeptStory). after (Some k.story) old.events) (sym (begins_there settings logs from old s.runs)) ∙ replays old.story old.events s.legal s.runs.runs in
    let whole : after (Some start) (old.events ++ r.events) ≡ Some new.story = after_joined (Some start) old.story old.events r.events there ∙ r.runs in
    let legal = leaves old.story new.story r.events s.legal r.runs in
    record {
      legal = legal;
      runs = reaches settings logs from new legal (record { events = old.events ++ r.events; runs = whole; kept_too = r.kept_too });
    }
