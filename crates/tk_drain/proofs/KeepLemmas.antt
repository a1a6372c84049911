-- What is left where events are kept as they stand: those that were enabled lead there.
use Rattle.std.proofs.Common.{◌≡◌, Bool, true, List, [], ◌∷◌, ◌++◌, Option, Some, None, refl, sym, ap, ◌∙◌, subst, append_assoc, append-nil}
use Rattle.std.specs.Prelude.{is_some, not}
use Rattle.std.specs.List.{list_all}
use Rattle.std.proofs.lemmas.Bool.{and_parts, and_from}
use Rattle.tk_input.specs.declared.event.Event.{Event}
use Rattle.tk_story.specs.Kept.{KeptStory}
use Rattle.tk_story.specs.Story.{IsStory, StoryView}
use Rattle.tk_world.specs.Events.{after, next_of}
use Rattle.tk_world.proofs.StepLemmas.{after_is_story}
use Rattle.tk_drain.specs.Drive.{IsReached, keep, keep_all, keep_by}
use Rattle.tk_drain.specs.Settling.{is_settling}

-- ---- one event

pub keep_none : (a : KeptStory) (e : Event) → next_of a.story e ≡ None → keep a e ≡ a
unfolding keep
keep_none a e none = ap (keep_by a e) none

pub keep_some : (a : KeptStory) (e : Event) (t : StoryView) → next_of a.story e ≡ Some t → keep a e ≡ record { story = t; events = a.events ++ e ∷ [] }
unfolding keep
keep_some a e t some = ap (keep_by a e) some

-- ---- lists of events

pub after_joined : (o : Option StoryView) (t : StoryView) (xs ys : List Event) → after o xs ≡ Some t → after o (xs ++ ys) ≡ after (Some t) ys
after_joined None t xs ys is = absurd (cc)
after_joined (Some s) t [] ys is = ap (λ (o : Option StoryView). after o ys) is
after_joined (Some s) t (x ∷ xs) ys is = after_joined (next_of s x) t xs ys is

-- these events, each enabled where it stands, lead from one to the other
pub record Leads (a c : KeptStory) (took : List Event) : Type 0 where
  pub runs : after (Some a.story) took ≡ Some c.story
  pub kept : c.events ≡ a.events ++ took

pub leads_none : (a : KeptStory) → Leads a a []
leads_none a = record { runs = refl; kept = sym (append-nil a.events) }

pub leads_join : (a b c : KeptStory) (xs ys : List Event) → Leads a b xs → Leads b c ys → Leads a c (xs ++ ys)
leads_join a b c xs ys one two = record {
  runs = after_joined (Some a.story) b.story xs ys one.runs ∙ two.runs;
  kept = two.kept ∙ ap (λ zs. zs ++ ys) one.kept ∙ append_assoc a.events xs ys;
}

pub leads_one : (a : KeptStory) (e : Event) (t : StoryView) → next_of a.story e ≡ Some t → Leads a (keep a e) (e ∷ [])
leads_one a e t some = subst (λ (c : KeptStory). Leads a c (e ∷ [])) (sym (keep_some a e t some)) (record {
  runs = ap (λ (o : Option StoryView). after o []) some;
  kept = refl;
})

pub leads_story : (a c : KeptStory) (took : List Event) → IsStory a.story → Leads a c took → IsStory c.story
leads_story a c took h l = after_is_story a.story c.story took h l.runs

pub leads_reached : (a c : KeptStory) (took : List Event) → Leads a c took → IsReached a c
leads_reached a c took l = record { events = took; runs = l.runs; kept_too = l.kept }

pub reached_leads : (a c : KeptStory) (r : IsReached a c) → Leads a c r.events
reached_leads a c r = record { runs = r.runs; kept = r.kept_too }

-- ---- events that are kept as they stand

abbrev pub is_idle : StoryView → Event → Bool
is_idle s e = not (is_some (next_of s e))

-- those of the events that were enabled: none only where each of them was idle from the beginning
pub record Took (a : KeptStory) (events : List Event) : Type 0 where
  pub took : List Event
  pub leads : Leads a (keep_all a events) took
  pub settling : list_all is_settling events ≡ true → list_all is_settling took ≡ true
  pub none : took ≡ [] → list_all (is_idle a.story) events ≡ true

took_by : (a : KeptStory) (e : Event) (events : List Event) (o : Option StoryView) → next_of a.story e ≡ o → Took (keep a e) events → Took a (e ∷ events)
took_by a e events None none rest =
    let same = keep_none a e none in
    let on : Took a events = subst (λ (z : KeptStory). Took z events) same rest in
    record {
      took = on.took;
      leads = subst (λ (z : KeptStory). Leads a (keep_all z events) on.took) (sym same) on.leads;
      settling = λ all. on.settling (and_parts (is_settling e) (list_all is_settling events) all).1;
      none = λ nil. and_from (is_idle a.story e) (list_all (is_idle a.story) events) (ap (λ (o : Option StoryView). not (is_some o)) none) (on.none nil);
    }
took_by a e events (Some t) some rest = record {
  took = e ∷ rest.took;
  leads = leads_join a (keep a e) (keep_all (keep a e) events) (e ∷ []) rest.took (leads_one a e t some) rest.leads;
  settling = λ all.
      let both = and_parts (is_settling e) (list_all is_settling events) all in
      and_from (is_settling e) (list_all is_settling rest.took) both.0 (rest.settling both.1);
  none = λ nil. absurd (cc);
}

pub took_of : (a : KeptStory) (events : List Event) → Took a events
took_of a [] = record { took = []; leads = leads_none a; settling = λ all. refl; none = λ nil. refl }
took_of a (e ∷ events) = took_by a e events (next_of a.story e) refl (took_of (keep a e) events)

pub idle_none : (o : Option StoryView) → not (is_some o) ≡ true → o ≡ None
idle_none None is = refl
idle_none (Some t) is = absurd (cc)

pub none_idle : (o : Option StoryView) → o ≡ None → not (is_some o) ≡ true
none_idle o none = ap (λ (x : Option StoryView). not (is_some x)) none

-- events that are idle leave all as it was
pub idle_kept : (a : KeptStory) (events : List Event) → list_all (is_idle a.story) events ≡ true → keep_all a events ≡ a
idle_kept a [] all = refl
idle_kept a (e ∷ events) all =
    let both = and_parts (is_idle a.story e) (list_all (is_idle a.story) events) all in
    ap (λ (z : KeptStory). keep_all z events) (keep_none a e (idle_none (next_of a.story e) both.0)) ∙ idle_kept a events both.1
