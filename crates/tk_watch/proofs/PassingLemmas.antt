-- What a connection comes to.
use Rattle.std.proofs.Common.{◌≡◌, ℕ, List, [], ◌∷◌, ◌++◌, Option, refl, sym, subst, ap, ◌∙◌, append_assoc, append-nil}
use Rattle.std.specs.Prelude.{Result, Ok, Err, flat_map}
use Rattle.std.specs.List.{AllByRecursion}
use Rattle.std.proofs.lemmas.List.Concat.{flat_map-append}
use Rattle.tk_input.specs.Sink.{Grows, GrowsByFront}
use Rattle.tk_watch.specs.Connections.{Ended, Ends, HasBegun, HasEnded, HasJoined, GrowsAs, IsLeft, IsOver, Joined, Left, Nothing, begun_text, ended_text, joined_text, left_text, tick_text}
use Rattle.tk_watch.specs.Ends.{HaveTicked, TickEndView}
use Rattle.tk_watch.specs.Passing.{HasStopped, HasTold, Passes, PassesBehind, Stops}
use Rattle.tk_watch.specs.Watch.{Named}
use Rattle.tk_watch.specs.declared.attended.Attended.{Attended}
use Rattle.tk_watch.specs.declared.attended.Attended.TheVariants as a
use Rattle.tk_watch.specs.declared.cause.Cause.{Cause}
use Rattle.tk_watch.specs.declared.fault.FeedFault.{FeedFault}
use Rattle.tk_watch.specs.declared.verdict.Verdict.{Verdict}
use Rattle.tk_watch.specs.declared.verdict.Verdict.TheVariants as v
use Rattle.tk_ledger.proofs.SinkLemmas.{front_longer, front_more, grows_more, grows_none}
use Rattle.tk_watch.proofs.SinkLemmas.{grows_as_more}

-- nothing was said of it
pub says_nothing : (W : Type 0) (named : Named) (number : ℕ) (a : Option (List ℕ)) → Passes W named number (Err v.NoMemory) a a
says_nothing W named number a = record { last = Nothing; is = tt; fits = tt; text = grows_none a }

-- it was made, and no tick ended yet
begun_first : (W : Type 0) (named : Named) (counts : List ℕ) → HasJoined W named counts → HasBegun W named counts []
begun_first W named counts is = record { joined = is; ticked = tt }

-- the line that it was made was not written
pub stops_joined : (W : Type 0) (named : Named) (number : ℕ) (counts : List ℕ) (verdict : Verdict) (a b : Option (List ℕ)) → HasJoined W named counts → Stops verdict a b (joined_text number counts)
    → Passes W named number (Err verdict) a b
stops_joined W named number counts v.Done a b is stops = absurd stops
stops_joined W named number counts v.WriteFault a b is stops =
    record { last = Joined counts []; is = begun_first W named counts is; fits = tt; text = front_longer a b (joined_text number counts) [] stops }
stops_joined W named number counts v.LinkFault a b is stops = absurd stops
stops_joined W named number counts (v.Fed fault) a b is stops = absurd stops
stops_joined W named number counts v.NoMemory a b is stops = subst (λ (c : Option (List ℕ)). Passes W named number (Err v.NoMemory) a c) (sym stops) (says_nothing W named number a)

-- it was written
pub passes_joined : (W : Type 0) (named : Named) (number : ℕ) (counts : List ℕ) (result : Result Cause Verdict) (a b c : Option (List ℕ)) → HasJoined W named counts → Grows a b (joined_text number counts)
    → PassesBehind W named number result b c → Passes W named number result a c
passes_joined W named number counts result a b c is joined then =
    then counts [] a (begun_first W named counts is) (subst (Grows a b) (sym (append-nil (joined_text number counts))) joined)

-- ---- ends of ticks

each_both : {A : Type 0} (P : A → Type 0) (xs ys : List A) → AllByRecursion P xs → AllByRecursion P ys → AllByRecursion P (xs ++ ys)
each_both P [] ys first second = second
each_both P (x ∷ xs) ys first second = (first.0, each_both P xs ys first.1 second)

begun_more : (W : Type 0) (named : Named) (counts : List ℕ) (ticks more : List TickEndView) → HasBegun W named counts ticks → AllByRecursion (λ end. HaveTicked W named end) more → HasBegun W named counts (ticks ++ more)
begun_more W named counts ticks more begun each =
    record { joined = begun.joined; ticked = each_both (λ (end : TickEndView). HaveTicked W named end) ticks more begun.ticked each }

begun_texts : (number : ℕ) (counts : List ℕ) (ticks more : List TickEndView) → begun_text number counts ticks ++ flat_map tick_text more ≡ begun_text number counts (ticks ++ more)
begun_texts number counts ticks more =
    append_assoc (joined_text number counts) (flat_map tick_text ticks) (flat_map tick_text more)
    ∙ ap (λ (text : List ℕ). joined_text number counts ++ text) (sym (flat_map-append tick_text ticks more))

-- some were told, and then it came to this
pub told_behind : (W : Type 0) (named : Named) (number : ℕ) (result : Result Cause Verdict) (a b c : Option (List ℕ)) → HasTold W named a b → PassesBehind W named number result b c → PassesBehind W named number result a c
told_behind W named number result a b c told then counts ticks was begun joined =
    then counts (ticks ++ told.ticks) was (begun_more W named counts ticks told.ticks begun told.each)
    (subst (Grows was b) (begun_texts number counts ticks told.ticks) (grows_more was a b (begun_text number counts ticks) (flat_map tick_text told.ticks) joined told.text))

-- or one could not be told
pub stopped_behind : (W : Type 0) (named : Named) (number : ℕ) (verdict : Verdict) (a b : Option (List ℕ)) → HasStopped W named verdict a b → PassesBehind W named number (Err verdict) a b
stopped_behind W named number v.Done a b stopped counts ticks was begun joined = absurd stopped.stops
stopped_behind W named number v.WriteFault a b stopped counts ticks was begun joined = record {
  last = Joined counts (ticks ++ stopped.ticks);
  is = begun_more W named counts ticks stopped.ticks begun stopped.each;
  fits = tt;
  text = subst (GrowsByFront was b) (begun_texts number counts ticks stopped.ticks) (front_more was a b (begun_text number counts ticks) (flat_map tick_text stopped.ticks) joined stopped.text);
}
stopped_behind W named number v.LinkFault a b stopped counts ticks was begun joined = absurd stopped.stops
stopped_behind W named number (v.Fed fault) a b stopped counts ticks was begun joined = absurd stopped.stops
stopped_behind W named number v.NoMemory a b stopped counts ticks was begun joined = record {
  last = Joined counts (ticks ++ stopped.ticks);
  is = begun_more W named counts ticks stopped.ticks begun stopped.each;
  fits = tt;
  text = subst (Grows was b) (begun_texts number counts ticks stopped.ticks) (grows_more was a b (begun_text number counts ticks) (flat_map tick_text stopped.ticks) joined stopped.text);
}

pub stopped_linked : (W : Type 0) (named : Named) (verdict : Verdict) (a b : Option (List ℕ)) → HasStopped W named verdict a b → ◌≡◌ {A = Result Cause Verdict} (Err verdict) (Err v.LinkFault) → ⊥
stopped_linked W named v.Done a b stopped is = absurd stopped.stops
stopped_linked W named v.WriteFault a b stopped is = absurd (cc)
stopped_linked W named v.LinkFault a b stopped is = absurd stopped.stops
stopped_linked W named (v.Fed fault) a b stopped is = absurd stopped.stops
stopped_linked W named v.NoMemory a b stopped is = absurd (cc)

-- none was told
pub told_none : (W : Type 0) (named : Named) (a : Option (List ℕ)) → HasTold W named a a
told_none W named a = record { ticks = []; each = tt; text = grows_none a }

pub stopped_none : (W : Type 0) (named : Named) (a : Option (List ℕ)) → HasStopped W named v.NoMemory a a
stopped_none W named a = record { ticks = []; each = tt; stops = tt; text = grows_none a }

-- one was
pub told_one : (W : Type 0) (named : Named) (end : TickEndView) (a b : Option (List ℕ)) → HaveTicked W named end → Grows a b (tick_text end) → HasTold W named a b
told_one W named end a b is line = record { ticks = end ∷ []; each = (is, tt); text = subst (Grows a b) (sym (append-nil (tick_text end))) line }

pub stopped_one : (W : Type 0) (named : Named) (end : TickEndView) (verdict : Verdict) (a b : Option (List ℕ)) → HaveTicked W named end → Stops verdict a b (tick_text end) → HasStopped W named verdict a b
stopped_one W named end v.Done a b is stops = absurd stops
stopped_one W named end v.WriteFault a b is stops = record { ticks = end ∷ []; each = (is, tt); stops = tt; text = front_longer a b (tick_text end) [] stops }
stopped_one W named end v.LinkFault a b is stops = absurd stops
stopped_one W named end (v.Fed fault) a b is stops = absurd stops
stopped_one W named end v.NoMemory a b is stops = subst (λ (c : Option (List ℕ)). HasStopped W named v.NoMemory a c) (sym stops) (stopped_none W named a)

-- some were, and then others
pub told_more : (W : Type 0) (named : Named) (a b c : Option (List ℕ)) → HasTold W named a b → HasTold W named b c → HasTold W named a c
told_more W named a b c first second = record {
  ticks = first.ticks ++ second.ticks;
  each = each_both (λ (end : TickEndView). HaveTicked W named end) first.ticks second.ticks first.each second.each;
  text = subst (Grows a c) (sym (flat_map-append tick_text first.ticks second.ticks)) (grows_more a b c (flat_map tick_text first.ticks) (flat_map tick_text second.ticks) first.text second.text);
}

pub stopped_more : (W : Type 0) (named : Named) (verdict : Verdict) (a b c : Option (List ℕ)) → HasTold W named a b → HasStopped W named verdict b c → HasStopped W named verdict a c
stopped_more W named verdict a b c first second = record {
  ticks = first.ticks ++ second.ticks;
  each = each_both (λ (end : TickEndView). HaveTicked W named end) first.ticks second.ticks first.each second.each;
  stops = second.stops;
  text = subst (GrowsAs verdict a c) (sym (flat_map-append tick_text first.ticks second.ticks)) (grows_as_more verdict a b c (flat_map tick_text first.ticks) (flat_map tick_text second.ticks) first.text second.text);
}

-- ---- how it ended

-- by a look behind which more does not come
pub over_ends : (W : Type 0) (named : Named) (over : Attended) → (over ≡ a.More → ⊥) → (over ≡ a.Quiet → ⊥) → IsOver W named over → Ends W named over
over_ends W named a.More more quiet is = absurd (more refl)
over_ends W named a.Quiet more quiet is = absurd (quiet refl)
over_ends W named (a.Left cause) more quiet is = is
over_ends W named (a.Stopped counts skipped) more quiet is = is
over_ends W named (a.Fed fault) more quiet is = is

-- a stream ended the process
pub fed : (W : Type 0) (named : Named) (number : ℕ) (fault : FeedFault) (a : Option (List ℕ)) → PassesBehind W named number (Err (v.Fed fault)) a a
fed W named number fault a counts ticks was begun joined = record { last = Joined counts ticks; is = begun; fits = tt; text = joined }

-- it was left, and the line says so
pub leaves : (W : Type 0) (named : Named) (number : ℕ) (cause : Cause) (a b : Option (List ℕ)) → IsLeft W named cause → Grows a b (left_text number cause) → PassesBehind W named number (Ok cause) a b
leaves W named number cause a b is line counts ticks was begun joined = record { counts = counts; ticks = ticks; is = (begun, is); text = grows_more was a b _ _ joined line }

-- behind the line that it was made one was not written
pub stops_left : (W : Type 0) (named : Named) (number : ℕ) (verdict : Verdict) (cause : Cause) (a b : Option (List ℕ)) → IsLeft W named cause → Stops verdict a b (left_text number cause) → PassesBehind W named number (Err verdict) a b
stops_left W named number v.Done cause a b is stops counts ticks was begun joined = absurd stops
stops_left W named number v.WriteFault cause a b is stops counts ticks was begun joined =
    record { last = Left counts ticks cause; is = (begun, is); fits = tt; text = front_more was a b _ _ joined stops }
stops_left W named number v.LinkFault cause a b is stops counts ticks was begun joined = absurd stops
stops_left W named number (v.Fed fault) cause a b is stops counts ticks was begun joined = absurd stops
stops_left W named number v.NoMemory cause a b is stops counts ticks was begun joined =
    record { last = Joined counts ticks; is = begun; fits = tt; text = subst (λ (c : Option (List ℕ)). Grows was c (begun_text number counts ticks)) (sym stops) joined }

-- the monitor took Stop, and the line says so
pub ends : (W : Type 0) (named : Named) (number : ℕ) (counts : List ℕ) (skipped : ℕ) (a b : Option (List ℕ)) → HasEnded W named counts → Grows a b (ended_text counts skipped) → PassesBehind W named number (Err v.Done) a b
ends W named number at skipped a b is line counts ticks was begun joined = record { last = Ended counts ticks at skipped; is = (begun, is); fits = tt; text = grows_more was a b _ _ joined line }

pub stops_ended : (W : Type 0) (named : Named) (number : ℕ) (verdict : Verdict) (counts : List ℕ) (skipped : ℕ) (a b : Option (List ℕ)) → HasEnded W named counts → Stops verdict a b (ended_text counts skipped) → PassesBehind W named number (Err verdict) a b
stops_ended W named number v.Done at skipped a b is stops counts ticks was begun joined = absurd stops
stops_ended W named number v.WriteFault at skipped a b is stops counts ticks was begun joined =
    record { last = Ended counts ticks at skipped; is = (begun, is); fits = tt; text = front_more was a b _ _ joined stops }
stops_ended W named number v.LinkFault at skipped a b is stops counts ticks was begun joined = absurd stops
stops_ended W named number (v.Fed fault) at skipped a b is stops counts ticks was begun joined = absurd stops
stops_ended W named number v.NoMemory at skipped a b is stops counts ticks was begun joined =
    record { last = Joined counts ticks; is = begun; fits = tt; text = subst (λ (c : Option (List ℕ)). Grows was c (begun_text number counts ticks)) (sym stops) joined }

-- a line that was not written says nothing of dials
pub stops_linked : (verdict : Verdict) (a b : Option (List ℕ)) (text : List ℕ) → Stops verdict a b text → ◌≡◌ {A = Result Cause Verdict} (Err verdict) (Err v.LinkFault) → ⊥
stops_linked v.Done a b text stops is = absurd stops
stops_linked v.WriteFault a b text stops is = absurd (cc)
stops_linked v.LinkFault a b text stops is = absurd stops
stops_linked (v.Fed fault) a b text stops is = absurd stops
stops_linked v.NoMemory a b text stops is = absurd (cc)
