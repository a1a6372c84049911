-- What no call changes of a watch, and what is known of its connections.
use Rattle.std.proofs.Common.{◌≡◌, ◌≤◌, ℕ, Bool, true, false, List, length, inl, inr, refl, sym, ap, ◌∙◌, subst}
use Rattle.std.specs.Prelude.{ℤ, IfSome, Option}
use Rattle.tk_base.specs.declared.ids.Feeder.{Feeder}
use Rattle.tk_monitor.specs.declared.outcome.Raised.{Raised}
use Rattle.tk_monitor.specs.declared.outcome.Raised.TheVariants as o
use Rattle.tk_trail.proofs.GrowingLemmas.{length-grown_parts}
use Rattle.tk_trail.proofs.LawLemmas.{stopped_rest}
use Rattle.tk_compact.proofs.BeginLemmas.{count_anew}
use Rattle.tk_port.specs.Port.{PortView}
use Rattle.tk_watch.specs.Connections.{GoesOnAs, HasEnded, HasJoined, IsLeft}
use Rattle.tk_watch.specs.Told.{Closes, Counts, Tells, made_room}
use Rattle.tk_watch.specs.Watch.{Begins, IsEndOf, IsWatch, Named, Turns, WatchView, named_of, refilled}
use Rattle.tk_watch.specs.declared.cause.Cause.{Cause}
use Rattle.tk_watch.specs.declared.cause.Cause.TheVariants as cause_
use Rattle.tk_watch.specs.declared.told.Told.{Told}
use Rattle.tk_watch.specs.declared.told.Told.TheVariants as t
use Rattle.tk_watch.specs.declared.turned.Turned.TheVariants as u
use Rattle.tk_watch.proofs.TurningLemmas.{turned_named}

pub refilled_named : {W : Type 0} (w : WatchView W) → IsWatch w → named_of (refilled w) ≡ named_of w
refilled_named w is = ap (λ (n : ℕ). record (named_of w) { streams = n }) (count_anew w.monitor.setup w.monitor.trail is.within)

counts_named : {W : Type 0} (old new : WatchView W) (f : Feeder) (c : ℕ × ℤ) (broken : Bool) → Counts old f c broken new → named_of new ≡ named_of old
counts_named old new f c broken counts =
    ap named_of counts.told ∙ ap (λ (n : ℕ). record (named_of old) { streams = n }) (length-grown_parts old.monitor.setup.parts f.0 c)

room_named : {W : Type 0} (w : WatchView W) (b : Bool) → IsWatch w → named_of (made_room b w) ≡ named_of w
room_named w true is = refilled_named w is
room_named w false is = refl

pub tells_named : {W : Type 0} (old new : WatchView W) (f : Feeder) (c : ℕ × ℤ) (told : Told) → IsWatch old → Tells old f c told new → named_of new ≡ named_of old
tells_named old new f c (t.Done broken anew) is tells = counts_named (made_room anew old) new f c broken tells.1 ∙ room_named old anew is
tells_named old new f c t.Closed is tells = ap named_of tells.1
tells_named old new f c t.TooGreat is tells = ap named_of tells.1.1
tells_named old new f c t.NoMemory is tells = elim tells [ inl same ↦ ap named_of same | inr refilled_ ↦ ap named_of refilled_ ∙ refilled_named old is ]

pub closes_named : {W : Type 0} (old new : WatchView W) (f : Feeder) (raised : Raised) → Closes old f raised new → named_of new ≡ named_of old
closes_named old new f (o.Done broken) closes = ap named_of closes.1.0
closes_named old new f o.Ended closes = ap named_of closes.1

pub begins_named : {W : Type 0} (old new : WatchView W) → IsWatch old → Begins old new → named_of new ≡ named_of old
begins_named old new is begins = ap named_of begins.joined ∙ refilled_named old is

-- a stream of its name is one of it
pub streams_of : {W : Type 0} (named : Named) (w : WatchView W) (g : ℕ) → named_of w ≡ named → g ≤ named.streams → g ≤ length w.monitor.setup.parts
streams_of named w g is within = subst (λ (n : Named). g ≤ n.streams) (sym is) within

-- ---- connections

pub has_joined : {W : Type 0} (named : Named) (old new : WatchView W) (counts : List ℕ) → named_of old ≡ named → IsWatch old → IsWatch new → Begins old new → counts ≡ old.counts → HasJoined W named counts
has_joined named old new counts is kept now begins same = record {
  watch = new;
  named_is = begins_named old new kept begins ∙ is;
  kept = now;
  begins = ap (λ (w : WatchView _). w.monitor.trail) begins.joined;
  counts_are = ap (λ (w : WatchView _). w.counts) begins.joined ∙ sym same;
}

pub goes_on_as : {W : Type 0} (named : Named) (old new : WatchView W) → named_of old ≡ named → IsWatch new → Turns u.Quiet old new → GoesOnAs W named
goes_on_as named old new is kept turns = record { watch = new; named_is = turned_named u.Quiet old new turns ∙ is; kept = kept; connected = turns.end }

-- a rest that fails is a failed link
pub link_left : {W : Type 0} (named : Named) → GoesOnAs W named → IsLeft W named cause_.Link
link_left named goes = record {
  watch = goes.watch;
  named_is = goes.named_is;
  kept = goes.kept;
  shows = tt;
  end = subst (λ (o : Option (PortView _)). IfSome o (IsEndOf goes.watch)) (sym goes.connected.joined) goes.connected.end;
}

pub has_left : {W : Type 0} (named : Named) (cause : Cause) (old new : WatchView W) → named_of old ≡ named → IsWatch new → Turns (u.Left cause) old new → IsLeft W named cause
has_left named cause old new is kept turns = record {
  watch = new;
  named_is = turned_named (u.Left cause) old new turns ∙ is;
  kept = kept;
  shows = turns.tells;
  end = turns.end;
}

pub has_ended : {W : Type 0} (named : Named) (old new : WatchView W) (counts : List ℕ) → named_of old ≡ named → IsWatch new → Turns u.Stopped old new → counts ≡ new.counts → HasEnded W named counts
has_ended named old new counts is kept turns same = record {
  watch = new;
  named_is = turned_named u.Stopped old new turns ∙ is;
  kept = kept;
  connected = turns.end;
  stopped = turns.tells;
  ends = (stopped_rest new.monitor.setup new.monitor.trail kept.within.from.shape kept.legal turns.tells).ends;
  counts_are = sym same;
}
