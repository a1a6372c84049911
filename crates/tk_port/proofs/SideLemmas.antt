-- What a monitor takes and sends.
use Rattle.std.proofs.Common.{◌≡◌, ℕ, zero, suc, List, [], ◌∷◌, ◌++◌, length, Option, Some, None, Result, Ok, Err, slice_get, Bool, true, false, refl, sym, ap, ◌∙◌, subst, append-nil}
use Rattle.std.specs.Prelude.{ℤ, if◌then◌else◌, find}
use Rattle.std.specs.Option.{option_map}
use Rattle.std.proofs.lemmas.List.{take_at}
use Rattle.tk_base.specs.History.{IsFront}
use Rattle.tk_frames.specs.declared.frame.Frame.{Frame}
use Rattle.tk_frames.specs.declared.frame.Frame.TheVariants as f
use Rattle.tk_frames.specs.Encoding.{IsBadHello}
use Rattle.tk_end.specs.Actor.{AnswersTake}
use Rattle.tk_end.specs.declared.actor.Declined.TheVariants.{NoMemory}
use Rattle.tk_monitor.specs.Monitored.{AnswersTake as Answers}
use Rattle.tk_trail.specs.Setup.{MonitorSetup}
use Rattle.tk_trail.specs.Frames.{answer_to, report_at, settled_at, values_at}
use Rattle.tk_trail.specs.Legal.{after_take, with_answer}
use Rattle.tk_trail.specs.Readings.{is_broken, sent_by, taken_by, since_assign, is_end_told, is_stopped, is_end, is_stop, seq_of, members_at}
use Rattle.tk_trail.specs.Refusal.{Shown, refusal_of, refusal_over, refusal_of_kind, shown_by, is_collect, is_bad_change}
use Rattle.tk_trail.specs.declared.entry.Entry.{Entry}
use Rattle.tk_trail.specs.declared.entry.Entry.TheVariants.{Raised, Took, Sent}
use Rattle.tk_trail.specs.declared.refusal.MonitorRefusal.{MonitorRefusal}
use Rattle.tk_trail.specs.declared.refusal.MonitorRefusal.TheVariants as r
use Rattle.std.specs.List.{filter_map, list_any}
use Rattle.std.proofs.lemmas.List.Folds.{list_any-append}
use Rattle.std.proofs.Math.Bool.{or-false}
use Rattle.tk_base.specs.declared.ids.Feeder.{Feeder}
use Rattle.tk_frames.specs.Assigns.{assign_in, members_of}
use Rattle.tk_trail.proofs.ReadingsLemmas.{since-raised, taken_by-took, taken_by-raised, sent_by-took, sent_by-sent, answer_taken}
use Rattle.tk_trail.proofs.SendsLemmas.{Sends, Answered, Gathered, Reported, Ended}

pub front_behind : {X : Type 0} (xs ys : List X) → IsFront xs (xs ++ ys)
front_behind xs ys = record { is = sym (take_at xs ys (length xs) refl) }

-- a frame that is taken is the last that was
pub taken_after : (setup : MonitorSetup) (trail : List Entry) (frame : Frame) → taken_by (after_take setup trail frame) ≡ taken_by trail ++ frame ∷ []
taken_after setup trail frame = answer_taken (trail ++ Took frame ∷ []) (answer_to setup (trail ++ Took frame ∷ []) frame) ∙ taken_by-took trail frame

pub answered_sent : (trail : List Entry) (answer : Option Frame) → IsFront (sent_by trail) (sent_by (with_answer trail answer))
answered_sent trail None = subst (IsFront (sent_by trail)) (append-nil (sent_by trail)) (front_behind (sent_by trail) [])
answered_sent trail (Some answer) = subst (IsFront (sent_by trail)) (sym (sent_by-sent trail answer)) (front_behind (sent_by trail) (answer ∷ []))

-- what was sent stays in front
pub sent_after : (setup : MonitorSetup) (trail : List Entry) (frame : Frame) → IsFront (sent_by trail) (sent_by (after_take setup trail frame))
sent_after setup trail frame = subst (λ xs. IsFront xs (sent_by (after_take setup trail frame))) (sent_by-took trail frame) (answered_sent (trail ++ Took frame ∷ []) (answer_to setup (trail ++ Took frame ∷ []) frame))

abbrev shown : ℕ → ℕ → List ℕ → Bool → Bool → Shown
shown o n m t s = record { objects = o; seq = n; members = m; told = t; stopped = s }

-- no test refuses for want of memory
unless : (b : Bool) (o : Option MonitorRefusal) (why : MonitorRefusal) → (o ≡ Some r.NoMemory → ⊥) → (why ≡ r.NoMemory → ⊥) → (if b then Some why else o) ≡ Some r.NoMemory → ⊥
unless true o why rest other is = other (cc)
unless false o why rest other is = rest is

changed : (o : Option (ℕ × ℤ)) → option_map (λ change. r.BadChange (record { 0 = change.0 })) o ≡ Some r.NoMemory → ⊥
changed None is = absurd (cc)
changed (Some change) is = absurd (cc)

none_of_it : (b : Bool) (why : MonitorRefusal) → (why ≡ r.NoMemory → ⊥) → (if b then None else Some why) ≡ Some r.NoMemory → ⊥
none_of_it true why other is = absurd (cc)
none_of_it false why other is = other (cc)

kind_never : (shown : Shown) (frame : Frame) → refusal_of_kind shown frame ≡ Some r.NoMemory → ⊥
kind_never shown (f.Hello run version mon) is = absurd (cc)
kind_never shown (f.Report seq border failed values) is = absurd (cc)
kind_never shown (f.Collect round asked) is = none_of_it (is_collect shown asked) r.BadCollect (λ e. absurd (cc)) is
kind_never shown (f.Values round seq border values) is = absurd (cc)
kind_never shown (f.Assign seq members changes) is = unless _ _ (r.WrongSequence shown.seq seq) (unless _ _ r.BadMembers (changed (find (is_bad_change shown.objects) changes)) (λ e. absurd (cc))) (λ e. absurd (cc)) is
kind_never shown (f.Settled seq last places) is = absurd (cc)
kind_never shown f.Stop is = none_of_it shown.told r.EarlyStop (λ e. absurd (cc)) is

pub never_memory : (setup : MonitorSetup) (trail : List Entry) (frame : Frame) → refusal_of setup trail frame ≡ Some r.NoMemory → ⊥
unfolding refusal_of
never_memory setup trail frame is = unless (is_stopped trail) _ r.AfterStop (kind_never (shown_by setup trail) frame) (λ e. absurd (cc)) is

-- no Hello is sent
report_none : (setup : MonitorSetup) (trail : List Entry) → IsBadHello (report_at setup trail) → ⊥
unfolding report_at
report_none setup trail bad = bad

settled_none : (setup : MonitorSetup) (trail : List Entry) → IsBadHello (settled_at setup trail) → ⊥
unfolding settled_at
settled_none setup trail bad = bad

values_none : (setup : MonitorSetup) (trail : List Entry) (round : ℕ) (asked : List ℕ) → IsBadHello (values_at setup trail round asked) → ⊥
unfolding values_at
values_none setup trail round asked bad = bad

answer_none : (setup : MonitorSetup) (trail : List Entry) (b : Bool) → IsBadHello (if b then report_at setup trail else settled_at setup trail) → ⊥
answer_none setup trail true bad = report_none setup trail bad
answer_none setup trail false bad = settled_none setup trail bad

pub no_hello : (setup : MonitorSetup) (trail : List Entry) (frame : Frame) → Sends setup trail frame → IsBadHello frame → ⊥
no_hello setup trail frame (Answered seq members changes last is) bad = answer_none setup trail (is_broken setup trail) (subst IsBadHello is bad)
no_hello setup trail frame (Gathered round asked last is) bad = values_none setup trail round asked (subst IsBadHello is bad)
no_hello setup trail frame (Reported owed none broken is) bad = report_none setup trail (subst IsBadHello is bad)
no_hello setup trail frame (Ended owed none calm ends untold is) bad = settled_none setup trail (subst IsBadHello is bad)

-- where a sent frame stands in the trail
pub record IsSentAt (trail : List Entry) (frame : Frame) : Type 0 where
  pub before : List Entry
  pub after : List Entry
  pub is : trail ≡ before ++ Sent frame ∷ after

further : (e : Entry) (trail : List Entry) (frame : Frame) → IsSentAt trail frame → IsSentAt (e ∷ trail) frame
further e trail frame at = record { before = e ∷ at.before; after = at.after; is = ap (λ xs. e ∷ xs) at.is }

pub sent_stands : (trail : List Entry) (i : ℕ) (frame : Frame) → slice_get (sent_by trail) i ≡ Some frame → IsSentAt trail frame
sent_stands [] i frame at = absurd (cc)
sent_stands (Raised g ∷ trail) i frame at = further (Raised g) trail frame (sent_stands trail i frame at)
sent_stands (Took h ∷ trail) i frame at = further (Took h) trail frame (sent_stands trail i frame at)
sent_stands (Sent h ∷ trail) zero frame at = record { before = []; after = trail; is = ap (λ x. Sent x ∷ trail) (cc) }
sent_stands (Sent h ∷ trail) (suc i) frame at = further (Sent h) trail frame (sent_stands trail i frame at)

same_shown : (o n1 n2 : ℕ) (m1 m2 : List ℕ) (t1 t2 s1 s2 : Bool) → n1 ≡ n2 → m1 ≡ m2 → t1 ≡ t2 → s1 ≡ s2 → shown o n1 m1 t1 s1 ≡ shown o n2 m2 t2 s2
same_shown o n1 n2 m1 m2 t1 t2 s1 s2 a b c d = cc

-- the raise of a change makes no frame refused, and none taken
pub refusal_raised : (setup : MonitorSetup) (trail : List Entry) (feeder : Feeder) (frame : Frame) → refusal_of setup (trail ++ Raised feeder ∷ []) frame ≡ refusal_of setup trail frame
unfolding refusal_of
refusal_raised setup trail feeder frame =
    let more = trail ++ Raised feeder ∷ [] in
    let taken = taken_by-raised trail feeder in
    let seq : seq_of more ≡ seq_of trail = ap (λ fs. length (filter_map assign_in fs)) taken in
    let members : members_at more ≡ members_at trail = ap (λ fs. members_of (filter_map assign_in fs)) taken in
    let told : is_end_told more ≡ is_end_told trail = ap (list_any is_end) (since-raised trail feeder) ∙ list_any-append is_end (since_assign trail) (Raised feeder ∷ []) ∙ or-false _ in
    let stopped : is_stopped more ≡ is_stopped trail = list_any-append is_stop trail (Raised feeder ∷ []) ∙ or-false _ in
    ap (λ s. refusal_over s frame) (same_shown setup.objects (seq_of more) (seq_of trail) (members_at more) (members_at trail) (is_end_told more) (is_end_told trail) (is_stopped more) (is_stopped trail) seq members told stopped)

abbrev first_in : Result (Unit {0}) (MonitorRefusal × Frame) → MonitorRefusal → Option MonitorRefusal
first_in (Ok u) why = Some why
first_in (Err p) why = Some p.0

-- a frame that comes back for want of memory alone
pub declined : (first : Option MonitorRefusal) (frame back : Frame) (why : MonitorRefusal) → (first ≡ Some r.NoMemory → ⊥) → why ≡ r.NoMemory → Answers first frame (Err (why, back)) → AnswersTake first frame (Err (NoMemory back))
declined (Some w) frame back why never is answer = absurd (never (ap (λ o. first_in o why) (sym answer) ∙ ap Some is))
declined None frame back why never is answer = ap (λ p. NoMemory p.1) answer
