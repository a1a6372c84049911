-- A session while it goes on, step by step.
use Rattle.std.proofs.Common.{◌≡◌, ◌≤◌, ◌<◌, ℕ, ◌+◌, suc, zero, List, [], ◌∷◌, ◌++◌, length, take, get_or, Bool, true, false, Option, Some, None, Result, Ok, Err, refl, sym, ap, ap₂, subst, ◌∙◌, inl, inr, arith, append_assoc, append-nil, length-append}
use Rattle.std.specs.Prelude.{◌||◌, fold, slice_get, unwrap_or, IfErr}
use Rattle.std.specs.List.{All}
use Rattle.std.specs.Result.{IsErrAnd}
use Rattle.std.proofs.lemmas.List.{take-append-le, take_more}
use Rattle.std.proofs.lemmas.List.Elements.{filter_map-append}
use Rattle.std.proofs.lemmas.List.Folds.{list_any-append}
use Rattle.std.proofs.lemmas.List.Sums.{fold-append}
use Rattle.std.proofs.lemmas.Option.{get_or_from_slice_get}
use Rattle.tk_base.specs.History.{IsFront}
use Rattle.tk_base.specs.Settings.{Setup}
use Rattle.tk_coord.proofs.BatchLemmas.{opened_unpublished}
use Rattle.tk_coord.specs.Coordinator.{CoordinatorView}
use Rattle.tk_end.proofs.HearingLemmas.{front_refl, front_trans}
use Rattle.tk_hub.specs.Hub.{HubView, IsHub}
use Rattle.tk_hub.specs.Lines.{AreNamed}
use Rattle.tk_hub.specs.Turn.{course_of}
use Rattle.tk_hub.specs.declared.course.Course.TheVariants as cs
use Rattle.tk_hub.specs.declared.course.HubTurn.{HubTurn}
use Rattle.tk_hub.specs.declared.course.HubTurn.TheVariants as t
use Rattle.tk_input.specs.Sink.{Grows, GrowsByFront}
use Rattle.tk_journal.specs.Legal.{opened, start}
use Rattle.tk_journal.specs.Publishing.{publications, published_in}
use Rattle.tk_journal.specs.Readings.{is_stopped}
use Rattle.tk_journal.specs.declared.noted.Noted.{Noted}
use Rattle.tk_journal.specs.declared.noted.Noted.TheVariants as n
use Rattle.tk_journal.specs.declared.publication.Publication.{Publication}
use Rattle.tk_ledger.proofs.SinkLemmas.{front_more, grows_more, grows_none}
use Rattle.tk_story.proofs.JoinLemmas.{rest_of}
use Rattle.tk_wire.specs.Host.{HostState}
use Rattle.tk_host.specs.Going.{IsBarred, IsGoing, IsMemory, IsOfHost, IsOfSession, IsOfTurn, IsSeated, IsStanding, IsTold, Leaves, Serves, Steps, TellsAll, Turns, IsUntold, WritesLeft, WritesStep, calls_failed, faults_left, going, left, published_by, step_faults}
use Rattle.tk_host.specs.Room.{IsFull}
use Rattle.tk_host.specs.Tallying.{IsCounted}
use Rattle.tk_host.proofs.TallyLemmas.{counted_grown, counted_none}
use Rattle.tk_host.specs.Seats.{has_stand_in, is_stand_in}
use Rattle.tk_host.specs.Session.{Seated, Published, Told, seats_by, seats_in, set_in, sets_in}
use Rattle.tk_host.specs.Text.{line_of, seat_text, set_text, told_text}
use Rattle.tk_host.specs.declared.cause.Cause.TheVariants as c
use Rattle.tk_host.specs.declared.cause.Cause.{Cause}
use Rattle.tk_host.specs.declared.over.Over.{Over}
use Rattle.tk_host.specs.declared.seat.Seat.{Seat}
use Rattle.tk_host.specs.declared.over.Over.TheVariants as o
use Rattle.tk_host.specs.Sitting.{SessionView}

-- ---- text

-- one thing more is told
pub told_text-push : (names : List (List ℕ)) (seats : List Seat) (told : List Told) (t : Told)
    → told_text names seats (told ++ t ∷ []) ≡ told_text names seats told ++ line_of names (fold seats_by seats told) t
told_text-push names seats [] t = append-nil (line_of names seats t)
told_text-push names seats (x ∷ told) t =
    ap (λ (l : List ℕ). line_of names seats x ++ l) (told_text-push names (seats_by seats x) told t)
    ∙ sym (append_assoc (line_of names seats x) (told_text names (seats_by seats x) told) (line_of names (fold seats_by (seats_by seats x) told) t))

pub writes_more : {A : Type 0} (result : Result A Over) (a b c : Option (List ℕ)) (x y : List ℕ) → Grows a b x → WritesStep result b c y → WritesStep result a c (x ++ y)
writes_more (Ok done) a b c x y first then = grows_more a b c x y first then
writes_more (Err o.Finished) a b c x y first then = grows_more a b c x y first then
writes_more (Err (o.Ended cause)) a b c x y first then = grows_more a b c x y first then
writes_more (Err o.HostFailed) a b c x y first then = grows_more a b c x y first then
writes_more (Err o.WriteFailed) a b c x y first then = front_more a b c x y first then

-- what is left by something else than a failed write is written whole
pub writes_left : (over : Over) (a b : Option (List ℕ)) (x : List ℕ) → (over ≡ o.WriteFailed → ⊥) → Grows a b x → WritesLeft over a b x
writes_left o.Finished a b x fine grown = grown
writes_left (o.Ended cause) a b x fine grown = grown
writes_left o.HostFailed a b x fine grown = grown
writes_left o.WriteFailed a b x fine grown = absurd (fine refl)

-- ---- the sets of a journal

published_grow : (a b : List Noted) → IsFront a b → (k : ℕ) → k ≤ length (publications a) → (take k (publications b) ≡ take k (publications a)) × (length (publications a) ≤ length (publications b))
published_grow a b front k within =
    let r = rest_of a b front in
    let whole : publications b ≡ publications a ++ publications r.rest = ap publications r.is ∙ filter_map-append published_in a r.rest in
    (ap (take k) whole ∙ take-append-le k (publications a) (publications r.rest) within, (let l = ap (λ (ps : List Publication). length ps) whole in omega (arith, l, length-append (publications a) (publications r.rest))))

-- the members of a publication have names
pub named_set : (names : ℕ) (journal : List Noted) → All (AreNamed names) journal → (i : ℕ) (p : Publication) → slice_get (publications journal) i ≡ Some p → All (λ t. t ≤ names) p.members
named_set names [] all i p at = absurd (cc)
named_set names (n.Got from frame ∷ journal) all i p at = named_set names journal (λ k d within. all (suc k) d (omega (arith, within))) i p at
named_set names (n.Sent to frame ∷ journal) all i p at = named_set names journal (λ k d within. all (suc k) d (omega (arith, within))) i p at
named_set names (n.Tuned k epsilon ∷ journal) all i p at = named_set names journal (λ k d within. all (suc k) d (omega (arith, within))) i p at
named_set names (n.Published q ∷ journal) all zero p at =
    subst (λ (x : Publication). All (λ t. t ≤ names) x.members) (ap (λ (x : Option Publication). unwrap_or x q) at) (all 0 (n.Published q) (omega arith))
named_set names (n.Published q ∷ journal) all (suc i) p at = named_set names journal (λ k d within. all (suc k) d (omega (arith, within))) i p at

-- ---- what is told

-- nothing is told of a session that begins
pub told_none : {W : Type 0} (names : List (List ℕ)) (s : SessionView W) (now : Option (List ℕ)) → s.roster ≡ [] → s.told ≡ 0 → IsTold going names s now now
told_none names s now nobody none = record {
  told = [];
  seats = sym nobody;
  sets = sym (ap (λ (k : ℕ). take k (published_by s)) none);
  within = omega (arith, none);
  written = grows_none now;
}

module _ {W : Type 0} (names : List (List ℕ)) (s s' : SessionView W) (before now : Option (List ℕ)) (h : IsTold going names s before now) where
  -- nothing more is told, and the journal may grow
  pub told_grown : IsFront s.hub.coordinator.journal s'.hub.coordinator.journal → s'.roster ≡ s.roster → s'.told ≡ s.told → IsTold going names s' before now
  told_grown front roster count =
      let more = published_grow s.hub.coordinator.journal s'.hub.coordinator.journal front s.told h.within in
      record {
        told = h.told;
        seats = h.seats ∙ sym roster;
        sets = h.sets ∙ sym more.0 ∙ ap (λ (k : ℕ). take k (published_by s')) (sym count);
        within = omega (arith, count, h.within, more.1);
        written = h.written;
      }

  -- nothing changed but what is counted
  pub told_kept : s'.hub ≡ s.hub → s'.roster ≡ s.roster → s'.told ≡ s.told → IsTold going names s' before now
  told_kept hub = told_grown (subst (λ (x : HubView W). IsFront s.hub.coordinator.journal x.coordinator.journal) (sym hub) (front_refl s.hub.coordinator.journal))

  -- nor did the coordinator
  pub told_coordinator : s'.hub.coordinator ≡ s.hub.coordinator → s'.roster ≡ s.roster → s'.told ≡ s.told → IsTold going names s' before now
  told_coordinator same = told_grown (subst (λ (k : CoordinatorView). IsFront s.hub.coordinator.journal k.journal) (sym same) (front_refl s.hub.coordinator.journal))

  -- a seat that is taken is told
  pub told_seated : {A : Type 0} (result : Result A Over) (seat : Seat) (next : Option (List ℕ)) → s'.hub.coordinator ≡ s.hub.coordinator → s'.roster ≡ s.roster ++ seat ∷ [] → s'.told ≡ s.told
      → WritesStep result now next (seat_text seat) → IsTold result names s' before next
  told_seated result seat next same roster count put =
      let sets = ap (λ (k : CoordinatorView). publications k.journal) same in
      record {
        told = h.told ++ Seated seat ∷ [];
        seats = fold-append seats_by [] h.told (Seated seat ∷ []) ∙ ap (λ (js : List Seat). js ++ seat ∷ []) h.seats ∙ sym roster;
        sets = filter_map-append set_in h.told (Seated seat ∷ []) ∙ append-nil (sets_in h.told) ∙ h.sets ∙ ap₂ take (sym count) (sym sets);
        within = (let l = ap (λ (ps : List Publication). length ps) sets in omega (arith, count, h.within, l));
        written = subst (WritesStep result before next) (sym (told_text-push names [] h.told (Seated seat))) (writes_more result before now next (told_text names [] h.told) (seat_text seat) h.written put);
      }

  -- a set is told
  pub told_published : {A : Type 0} (result : Result A Over) (p : Publication) (next : Option (List ℕ)) → s'.hub.coordinator ≡ s.hub.coordinator → s'.roster ≡ s.roster → s'.told ≡ s.told + 1
      → slice_get (published_by s) s.told ≡ Some p → s.told < length (published_by s) → WritesStep result now next (set_text names s.roster p) → IsTold result names s' before next
  told_published result p next same roster count at more put =
      let sets = ap (λ (k : CoordinatorView). publications k.journal) same in
      let here : get_or (published_by s) s.told p ≡ p = get_or_from_slice_get (published_by s) s.told p p at in
      let shown : WritesStep result now next (line_of names (seats_in h.told) (Published p)) = subst (λ (js : List Seat). WritesStep result now next (set_text names js p)) (sym h.seats) put in
      record {
        told = h.told ++ Published p ∷ [];
        seats = fold-append seats_by [] h.told (Published p ∷ []) ∙ h.seats ∙ sym roster;
        sets =
            filter_map-append set_in h.told (Published p ∷ [])
            ∙ ap (λ (ps : List Publication). ps ++ p ∷ []) h.sets
            ∙ ap (λ (x : Publication). take s.told (published_by s) ++ x ∷ []) (sym here)
            ∙ sym (take_more (published_by s) s.told p more)
            ∙ ap₂ take (sym count) (sym sets);
        within = (let l = ap (λ (ps : List Publication). length ps) sets in omega (arith, count, more, l));
        written = subst (WritesStep result before next) (sym (told_text-push names [] h.told (Published p))) (writes_more result before now next (told_text names [] h.told) (line_of names (seats_in h.told) (Published p)) h.written shown);
      }

  -- the session is left by something else than a failed write
  pub told_left : {A : Type 0} (over : Over) → (over ≡ o.WriteFailed → ⊥) → IsTold {A = A} (Err over) names s before now
  told_left over fine = record { told = h.told; seats = h.seats; sets = h.sets; within = h.within; written = writes_left over before now (told_text names [] h.told) fine h.written }

-- what is told says no more of an answer than whether a session goes on
pub told_as : {W A B : Type 0} (x : A) (y : B) (names : List (List ℕ)) (s : SessionView W) (before now : Option (List ℕ)) → IsTold {A = A} (Ok x) names s before now → IsTold {A = B} (Ok y) names s before now
told_as x y names s before now h = record { told = h.told; seats = h.seats; sets = h.sets; within = h.within; written = h.written }

-- or how it is left
pub told_parted : {W A B : Type 0} (over : Over) (result : Result B Over) (names : List (List ℕ)) (s : SessionView W) (before now : Option (List ℕ)) → IsErrAnd result (λ o. o ≡ over) → IsTold {A = A} (Err over) names s before now → IsTold result names s before now
told_parted over (Ok x) names s before now is h = absurd is
told_parted over (Err o) names s before now is h = record { told = h.told; seats = h.seats; sets = h.sets; within = h.within; written = subst (λ (v : Over). WritesLeft v before now (told_text names [] h.told)) (sym is) h.written }

-- ---- how a session is left

pub turned_written : (over : Over) → IsOfTurn over → over ≡ o.WriteFailed → ⊥
turned_written over is wrote = subst IsOfTurn wrote is

pub turned_inside : (over : Over) → IsOfTurn over → IsOfSession over
turned_inside o.Finished is = tt
turned_inside (o.Ended cause) is = tt
turned_inside o.HostFailed is = absurd is
turned_inside o.WriteFailed is = absurd is

pub turned_faults : (over : Over) (faults : ℕ) → IsOfTurn over → faults ≡ faults_left over faults
turned_faults o.Finished faults is = refl
turned_faults (o.Ended cause) faults is = refl
turned_faults o.HostFailed faults is = refl
turned_faults o.WriteFailed faults is = absurd is

-- a session that begins goes on
pub going_first : {W : Type 0} (s : SessionView W) (settings : Setup) → IsHub s.hub → s.hub.coordinator.settings ≡ settings → s.hub.coordinator.journal ≡ opened (start settings) → s.hub.course ≡ cs.Open → s.told ≡ 0
    → s.tally ≡ record { entries = 0; bytes = 0 } → s.roster ≡ [] → IsGoing s
going_first s settings kept given journal course told tally nobody =
    let begun = journal ∙ ap (λ (x : Setup). opened (start x)) (sym given) in
    record {
      standing = record {
        kept = kept;
        begins = subst (IsFront (opened (start s.hub.coordinator.settings))) (sym begun) (front_refl (opened (start s.hub.coordinator.settings)));
        counted = counted_none s.hub.coordinator.journal s.tally tally;
        attended = λ none. ap has_stand_in nobody;
      };
      course = course;
      all = told ∙ sym (ap (λ (j : List Noted). length (publications j)) begun ∙ ap (λ (ps : List Publication). length ps) (opened_unpublished (start s.hub.coordinator.settings)));
    }

-- the hub takes a turn
pub turned : {W : Type 0} (turn : HubTurn) (old s new : SessionView W) → s ≡ old → IsStanding old → IsHub new.hub → new.hub.coordinator.settings ≡ s.hub.coordinator.settings
    → IsFront s.hub.coordinator.journal new.hub.coordinator.journal → new.hub.course ≡ course_of turn → (turn ≡ t.WriteFailed → ⊥) → (turn ≡ t.Finished → is_stopped new.hub.coordinator.journal ≡ true)
    → new.roster ≡ s.roster → new.told ≡ s.told → new.tally ≡ s.tally → new.missing ≡ s.missing → Turns turn old new
turned turn old s new same standing kept settings grows course written finished roster told tally missing =
    let was : IsStanding s = subst IsStanding (sym same) standing in
    let begins = front_trans (opened (start s.hub.coordinator.settings)) s.hub.coordinator.journal new.hub.coordinator.journal was.begins grows in
    let turns : Turns turn s new = record {
      standing = record {
        kept = kept;
        begins = subst (λ (x : Setup). IsFront (opened (start x)) new.hub.coordinator.journal) (sym settings) begins;
        counted = counted_grown s.hub.coordinator.journal new.hub.coordinator.journal s.tally new.tally grows tally was.counted;
        attended = λ none. ap has_stand_in roster ∙ was.attended (sym missing ∙ none);
      };
      settings = settings;
      grows = grows;
      course = course;
      written = written;
      finished = finished;
      roster = roster;
      told = told;
      tally = tally;
      missing = missing;
    } in
    subst (λ x. Turns turn x new) same turns

-- behind a turn as many sets are published as are told at least
pub turned_within : {W : Type 0} (turn : HubTurn) (old new : SessionView W) → Turns turn old new → TellsAll old → new.told ≤ length (published_by new)
turned_within turn old new turns all =
    let more = published_grow old.hub.coordinator.journal new.hub.coordinator.journal turns.grows old.told (omega (arith, all)) in
    omega (arith, turns.told, all, more.1)

pub hosted_leaves : {W : Type 0} (s : SessionView W) (over : Over) → IsOfHost over → TellsAll s → Leaves s over
hosted_leaves s o.Finished is all = absurd is
hosted_leaves s (o.Ended (c.Link mon)) is all = absurd is
hosted_leaves s (o.Ended (c.Refused mon)) is all = absurd is
hosted_leaves s (o.Ended (c.Bad mon)) is all = absurd is
hosted_leaves s (o.Ended (c.Again mon)) is all = absurd is
hosted_leaves s (o.Ended (c.Back mon)) is all = absurd is
hosted_leaves s (o.Ended (c.Early mon)) is all = absurd is
hosted_leaves s (o.Ended c.Full) is all = absurd is
hosted_leaves s (o.Ended c.Memory) is all = tt
hosted_leaves s o.HostFailed is all = all
hosted_leaves s o.WriteFailed is all = absurd is

pub hosted_written : (over : Over) → IsOfHost over → over ≡ o.WriteFailed → ⊥
hosted_written over is wrote = subst IsOfHost wrote is

pub hosted_faults : (over : Over) (faults : ℕ) → IsOfHost over → faults ≡ faults_left over faults
hosted_faults o.Finished faults is = refl
hosted_faults (o.Ended cause) faults is = refl
hosted_faults o.HostFailed faults is = refl
hosted_faults o.WriteFailed faults is = absurd is

-- what an error says, its error in the next call says
pub parted_faults : {B : Type 0} (over : Over) (result : Result B Over) (faults : ℕ) → IsErrAnd result (λ o. o ≡ over) → faults_left over faults ≡ step_faults result faults
parted_faults over (Ok x) faults is = absurd is
parted_faults over (Err o) faults is = ap (λ (v : Over). faults_left v faults) (sym is)

pub counted_hosted : {B : Type 0} (over : Over) (result : Result B Over) (faults now : ℕ) → IsErrAnd result (λ o. o ≡ over) → IsOfHost over → now ≡ faults → now ≡ step_faults result faults
counted_hosted over result faults now parted is same = same ∙ hosted_faults over faults is ∙ parted_faults over result faults parted

pub counted_parted : {B : Type 0} (over : Over) (result : Result B Over) (faults now next : ℕ) → IsErrAnd result (λ o. o ≡ over) → now ≡ faults → next ≡ faults_left over now → next ≡ step_faults result faults
counted_parted over result faults now next parted same counted = counted ∙ ap (faults_left over) same ∙ parted_faults over result faults parted

-- ---- seats

-- a session with one seat more, where it is one that may be taken
pub attended_more : (missing : Option ℕ) (seats new : List Seat) (seat : Seat) → (missing ≡ None → is_stand_in seat ≡ false) → (missing ≡ None → has_stand_in seats ≡ false) → new ≡ seats ++ seat ∷ [] → missing ≡ None → has_stand_in new ≡ false
attended_more missing seats new seat fits was is none =
    ap has_stand_in is
    ∙ list_any-append is_stand_in seats (seat ∷ [])
    ∙ ap (λ (b : Bool). b || (is_stand_in seat || false)) (was none)
    ∙ ap (λ (b : Bool). b || false) (fits none)

-- or none more
pub attended_seated : (missing : Option ℕ) (seats new : List Seat) (seat : Seat) → (missing ≡ None → is_stand_in seat ≡ false) → (missing ≡ None → has_stand_in seats ≡ false) → IsSeated seat seats new → missing ≡ None → has_stand_in new ≡ false
attended_seated missing seats new seat fits was (inl more) none = attended_more missing seats new seat fits was more none
attended_seated missing seats new seat fits was (inr same) none = ap has_stand_in same ∙ was none

-- one who greets ends a session
pub barred_leaves : {W : Type 0} (s : SessionView W) (cause : Cause) → IsBarred s.roster cause → TellsAll s → Leaves s (o.Ended cause)
barred_leaves s (c.Link mon) is all = absurd is
barred_leaves s (c.Refused mon) is all = absurd is
barred_leaves s (c.Bad mon) is all = absurd is
barred_leaves s (c.Again mon) is all = (all, is)
barred_leaves s (c.Back mon) is all = (all, is)
barred_leaves s (c.Early mon) is all = absurd is
barred_leaves s c.Full is all = absurd is
barred_leaves s c.Memory is all = absurd is

-- ---- steps one behind the other

pub steps_none : {W : Type 0} (s : SessionView W) → IsGoing s → Steps going s s
steps_none s going_ = record { standing = going_.standing; going = going_; leaves = tt; settings = refl; missing = refl }

pub steps_on : {W A B : Type 0} (x : A) (result : Result B Over) (s s' s'' : SessionView W) → Steps {A = A} (Ok x) s s' → Steps result s' s'' → Steps result s s''
steps_on x result s s' s'' first then = record { standing = then.standing; going = then.going; leaves = then.leaves; settings = then.settings ∙ first.settings; missing = then.missing ∙ first.missing }

pub steps_as : {W A B : Type 0} (x : A) (y : B) (s s' : SessionView W) → Steps {A = A} (Ok x) s s' → Steps {A = B} (Ok y) s s'
steps_as x y s s' h = record { standing = h.standing; going = h.going; leaves = tt; settings = h.settings; missing = h.missing }

pub steps_parted : {W A B : Type 0} (over : Over) (result : Result B Over) (s s' : SessionView W) → IsErrAnd result (λ o. o ≡ over) → Steps {A = A} (Err over) s s' → Steps result s s'
steps_parted over (Ok x) s s' is h = absurd is
steps_parted over (Err o) s s' is h = record { standing = h.standing; going = tt; leaves = subst (Leaves s') (sym is) h.leaves; settings = h.settings; missing = h.missing }

-- the host ends a session that goes on
pub steps_hosted : {W A B : Type 0} (x : A) (over : Over) (result : Result B Over) (s s' : SessionView W) → IsErrAnd result (λ o. o ≡ over) → IsOfHost over → Steps {A = A} (Ok x) s s' → Steps result s s'
steps_hosted x over (Ok y) s s' parted is h = absurd parted
steps_hosted x over (Err o) s s' parted is h = record { standing = h.standing; going = tt; leaves = subst (Leaves s') (sym parted) (hosted_leaves s' over is h.going.all); settings = h.settings; missing = h.missing }

-- ---- weighing

module _ {W : Type 0} (s s' : SessionView W) (on : IsGoing s) (hub : s'.hub ≡ s.hub) (roster : s'.roster ≡ s.roster) (told : s'.told ≡ s.told) (counted : IsCounted s.hub.coordinator.journal s'.tally) (missing : s'.missing ≡ s.missing) where
  weighed_standing : IsStanding s'
  weighed_standing = record {
    kept = subst (λ (h : HubView W). IsHub h) (sym hub) on.standing.kept;
    begins = subst (λ (h : HubView W). IsFront (opened (start h.coordinator.settings)) h.coordinator.journal) (sym hub) on.standing.begins;
    counted = subst (λ (h : HubView W). IsCounted h.coordinator.journal s'.tally) (sym hub) counted;
    attended = λ none. ap has_stand_in roster ∙ on.standing.attended (sym missing ∙ none);
  }

  weighed_all : TellsAll s'
  weighed_all = told ∙ on.all ∙ sym (ap (λ (h : HubView W). length (publications h.coordinator.journal)) hub)

  -- a session that has room goes on
  pub weighed_on : Steps going s s'
  weighed_on = record {
    standing = weighed_standing;
    going = record { standing = weighed_standing; course = ap (λ (h : HubView W). h.course) hub ∙ on.course; all = weighed_all };
    leaves = tt;
    settings = ap (λ (h : HubView W). h.coordinator.settings) hub;
    missing = missing;
  }

  -- one that has none is left
  pub weighed_full : IsFull s.hub.coordinator.journal → Steps (left (o.Ended c.Full)) s s'
  weighed_full full = record {
    standing = weighed_standing;
    going = tt;
    leaves = (weighed_all, subst (λ (h : HubView W). IsFull h.coordinator.journal) (sym hub) full);
    settings = ap (λ (h : HubView W). h.coordinator.settings) hub;
    missing = missing;
  }

-- ---- one seat more

untold_leaves : {W : Type 0} (s : SessionView W) (over : Over) → IsUntold over → Leaves s over
untold_leaves s o.Finished is = absurd is
untold_leaves s (o.Ended (c.Link mon)) is = absurd is
untold_leaves s (o.Ended (c.Refused mon)) is = absurd is
untold_leaves s (o.Ended (c.Bad mon)) is = absurd is
untold_leaves s (o.Ended (c.Again mon)) is = absurd is
untold_leaves s (o.Ended (c.Back mon)) is = absurd is
untold_leaves s (o.Ended (c.Early mon)) is = absurd is
untold_leaves s (o.Ended c.Full) is = absurd is
untold_leaves s (o.Ended c.Memory) is = tt
untold_leaves s o.HostFailed is = absurd is
untold_leaves s o.WriteFailed is = tt

pub untold_inside : (over : Over) → IsUntold over → IsOfSession over
untold_inside o.Finished is = tt
untold_inside (o.Ended cause) is = tt
untold_inside o.HostFailed is = absurd is
untold_inside o.WriteFailed is = tt

module _ {W : Type 0} (s s' : SessionView W) (seat : Seat) (on : IsGoing s) (kept : IsHub s'.hub) (same : s'.hub.coordinator ≡ s.hub.coordinator) (course : s'.hub.course ≡ s.hub.course) (told : s'.told ≡ s.told) (tally : s'.tally ≡ s.tally) (missing : s'.missing ≡ s.missing) (fits : s.missing ≡ None → is_stand_in seat ≡ false) (seated : IsSeated seat s.roster s'.roster) where
  seated_standing : IsStanding s'
  seated_standing = record {
    kept = kept;
    begins = subst (λ (k : CoordinatorView). IsFront (opened (start k.settings)) k.journal) (sym same) on.standing.begins;
    counted = subst (λ (k : CoordinatorView). IsCounted k.journal s'.tally) (sym same) (subst (IsCounted s.hub.coordinator.journal) (sym tally) on.standing.counted);
    attended = λ none. attended_seated s.missing s.roster s'.roster seat fits on.standing.attended seated (sym missing ∙ none);
  }

  seated_all : TellsAll s'
  seated_all = told ∙ on.all ∙ sym (ap (λ (k : CoordinatorView). length (publications k.journal)) same)

  -- the session goes on
  pub seated_on : Steps going s s'
  seated_on = record {
    standing = seated_standing;
    going = record { standing = seated_standing; course = course ∙ on.course; all = seated_all };
    leaves = tt;
    settings = ap (λ (k : CoordinatorView). k.settings) same;
    missing = missing;
  }

  -- or something was not told or kept
  pub seated_left : (over : Over) → IsUntold over → Steps (left over) s s'
  seated_left over is = record {
    standing = seated_standing;
    going = tt;
    leaves = untold_leaves s' over is;
    settings = ap (λ (k : CoordinatorView). k.settings) same;
    missing = missing;
  }

  -- or there was no memory for its connection
  pub seated_unless : (result : Result (Unit {0}) Over) → IfErr result IsMemory → Steps result s s'
  seated_unless (Ok x) none = steps_as tt x s s' seated_on
  seated_unless (Err over) none = seated_left over (subst IsUntold (sym none) tt)

-- what is told of such a session
pub told_unless : {W : Type 0} (names : List (List ℕ)) (s : SessionView W) (before now : Option (List ℕ)) (result : Result (Unit {0}) Over) → IfErr result IsMemory → IsTold going names s before now → IsTold result names s before now
told_unless names s before now (Ok x) none h = told_as tt x names s before now h
told_unless names s before now (Err over) none h = told_left names s s before now h over (turned_written over (subst IsOfTurn (sym none) tt))

pub inside_unless : (result : Result (Unit {0}) Over) → IfErr result IsMemory → IfErr result IsOfSession
inside_unless (Ok x) none = tt
inside_unless (Err over) none = subst IsOfSession (sym none) tt

pub faults_unless : (result : Result (Unit {0}) Over) (faults : ℕ) → IfErr result IsMemory → faults ≡ step_faults result faults
faults_unless (Ok x) faults none = refl
faults_unless (Err over) faults none = ap (λ (v : Over). faults_left v faults) (sym none)

-- one who greets ends a session
pub barred : {W : Type 0} (s s' : SessionView W) (cause : Cause) → IsGoing s → s' ≡ s → IsBarred s.roster cause → Steps (left (o.Ended cause)) s s'
barred s s' cause on same is =
    subst (λ (x : SessionView _). Steps (left (o.Ended cause)) s x) (sym same)
    (record { standing = on.standing; going = tt; leaves = barred_leaves s cause is on.all; settings = refl; missing = refl })

-- ---- the host

pub serves_none : (host : HostState) → Serves going host host
serves_none host = record { listens = refl; on = refl; off = tt }

pub serves_on : {A B : Type 0} (x : A) (result : Result B Over) (a b c : HostState) → Serves {A = A} (Ok x) a b → Serves result b c → Serves result a c
serves_on x (Ok y) a b c first then = record { listens = then.listens ∙ first.listens; on = then.on ∙ first.on; off = tt }
serves_on x (Err over) a b c first then = record { listens = then.listens ∙ first.listens; on = tt; off = then.off ∙ ap (calls_failed over) first.on }

inside_calls : (over : Over) (faults : ℕ) → IsOfSession over → faults ≡ calls_failed over faults
inside_calls o.Finished faults is = refl
inside_calls (o.Ended cause) faults is = refl
inside_calls o.HostFailed faults is = absurd is
inside_calls o.WriteFailed faults is = refl

-- a session that is left by itself leaves the host as it was
pub serves_inside : {A B : Type 0} (x : A) (over : Over) (a b : HostState) → IsOfSession over → Serves {A = A} (Ok x) a b → Serves {A = B} (Err over) a b
serves_inside x over a b is h = record { listens = h.listens; on = tt; off = h.on ∙ inside_calls over a.faults is }

pub serves_within : {A B : Type 0} (x : A) (result : Result B Over) (a b : HostState) → IfErr result IsOfSession → Serves {A = A} (Ok x) a b → Serves result a b
serves_within x (Ok y) a b is h = record { listens = h.listens; on = h.on; off = tt }
serves_within x (Err over) a b is h = record { listens = h.listens; on = tt; off = h.on ∙ inside_calls over a.faults is }

pub serves_as : {A B : Type 0} (x : A) (y : B) (a b : HostState) → Serves {A = A} (Ok x) a b → Serves {A = B} (Ok y) a b
serves_as x y a b h = record { listens = h.listens; on = h.on; off = tt }

pub serves_parted : {A B : Type 0} (over : Over) (result : Result B Over) (a b : HostState) → IsErrAnd result (λ o. o ≡ over) → Serves {A = A} (Err over) a b → Serves result a b
serves_parted over (Ok x) a b is h = absurd is
serves_parted over (Err o) a b is h = record { listens = h.listens; on = tt; off = h.off ∙ ap (λ (v : Over). calls_failed v a.faults) (sym is) }

-- ---- errors that a failed put turns into

pub unwritten : {A : Type 0} (result : Result A Over) (a b : Option (List ℕ)) (x : List ℕ) → IsErrAnd result (λ over. over ≡ o.WriteFailed) → GrowsByFront a b x → WritesStep result a b x
unwritten (Ok done) a b x is front = absurd is
unwritten (Err over) a b x is front = subst (λ (v : Over). WritesLeft v a b x) (sym is) front
