-- One session of a process, and sessions one behind the other.
use Rattle.std.proofs.Common.{◌≡◌, ◌<◌, ◌⊎◌, ℕ, ◌+◌, suc, zero, List, [], ◌∷◌, ◌++◌, length, take, get_or, ◌-◌, true, false, Option, Some, None, IfSome, Result, Ok, Err, refl, sym, ap, subst, ◌∙◌, inl, arith, append_assoc, append-nil, length-append}
use Rattle.std.specs.Prelude.{All, unwrap_or, ◌^◌}
use Rattle.std.specs.List.{cons_option}
use Rattle.std.specs.Result.{IsErrAnd}
use Rattle.std.proofs.lemmas.List.Elements.{All-append}
use Rattle.std.proofs.Math.Seq.{take-length}
use Rattle.std.proofs.lemmas.List.{length-take}
use Rattle.tk_base.specs.Settings.{Setup}
use Rattle.tk_input.specs.Sink.{Grows, GrowsByFront}
use Rattle.tk_journal.specs.Laws.{HasEnded}
use Rattle.tk_journal.specs.Readings.{is_stopped}
use Rattle.tk_coord.specs.Coordinator.{IsJournal}
use Rattle.tk_journal.specs.declared.noted.Noted.{Noted}
use Rattle.tk_journal.proofs.Ended.{legal_ends}
use Rattle.tk_journal.proofs.LawLemmas.{one_less}
use Rattle.tk_ledger.proofs.SinkLemmas.{front_longer, front_more, grows_more, grows_none}
use Rattle.tk_story.proofs.JoiningLemmas.{from_the_start}
use Rattle.tk_host.specs.Coordinating.{Coordinates, IsFinal, IsFollowed, WritesEnding, WritesOn, opening_text}
use Rattle.tk_host.proofs.GoingLemmas.{writes_more}
use Rattle.tk_wire.specs.Meanings.{raised_by}
use Rattle.tk_input.specs.Files.{HasRisen}
use Rattle.tk_host.specs.Going.{IsStanding, IsTold, Leaves, Steps, TellsAll, WritesLeft, left, published_by}
use Rattle.tk_host.specs.Holding.{Begins, HasEndedBy, Holds, HoldsAll, Opens, Parts, held_text}
use Rattle.tk_host.specs.Seats.{has_stand_in}
use Rattle.tk_host.specs.Session.{IsCausedBy, IsSession, PastSession, leaves_out, sets_in}
use Rattle.tk_host.specs.Sitting.{SessionView}
use Rattle.tk_host.specs.Text.{ended_text, listening_text, over_text, session_text, sessions_text, text_of, told_text}
use Rattle.tk_host.specs.declared.cause.Cause.{Cause}
use Rattle.tk_host.specs.declared.cause.Cause.TheVariants as c
use Rattle.tk_host.specs.declared.coordinated.Coordinated.{Coordinated}
use Rattle.tk_host.specs.declared.coordinated.Coordinated.TheVariants as d
use Rattle.tk_host.specs.declared.over.Over.{Over}
use Rattle.tk_host.specs.declared.over.Over.TheVariants as o

-- ---- the text of sessions

-- one session more
pub sessions_text-push : (names : List (List ℕ)) (number : ℕ) (past : List PastSession) (s : PastSession)
    → sessions_text names number (past ++ s ∷ []) ≡ sessions_text names number past ++ text_of names (number + length past) s
sessions_text-push names number [] s = append-nil (text_of names number s) ∙ ap (λ (k : ℕ). text_of names k s) (omega arith)
sessions_text-push names number (x ∷ past) s =
    ap (λ (l : List ℕ). text_of names number x ++ l) (sessions_text-push names (number + 1) past s)
    ∙ sym (append_assoc (text_of names number x) (sessions_text names (number + 1) past) (text_of names (number + 1 + length past) s))
    ∙ ap (λ (k : ℕ). (text_of names number x ++ sessions_text names (number + 1) past) ++ text_of names k s) (omega arith)

pub ending_more : (end : Coordinated) (a b c : Option (List ℕ)) (x y : List ℕ) → Grows a b x → WritesEnding end b c y → WritesEnding end a c (x ++ y)
ending_more d.Done a b c x y first then = grows_more a b c x y first then
ending_more d.WriteFault a b c x y first then = front_more a b c x y first then
ending_more d.NoMemory a b c x y first then = front_more a b c x y first then
ending_more d.LinkFault a b c x y first then = grows_more a b c x y first then

pub on_more : {A : Type 0} (result : Result A Coordinated) (a b c : Option (List ℕ)) (x y : List ℕ) → Grows a b x → WritesOn result b c y → WritesOn result a c (x ++ y)
on_more (Ok done) a b c x y first then = grows_more a b c x y first then
on_more (Err end) a b c x y first then = ending_more end a b c x y first then

-- ---- a session as it was

-- what a session shows that was left so
all_told : {W : Type 0} (s : SessionView W) (over : Over) → Leaves s over → leaves_out over ≡ false → TellsAll s
all_told s o.Finished h none = h.0
all_told s (o.Ended (c.Link mon)) h none = h
all_told s (o.Ended (c.Refused mon)) h none = h
all_told s (o.Ended (c.Bad mon)) h none = h
all_told s (o.Ended (c.Again mon)) h none = h.0
all_told s (o.Ended (c.Back mon)) h none = h.0
all_told s (o.Ended (c.Early mon)) h none = absurd (cc)
all_told s (o.Ended c.Full) h none = h.0
all_told s (o.Ended c.Memory) h none = absurd (cc)
all_told s o.HostFailed h none = h
all_told s o.WriteFailed h none = absurd (cc)

caused_by : {W : Type 0} (s : SessionView W) (over : Over) → Leaves s over → IsCausedBy s.roster s.hub.coordinator.journal over
caused_by s o.Finished h = h.1.attended
caused_by s (o.Ended (c.Link mon)) h = tt
caused_by s (o.Ended (c.Refused mon)) h = tt
caused_by s (o.Ended (c.Bad mon)) h = tt
caused_by s (o.Ended (c.Again mon)) h = h.1
caused_by s (o.Ended (c.Back mon)) h = h.1
caused_by s (o.Ended (c.Early mon)) h = h
caused_by s (o.Ended c.Full) h = h.1
caused_by s (o.Ended c.Memory) h = tt
caused_by s o.HostFailed h = tt
caused_by s o.WriteFailed h = tt

-- a journal in which Stop was sent has ended
stopped_ended : (s : Setup) (j : List Noted) → IsJournal s j → is_stopped j ≡ true → HasEnded s j
stopped_ended s j kept is =
    let m = one_less kept.opening.settings.monitors kept.set_up.limits.some_monitor in
    subst (λ (x : Setup). HasEnded x j) kept.settings ((legal_ends kept.opening m.0 m.1 j kept.legal).ended is)

ended_by : {W : Type 0} (s : SessionView W) (over : Over) → Leaves s over → over ≡ o.Finished → is_stopped s.hub.coordinator.journal ≡ true
ended_by s over h is = (subst (Leaves s) is h).1.stopped

-- a session that was left is a session as it was
pub session_of : {W : Type 0} (s : SessionView W) (settings : Setup) (missing : Option ℕ) (names : List (List ℕ)) (line : List ℕ) (over : Over) (before now : Option (List ℕ))
    → IsStanding s → Leaves s over → s.hub.coordinator.settings ≡ settings → s.missing ≡ missing → (t : Begins over names line s before now)
    → IsSession settings missing (record { told = t.told; journal = s.hub.coordinator.journal; over = over })
session_of s settings missing names line over before now standing leaves same waits t =
    let j = s.hub.coordinator.journal in
    let kept = standing.kept.seats.journal in
    let long : length (sets_in t.told) ≡ s.told = (let a = ap (λ ps. length ps) t.sets in omega (arith, a, length-take s.told (published_by s), t.within)) in
    subst (λ (x : Setup). IsSession x missing (record { told = t.told; journal = j; over = over })) same
    (record {
      legal = from_the_start s.hub.coordinator.settings j kept standing.begins;
      told_in_order = record { is = t.sets ∙ ap (λ (k : ℕ). take k (published_by s)) (sym long) };
      told_all = λ none. t.sets ∙ ap (λ (k : ℕ). take k (published_by s)) (all_told s over leaves none) ∙ take-length (published_by s);
      caused = subst (λ seats. IsCausedBy seats j over) (sym t.seats) (caused_by s over leaves);
      attended = λ none. ap has_stand_in t.seats ∙ standing.attended (waits ∙ none);
      ended = λ is. stopped_ended s.hub.coordinator.settings j kept (ended_by s over leaves is);
    })

-- what was told in it, and what was written as it was left
parts_written : {A : Type 0} (over : Over) (result : Result A Coordinated) (number : ℕ) (mid now next : Option (List ℕ)) (told : List ℕ)
    → WritesLeft over mid now told → Parts over result number now next → WritesOn result mid next (told ++ over_text number over)
parts_written o.Finished result number mid now next told first p = on_more result mid now next told [] first p.written
parts_written (o.Ended cause) result number mid now next told first p = on_more result mid now next told (over_text number (o.Ended cause)) first p.written
parts_written o.HostFailed result number mid now next told first p = on_more result mid now next told [] first p.written
parts_written o.WriteFailed (Ok x) number mid now next told first p = absurd (p.unmade refl)
parts_written o.WriteFailed (Err end) number mid now next told first p =
    subst (λ (e : Coordinated). WritesEnding e mid next (told ++ [])) (sym (p.unwritten refl))
    (front_longer mid next told [] (subst (λ (x : Option (List ℕ)). GrowsByFront mid x told) (sym (p.same refl)) first))

-- a session began with its line
pub begun : {W : Type 0} (over : Over) (names : List (List ℕ)) (line : List ℕ) (s : SessionView W) (before mid now : Option (List ℕ)) → Grows before mid line → IsTold (left over) names s mid now → Begins over names line s before now
begun over names line s before mid now put t = record {
  told = t.told;
  seats = t.seats;
  sets = t.sets;
  within = t.within;
  written = writes_more (left over) before mid now line (told_text names [] t.told) put t.written;
}

-- the put of its line failed
pub begun_unwritten : {W : Type 0} (names : List (List ℕ)) (line : List ℕ) (s : SessionView W) (before now : Option (List ℕ)) → s.roster ≡ [] → s.told ≡ 0 → GrowsByFront before now line → Begins o.WriteFailed names line s before now
begun_unwritten names line s before now nobody none put = record {
  told = [];
  seats = sym nobody;
  sets = sym (ap (λ (k : ℕ). take k (published_by s)) none);
  within = omega (arith, none);
  written = front_longer before now line [] put;
}

-- a session was held
pub held_session : {W A : Type 0} (s0 s1 : SessionView W) (settings : Setup) (missing : Option ℕ) (names : List (List ℕ)) (line : List ℕ) (over : Over) (result : Result A Coordinated) (number : ℕ) (before now next : Option (List ℕ))
    → s0.hub.coordinator.settings ≡ settings → s0.missing ≡ missing → Steps (left over) s0 s1 → line ≡ session_text number → Begins over names line s1 before now → Parts over result number now next
    → Holds result names settings missing number before next
held_session s0 s1 settings missing names line over result number before now next same waits steps is t p = record {
  held = Some (record { told = t.told; journal = s1.hub.coordinator.journal; over = over });
  is = session_of s1 settings missing names line over before now steps.standing steps.leaves (steps.settings ∙ same) (steps.missing ∙ waits) t;
  followed = p.ended;
  final = p.final;
  written =
      let lines = told_text names [] t.told in
      subst (WritesOn result before next) (append_assoc line lines (over_text number over) ∙ ap (λ (l : List ℕ). l ++ (lines ++ over_text number over)) is)
      (parts_written over result number before now next (line ++ lines) t.written p);
}

-- ---- how a session is left

ended_badly : {A : Type 0} (cause : Cause) (end : Coordinated) (number : ℕ) (now next : Option (List ℕ)) → (end ≡ d.Done → ⊥) → (end ≡ d.LinkFault → ⊥) → WritesEnding end now next (ended_text number cause)
    → Parts {A = A} (o.Ended cause) (Err end) number now next
ended_badly cause end number now next undone fine text = record {
  ended = tt;
  final = λ is. absurd (undone is);
  failed = λ is. absurd (fine is);
  unwritten = λ is. absurd (cc);
  unmade = λ is. absurd (cc);
  same = λ is. absurd (cc);
  written = text;
}

parts_as : {A : Type 0} (result : Result A Coordinated) (v over : Over) (number : ℕ) (now next : Option (List ℕ)) → over ≡ v → Parts v result number now next → Parts over result number now next
parts_as result v over number now next is = subst (λ (w : Over). Parts w result number now next) (sym is)

-- there was no memory for the line
pub parts_unmade : {A : Type 0} (over : Over) (cause : Cause) (result : Result A Coordinated) (number : ℕ) (now : Option (List ℕ)) → over ≡ o.Ended cause → IsErrAnd result (λ end. end ≡ d.NoMemory) → Parts over result number now now
parts_unmade over cause (Ok x) number now is none = absurd none
parts_unmade over cause (Err end) number now is none =
    parts_as (Err end) (o.Ended cause) over number now now is
    (ended_badly cause end number now now (λ done. absurd (cc)) (λ failed. absurd (cc))
    (subst (λ (e : Coordinated). WritesEnding e now now (ended_text number cause)) (sym none) ([], ended_text number cause, refl, grows_none now)))

-- its put failed
pub parts_unwritten : {A : Type 0} (over : Over) (cause : Cause) (result : Result A Coordinated) (number : ℕ) (now next : Option (List ℕ)) → over ≡ o.Ended cause → IsErrAnd result (λ end. end ≡ d.WriteFault)
    → GrowsByFront now next (ended_text number cause) → Parts over result number now next
parts_unwritten over cause (Ok x) number now next is failed put = absurd failed
parts_unwritten over cause (Err end) number now next is failed put =
    parts_as (Err end) (o.Ended cause) over number now next is
    (ended_badly cause end number now next (λ done. absurd (cc)) (λ broken. absurd (cc))
    (subst (λ (e : Coordinated). WritesEnding e now next (ended_text number cause)) (sym failed) put))

-- it was put
pub parts_ended : {A : Type 0} (x : A) (over : Over) (cause : Cause) (number : ℕ) (now next : Option (List ℕ)) → over ≡ o.Ended cause → Grows now next (ended_text number cause) → Parts {A = A} over (Ok x) number now next
parts_ended x over cause number now next is put =
    subst (λ (v : Over). Parts v (Ok x) number now next) (sym is)
    (record { ended = tt; final = tt; failed = tt; unwritten = λ wrote. tt; unmade = λ wrote. absurd (cc); same = λ wrote. absurd (cc); written = put })

-- there is no line
pub parts_finished : {A : Type 0} (over : Over) (number : ℕ) (now : Option (List ℕ)) → over ≡ o.Finished → Parts {A = A} over (Err d.Done) number now now
parts_finished over number now is = record {
  ended = tt;
  final = λ done. is;
  failed = λ broken. absurd (cc);
  unwritten = λ wrote. absurd (cc);
  unmade = λ wrote. tt;
  same = λ wrote. refl;
  written = subst (λ (v : Over). Grows now now (over_text number v)) (sym is) (grows_none now);
}

pub parts_failed : {A : Type 0} (over : Over) (number : ℕ) (now : Option (List ℕ)) → over ≡ o.HostFailed → Parts {A = A} over (Err d.LinkFault) number now now
parts_failed over number now is = record {
  ended = tt;
  final = λ done. absurd (cc);
  failed = λ broken. is;
  unwritten = λ wrote. absurd (cc);
  unmade = λ wrote. tt;
  same = λ wrote. refl;
  written = subst (λ (v : Over). Grows now now (over_text number v)) (sym is) (grows_none now);
}

-- ---- sessions one behind the other

-- so many sessions were held, and each has ended by a cause
pub record HeldAll (names : List (List ℕ)) (settings : Setup) (missing : Option ℕ) (count : ℕ) (before now : Option (List ℕ)) : Type 0 where
  pub past : List PastSession
  pub many : length past ≡ count
  pub each : All (IsSession settings missing) past
  pub each_followed : All IsFollowed past
  pub written : Grows before now (sessions_text names 1 past)

all_push : {X : Type 0} (P : X → Type 0) (xs : List X) (x : X) → All P xs → P x → All P (xs ++ x ∷ [])
all_push P xs x all one = All-append P xs (x ∷ []) all (λ k d within. only k d within one) where
  only : (k : ℕ) (d : _) → k < 1 → P x → P (get_or (x ∷ []) k d)
  only zero d within one = one
  only (suc k) d within one = absurd (omega (arith, within))

module _ (names : List (List ℕ)) (settings : Setup) (missing : Option ℕ) (count : ℕ) (before now next : Option (List ℕ)) (h : HeldAll names settings missing count before now) where
  behind : (s : PastSession) → sessions_text names 1 (h.past ++ s ∷ []) ≡ sessions_text names 1 h.past ++ text_of names (count + 1) s
  behind s = sessions_text-push names 1 h.past s ∙ ap (λ (k : ℕ). sessions_text names 1 h.past ++ text_of names k s) (let m = h.many in omega (arith, m))

  one_more_held : (held : Option PastSession) → IfSome held (IsSession settings missing) → HasEndedBy held → Grows now next (held_text names (count + 1) held) → HeldAll names settings missing (count + 1) before next
  one_more_held None is ended text = absurd ended
  one_more_held (Some s) is ended text = record {
    past = h.past ++ s ∷ [];
    many = length-append h.past (s ∷ []) ∙ ap (λ (k : ℕ). k + 1) h.many;
    each = all_push (IsSession settings missing) h.past s h.each is;
    each_followed = all_push IsFollowed h.past s h.each_followed ended;
    written = subst (Grows before next) (sym (behind s)) (grows_more before now next (sessions_text names 1 h.past) (text_of names (count + 1) s) h.written text);
  }

  -- one session more was held, and another follows
  pub held_more : {A : Type 0} (x : A) → Holds {A = A} (Ok x) names settings missing (count + 1) now next → HeldAll names settings missing (count + 1) before next
  held_more x one = one_more_held one.held one.is one.followed one.written

  text_with : (end : Coordinated) (held : Option PastSession) → WritesEnding end now next (held_text names (count + 1) held) → WritesEnding end before next (sessions_text names 1 (h.past ++ cons_option held []))
  text_with end None text =
      subst (WritesEnding end before next) (append-nil (sessions_text names 1 h.past) ∙ ap (sessions_text names 1) (sym (append-nil h.past)))
      (ending_more end before now next (sessions_text names 1 h.past) [] h.written text)
  text_with end (Some s) text = subst (WritesEnding end before next) (sym (behind s)) (ending_more end before now next (sessions_text names 1 h.past) (text_of names (count + 1) s) h.written text)

  -- the process ends in one session more
  pub held_last : {A : Type 0} (end : Coordinated) (limit : ℕ) → Holds {A = A} (Err end) names settings missing (count + 1) now next → HoldsAll end names settings missing limit before next
  held_last end limit one = record {
    past = h.past;
    last = one.held;
    each = h.each;
    each_followed = h.each_followed;
    last_is = one.is;
    written = text_with end one.held one.written;
    done = λ is. inl (one.final is);
  }

-- ---- the first line

-- it was put
pub opened_told : {A : Type 0} (x : A) (address : List ℕ) (a b : Option (List ℕ)) → Grows a b (listening_text address) → Opens {A = A} (Ok x) a b
opened_told x address a b put = record { address = Some address; written = put; undone = tt }

-- its put failed
pub opened_untold : {A : Type 0} (result : Result A Coordinated) (address : List ℕ) (a b : Option (List ℕ)) → IsErrAnd result (λ end. end ≡ d.WriteFault) → GrowsByFront a b (listening_text address) → Opens result a b
opened_untold (Ok x) address a b is put = absurd is
opened_untold (Err end) address a b is put = record {
  address = Some address;
  written = subst (λ (e : Coordinated). WritesEnding e a b (listening_text address)) (sym is) put;
  undone = λ done. absurd (cc);
}

-- ---- the process

pub coordinated_all : {A : Type 0} (x : A) (end : Coordinated) (names : List (List ℕ)) (settings : Setup) (missing limit : Option ℕ) (many : ℕ) (before mid now : Option (List ℕ))
    → many ≡ unwrap_or limit (2 ^ 64 - 1) → Opens {A = A} (Ok x) before mid → HoldsAll end names settings missing many mid now → Coordinates end names settings missing limit before now
coordinated_all x end names settings missing limit many before mid now count first all = record {
  address = first.address;
  past = all.past;
  last = all.last;
  each = all.each;
  each_followed = all.each_followed;
  last_is = all.last_is;
  written = ending_more end before mid now (opening_text first.address) (sessions_text names 1 (all.past ++ cons_option all.last [])) first.written all.written;
  done = λ is. subst (λ (n : ℕ). IsFinal all.last ⊎ (length all.past ≡ n)) count (all.done is);
}

-- the host was not opened, or that was not told
pub coordinated_none : {A : Type 0} (end : Coordinated) (names : List (List ℕ)) (settings : Setup) (missing limit : Option ℕ) (before now : Option (List ℕ)) → Opens {A = A} (Err end) before now → Coordinates end names settings missing limit before now
coordinated_none end names settings missing limit before now first = record {
  address = first.address;
  past = [];
  last = None;
  each = λ k d within. absurd (omega (arith, within));
  each_followed = λ k d within. absurd (omega (arith, within));
  last_is = tt;
  written = subst (WritesEnding end before now) (sym (append-nil (opening_text first.address))) first.written;
  done = λ is. absurd (first.undone is);
}

-- one call of the host more failed
pub risen : (a b c : ℕ) → b ≡ a → c ≡ raised_by 1 b → HasRisen a c
risen a b c same more low = omega (arith, same, more, low)
