-- Trail and journal together: a monitor is at most one Assign behind, and what was sent under the last number speaks of now.
use Rattle.std.proofs.Common.{◌≡◌, ℕ, suc, zero, ◌+◌, ◌-◌, ◌≤◌, ◌||◌, Bool, true, false, List, [], ◌∷◌, ◌++◌, length, take, drop, Contains, Some, refl, sym, ap, ◌∙◌, subst, arith, append-nil, inl, inr}
use Rattle.std.specs.Prelude.{filter_map, nat_lt}
use Rattle.std.proofs.lemmas.Bool.{cases_Bool, cases_lt, true≢false, ltb-true}
use Rattle.std.proofs.lemmas.List.{length-append}
use Rattle.std.proofs.lemmas.List.Elements.{filter_map-append}
use Rattle.tk_frames.specs.Assigns.{Assign, assign_in}
use Rattle.tk_frames.specs.declared.frame.Frame.{Frame}
use Rattle.tk_trail.specs.Setup.{MonitorSetup}
use Rattle.tk_frames.specs.Carried.{seq_in}
use Rattle.tk_trail.specs.Readings.{assigns_of, seq_of, sent_by, taken_by}
use Rattle.tk_trail.specs.declared.entry.Entry.{Entry}
use Rattle.tk_trail.specs.declared.entry.Entry.TheVariants.{Raised, Took, Sent}
use Rattle.tk_trail.proofs.LawLemmas.{frames_carry, seq_grows}
use Rattle.tk_journal.specs.Legal.{Opening}
use Rattle.tk_journal.specs.Links.{frames_from, frames_to}
use Rattle.tk_journal.specs.Readings.{assigns_sent, assigns_to}
use Rattle.tk_journal.specs.declared.noted.Noted.{Noted}
use Rattle.tk_base.specs.History.{IsFront}
use Rattle.tk_base.proofs.OptionLemmas.{number_is}
use Rattle.tk_story.specs.Links.{IsJoined}
use Rattle.tk_trail.specs.Still.{Same, is_present, is_still}
use Rattle.tk_journal.proofs.GatheredLemmas.{in_front}
use Rattle.tk_journal.proofs.HeardLemmas.{heard_before}
use Rattle.tk_journal.specs.Sending.{WasHeard}
use Rattle.tk_trail.proofs.SendsLemmas.{speaks_now}

-- ---- fronts

pub record Rest {A : Type 0} (xs ys : List A) : Type 0 where
  pub rest : List A
  pub is : ys ≡ xs ++ rest

split : {A : Type 0} (n : ℕ) (ys : List A) → ys ≡ take n ys ++ drop n ys
split zero ys = refl
split (suc n) [] = refl
split (suc n) (y ∷ ys) = ap (λ zs. y ∷ zs) (split n ys)

pub rest_of : {A : Type 0} (xs ys : List A) → IsFront xs ys → Rest xs ys
rest_of xs ys h = record { rest = drop (length xs) ys; is = split (length xs) ys ∙ ap (λ zs. zs ++ drop (length xs) ys) (sym h.is) }

pub front_has : {A : Type 0} (x : A) (xs ys : List A) → IsFront xs ys → Contains xs x → Contains ys x
front_has {A} x xs ys h in' = let r = rest_of xs ys h in subst (λ zs. Contains zs x) (sym r.is) (in_front A x xs r.rest in')

-- ---- where a frame was sent

pub record SentAt (trail : List Entry) (frame : Frame) : Type 0 where
  pub before : List Entry
  pub after : List Entry
  pub is : trail ≡ before ++ Sent frame ∷ after

later_at : (e : Entry) (trail : List Entry) (frame : Frame) → SentAt trail frame → SentAt (e ∷ trail) frame
later_at e trail frame h = record { before = e ∷ h.before; after = h.after; is = ap (λ xs. e ∷ xs) h.is }

pub sent_at : (trail : List Entry) (frame : Frame) → Contains (sent_by trail) frame → SentAt trail frame
sent_at [] frame (k, within, is) = absurd (omega arith)
sent_at (Raised g ∷ trail) frame in' = later_at (Raised g) trail frame (sent_at trail frame in')
sent_at (Took x ∷ trail) frame in' = later_at (Took x) trail frame (sent_at trail frame in')
sent_at (Sent x ∷ trail) frame (zero, within, is) = record { before = []; after = trail; is = ap (λ q. Sent q ∷ trail) is }
sent_at (Sent x ∷ trail) frame (suc k, within, is) = later_at (Sent x) trail frame (sent_at trail frame (k, omega arith, is))

-- ---- at most one behind

behind : (o : Opening) (j : List Noted) (mon : ℕ) (setup : MonitorSetup) (trail : List Entry) → IsJoined o j mon setup trail → Rest (assigns_of trail) (assigns_to mon j)
behind o j mon setup trail h =
    let r = rest_of (taken_by trail) (frames_to mon j) h.down in
    record { rest = filter_map assign_in r.rest; is = ap (filter_map assign_in) r.is ∙ filter_map-append assign_in (taken_by trail) r.rest }

pub seq_at_most : (o : Opening) (j : List Noted) (mon : ℕ) (setup : MonitorSetup) (trail : List Entry) → IsJoined o j mon setup trail → seq_of trail ≤ assigns_sent mon j
unfolding assigns_sent
seq_at_most o j mon setup trail h =
    let r = behind o j mon setup trail h in
    let e = ap (λ (xs : List Assign). length xs) r.is in
    let l = length-append (assigns_of trail) r.rest in
    omega (arith, e, l)

pub carried_seq : (setup : MonitorSetup) (trail : List Entry) (frame : Frame) (number : ℕ) → Rattle.tk_trail.specs.Legal.IsLegal setup trail → (s : SentAt trail frame) → seq_in frame ≡ Some number → number ≡ seq_of s.before
carried_seq setup trail frame number legal s e = number_is number (seq_of s.before) (seq_in frame) e (frames_carry setup s.before s.after frame (subst (Rattle.tk_trail.specs.Legal.IsLegal setup) s.is legal))

pub seq_from : (trail : List Entry) (frame : Frame) (s : SentAt trail frame) → seq_of s.before ≤ seq_of trail
seq_from trail frame s = subst (λ t. seq_of s.before ≤ seq_of t) (sym s.is) (seq_grows s.before (Sent frame ∷ s.after))

heard_seq : (o : Opening) (j : List Noted) (mon : ℕ) (setup : MonitorSetup) (trail : List Entry) (number : ℕ) → IsJoined o j mon setup trail → WasHeard mon j number → number ≤ seq_of trail
heard_seq o j mon setup trail number h heard =
    let s = sent_at trail heard.frame (front_has heard.frame (frames_from mon j) (sent_by trail) h.up heard.among) in
    let e = carried_seq setup trail heard.frame number h.ways s heard.carries in
    let g = seq_from trail heard.frame s in
    omega (arith, e, g)

pub sent_at_most : (o : Opening) (j : List Noted) (mon : ℕ) (setup : MonitorSetup) (trail : List Entry) → IsJoined o j mon setup trail → assigns_sent mon j ≤ seq_of trail + 1
sent_at_most o j mon setup trail h = elim (cases_lt (assigns_sent mon j) 2) [
  | inl few ↦ omega (arith, few)
  | inr more ↦
      let number = assigns_sent mon j - 1 in
      let is : assigns_sent mon j ≡ number + 1 = omega (arith, more) in
      let low : 1 ≤ number = omega (arith, more) in
      let least = heard_seq o j mon setup trail number h (heard_before o j mon number h.set h.journal h.monitor low is) in
      omega (arith, is, least)
]

-- ---- under the last number

pub record SpeaksNow (mon : ℕ) (j : List Noted) (setup : MonitorSetup) (trail : List Entry) (frame : Frame) : Type 0 where
  pub before : List Entry
  pub after : List Entry
  pub is : trail ≡ before ++ Sent frame ∷ after
  pub taken : assigns_of trail ≡ assigns_to mon j
  pub now : is_present (assigns_sent mon j) trail ≡ true → Same setup before trail

pub nothing_left : (xs rest : List Assign) → length (xs ++ rest) ≡ length xs → rest ≡ []
nothing_left xs [] e = refl
nothing_left xs (x ∷ rest) e = absurd (let l = length-append xs (x ∷ rest) in omega (arith, l, e))

still_where : (seq sent : ℕ) (still : Bool) → seq ≡ sent → (nat_lt seq sent || still) ≡ true → still ≡ true
still_where seq sent true e h = refl
still_where seq sent false e h = elim (cases_Bool (nat_lt seq sent)) [
  | inl less ↦ absurd (let l = ltb-true seq sent less in omega (arith, l, e))
  | inr not' ↦ absurd (true≢false (sym h ∙ ap (λ b. b || false) not'))
]

pub under_the_last : (o : Opening) (j : List Noted) (mon : ℕ) (setup : MonitorSetup) (trail : List Entry) (frame : Frame) → IsJoined o j mon setup trail → Contains (sent_by trail) frame → seq_in frame ≡ Some (assigns_sent mon j)
    → SpeaksNow mon j setup trail frame
unfolding assigns_sent
under_the_last o j mon setup trail frame h in' e =
    let s = sent_at trail frame in' in
    let number = carried_seq setup trail frame (length (assigns_to mon j)) h.ways s e in
    let grows = seq_from trail frame s in
    let most : seq_of trail ≤ length (assigns_to mon j) = seq_at_most o j mon setup trail h in
    let same : seq_of trail ≡ length (assigns_to mon j) = omega (arith, number, grows, most) in
    let r = behind o j mon setup trail h in
    let none : r.rest ≡ [] = nothing_left (assigns_of trail) r.rest (sym (ap (λ (xs : List Assign). length xs) r.is) ∙ sym same) in
    record {
      before = s.before;
      after = s.after;
      is = s.is;
      taken = sym (r.is ∙ ap (λ (xs : List Assign). assigns_of trail ++ xs) none ∙ append-nil (assigns_of trail));
      now = λ present.
          let still = still_where (seq_of trail) (length (assigns_to mon j)) (is_still trail) same present in
          subst (λ t. Same setup s.before t) (sym s.is) (speaks_now setup s.before (Sent frame ∷ s.after) (ap seq_of (sym s.is) ∙ same ∙ number) (ap is_still (sym s.is) ∙ still));
    }
