-- An up link holds at most five frames.
use Rattle.std.proofs.Common.{◌≡◌, ℕ, suc, zero, ◌+◌, ◌-◌, ◌≤◌, ◌==◌, Bool, true, false, List, [], ◌∷◌, ◌++◌, length, Contains, refl, sym, ap, ◌∙◌, subst, arith, append_assoc, inl, inr}
use Rattle.std.specs.Prelude.{count_by, if◌then◌else◌, filter_map}
use Rattle.std.proofs.lemmas.Bool.{cases_lt, cases_eq, eq-eqb, ne_eqb}
use Rattle.std.proofs.lemmas.List.{length-append}
use Rattle.std.proofs.lemmas.List.Sums.{sum_by-cons}
use Rattle.tk_frames.specs.declared.frame.Frame.{Frame}
use Rattle.tk_trail.specs.Setup.{MonitorSetup}
use Rattle.tk_trail.specs.Frames.{report_at, settled_at, values_at}
use Rattle.tk_frames.specs.Carried.{tally, is_collect, is_numbered, is_values}
use Rattle.tk_trail.specs.Legal.{IsLegal}
use Rattle.tk_trail.specs.Readings.{is_broken, seq_of, sent_by, taken_by}
use Rattle.tk_trail.specs.declared.entry.Entry.{Entry}
use Rattle.tk_trail.specs.declared.entry.Entry.TheVariants.{Raised, Took, Sent}
use Rattle.tk_trail.proofs.LawLemmas.{allowed_at, seq_grows}
use Rattle.tk_journal.specs.Legal.{Opening}
use Rattle.tk_journal.specs.Links.{frames_from, frames_to}
use Rattle.tk_journal.specs.Readings.{assigns_sent, last_round, waits_for}
use Rattle.tk_journal.specs.declared.noted.Noted.{Noted}
use Rattle.tk_base.specs.History.{IsFront}
use Rattle.tk_story.specs.Links.{IsJoined}
use Rattle.tk_journal.proofs.AskedLemmas.{each_collect_is_answered}
use Rattle.tk_frames.proofs.CarriedLemmas.{tally-append}
use Rattle.tk_journal.proofs.HeardLemmas.{heard_before}
use Rattle.tk_story.proofs.JoinLemmas.{SentAt, carried_seq, rest_of, sent_at, seq_at_most, sent_at_most, seq_from}
use Rattle.tk_journal.proofs.SentLemmas.{flag, flag_most, counted, only_three_kinds, one_stop}
use Rattle.tk_trail.proofs.PairLemmas.{values_answer_collects}
use Rattle.tk_trail.proofs.SendsLemmas.{Sends, few_answers, sends}
use Rattle.tk_trail.proofs.SendsLemmas.Sends.{Answered, Gathered, Reported, Ended}
use Rattle.tk_frames.specs.Assigns.{assign_in}

pub front_tally : (p : Frame → Bool) (xs ys : List Frame) → IsFront xs ys → tally p xs ≤ tally p ys
front_tally p xs ys h = let r = rest_of xs ys h in let a = ap (tally p) r.is in let b = tally-append p xs r.rest in omega (arith, a, b)

assigns_and_collects : (xs : List Frame) → length (filter_map assign_in xs) + tally is_collect xs ≤ length xs
assigns_and_collects xs = let e = counted xs in omega (arith, e)

pub few_down : (o : Opening) (j : List Noted) (mon : ℕ) (setup : MonitorSetup) (trail : List Entry) → IsJoined o j mon setup trail → length (frames_to mon j) ≤ length (taken_by trail) + 3
unfolding assigns_sent
few_down o j mon setup trail h =
    let all = counted (frames_to mon j) in
    let other = only_three_kinds o j mon h.set h.journal in
    let stop = one_stop o j mon h.set h.journal in
    let assigns : length (filter_map assign_in (frames_to mon j)) ≤ seq_of trail + 1 = sent_at_most o j mon setup trail h in
    let taken = assigns_and_collects (taken_by trail) in
    let pairs = values_answer_collects setup trail h.ways in
    let got = front_tally is_values (frames_from mon j) (sent_by trail) h.up in
    let asked = each_collect_is_answered o j mon h.set h.journal h.monitor in
    let wait = flag_most (waits_for (last_round j) mon j) in
    omega (arith, all, other, stop, assigns, taken, pairs, got, asked, wait)

tally_is : (p : Frame → Bool) (xs : List Frame) → tally p xs ≡ count_by p xs
tally_is p [] = refl
tally_is p (x ∷ xs) = let e = tally_is p xs in let c = sum_by-cons (λ q. if p q then 1 else 0) x xs in omega (arith, e, c)

there : (g x : Frame) (xs : List Frame) → Contains xs g → Contains (x ∷ xs) g
there g x xs (k, within, is) = (suc k, omega arith, is)

heads_agree : (q x : Frame) (xs ys : List Frame) → q ∷ xs ≡ x ∷ ys → q ≡ x
heads_agree q x xs ys e = cc

tails_agree : (q x : Frame) (xs ys : List Frame) → q ∷ xs ≡ x ∷ ys → xs ≡ ys
tails_agree q x xs ys e = cc

-- a number that is one of two
numbered_one : (n a : ℕ) → a ≤ n → n ≤ a + 1 → 0 + flag (n == a) + flag (n == a + 1) ≡ 1
numbered_one n a low high = elim (cases_eq n a) [
  | inl e ↦
      let x = ap flag (eq-eqb n a e) in
      let y = ap flag (ne_eqb n (a + 1) (λ is. omega (arith, e, is))) in
      omega (arith, x, y)
  | inr ne ↦
      let x = ap flag (ne_eqb n a ne) in
      let y = ap flag (eq-eqb n (a + 1) (omega (arith, ne, low, high))) in
      omega (arith, x, y)
]

-- ---- a trail whose frames are split

record IsSplit (trail : List Entry) (xs ys : List Frame) : Type 0 where
  front : List Entry
  back : List Entry
  is : trail ≡ front ++ back
  first : sent_by front ≡ xs
  second : sent_by back ≡ ys

split_at : (trail : List Entry) (xs ys : List Frame) → sent_by trail ≡ xs ++ ys → IsSplit trail xs ys
split_at trail [] ys e = record { front = []; back = trail; is = refl; first = refl; second = e }
split_at [] (x ∷ xs) ys e = absurd (cc)
split_at (Raised g ∷ trail) (x ∷ xs) ys e = let r = split_at trail (x ∷ xs) ys e in record { front = Raised g ∷ r.front; back = r.back; is = ap (λ t. Raised g ∷ t) r.is; first = r.first; second = r.second }
split_at (Took q ∷ trail) (x ∷ xs) ys e = let r = split_at trail (x ∷ xs) ys e in record { front = Took q ∷ r.front; back = r.back; is = ap (λ t. Took q ∷ t) r.is; first = r.first; second = r.second }
split_at (Sent q ∷ trail) (x ∷ xs) ys e =
    let head : q ≡ x = heads_agree q x (sent_by trail) (xs ++ ys) e in
    let tail : sent_by trail ≡ xs ++ ys = tails_agree q x (sent_by trail) (xs ++ ys) e in
    let r = split_at trail xs ys tail in
    record { front = Sent q ∷ r.front; back = r.back; is = ap (λ t. Sent q ∷ t) r.is; first = ap (λ fs. q ∷ fs) r.first ∙ ap (λ (z : Frame). z ∷ xs) head; second = r.second }

-- ---- what stands on the link

-- Values, or a Report or Settled under the last number or the one before
abbrev IsLate : ℕ → Frame → Type 0
IsLate a g = (flag (is_values g) + flag (is_numbered a g) + flag (is_numbered (a + 1) g)) ≡ 1

late_report : (setup : MonitorSetup) (x : List Entry) (a : ℕ) → a ≤ seq_of x → seq_of x ≤ a + 1 → IsLate a (report_at setup x)
unfolding report_at
late_report setup x a low high = numbered_one (seq_of x) a low high

late_settled : (setup : MonitorSetup) (x : List Entry) (a : ℕ) → a ≤ seq_of x → seq_of x ≤ a + 1 → IsLate a (settled_at setup x)
unfolding settled_at
late_settled setup x a low high = numbered_one (seq_of x) a low high

late_values : (setup : MonitorSetup) (x : List Entry) (round : ℕ) (asked : List ℕ) (a : ℕ) → IsLate a (values_at setup x round asked)
unfolding values_at
late_values setup x round asked a = omega arith

late_answer : (setup : MonitorSetup) (x : List Entry) (b : Bool) (a : ℕ) → a ≤ seq_of x → seq_of x ≤ a + 1 → IsLate a (if b then report_at setup x else settled_at setup x)
late_answer setup x true a low high = late_report setup x a low high
late_answer setup x false a low high = late_settled setup x a low high

late_sends : (setup : MonitorSetup) (x : List Entry) (g : Frame) (a : ℕ) → a ≤ seq_of x → seq_of x ≤ a + 1 → Sends setup x g → IsLate a g
late_sends setup x g a low high (Answered seq members changes last e) = subst (IsLate a) (sym e) (late_answer setup x (is_broken setup x) a low high)
late_sends setup x g a low high (Gathered round asked last e) = subst (IsLate a) (sym e) (late_values setup x round asked a)
late_sends setup x g a low high (Reported unowed free broken e) = subst (IsLate a) (sym e) (late_report setup x a low high)
late_sends setup x g a low high (Ended unowed free calm ends told e) = subst (IsLate a) (sym e) (late_settled setup x a low high)

tally_late : (a : ℕ) (xs : List Frame) → ((g : Frame) → Contains xs g → IsLate a g) → length xs ≡ tally is_values xs + tally (is_numbered a) xs + tally (is_numbered (a + 1)) xs
tally_late a [] each = omega arith
tally_late a (x ∷ xs) each =
    let here = each x (zero, omega arith, refl) in
    let rest = tally_late a xs (λ g in'. each g (there g x xs in')) in
    omega (arith, here, rest)

back_tally : (p : Frame → Bool) (xs ys all : List Frame) → all ≡ xs ++ ys → tally p all ≡ tally p xs + tally p ys
back_tally p xs ys all e = ap (tally p) e ∙ tally-append p xs ys

-- the least number of what was not got
least_of : (o : Opening) (j : List Noted) (mon : ℕ) (setup : MonitorSetup) (trail front : List Entry) → IsJoined o j mon setup trail → sent_by front ≡ frames_from mon j → (back : List Entry) → trail ≡ front ++ back → assigns_sent mon j ≤ seq_of front + 1
least_of o j mon setup trail front h first back is = elim (cases_lt (assigns_sent mon j) 2) [
  | inl few ↦ omega (arith, few)
  | inr more ↦
      let number = assigns_sent mon j - 1 in
      let e : assigns_sent mon j ≡ number + 1 = omega (arith, more) in
      let heard = heard_before o j mon number h.set h.journal h.monitor (omega (arith, more)) e in
      let s = sent_at front heard.frame (subst (λ xs. Contains xs heard.frame) (sym first) heard.among) in
      let whole : SentAt trail heard.frame = record { before = s.before; after = s.after ++ back; is = is ∙ ap (λ t. t ++ back) s.is ∙ append_assoc s.before (Sent heard.frame ∷ s.after) back } in
      let number_is = carried_seq setup trail heard.frame number h.ways whole heard.carries in
      let grows = seq_from front heard.frame s in
      omega (arith, e, number_is, grows)
]

pub few_up : (o : Opening) (j : List Noted) (mon : ℕ) (setup : MonitorSetup) (trail : List Entry) → IsJoined o j mon setup trail → length (sent_by trail) ≤ length (frames_from mon j) + 5
few_up o j mon setup trail h =
    let r = rest_of (frames_from mon j) (sent_by trail) h.up in
    let s = split_at trail (frames_from mon j) r.rest r.is in
    let a = assigns_sent mon j - 1 in
    let least = least_of o j mon setup trail s.front h s.first s.back s.is in
    let most = seq_at_most o j mon setup trail h in
    let each : (g : Frame) → Contains r.rest g → IsLate a g = λ g in'.
    let at = sent_at s.back g (subst (λ xs. Contains xs g) (sym s.second) in') in
    let x = s.front ++ at.before in
    let place : trail ≡ x ++ Sent g ∷ at.after = s.is ∙ ap (λ t. s.front ++ t) at.is ∙ sym (append_assoc s.front at.before (Sent g ∷ at.after)) in
    let low = seq_grows s.front at.before in
    let high : seq_of x ≤ seq_of trail = subst (λ t. seq_of x ≤ seq_of t) (sym place) (seq_grows x (Sent g ∷ at.after)) in
    late_sends setup x g a (omega (arith, low, least)) (omega (arith, high, most)) (sends setup x g (allowed_at setup x at.after (Sent g) (subst (IsLegal setup) place h.ways))) in
    let all = tally_late a r.rest each in
    let long = ap (λ (fs : List Frame). length fs) r.is in
    let joined = length-append (frames_from mon j) r.rest in
    let first = few_answers setup h.shape trail h.ways a in
    let second = few_answers setup h.shape trail h.ways (a + 1) in
    let first_is = tally_is (is_numbered a) (sent_by trail) in
    let second_is = tally_is (is_numbered (a + 1)) (sent_by trail) in
    let v = back_tally is_values (frames_from mon j) r.rest (sent_by trail) r.is in
    let n1 = back_tally (is_numbered a) (frames_from mon j) r.rest (sent_by trail) r.is in
    let n2 = back_tally (is_numbered (a + 1)) (frames_from mon j) r.rest (sent_by trail) r.is in
    let pairs = values_answer_collects setup trail h.ways in
    let taken = front_tally is_collect (taken_by trail) (frames_to mon j) h.down in
    let asked = each_collect_is_answered o j mon h.set h.journal h.monitor in
    let wait = flag_most (waits_for (last_round j) mon j) in
    omega (arith, all, long, joined, first, second, first_is, second_is, v, n1, n2, pairs, taken, asked, wait)
