-- While a round waits for a monitor, the last frame sent to it is that round's Collect.
use Rattle.tk_frames.specs.declared.frame.Frame.TheVariants as f
use Rattle.tk_journal.specs.declared.noted.Noted.TheVariants as n
use Rattle.std.proofs.Common.{◌≡◌, ℕ, suc, ◌+◌, ◌<◌, ◌&&◌, ◌||◌, ◌==◌, Bool, true, false, not, List, [], ◌∷◌, ◌++◌, map, Option, Some, None, refl, sym, ap, ◌∙◌, subst, arith, append-nil}
use Rattle.std.specs.Prelude.{filter, fold, is_some, if◌then◌else◌}
use Rattle.std.specs.List.{list_all, list_any, range_with_len}
use Rattle.std.proofs.lemmas.Bool.{true≢false, false≢true}
use Rattle.tk_base.specs.Objects.{objects, is_in}
use Rattle.tk_base.specs.Settings.{Setup}
use Rattle.tk_base.specs.declared.ids.Mon.{Mon}
use Rattle.tk_frames.specs.declared.frame.Frame.{Frame}
use Rattle.tk_base.specs.History.{last_of}
use Rattle.tk_base.proofs.ListLemmas.{any_in_range}
use Rattle.tk_journal.specs.Laws.{IsMonitor, IsSetUp}
use Rattle.tk_journal.specs.Legal.{IsLegal, Opening, opened}
use Rattle.tk_journal.specs.Links.{frames_to}
use Rattle.tk_journal.specs.Publishing.{closing, differs, is_last, publication_at, publications, stops}
use Rattle.tk_journal.specs.Readings.{asked_of, assigns_sent, in_force, is_calm, is_open, last_round, members_at, monitors, settled_of, values_for, values_of, waits_for}
use Rattle.tk_journal.specs.Turns.{collects, demanded, rounds, wide_collects}
use Rattle.tk_journal.specs.declared.noted.Noted.{Noted}
use Rattle.tk_journal.proofs.Appends.{frames_to-append, last_of-append, later}
use Rattle.tk_journal.proofs.Batches.{collects_round}
use Rattle.tk_journal.proofs.Counting.{AreCounted}
use Rattle.tk_journal.proofs.LawLemmas.{one_less}
use Rattle.tk_journal.proofs.LegalLemmas.{FrameTurn, by_parts, legal_carries, opened_closed, opened_orderly, orderly_parts, orderly_tuned, tuned_round}
use Rattle.tk_journal.proofs.Orderly.{IsOrderly, Row, open_named, orderly_got, orderly_same, sends}
use Rattle.tk_journal.proofs.Pieces.{batch_to, got_asked, got_round, got_values}
use Rattle.tk_journal.proofs.Reports.{closed_waits}
use Rattle.tk_journal.proofs.Same.{same_closing}
use Rattle.tk_journal.proofs.Sound.{new_asked}
use Rattle.tk_journal.proofs.Turning.{orderly_demanded}
use Rattle.tk_journal.proofs.GrowLemmas.{Grows, grows, with_got}
use Rattle.tk_journal.proofs.GrowLemmas.Grows.{Nothing, ToOne, ToAll, Asks}
use Rattle.tk_journal.specs.Sending.{IsLastAsked}
use Rattle.tk_journal.proofs.Rounding.{waits_less}

-- ---- the last of a list

fold_same : (c : Frame) (zs : List ℕ) → fold (λ (_ : Option Frame) (e : Frame). Some e) (Some c) (map (λ _. c) zs) ≡ Some c
fold_same c [] = refl
fold_same c (z ∷ zs) = fold_same c zs

kept_last : (c : Frame) (p : ℕ → Bool) (x : ℕ) (xs : List ℕ) (b : Bool) → p x ≡ b → (b || list_any p xs) ≡ true → (list_any p xs ≡ true → last_of (map (λ _. c) (filter p xs)) ≡ Some c)
    → last_of (map (λ _. c) (if b then x ∷ filter p xs else filter p xs)) ≡ Some c
kept_last c p x xs true is any rest = fold_same c (filter p xs)
kept_last c p x xs false is any rest = rest any

pub last_const : (c : Frame) (p : ℕ → Bool) (xs : List ℕ) → list_any p xs ≡ true → last_of (map (λ _. c) (filter p xs)) ≡ Some c
last_const c p [] any = absurd (false≢true any)
last_const c p (x ∷ xs) any = kept_last c p x xs (p x) refl any (last_const c p xs)

last_some : (x : Frame) (xs : List Frame) → (y : Frame) × (fold (λ (_ : Option Frame) (e : Frame). Some e) (Some x) xs ≡ Some y)
last_some x [] = (x, refl)
last_some x (y ∷ xs) = last_some y xs

later_some : (x y : Option Frame) (c : Frame) → y ≡ Some c → later x y ≡ y
later_some x None c is = absurd (cc)
later_some x (Some y) c is = refl

pub last_back : (xs : List Frame) (g : Frame) (rest : List Frame) → last_of (xs ++ g ∷ rest) ≡ last_of (g ∷ rest)
last_back xs g rest = let s = last_some g rest in last_of-append xs (g ∷ rest) ∙ later_some (last_of xs) (last_of (g ∷ rest)) s.0 s.1

-- ---- what a waiting round leaves

abbrev pub Waits : ℕ → List Noted → Type 0
Waits mon j = waits_for (last_round j) mon j ≡ true

last_same : (mon : ℕ) (a b : List Noted) → last_round b ≡ last_round a → ((r : ℕ) → asked_of r mon b ≡ asked_of r mon a) → frames_to mon b ≡ frames_to mon a → IsLastAsked mon a → IsLastAsked mon b
last_same mon a b round asked frames h = record {
  asked = h.asked;
  is = ap (λ r. asked_of r mon b) round ∙ asked (last_round a) ∙ h.is;
  last = ap (λ (xs : List Frame). last_of xs) frames ∙ h.last ∙ ap (λ r. Some (f.Collect r h.asked)) (sym round);
}

got_waits : (mon : ℕ) (j : List Noted) (from : Mon) (frame : Frame) → Waits mon (with_got j from frame) → Waits mon j
unfolding waits_for
got_waits mon j from frame h =
    let now = with_got j from frame in
    let r = last_round j in
    let h' : (is_some (asked_of r mon now) && not (is_some (values_of r mon now))) ≡ true = ap (λ q. is_some (asked_of q mon now) && not (is_some (values_of q mon now))) (sym (got_round j from frame)) ∙ h in
    waits_less (asked_of r mon j) (values_of r mon j) (if from.0 == mon then values_for r mon frame else None)
    (sym (ap (λ x. is_some x && not (is_some (values_of r mon now))) (got_asked r mon j from frame) ∙ ap (λ y. is_some (asked_of r mon j) && not (is_some y)) (got_values r mon j from frame)) ∙ h')

got_last : (mon : ℕ) (j : List Noted) (from : Mon) (frame : Frame) → IsLastAsked mon j → IsLastAsked mon (with_got j from frame)
got_last mon j from frame h = last_same mon j (with_got j from frame) (got_round j from frame) (λ r. got_asked r mon j from frame) (frames_to-append mon j (n.Got from frame ∷ []) ∙ append-nil (frames_to mon j)) h

some_if : (b : Bool) (asked : List ℕ) (c : Bool) → (is_some (if b then Some asked else None) && c) ≡ true → b ≡ true
some_if true asked c h = refl
some_if false asked c h = absurd (false≢true h)

asks_last : (s : Setup) (now : List Noted) (round : ℕ) (asked : List ℕ) (q : ℕ) (mons : List ℕ) (mon : ℕ) → AreCounted s now → last_round now < round → Waits mon (now ++ collects round asked (q ∷ mons)) → IsLastAsked mon (now ++ collects round asked (q ∷ mons))
unfolding waits_for
asks_last s now round asked q mons mon c new waits =
    let after = now ++ collects round asked (q ∷ mons) in
    let last : last_round after ≡ round = collects_round now round asked q mons in
    let of_round : asked_of round mon after ≡ (if is_in (q ∷ mons) mon then Some asked else None) = new_asked s now round asked (q ∷ mons) mon c new in
    let here : is_in (q ∷ mons) mon ≡ true =
    some_if (is_in (q ∷ mons) mon) asked (not (is_some (values_of (last_round after) mon after))) (sym (ap (λ x. is_some x && not (is_some (values_of (last_round after) mon after))) (ap (λ r. asked_of r mon after) last ∙ of_round)) ∙ waits) in
    let frames = frames_to-append mon now (collects round asked (q ∷ mons)) ∙ ap (λ xs. frames_to mon now ++ xs) (batch_to mon (λ (x : ℕ). x) (λ _. f.Collect round asked) (q ∷ mons)) in
    let back = last_const (f.Collect round asked) (λ d. d == mon) (q ∷ mons) here in
    record {
      asked = asked;
      is = ap (λ r. asked_of r mon after) last ∙ of_round ∙ ap (λ b. if b then Some asked else None) here;
      last = ap (λ (xs : List Frame). last_of xs) frames ∙ last_of-append (frames_to mon now) (map (λ _. f.Collect round asked) (filter (λ d. d == mon) (q ∷ mons))) ∙ ap (later (last_of (frames_to mon now))) back ∙ ap (λ r. Some (f.Collect r asked)) (sym last);
    }

abbrev pub AreLast : Setup → List Noted → Type 0
AreLast s j = (mon : ℕ) → IsMonitor s mon → Waits mon j → IsLastAsked mon j

closed_none : (s : Setup) (j : List Noted) → is_open s j ≡ false → AreLast s j
closed_none s j closed mon m waits = absurd (true≢false (sym waits ∙ closed_waits s j closed mon m))

sent_closed : (s : Setup) (now : List Noted) (members : List ℕ) (rows : List Row) → is_open s now ≡ false → is_open s (now ++ sends now members rows) ≡ false
sent_closed s now members rows closed = open_named s now (λ (d : Row). d.0) (λ d. assigns_sent d.0 now + 1) members (λ d. d.1) rows ∙ closed

grown_last : (s : Setup) (before : List Noted) (from : Mon) (frame : Frame) (after : List Noted) → Grows s before from frame after → IsOrderly s (with_got before from frame) → AreLast s before → AreLast s after
grown_last s before from frame after (Nothing e same resting) o h = subst (AreLast s) (sym e) (λ mon m waits. got_last mon before from frame (h mon m (got_waits mon before from frame waits)))
grown_last s before from frame after (ToOne members row border failed values fresh' node was closed e) o h = subst (AreLast s) (sym e) (closed_none s (with_got before from frame ++ sends (with_got before from frame) members (row ∷ [])) (sent_closed s (with_got before from frame) members (row ∷ []) closed))
grown_last s before from frame after (ToAll members rows cause nodes closed e) o h = subst (AreLast s) (sym e) (closed_none s (with_got before from frame ++ sends (with_got before from frame) members rows) (sent_closed s (with_got before from frame) members rows closed))
grown_last s before from frame after (Asks round asked q mons rising closed new e opened') o h = subst (AreLast s) (sym e) (λ mon m waits. asks_last s (with_got before from frame) round asked q mons mon o.counted new waits)

-- ---- the end of a turn, and a retune

pub waits_open : (s : Setup) (j : List Noted) (mon : ℕ) → IsMonitor s mon → Waits mon j → is_open s j ≡ true
unfolding is_open
waits_open s j mon m waits = any_in_range (λ q. waits_for (last_round j) q j) 1 s.monitors mon m.from_one (let w = m.within in omega (arith, w)) waits

not_due : (o c d : Bool) → o ≡ true → (not o && c && d) ≡ false
not_due true c d is = refl
not_due false c d is = absurd (false≢true is)

-- an open round closes nothing
pub open_nothing : (s : Setup) (j : List Noted) → is_open s j ≡ true → closing s j ≡ []
unfolding closing is_calm
open_nothing s j opened' =
    ap (λ b. if b then n.Published (publication_at s j) ∷ (if is_last s j then stops s else []) else [])
    (not_due (is_open s j) (list_all (λ mon. is_some (settled_of mon j)) (monitors s)) (differs (in_force s j) (members_at j) (last_of (publications j)) || is_last s j) opened')

closed_last : (s : Setup) (j : List Noted) → AreLast s j → AreLast s (j ++ closing s j)
unfolding waits_for
closed_last s j h mon m waits =
    let e = same_closing s j in
    let after = j ++ closing s j in
    let was : Waits mon j =
    sym (ap (λ r. is_some (asked_of r mon after) && not (is_some (values_of r mon after))) e.round ∙ ap (λ x. is_some x && not (is_some (values_of (last_round j) mon after))) (e.asked (last_round j) mon) ∙ ap (λ y. is_some (asked_of (last_round j) mon j) && not (is_some y)) (e.values (last_round j) mon)) ∙ waits in
    let none : after ≡ j = ap (λ xs. j ++ xs) (open_nothing s j (waits_open s j mon m was)) ∙ append-nil j in
    subst (IsLastAsked mon) (sym none) (h mon m was)

record IsLastly (s : Setup) (j : List Noted) : Type 0 where
  order : IsOrderly s j
  last : AreLast s j

lastly_parts : (s : Setup) (k : ℕ) → s.monitors ≡ suc k → FrameTurn s (IsLastly s)
lastly_parts s k some = record {
  demands = λ before from frame range none h. record {
    order = orderly_demanded s before from frame k some range none h.order;
    last = grown_last s before from frame (with_got before from frame ++ demanded s before from.0 frame) (grows s before from frame k some range none h.order) (orderly_got s before from frame none h.order) h.last;
  };
  closes = λ j h. record { order = orderly_same s j (j ++ closing s j) (same_closing s j) h.order; last = closed_last s j h.last };
  tunes = λ before q epsilon accepted h. record {
    order = (orderly_parts s k some).tunes before q epsilon accepted h.order;
    last =
        (let mid = before ++ n.Tuned q epsilon ∷ [] in
        let o = orderly_tuned s before q epsilon h.order in
        let list : mid ++ wide_collects s (rounds s before + 1) ≡ mid ++ collects (rounds s before + 1) (objects s.objects) (1 ∷ range_with_len (1 + 1) k) = ap (λ xs. mid ++ collects (rounds s before + 1) (objects s.objects) xs) (ap (range_with_len 1) some) in
        subst (AreLast s) (sym list) (λ mon m waits. asks_last s mid (rounds s before + 1) (objects s.objects) 1 (range_with_len (1 + 1) k) mon o.counted (let t = tuned_round before q epsilon in let l = h.order.counted.last in omega (arith, t, l)) waits));
  };
}

pub last_asked : (o : Opening) (j : List Noted) → IsSetUp o → IsLegal o j → AreLast o.settings j
last_asked o j set legal =
    let s = o.settings in
    let k = one_less s.monitors set.limits.some_monitor in
    (legal_carries o (IsLastly s) (by_parts s (IsLastly s) (lastly_parts s k.0 k.1)) (record { order = opened_orderly o k.0 k.1 set.factors; last = closed_none s (opened o) (opened_closed o) }) j legal).last
