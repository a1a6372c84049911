-- Legal journals by their turns: an induction, and that each is orderly.
use Rattle.std.proofs.Common.{◌≡◌, ℕ, suc, zero, false, ◌+◌, List, [], ◌∷◌, ◌++◌, length, map, None, refl, sym, ap, ◌∙◌, subst, arith}
use Rattle.std.specs.Prelude.{ℤ, is_some}
use Rattle.std.specs.List.{range_with_len, enumerate_from, list_any}
use Rattle.std.proofs.lemmas.List.{append-nil, append_assoc}
use Rattle.tk_base.specs.Settings.{Setup}
use Rattle.tk_base.specs.declared.ids.Mon.{Mon}
use Rattle.tk_frames.specs.declared.frame.Frame.{Frame}
use Rattle.tk_journal.specs.Readings.{assigns_to, assigns_sent, seqs_to, last_round, asked_of, values_of, waits_for, is_open}
use Rattle.tk_journal.specs.Turns.{rounds, rounds_after, wide_collects, demanded}
use Rattle.tk_journal.specs.Publishing.{closing}
use Rattle.tk_journal.specs.Refusal.{refusal_of, is_report}
use Rattle.tk_journal.specs.Legal.{Opening, opened, IsAccepted, AreAccepted, IsLegal, turn_of, played_from, inputs_of}
use Rattle.tk_journal.specs.declared.noted.Noted.{Noted}
use Rattle.tk_journal.specs.declared.noted.Noted.TheVariants as n
use Rattle.tk_journal.proofs.Appends.{walk-append, seqs_to-append, assigns_to-append, members_at-append, last_round-append, asked_of-append, values_of-append, answer_of-append}
use Rattle.tk_journal.proofs.Same.{same_closing, open_by}
use Rattle.tk_journal.specs.Laws.{IsMonitor}
use Rattle.tk_journal.proofs.Counting.{AreCounted}
use Rattle.tk_journal.proofs.Naming.{AreNumbered, named_same}
use Rattle.tk_journal.proofs.Orderly.{IsOrderly, open_named, orderly_same, orderly_wide, orderly_assigned, numbered_same}
use Rattle.tk_journal.proofs.Turning.{orderly_demanded}

-- what turns carry on from a beginning holds at the end of every legal journal
pub record Carries (s : Setup) (P : List Noted → Type 0) : Type 0 where
  pub turn : (before : List Noted) (input : Noted) → IsAccepted s before input → P before → P (before ++ turn_of s before input)

carried : (s : Setup) (P : List Noted → Type 0) → Carries s P → (before inputs : List Noted) → AreAccepted s before inputs → P before → P (played_from s before inputs)
carried s P c before [] accepted here = here
carried s P c before (input ∷ inputs) accepted here = carried s P c (before ++ turn_of s before input) inputs accepted.1 (c.turn before input accepted.0 here)

pub legal_carries : (o : Opening) (P : List Noted → Type 0) → Carries o.settings P → P (opened o) → (j : List Noted) → IsLegal o j → P j
legal_carries o P c here j legal = subst P (sym legal.played) (carried o.settings P c (opened o) (inputs_of j) legal.accepted here)

-- ---- the turn of a frame, in its three parts

pub record FrameTurn (s : Setup) (P : List Noted → Type 0) : Type 0 where
  pub demands : (before : List Noted) (from : Mon) (frame : Frame) → IsMonitor s from.0 → refusal_of s before from.0 frame ≡ None → P before → P (before ++ n.Got from frame ∷ [] ++ demanded s before from.0 frame)
  pub closes : (j : List Noted) → P j → P (j ++ closing s j)
  pub tunes : (before : List Noted) (k : ℕ) (epsilon : ℤ) → IsAccepted s before (n.Tuned k epsilon) → P before → P (before ++ n.Tuned k epsilon ∷ [] ++ wide_collects s (rounds s before + 1))

by_got : (s : Setup) (P : List Noted → Type 0) → FrameTurn s P → (before : List Noted) (from : Mon) (frame : Frame) → IsAccepted s before (n.Got from frame) → P before
    → P (before ++ turn_of s before (n.Got from frame))
unfolding turn_of
by_got s P t before from frame accepted here =
    let turn = n.Got from frame ∷ demanded s before from.0 frame in
    let whole : before ++ n.Got from frame ∷ [] ++ demanded s before from.0 frame ≡ before ++ turn = append_assoc before (n.Got from frame ∷ []) (demanded s before from.0 frame) in
    let range : IsMonitor s from.0 = record { from_one = accepted.0; within = accepted.1 } in
    let demanded' : P (before ++ turn) = subst P whole (t.demands before from frame range accepted.2 here) in
    subst P (append_assoc before turn (closing s (before ++ turn))) (t.closes (before ++ turn) demanded')

by_tuned : (s : Setup) (P : List Noted → Type 0) → FrameTurn s P → (before : List Noted) (k : ℕ) (epsilon : ℤ) → IsAccepted s before (n.Tuned k epsilon) → P before → P (before ++ turn_of s before (n.Tuned k epsilon))
unfolding turn_of
by_tuned s P t before k epsilon accepted here = subst P (append_assoc before (n.Tuned k epsilon ∷ []) (wide_collects s (rounds s before + 1))) (t.tunes before k epsilon accepted here)

by_input : (s : Setup) (P : List Noted → Type 0) → FrameTurn s P → (before : List Noted) (input : Noted) → IsAccepted s before input → P before → P (before ++ turn_of s before input)
by_input s P t before (n.Got from frame) accepted here = by_got s P t before from frame accepted here
by_input s P t before (n.Sent to frame) accepted here = absurd accepted
by_input s P t before (n.Published publication) accepted here = absurd accepted
by_input s P t before (n.Tuned k epsilon) accepted here = by_tuned s P t before k epsilon accepted here

pub by_parts : (s : Setup) (P : List Noted → Type 0) → FrameTurn s P → Carries s P
by_parts s P t = record { turn = by_input s P t }

-- ---- a retune

pub tuned_waits : (j : List Noted) (k : ℕ) (epsilon : ℤ) (s : Setup) → is_open s (j ++ n.Tuned k epsilon ∷ []) ≡ is_open s j
unfolding asked_of values_of
tuned_waits j k epsilon s =
    open_by s j (j ++ n.Tuned k epsilon ∷ []) (last_round-append j (n.Tuned k epsilon ∷ [])) (λ r mon. asked_of-append r mon j (n.Tuned k epsilon ∷ [])) (λ r mon. values_of-append r mon j (n.Tuned k epsilon ∷ []))

pub tuned_assigns : (mon : ℕ) (j : List Noted) (k : ℕ) (epsilon : ℤ) → assigns_to mon (j ++ n.Tuned k epsilon ∷ []) ≡ assigns_to mon j
tuned_assigns mon j k epsilon = assigns_to-append mon j (n.Tuned k epsilon ∷ []) ∙ append-nil (assigns_to mon j)

tuned_sent : (mon : ℕ) (j : List Noted) (k : ℕ) (epsilon : ℤ) → assigns_sent mon (j ++ n.Tuned k epsilon ∷ []) ≡ assigns_sent mon j
unfolding assigns_sent
tuned_sent mon j k epsilon = ap length (tuned_assigns mon j k epsilon)

pub orderly_tuned : (s : Setup) (j : List Noted) (k : ℕ) (epsilon : ℤ) → IsOrderly s j → IsOrderly s (j ++ n.Tuned k epsilon ∷ [])
unfolding asked_of values_of rounds
orderly_tuned s j k epsilon o =
    let e = n.Tuned k epsilon ∷ [] in
    let round = last_round-append j e in
    record {
      counted = record {
        last = (let count : rounds s (j ++ e) ≡ rounds s j = walk-append (rounds_after s) [] 0 j e in let l = o.counted.last in omega (arith, round, count, l));
        asked = λ r mon late. asked_of-append r mon j e ∙ o.counted.asked r mon (omega (arith, round, late));
        values = λ r mon late. values_of-append r mon j e ∙ o.counted.values r mon (omega (arith, round, late));
      };
      openers = λ is mon r none.
          ap is_report (answer_of-append mon j e)
          ∙ o.openers (sym (tuned_waits j k epsilon s) ∙ is) mon r
          (sym (ap (λ q. is_some (asked_of q mon (j ++ e))) round ∙ ap is_some (asked_of-append (last_round j) mon j e)) ∙ none);
      named = named_same s j (j ++ e) (λ mon. tuned_assigns mon j k epsilon) (members_at-append j e) o.named;
      numbered = numbered_same s j (j ++ e) (λ mon. seqs_to-append mon j e ∙ append-nil (seqs_to mon j)) (λ mon. tuned_sent mon j k epsilon) o.numbered;
    }

pub tuned_round : (j : List Noted) (k : ℕ) (epsilon : ℤ) → last_round (j ++ n.Tuned k epsilon ∷ []) ≡ last_round j
tuned_round j k epsilon = last_round-append j (n.Tuned k epsilon ∷ [])

-- ---- every legal journal is orderly

pub orderly_parts : (s : Setup) (k : ℕ) → s.monitors ≡ suc k → FrameTurn s (IsOrderly s)
orderly_parts s k some = record {
  demands = λ before from frame range none o. orderly_demanded s before from frame k some range none o;
  closes = λ j o. orderly_same s j (j ++ closing s j) (same_closing s j) o;
  tunes = λ before q epsilon accepted o. orderly_wide s (before ++ n.Tuned q epsilon ∷ []) (rounds s before + 1) k some
      (let l = o.counted.last in let r = tuned_round before q epsilon in omega (arith, l, r)) (orderly_tuned s before q epsilon o);
}

-- nothing was opened yet
none_open : (r a k : ℕ) → list_any (λ mon. waits_for r mon []) (range_with_len a k) ≡ false
unfolding waits_for asked_of
none_open r a zero = refl
none_open r a (suc k) = none_open r (a + 1) k

pub empty_closed : (s : Setup) → is_open s [] ≡ false
unfolding is_open
empty_closed s = none_open (last_round []) 1 s.monitors

empty_counted : (s : Setup) → AreCounted s []
unfolding last_round asked_of values_of rounds
empty_counted s = record { last = omega arith; asked = λ _ _ _. refl; values = λ _ _ _. refl }

empty_numbered : (s : Setup) → AreNumbered s []
unfolding assigns_sent
empty_numbered s mon r = refl

pub numbered_factors : (first : ℕ) (factors : List (List (ℕ × ℤ))) → map (λ (p : ℕ × List (ℕ × ℤ)). p.0) (enumerate_from first factors) ≡ range_with_len first (length factors)
numbered_factors first [] = refl
numbered_factors first (x ∷ factors) = ap (λ xs. first ∷ xs) (numbered_factors (first + 1) factors)

pub opened_orderly : (o : Opening) (k : ℕ) → o.settings.monitors ≡ suc k → length o.factors ≡ o.settings.monitors → IsOrderly o.settings (opened o)
unfolding assigns_sent
opened_orderly o k some size =
    orderly_assigned o.settings [] (λ (p : ℕ × List (ℕ × ℤ)). p.0) (λ _. 1) o.members (λ p. p.1) (enumerate_from 1 o.factors) k some
    (numbered_factors 1 o.factors ∙ ap (range_with_len 1) size) (λ p. refl) (empty_closed o.settings) (empty_counted o.settings) (empty_numbered o.settings)

-- no round is open at the beginning
pub opened_closed : (o : Opening) → is_open o.settings (opened o) ≡ false
opened_closed o =
    open_named o.settings [] (λ (p : ℕ × List (ℕ × ℤ)). p.0) (λ _. 1) o.members (λ p. p.1) (enumerate_from 1 o.factors) ∙ empty_closed o.settings

pub legal_orderly : (o : Opening) (k : ℕ) → o.settings.monitors ≡ suc k → length o.factors ≡ o.settings.monitors → (j : List Noted) → IsLegal o j → IsOrderly o.settings j
legal_orderly o k some size j legal =
    legal_carries o (IsOrderly o.settings) (by_parts o.settings (IsOrderly o.settings) (orderly_parts o.settings k some)) (opened_orderly o k some size) j legal
