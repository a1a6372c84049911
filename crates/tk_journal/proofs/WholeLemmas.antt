-- Turns stand whole: a front of a legal journal that ends before an input is legal, the input is accepted over it, and its turn follows.
use Rattle.tk_frames.specs.declared.frame.Frame.TheVariants as f
use Rattle.tk_journal.specs.declared.noted.Noted.TheVariants as n
use Rattle.std.proofs.Common.{◌≡◌, ℕ, ◌+◌, Bool, true, false, List, [], ◌∷◌, ◌++◌, length, refl, sym, ap, ◌∙◌, subst, arith, append_assoc, append-nil, ◌-◌}
use Rattle.std.specs.Prelude.{ℤ, if◌then◌else◌}
use Rattle.std.proofs.lemmas.Bool.{false≢true}
use Rattle.tk_base.specs.Objects.{objects}
use Rattle.tk_base.specs.Settings.{Setup}
use Rattle.tk_journal.specs.Legal.{AreAccepted, IsAccepted, IsLegal, Opening, inputs_of, is_input, opened, played_from, turn_of}
use Rattle.tk_journal.specs.Publishing.{closing, is_due, is_last, publication_at, stops}
use Rattle.tk_journal.specs.Readings.{monitors}
use Rattle.tk_journal.specs.Turns.{demanded, rounds, wide_collects}
use Rattle.tk_journal.specs.declared.noted.Noted.{Noted}
use Rattle.tk_journal.specs.declared.publication.Publication.{Publication}
use Rattle.tk_journal.proofs.LegalLemmas.{legal_carries}
use Rattle.tk_journal.proofs.Published.{AreSent, batch_sent, collects_are_sent, demanded_sent}
use Rattle.tk_journal.proofs.SentLemmas.{flag}
use Rattle.tk_journal.specs.Whole.{StandsWhole, BeginsWithInput}

-- ---- inputs

pub inputs-append : (a b : List Noted) → inputs_of (a ++ b) ≡ inputs_of a ++ inputs_of b
inputs-append [] b = refl
inputs-append (n.Got from frame ∷ a) b = ap (λ xs. n.Got from frame ∷ xs) (inputs-append a b)
inputs-append (n.Sent to frame ∷ a) b = inputs-append a b
inputs-append (n.Published publication ∷ a) b = inputs-append a b
inputs-append (n.Tuned k epsilon ∷ a) b = ap (λ xs. n.Tuned k epsilon ∷ xs) (inputs-append a b)

pub sent_inputs : (entries : List Noted) → AreSent entries → inputs_of entries ≡ []
sent_inputs [] sent = refl
sent_inputs (n.Got from frame ∷ entries) sent = absurd sent
sent_inputs (n.Sent to frame ∷ entries) sent = sent_inputs entries sent
sent_inputs (n.Published publication ∷ entries) sent = absurd sent
sent_inputs (n.Tuned k epsilon ∷ entries) sent = absurd sent

ends_as : (due last : Bool) (p : Publication) (stops' : List Noted) → inputs_of stops' ≡ [] → inputs_of (if due then n.Published p ∷ (if last then stops' else []) else []) ≡ []
ends_as false last p stops' none = refl
ends_as true false p stops' none = refl
ends_as true true p stops' none = none

pub closing_inputs : (s : Setup) (j : List Noted) → inputs_of (closing s j) ≡ []
unfolding closing
closing_inputs s j = ends_as (is_due s j) (is_last s j) (publication_at s j) (stops s) (sent_inputs (stops s) (batch_sent (λ (mon : ℕ). mon) (λ _. f.Stop) (monitors s)))

-- ---- a turn is its input, and then no other input

pub record Turn (s : Setup) (before : List Noted) (input : Noted) : Type 0 where
  pub rest : List Noted
  pub is : turn_of s before input ≡ input ∷ rest
  pub none : inputs_of rest ≡ []
  pub kind : is_input input ≡ true

pub turn_is : (s : Setup) (before : List Noted) (input : Noted) → IsAccepted s before input → Turn s before input
unfolding turn_of
turn_is s before (n.Got from frame) accepted =
    let turn = n.Got from frame ∷ demanded s before from.0 frame in
    record {
      rest = demanded s before from.0 frame ++ closing s (before ++ turn);
      is = refl;
      none = inputs-append (demanded s before from.0 frame) (closing s (before ++ turn)) ∙ ap (λ xs. xs ++ inputs_of (closing s (before ++ turn))) (sent_inputs (demanded s before from.0 frame) (demanded_sent s before from.0 frame)) ∙ closing_inputs s (before ++ turn);
      kind = refl;
    }
turn_is s before (n.Tuned k epsilon) accepted = record {
  rest = wide_collects s (rounds s before + 1);
  is = refl;
  none = sent_inputs (wide_collects s (rounds s before + 1)) (collects_are_sent (rounds s before + 1) (objects s.objects) (monitors s));
  kind = refl;
}
turn_is s before (n.Sent to frame) accepted = absurd accepted
turn_is s before (n.Published publication) accepted = absurd accepted

kept_first : (e : Noted) (xs : List Noted) → is_input e ≡ true → inputs_of (e ∷ xs) ≡ e ∷ inputs_of xs
kept_first (n.Got from frame) xs is = refl
kept_first (n.Tuned k epsilon) xs is = refl
kept_first (n.Sent to frame) xs is = absurd (false≢true is)
kept_first (n.Published publication) xs is = absurd (false≢true is)

turn_inputs : (s : Setup) (before : List Noted) (input : Noted) → IsAccepted s before input → inputs_of (turn_of s before input) ≡ input ∷ []
turn_inputs s before input accepted =
    let t = turn_is s before input accepted in
    ap inputs_of t.is ∙ kept_first input t.rest t.kind ∙ ap (λ xs. input ∷ xs) t.none

-- ---- played

pub played-append : (s : Setup) (before inputs more : List Noted) → played_from s before (inputs ++ more) ≡ played_from s (played_from s before inputs) more
played-append s before [] more = refl
played-append s before (input ∷ inputs) more = played-append s (before ++ turn_of s before input) inputs more

accepted-push : (s : Setup) (before inputs : List Noted) (input : Noted) → AreAccepted s before inputs → IsAccepted s (played_from s before inputs) input → AreAccepted s before (inputs ++ input ∷ [])
accepted-push s before [] input each last = (last, tt)
accepted-push s before (first ∷ inputs) input each last = (each.0, accepted-push s (before ++ turn_of s before first) inputs input each.1 last)

accepted-split : (s : Setup) (before inputs more : List Noted) → AreAccepted s before (inputs ++ more) → AreAccepted s before inputs × AreAccepted s (played_from s before inputs) more
accepted-split s before [] more each = (tt, each)
accepted-split s before (first ∷ inputs) more each = let rest = accepted-split s (before ++ turn_of s before first) inputs more each.1 in ((each.0, rest.0), rest.1)

played_inputs : (s : Setup) (before inputs : List Noted) → AreAccepted s before inputs → inputs_of (played_from s before inputs) ≡ inputs_of before ++ inputs
played_inputs s before [] each = sym (append-nil (inputs_of before))
played_inputs s before (input ∷ inputs) each =
    played_inputs s (before ++ turn_of s before input) inputs each.1
    ∙ ap (λ xs. xs ++ inputs) (inputs-append before (turn_of s before input) ∙ ap (λ xs. inputs_of before ++ xs) (turn_inputs s before input each.0))
    ∙ append_assoc (inputs_of before) (input ∷ []) inputs

pub record Beyond (xs ys : List Noted) : Type 0 where
  pub rest : List Noted
  pub is : ys ≡ xs ++ rest

played_beyond : (s : Setup) (before inputs : List Noted) → Beyond before (played_from s before inputs)
played_beyond s before [] = record { rest = []; is = sym (append-nil before) }
played_beyond s before (input ∷ inputs) =
    let b = played_beyond s (before ++ turn_of s before input) inputs in
    record { rest = turn_of s before input ++ b.rest; is = b.is ∙ append_assoc before (turn_of s before input) b.rest }

opened_inputs : (rows : List (ℕ × List (ℕ × ℤ))) (members : List ℕ) → inputs_of (Rattle.std.specs.Prelude.map (λ p. n.Sent (record { 0 = p.0 }) (f.Assign 1 members p.1)) rows) ≡ []
opened_inputs [] members = refl
opened_inputs (p ∷ rows) members = opened_inputs rows members

-- ---- a legal journal goes on by a turn

pub goes_on : (o : Opening) (j : List Noted) (input : Noted) → IsLegal o j → IsAccepted o.settings j input → IsLegal o (j ++ turn_of o.settings j input)
goes_on o j input legal accepted =
    let s = o.settings in
    let turn = turn_of s j input in
    let all : inputs_of (j ++ turn) ≡ inputs_of j ++ input ∷ [] = inputs-append j turn ∙ ap (λ xs. inputs_of j ++ xs) (turn_inputs s j input accepted) in
    let here : IsAccepted s (played_from s (opened o) (inputs_of j)) input = subst (λ xs. IsAccepted s xs input) legal.played accepted in
    record {
      played = ap (λ xs. xs ++ turn_of s xs input) legal.played ∙ sym (played-append s (opened o) (inputs_of j) (input ∷ [])) ∙ ap (played_from s (opened o)) (sym all);
      accepted = subst (AreAccepted s (opened o)) (sym all) (accepted-push s (opened o) (inputs_of j) input legal.accepted here);
    }

record Both (o : Opening) (P : List Noted → Type 0) (j : List Noted) : Type 0 where
  legal : IsLegal o j
  holds : P j

pub opened_legal : (o : Opening) → IsLegal o (opened o)
opened_legal o =
    let none : inputs_of (opened o) ≡ [] = opened_inputs (Rattle.std.specs.List.enumerate_from 1 o.factors) o.members in
    record { played = ap (played_from o.settings (opened o)) (sym none); accepted = subst (AreAccepted o.settings (opened o)) (sym none) tt }

-- an induction over turns in which each front is known to be legal
pub by_turns : (o : Opening) (P : List Noted → Type 0) → ((before : List Noted) (input : Noted) → IsAccepted o.settings before input → IsLegal o before → P before → P (before ++ turn_of o.settings before input)) → P (opened o) → (j : List Noted) → IsLegal o j → P j
by_turns o P step here j legal =
    (legal_carries o (Both o P) (record { turn = λ before input accepted h. record { legal = goes_on o before input h.legal accepted; holds = step before input accepted h.legal h.holds } })
    (record { legal = opened_legal o; holds = here }) j legal).holds

-- ---- turns stand whole

count-cons : (e : Noted) (xs : List Noted) → length (inputs_of (e ∷ xs)) ≡ flag (is_input e) + length (inputs_of xs)
count-cons (n.Got from frame) xs = omega arith
count-cons (n.Tuned k epsilon) xs = omega arith
count-cons (n.Sent to frame) xs = omega arith
count-cons (n.Published publication) xs = omega arith

heads_agree : (x y : Noted) (xs ys : List Noted) → x ∷ xs ≡ y ∷ ys → x ≡ y
heads_agree x y xs ys e = cc

tails_agree : (x y : Noted) (xs ys : List Noted) → x ∷ xs ≡ y ∷ ys → xs ≡ ys
tails_agree x y xs ys e = cc

-- a flag that is set counts 1
pub one_if : (b : Bool) → b ≡ true → flag b ≡ 1
one_if true is = refl
one_if false is = absurd (false≢true is)

same_front : (xs ys a b : List Noted) (e : Noted) → is_input e ≡ true → length (inputs_of xs) ≡ length (inputs_of ys) → xs ++ e ∷ a ≡ ys ++ e ∷ b → xs ≡ ys
same_front [] [] a b e kind count is = refl
same_front [] (y ∷ ys) a b e kind count is =
    absurd (let h : is_input y ≡ true = ap is_input (sym (heads_agree e y a (ys ++ e ∷ b) is)) ∙ kind in let c = count-cons y ys in let one = one_if (is_input y) h in omega (arith, c, one, count))
same_front (x ∷ xs) [] a b e kind count is =
    absurd (let h : is_input x ≡ true = ap is_input (heads_agree x e (xs ++ e ∷ a) b is) ∙ kind in let c = count-cons x xs in let one = one_if (is_input x) h in omega (arith, c, one, count))
same_front (x ∷ xs) (y ∷ ys) a b e kind count is =
    let head = heads_agree x y (xs ++ e ∷ a) (ys ++ e ∷ b) is in
    let c = count-cons x xs in
    let d = count-cons y ys in
    let same : flag (is_input x) ≡ flag (is_input y) = ap (λ q. flag (is_input q)) head in
    ap (λ q. q ∷ xs) head ∙ ap (λ qs. y ∷ qs) (same_front xs ys a b e kind (omega (arith, c, d, same, count)) (tails_agree x y (xs ++ e ∷ a) (ys ++ e ∷ b) is))

-- what stands behind the same front is the same
pub behind_front : (xs a b : List Noted) → xs ++ a ≡ xs ++ b → a ≡ b
behind_front [] a b is = is
behind_front (x ∷ xs) a b is = behind_front xs a b (tails_agree x x (xs ++ a) (xs ++ b) is)

pub stands_whole : (o : Opening) (before : List Noted) (e : Noted) (after : List Noted) → IsLegal o (before ++ e ∷ after) → is_input e ≡ true → StandsWhole o before e after
stands_whole o before e after legal kind =
    let s = o.settings in
    let ins = inputs_of before in
    let more = inputs_of after in
    let all : inputs_of (before ++ e ∷ after) ≡ ins ++ e ∷ more = inputs-append before (e ∷ after) ∙ ap (λ xs. ins ++ xs) (kept_first e after kind) in
    let accepted : AreAccepted s (opened o) (ins ++ e ∷ more) = subst (AreAccepted s (opened o)) all legal.accepted in
    let split = accepted-split s (opened o) ins (e ∷ more) accepted in
    let x = played_from s (opened o) ins in
    let own : inputs_of x ≡ ins = played_inputs s (opened o) ins split.0 ∙ ap (λ xs. xs ++ ins) (opened_inputs (Rattle.std.specs.List.enumerate_from 1 o.factors) o.members) in
    let beyond = played_beyond s (x ++ turn_of s x e) more in
    let t = turn_is s x e split.1.0 in
    let whole : before ++ e ∷ after ≡ x ++ turn_of s x e ++ beyond.rest = legal.played ∙ ap (played_from s (opened o)) all ∙ played-append s (opened o) ins (e ∷ more) ∙ beyond.is in
    let parts : x ++ turn_of s x e ++ beyond.rest ≡ x ++ e ∷ (t.rest ++ beyond.rest) = append_assoc x (turn_of s x e) beyond.rest ∙ ap (λ xs. x ++ (xs ++ beyond.rest)) t.is in
    let same : before ≡ x = same_front before x after (t.rest ++ beyond.rest) e kind (ap (λ (xs : List Noted). length xs) (sym own)) (whole ∙ parts) in
    let behind : e ∷ after ≡ turn_of s x e ++ beyond.rest = behind_front x (e ∷ after) (turn_of s x e ++ beyond.rest) (ap (λ xs. xs ++ e ∷ after) (sym same) ∙ whole ∙ append_assoc x (turn_of s x e) beyond.rest) in
    record {
      legal = record { played = same; accepted = split.0 };
      accepted = subst (λ xs. IsAccepted s xs e) (sym same) split.1.0;
      rest = beyond.rest;
      whole = subst (λ xs. e ∷ after ≡ turn_of s xs e ++ beyond.rest) (sym same) behind;
    }

-- what inputs lead to begins with an input, behind what stood before
pub begins_beyond : (s : Setup) (before inputs : List Noted) → AreAccepted s before inputs → (rest : List Noted) × (played_from s before inputs ≡ before ++ rest) × BeginsWithInput rest
begins_beyond s before [] each = ([], sym (append-nil before), tt)
begins_beyond s before (input ∷ inputs) each =
    let b = begins_beyond s (before ++ turn_of s before input) inputs each.1 in
    let t = turn_is s before input each.0 in
    (input ∷ (t.rest ++ b.0), b.1 ∙ append_assoc before (turn_of s before input) b.0 ∙ ap (λ xs. before ++ (xs ++ b.0)) t.is, t.kind)
