-- Pieces that go one after the other.
use Rattle.std.proofs.Common.{◌≡◌, ℕ, ◌+◌, ◌++◌, List, take, drop, ap, sym, ◌∙◌, append_assoc, Bool, true}
use Rattle.std.proofs.lemmas.List.{drop-drop, take-append-drop}
use Rattle.tk_wire.specs.Meanings.{Traffic, Arrives, Departs}
use Rattle.tk_wire.specs.Buffered.{Loses}

pub arrives_more : (a b : List ℕ) (x y z : Traffic) → Arrives a x y → Arrives b y z → Arrives (a ++ b) x z
arrives_more a b x y z p q = record {
  waiting = p.waiting ∙ ap (λ ys. a ++ ys) q.waiting ∙ sym (append_assoc a b z.waiting);
  came = q.came ∙ ap (λ ys. ys ++ b) p.came ∙ append_assoc x.came a b;
  went = q.went ∙ p.went;
  held = q.held ∙ p.held;
  room = q.room ∙ p.room;
}

pub departs_more : (a b : List ℕ) (x y z : Traffic) → Departs a x y → Departs b y z → Departs (a ++ b) x z
departs_more a b x y z p q = record {
  went = q.went ∙ ap (λ ys. ys ++ b) p.went ∙ append_assoc x.went a b;
  held = q.held ∙ ap (λ ys. ys ++ b) p.held ∙ append_assoc x.held a b;
  came = q.came ∙ p.came;
  waiting = q.waiting ∙ p.waiting;
  room = q.room ∙ p.room;
}

-- one more give
pub loses_more : (start n : ℕ) (tells : Bool) (old items : List ℕ) (before between after : Traffic) → Loses tells old (drop start items) before between → (tells ≡ true → Departs (take n (drop start items)) between after) → Loses tells old (drop (start + n) items) before after
loses_more start n tells old items before between after l told = record {
  given = l.given ++ take n (drop start items);
  front = l.front ∙ ap (λ ys. l.given ++ ys) (sym (take-append-drop n (drop start items)) ∙ ap (λ ys. take n (drop start items) ++ ys) (drop-drop n start items)) ∙ sym (append_assoc l.given (take n (drop start items)) (drop (start + n) items));
  departed = λ is. departs_more l.given (take n (drop start items)) before between after (l.departed is) (told is);
}
