-- The numbers of rounds: nothing was asked, and no Values came, of a round past the last one.
use Rattle.std.proofs.Common.{◌≡◌, ℕ, Bool, true, false, ◌+◌, ◌≤◌, ◌<◌, ◌==◌, List, [], ◌∷◌, ◌++◌, Option, None, refl, ap, ◌∙◌, subst, arith}
use Rattle.std.specs.Prelude.{ℤ, if◌then◌else◌}
use Rattle.std.proofs.lemmas.Bool.{eqb-true, ne_eqb}
use Rattle.tk_base.specs.Settings.{Setup}
use Rattle.tk_base.specs.declared.ids.Mon.{Mon}
use Rattle.tk_frames.specs.declared.frame.Frame.{Frame}
use Rattle.tk_frames.specs.declared.frame.Frame.TheVariants as f
use Rattle.tk_alloc.specs.declared.reported.Reported.{Reported}
use Rattle.tk_journal.specs.Walks.{walk}
use Rattle.tk_journal.specs.Readings.{last_round, asked_of, values_of, values_for}
use Rattle.tk_journal.specs.Turns.{rounds, rounds_after, collects, is_lone_full, kind_of}
use Rattle.tk_journal.specs.Refusal.{refusal_of}
use Rattle.tk_journal.specs.declared.noted.Noted.{Noted}
use Rattle.tk_journal.specs.declared.noted.Noted.TheVariants as n
use Rattle.tk_journal.proofs.Appends.{later, walk-append}
use Rattle.tk_journal.proofs.Pieces.{batch, batch_values, got_round, got_asked, got_values}
use Rattle.tk_journal.proofs.Batches.{named, collects_other, collects_round, other_round, other_asked}
use Rattle.tk_journal.proofs.Same.{AreSame}
use Rattle.tk_journal.proofs.Accepted.{values_late}

pub record AreCounted (s : Setup) (j : List Noted) : Type 0 where
  pub last : last_round j ≤ rounds s j
  pub asked : (r mon : ℕ) → last_round j < r → asked_of r mon j ≡ None
  pub values : (r mon : ℕ) → last_round j < r → values_of r mon j ≡ None

pub counted_same : (s : Setup) (a b : List Noted) → AreSame s a b → AreCounted s a → AreCounted s b
counted_same s a b e c = record {
  last = let x = e.round in let y = e.count in let z = c.last in omega (arith, x, y, z);
  asked = λ r mon late. e.asked r mon ∙ c.asked r mon (let x = e.round in omega (arith, x, late));
  values = λ r mon late. e.values r mon ∙ c.values r mon (let x = e.round in omega (arith, x, late));
}

-- ---- a taken frame

more_or_same : (b : Bool) (count : ℕ) → count ≤ (if b then count + 1 else count)
more_or_same true count = omega arith
more_or_same false count = omega arith

pub got_count : (s : Setup) (j : List Noted) (from : Mon) (frame : Frame)
    → rounds s (j ++ n.Got from frame ∷ []) ≡ (if is_lone_full s (kind_of s j from.0 frame) then rounds s j + 1 else rounds s j)
unfolding rounds
got_count s j from frame = walk-append (rounds_after s) [] 0 j (n.Got from frame ∷ [])

later_none : (b : Bool) (x : Option Reported) → (b ≡ true → x ≡ None) → later None (if b then x else None) ≡ None
later_none true x h = ap (later None) (h refl)
later_none false x h = refl

pub counted_got : (s : Setup) (j : List Noted) (from : Mon) (frame : Frame) → refusal_of s j from.0 frame ≡ None → AreCounted s j → AreCounted s (j ++ n.Got from frame ∷ [])
counted_got s j from frame none c = record {
  last = let x = got_round j from frame in let y = got_count s j from frame in let z = c.last in let w = more_or_same (is_lone_full s (kind_of s j from.0 frame)) (rounds s j) in omega (arith, x, y, z, w);
  asked = λ r mon late. got_asked r mon j from frame ∙ c.asked r mon (let x = got_round j from frame in omega (arith, x, late));
  values = λ r mon late.
      let before : last_round j < r = (let x = got_round j from frame in omega (arith, x, late)) in
      got_values r mon j from frame
      ∙ ap (λ (o : Option Reported). later o (if from.0 == mon then values_for r mon frame else None)) (c.values r mon before)
      ∙ later_none (from.0 == mon) (values_for r mon frame) (λ same. subst (λ (q : ℕ). values_for r q frame ≡ None) (eqb-true from.0 mon same) (values_late s j from.0 r frame none before));
}

-- ---- Collects of a new round

count_collects : (s : Setup) (front : List Noted) (count round : ℕ) (asked : List ℕ) (q : ℕ) (mons : List ℕ) → walk (rounds_after s) front count (collects round asked (q ∷ mons)) ≡ round
count_collects s front count round asked q [] = refl
count_collects s front count round asked q (p ∷ mons) = count_collects s (front ++ n.Sent (record { 0 = q }) (f.Collect round asked) ∷ []) round round asked p mons

pub collects_count : (s : Setup) (j : List Noted) (round : ℕ) (asked : List ℕ) (q : ℕ) (mons : List ℕ) → rounds s (j ++ collects round asked (q ∷ mons)) ≡ round
unfolding rounds
collects_count s j round asked q mons = walk-append (rounds_after s) [] 0 j (collects round asked (q ∷ mons)) ∙ count_collects s j (walk (rounds_after s) [] 0 j) round asked q mons

pub counted_collects : (s : Setup) (j : List Noted) (round : ℕ) (asked : List ℕ) (q : ℕ) (mons : List ℕ) → last_round j < round → AreCounted s j → AreCounted s (j ++ collects round asked (q ∷ mons))
counted_collects s j round asked q mons new c = record {
  last = let x = collects_round j round asked q mons in let y = collects_count s j round asked q mons in omega (arith, x, y);
  asked = λ r mon late.
      let past : round < r = (let x = collects_round j round asked q mons in omega (arith, x, late)) in
      collects_other r round mon j asked (q ∷ mons) (ne_eqb round r (λ same. omega (arith, past, same))) ∙ c.asked r mon (omega (arith, new, past));
  values = λ r mon late.
      let past : round < r = (let x = collects_round j round asked q mons in omega (arith, x, late)) in
      batch_values r mon j (λ m. m) (λ _. f.Collect round asked) (q ∷ mons) ∙ c.values r mon (omega (arith, new, past));
}

-- ---- Assigns

count_named : {A : Type 0} (s : Setup) (front : List Noted) (count : ℕ) (to seq : A → ℕ) (members : List ℕ) (changes : A → List (ℕ × ℤ)) (rows : List A)
    → walk (rounds_after s) front count (batch to (named seq members changes) rows) ≡ count
count_named s front count to seq members changes [] = refl
count_named s front count to seq members changes (d ∷ rows) = count_named s (front ++ n.Sent (record { 0 = to d }) (named seq members changes d) ∷ []) count to seq members changes rows

pub named_count : {A : Type 0} (s : Setup) (j : List Noted) (to seq : A → ℕ) (members : List ℕ) (changes : A → List (ℕ × ℤ)) (rows : List A)
    → rounds s (j ++ batch to (named seq members changes) rows) ≡ rounds s j
unfolding rounds
named_count s j to seq members changes rows = walk-append (rounds_after s) [] 0 j (batch to (named seq members changes) rows) ∙ count_named s j (walk (rounds_after s) [] 0 j) to seq members changes rows

pub named_round : {A : Type 0} (j : List Noted) (to seq : A → ℕ) (members : List ℕ) (changes : A → List (ℕ × ℤ)) (rows : List A)
    → last_round (j ++ batch to (named seq members changes) rows) ≡ last_round j
named_round j to seq members changes rows = other_round j to (named seq members changes) rows (λ _. refl)

pub named_asked : {A : Type 0} (r mon : ℕ) (j : List Noted) (to seq : A → ℕ) (members : List ℕ) (changes : A → List (ℕ × ℤ)) (rows : List A)
    → asked_of r mon (j ++ batch to (named seq members changes) rows) ≡ asked_of r mon j
named_asked r mon j to seq members changes rows = other_asked r mon j to (named seq members changes) rows (λ _. refl)

pub counted_named : {A : Type 0} (s : Setup) (j : List Noted) (to seq : A → ℕ) (members : List ℕ) (changes : A → List (ℕ × ℤ)) (rows : List A) → AreCounted s j → AreCounted s (j ++ batch to (named seq members changes) rows)
counted_named s j to seq members changes rows c =
    let x = named_round j to seq members changes rows in
    record {
      last = let y = named_count s j to seq members changes rows in let z = c.last in omega (arith, x, y, z);
      asked = λ r mon late. named_asked r mon j to seq members changes rows ∙ c.asked r mon (omega (arith, x, late));
      values = λ r mon late. batch_values r mon j to (named seq members changes) rows ∙ c.values r mon (omega (arith, x, late));
    }
