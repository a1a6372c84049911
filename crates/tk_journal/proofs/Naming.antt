-- The Assigns sent to each monitor: their sequence numbers count up, and the last of them names the members.
use Rattle.std.proofs.Common.{◌≡◌, ℕ, suc, zero, Bool, true, false, ◌+◌, ◌≤◌, ◌<◌, ◌==◌, List, [], ◌∷◌, ◌++◌, length, map, get_or, drop, refl, sym, ap, ◌∙◌, arith, inl, inr}
use Rattle.std.specs.Prelude.{ℤ, filter, if◌then◌else◌}
use Rattle.std.specs.List.{filter_map, range_with_len}
use Rattle.std.proofs.lemmas.Bool.{ne_eqb, eq-eqb, cases_eq}
use Rattle.std.proofs.lemmas.List.{append-nil, length-append, length-map}
use Rattle.tk_base.specs.Settings.{Setup}
use Rattle.tk_frames.specs.Assigns.{Assign, members_of}
use Rattle.tk_frames.proofs.AssignsLemmas.{members_of-push}
use Rattle.tk_journal.specs.Readings.{assigns_to, assigns_sent, members_at, seq_in, seqs_to}
use Rattle.tk_journal.specs.declared.noted.Noted.{Noted}
use Rattle.tk_journal.proofs.Appends.{seqs_to-append}
use Rattle.tk_journal.proofs.Pieces.{batch, batch_to}
use Rattle.tk_journal.proofs.Batches.{named, named_assigns, named_members}
use Rattle.tk_journal.specs.Laws.{IsMonitor}

-- ---- rows, one for each number of a range

pub no_row : {A : Type 0} (to : A → ℕ) (a k : ℕ) (rows : List A) (mon : ℕ) → map to rows ≡ range_with_len a k → mon < a → filter (λ e. to e == mon) rows ≡ []
no_row to a k [] mon is low = refl
no_row to a zero (d ∷ rows) mon is low = cc
no_row to a (suc k) (d ∷ rows) mon is low =
    let here : to d ≡ a = ap (λ xs. get_or xs 0 0) is in
    let rest : map to rows ≡ range_with_len (a + 1) k = ap (drop 1) is in
    ap (λ b. if b then d ∷ filter (λ e. to e == mon) rows else filter (λ e. to e == mon) rows) (ne_eqb (to d) mon (λ same. omega (arith, here, same, low)))
    ∙ no_row to (a + 1) k rows mon rest (omega (arith, low))

pub record IsRow {A : Type 0} (to : A → ℕ) (rows : List A) (mon : ℕ) : Type 0 where
  pub row : A
  pub alone : filter (λ e. to e == mon) rows ≡ row ∷ []
  pub own : to row ≡ mon

pub one_row : {A : Type 0} (to : A → ℕ) (a k : ℕ) (rows : List A) (mon : ℕ) → map to rows ≡ range_with_len a k → a ≤ mon → mon < a + k → IsRow to rows mon
one_row to a zero [] mon is low high = absurd (omega (arith, low, high))
one_row to a (suc k) [] mon is low high = cc
one_row to a zero (d ∷ rows) mon is low high = cc
one_row to a (suc k) (d ∷ rows) mon is low high =
    let here : to d ≡ a = ap (λ xs. get_or xs 0 0) is in
    let rest : map to rows ≡ range_with_len (a + 1) k = ap (drop 1) is in
    elim (cases_eq a mon) [
      | inl e ↦ record {
        row = d;
        alone = ap (λ b. if b then d ∷ filter (λ e. to e == mon) rows else filter (λ e. to e == mon) rows) (eq-eqb (to d) mon (here ∙ e))
            ∙ ap (λ xs. d ∷ xs) (no_row to (a + 1) k rows mon rest (omega (arith, e)));
        own = here ∙ e;
      }
      | inr ne ↦
          let later = one_row to (a + 1) k rows mon rest (omega (arith, low, ne)) (omega (arith, high)) in
          record {
            row = later.row;
            alone = ap (λ b. if b then d ∷ filter (λ e. to e == mon) rows else filter (λ e. to e == mon) rows) (ne_eqb (to d) mon (λ same. ne (sym here ∙ same))) ∙ later.alone;
            own = later.own;
          }
    ]

-- ---- the last Assign names the members

abbrev pub AreNamed : Setup → List Noted → Type 0
AreNamed s j = (mon : ℕ) → IsMonitor s mon → members_of (assigns_to mon j) ≡ members_at j

pub named_same : (s : Setup) (a b : List Noted) → ((mon : ℕ) → assigns_to mon b ≡ assigns_to mon a) → members_at b ≡ members_at a → AreNamed s a → AreNamed s b
named_same s a b assigns members h mon r = ap members_of (assigns mon) ∙ h mon r ∙ sym members

-- an Assign to each monitor
pub named_all : {A : Type 0} (s : Setup) (j : List Noted) (to seq : A → ℕ) (members : List ℕ) (changes : A → List (ℕ × ℤ)) (d : A) (rows : List A)
    → map to (d ∷ rows) ≡ range_with_len 1 s.monitors → AreNamed s (j ++ batch to (named seq members changes) (d ∷ rows))
named_all s j to seq members changes d rows is mon r =
    let one = one_row to 1 s.monitors (d ∷ rows) mon is r.from_one (let w = r.within in omega (arith, w)) in
    ap members_of (named_assigns mon j to seq members changes (d ∷ rows)
    ∙ ap (λ xs. assigns_to mon j ++ map (λ e. record { members = members; changes = changes e }) xs) one.alone)
    ∙ members_of-push (assigns_to mon j) (record { members = members; changes = changes one.row })
    ∙ sym (named_members j to seq members changes d rows)

either_named : (b : Bool) (assigns : List Assign) (assign : Assign) (members : List ℕ) → assign.members ≡ members → members_of assigns ≡ members
    → members_of (assigns ++ map (λ (e : Assign). e) (if b then assign ∷ [] else [])) ≡ members
either_named true assigns assign members own before = members_of-push assigns assign ∙ own
either_named false assigns assign members own before = ap members_of (append-nil assigns) ∙ before

map_if : {A B : Type 0} (g : A → B) (b : Bool) (d : A) → map g (if b then d ∷ [] else []) ≡ map (λ e. e) (if b then g d ∷ [] else [])
map_if g true d = refl
map_if g false d = refl

-- an Assign to one monitor, with the members as they are
pub named_one : {A : Type 0} (s : Setup) (j : List Noted) (to seq : A → ℕ) (changes : A → List (ℕ × ℤ)) (d : A) → AreNamed s j → AreNamed s (j ++ batch to (named seq (members_at j) changes) (d ∷ []))
named_one s j to seq changes d h mon r =
    ap members_of (named_assigns mon j to seq (members_at j) changes (d ∷ []) ∙ ap (λ xs. assigns_to mon j ++ xs) (map_if (λ e. record { members = members_at j; changes = changes e }) (to d == mon) d))
    ∙ either_named (to d == mon) (assigns_to mon j) (record { members = members_at j; changes = changes d }) (members_at j) refl (h mon r)
    ∙ sym (named_members j to seq (members_at j) changes d [])

-- ---- their numbers count up

abbrev pub AreNumbered : Setup → List Noted → Type 0
AreNumbered s j = (mon : ℕ) → IsMonitor s mon → seqs_to mon j ≡ range_with_len 1 (assigns_sent mon j)

pub range_push : (a k : ℕ) → range_with_len a k ++ (a + k) ∷ [] ≡ range_with_len a (k + 1)
range_push a zero = let e : a + 0 ≡ a = omega arith in ap (λ m. m ∷ []) e
range_push a (suc k) = ap (λ xs. a ∷ xs) (ap (λ m. range_with_len (a + 1) k ++ m ∷ []) (let e : a + suc k ≡ a + 1 + k = omega arith in e) ∙ range_push (a + 1) k) ∙ (let e : suc (k + 1) ≡ suc k + 1 = omega arith in ap (range_with_len a) e)

seqs_named : {A : Type 0} (seq : A → ℕ) (members : List ℕ) (changes : A → List (ℕ × ℤ)) (rows : List A) → filter_map seq_in (map (named seq members changes) rows) ≡ map seq rows
seqs_named seq members changes [] = refl
seqs_named seq members changes (d ∷ rows) = ap (λ xs. seq d ∷ xs) (seqs_named seq members changes rows)

seqs_batch : {A : Type 0} (mon : ℕ) (to seq : A → ℕ) (members : List ℕ) (changes : A → List (ℕ × ℤ)) (rows : List A) → seqs_to mon (batch to (named seq members changes) rows) ≡ map seq (filter (λ e. to e == mon) rows)
seqs_batch mon to seq members changes rows =
    ap (filter_map seq_in) (batch_to mon to (named seq members changes) rows) ∙ seqs_named seq members changes (filter (λ e. to e == mon) rows)

sent_batch : {A : Type 0} (mon : ℕ) (j : List Noted) (to seq : A → ℕ) (members : List ℕ) (changes : A → List (ℕ × ℤ)) (rows : List A)
    → assigns_sent mon (j ++ batch to (named seq members changes) rows) ≡ assigns_sent mon j + length (filter (λ e. to e == mon) rows)
unfolding assigns_sent
sent_batch mon j to seq members changes rows =
    ap length (named_assigns mon j to seq members changes rows)
    ∙ length-append (assigns_to mon j) (map (λ e. record { members = members; changes = changes e }) (filter (λ e. to e == mon) rows))
    ∙ ap (λ k. length (assigns_to mon j) + k) (length-map (filter (λ e. to e == mon) rows) (λ e. record { members = members; changes = changes e }))

-- the monitor of one row is sent the next number, the others nothing
numbered_row : {A : Type 0} (mon : ℕ) (j : List Noted) (to seq : A → ℕ) (members : List ℕ) (changes : A → List (ℕ × ℤ)) (rows : List A) (d : A)
    → filter (λ e. to e == mon) rows ≡ d ∷ [] → seq d ≡ assigns_sent mon j + 1 → seqs_to mon j ≡ range_with_len 1 (assigns_sent mon j)
    → seqs_to mon (j ++ batch to (named seq members changes) rows) ≡ range_with_len 1 (assigns_sent mon (j ++ batch to (named seq members changes) rows))
numbered_row mon j to seq members changes rows d alone next before =
    seqs_to-append mon j (batch to (named seq members changes) rows)
    ∙ ap (λ xs. seqs_to mon j ++ xs) (seqs_batch mon to seq members changes rows ∙ ap (map seq) alone)
    ∙ ap (λ xs. xs ++ seq d ∷ []) before
    ∙ ap (λ m. range_with_len 1 (assigns_sent mon j) ++ m ∷ []) (next ∙ (let e : assigns_sent mon j + 1 ≡ 1 + assigns_sent mon j = omega arith in e))
    ∙ range_push 1 (assigns_sent mon j)
    ∙ ap (range_with_len 1) (sym (sent_batch mon j to seq members changes rows ∙ ap (λ xs. assigns_sent mon j + length xs) alone))

unnumbered_row : {A : Type 0} (mon : ℕ) (j : List Noted) (to seq : A → ℕ) (members : List ℕ) (changes : A → List (ℕ × ℤ)) (rows : List A)
    → filter (λ e. to e == mon) rows ≡ [] → seqs_to mon j ≡ range_with_len 1 (assigns_sent mon j)
    → seqs_to mon (j ++ batch to (named seq members changes) rows) ≡ range_with_len 1 (assigns_sent mon (j ++ batch to (named seq members changes) rows))
unnumbered_row mon j to seq members changes rows none before =
    seqs_to-append mon j (batch to (named seq members changes) rows)
    ∙ ap (λ xs. seqs_to mon j ++ xs) (seqs_batch mon to seq members changes rows ∙ ap (map seq) none)
    ∙ append-nil (seqs_to mon j)
    ∙ before
    ∙ ap (range_with_len 1) (let e : assigns_sent mon j ≡ assigns_sent mon j + 0 = omega arith in e)
    ∙ ap (range_with_len 1) (sym (sent_batch mon j to seq members changes rows ∙ ap (λ xs. assigns_sent mon j + length xs) none))

pub numbered_all : {A : Type 0} (s : Setup) (j : List Noted) (to seq : A → ℕ) (members : List ℕ) (changes : A → List (ℕ × ℤ)) (rows : List A)
    → map to rows ≡ range_with_len 1 s.monitors → ((d : A) → seq d ≡ assigns_sent (to d) j + 1) → AreNumbered s j → AreNumbered s (j ++ batch to (named seq members changes) rows)
numbered_all s j to seq members changes rows is next h mon r =
    let one = one_row to 1 s.monitors rows mon is r.from_one (let w = r.within in omega (arith, w)) in
    numbered_row mon j to seq members changes rows one.row one.alone (next one.row ∙ ap (λ q. assigns_sent q j + 1) one.own) (h mon r)

pub numbered_one : {A : Type 0} (s : Setup) (j : List Noted) (to seq : A → ℕ) (members : List ℕ) (changes : A → List (ℕ × ℤ)) (d : A)
    → seq d ≡ assigns_sent (to d) j + 1 → AreNumbered s j → AreNumbered s (j ++ batch to (named seq members changes) (d ∷ []))
numbered_one s j to seq members changes d next h mon r =
    elim (cases_eq (to d) mon) [
      | inl e ↦ numbered_row mon j to seq members changes (d ∷ []) d (ap (λ b. if b then d ∷ [] else []) (eq-eqb (to d) mon e)) (next ∙ ap (λ q. assigns_sent q j + 1) e) (h mon r)
      | inr ne ↦ unnumbered_row mon j to seq members changes (d ∷ []) (ap (λ b. if b then d ∷ [] else []) (ne_eqb (to d) mon ne)) (h mon r)
    ]
