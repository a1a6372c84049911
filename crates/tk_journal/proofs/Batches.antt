-- The readings over batches of Collects, of Assigns and of Stops.
use Rattle.std.proofs.Common.{◌≡◌, ℕ, Bool, true, false, ◌==◌, ◌||◌, List, [], ◌∷◌, ◌++◌, map, Option, Some, None, refl, ap, ◌∙◌}
use Rattle.std.specs.Prelude.{ℤ, is_some, unwrap_or, filter, if◌then◌else◌}
use Rattle.std.specs.List.{filter_map, cons_option}
use Rattle.std.specs.Option.{option_map}
use Rattle.std.proofs.lemmas.List.{append-nil}
use Rattle.tk_base.specs.Objects.{is_in}
use Rattle.tk_frames.specs.Assigns.{Assign, assign_in}
use Rattle.tk_frames.specs.declared.frame.Frame.{Frame}
use Rattle.tk_frames.specs.declared.frame.Frame.TheVariants as f
use Rattle.tk_base.specs.History.{last_of}
use Rattle.tk_journal.specs.Walks.{walk}
use Rattle.tk_journal.specs.Links.{Passed, link_of}
use Rattle.tk_journal.specs.Links.Passed.{Down}
use Rattle.tk_journal.specs.Readings.{seq_in, seqs_to, assigns_to, members_at, members_in, answer_of, answered, last_round, round_in, collect_in, asked_of, asked_by}
use Rattle.tk_journal.specs.Turns.{collects}
use Rattle.tk_journal.specs.declared.noted.Noted.{Noted}
use Rattle.tk_journal.specs.declared.noted.Noted.TheVariants as n
use Rattle.tk_journal.proofs.Appends.{later, seqs_to-append, assigns_to-append, members_at-append, last_round-append, asked_of-append, answer_of-append}
use Rattle.tk_journal.proofs.Pieces.{batch, batch_to, batch_link}

none_of : {X A B : Type 0} (h : X → Option B) (g : A → X) (rows : List A) → ((d : A) → h (g d) ≡ None) → filter_map h (map g rows) ≡ []
none_of h g [] each = refl
none_of h g (d ∷ rows) each = ap (λ x. cons_option x (filter_map h (map g rows))) (each d) ∙ none_of h g rows each

-- ---- frames that are no Assigns

pub plain_assigns : {A : Type 0} (mon : ℕ) (b : List Noted) (to : A → ℕ) (frame : A → Frame) (rows : List A) → ((d : A) → assign_in (frame d) ≡ None)
    → assigns_to mon (b ++ batch to frame rows) ≡ assigns_to mon b
plain_assigns mon b to frame rows each =
    assigns_to-append mon b (batch to frame rows)
    ∙ ap (λ (fs : List Frame). assigns_to mon b ++ filter_map assign_in fs) (batch_to mon to frame rows)
    ∙ ap (λ (xs : List Assign). assigns_to mon b ++ xs) (none_of assign_in frame (filter (λ d. to d == mon) rows) each)
    ∙ append-nil (assigns_to mon b)

pub plain_seqs : {A : Type 0} (mon : ℕ) (b : List Noted) (to : A → ℕ) (frame : A → Frame) (rows : List A) → ((d : A) → seq_in (frame d) ≡ None)
    → seqs_to mon (b ++ batch to frame rows) ≡ seqs_to mon b
plain_seqs mon b to frame rows each =
    seqs_to-append mon b (batch to frame rows)
    ∙ ap (λ (fs : List Frame). seqs_to mon b ++ filter_map seq_in fs) (batch_to mon to frame rows)
    ∙ ap (λ (xs : List ℕ). seqs_to mon b ++ xs) (none_of seq_in frame (filter (λ d. to d == mon) rows) each)
    ∙ append-nil (seqs_to mon b)

plain_downs : {A : Type 0} (front : List Passed) (answer : Option Frame) (frame : A → Frame) (rows : List A) → ((d : A) → assign_in (frame d) ≡ None)
    → walk answered front answer (map (λ d. Down (frame d)) rows) ≡ answer
plain_downs front answer frame [] each = refl
plain_downs front answer frame (d ∷ rows) each =
    ap (λ (x : Option Assign). walk answered (front ++ Down (frame d) ∷ []) (if is_some x then None else answer) (map (λ d. Down (frame d)) rows)) (each d)
    ∙ plain_downs (front ++ Down (frame d) ∷ []) answer frame rows each

pub plain_answer : {A : Type 0} (mon : ℕ) (b : List Noted) (to : A → ℕ) (frame : A → Frame) (rows : List A) → ((d : A) → assign_in (frame d) ≡ None)
    → answer_of mon (b ++ batch to frame rows) ≡ answer_of mon b
plain_answer mon b to frame rows each =
    answer_of-append mon b (batch to frame rows)
    ∙ ap (walk answered (link_of mon b) (answer_of mon b)) (batch_link mon to frame rows)
    ∙ plain_downs (link_of mon b) (answer_of mon b) frame (filter (λ d. to d == mon) rows) each

pub plain_members : {A : Type 0} (b : List Noted) (to : A → ℕ) (frame : A → Frame) (rows : List A) → ((d : A) → assign_in (frame d) ≡ None)
    → members_at (b ++ batch to frame rows) ≡ members_at b
plain_members b to frame rows each =
    members_at-append b (batch to frame rows)
    ∙ ap (λ (xs : List (List ℕ)). unwrap_or (last_of xs) (members_at b)) (none_of members_in (λ d. n.Sent (record { 0 = to d }) (frame d)) rows (λ d. ap (option_map (λ assign. assign.members)) (each d)))

-- ---- frames that are no Collects

pub other_round : {A : Type 0} (b : List Noted) (to : A → ℕ) (frame : A → Frame) (rows : List A) → ((d : A) → collect_in (frame d) ≡ None)
    → last_round (b ++ batch to frame rows) ≡ last_round b
other_round b to frame rows each =
    last_round-append b (batch to frame rows)
    ∙ ap (λ (xs : List ℕ). unwrap_or (last_of xs) (last_round b)) (none_of round_in (λ d. n.Sent (record { 0 = to d }) (frame d)) rows (λ d. ap (option_map (λ c. c.0)) (each d)))

pub other_asked : {A : Type 0} (round mon : ℕ) (b : List Noted) (to : A → ℕ) (frame : A → Frame) (rows : List A) → ((d : A) → asked_by round (frame d) ≡ None)
    → asked_of round mon (b ++ batch to frame rows) ≡ asked_of round mon b
unfolding asked_of
other_asked round mon b to frame rows each =
    asked_of-append round mon b (batch to frame rows)
    ∙ ap (λ (fs : List Frame). later (asked_of round mon b) (last_of (filter_map (asked_by round) fs))) (batch_to mon to frame rows)
    ∙ ap (λ (xs : List (List ℕ)). later (asked_of round mon b) (last_of xs)) (none_of (asked_by round) frame (filter (λ d. to d == mon) rows) each)

-- ---- Collects

choose : {A : Type 0} (b c : Bool) (x : A) → later (if b then Some x else None) (if c then Some x else None) ≡ (if b || c then Some x else None)
choose true true x = refl
choose true false x = refl
choose false true x = refl
choose false false x = refl

asked_one : (b : Bool) (round r : ℕ) (asked : List ℕ) → r == round ≡ true → last_of (filter_map (asked_by round) (cons_option (if b then Some (f.Collect r asked) else None) [])) ≡ (if b then Some asked else None)
asked_one true round r asked same = ap (λ c. last_of (cons_option (if c then Some asked else None) [])) same
asked_one false round r asked same = refl

pub collects_asked : (round mon : ℕ) (asked mons : List ℕ) → round == round ≡ true → asked_of round mon (collects round asked mons) ≡ (if is_in mons mon then Some asked else None)
unfolding asked_of
collects_asked round mon asked [] same = refl
collects_asked round mon asked (q ∷ mons) same =
    asked_of-append round mon (n.Sent (record { 0 = q }) (f.Collect round asked) ∷ []) (collects round asked mons)
    ∙ ap (λ (x : Option (List ℕ)). later x (asked_of round mon (collects round asked mons))) (asked_one (q == mon) round round asked same)
    ∙ ap (later (if q == mon then Some asked else None)) (collects_asked round mon asked mons same)
    ∙ choose (q == mon) (is_in mons mon) asked

pub collects_other : (r round mon : ℕ) (b : List Noted) (asked mons : List ℕ) → round == r ≡ false → asked_of r mon (b ++ collects round asked mons) ≡ asked_of r mon b
collects_other r round mon b asked mons apart = other_asked r mon b (λ q. q) (λ _. f.Collect round asked) mons (λ _. ap (λ c. if c then Some asked else None) apart)

all_rounds : (round : ℕ) (asked : List ℕ) (q : ℕ) (mons : List ℕ) → last_of (filter_map round_in (collects round asked (q ∷ mons))) ≡ Some round
all_rounds round asked q [] = refl
all_rounds round asked q (r ∷ mons) = all_rounds round asked r mons

pub collects_round : (b : List Noted) (round : ℕ) (asked : List ℕ) (q : ℕ) (mons : List ℕ) → last_round (b ++ collects round asked (q ∷ mons)) ≡ round
collects_round b round asked q mons =
    last_round-append b (collects round asked (q ∷ mons)) ∙ ap (λ (x : Option ℕ). unwrap_or x (last_round b)) (all_rounds round asked q mons)

-- ---- Assigns

abbrev pub named : {A : Type 0} → (A → ℕ) → List ℕ → (A → List (ℕ × ℤ)) → A → Frame
named seq members changes d = f.Assign (seq d) members (changes d)

mapped : {A : Type 0} (seq : A → ℕ) (members : List ℕ) (changes : A → List (ℕ × ℤ)) (rows : List A)
    → filter_map assign_in (map (named seq members changes) rows) ≡ map (λ d. record { members = members; changes = changes d }) rows
mapped seq members changes [] = refl
mapped seq members changes (d ∷ rows) = ap (λ (xs : List Assign). record { members = members; changes = changes d } ∷ xs) (mapped seq members changes rows)

pub named_assigns : {A : Type 0} (mon : ℕ) (b : List Noted) (to seq : A → ℕ) (members : List ℕ) (changes : A → List (ℕ × ℤ)) (rows : List A)
    → assigns_to mon (b ++ batch to (named seq members changes) rows) ≡ assigns_to mon b ++ map (λ d. record { members = members; changes = changes d }) (filter (λ d. to d == mon) rows)
named_assigns mon b to seq members changes rows =
    assigns_to-append mon b (batch to (named seq members changes) rows)
    ∙ ap (λ (fs : List Frame). assigns_to mon b ++ filter_map assign_in fs) (batch_to mon to (named seq members changes) rows)
    ∙ ap (λ (xs : List Assign). assigns_to mon b ++ xs) (mapped seq members changes (filter (λ d. to d == mon) rows))

all_named : {A : Type 0} (to seq : A → ℕ) (members : List ℕ) (changes : A → List (ℕ × ℤ)) (d : A) (rows : List A)
    → last_of (filter_map members_in (batch to (named seq members changes) (d ∷ rows))) ≡ Some members
all_named to seq members changes d [] = refl
all_named to seq members changes d (e ∷ rows) = all_named to seq members changes e rows

pub named_members : {A : Type 0} (b : List Noted) (to seq : A → ℕ) (members : List ℕ) (changes : A → List (ℕ × ℤ)) (d : A) (rows : List A)
    → members_at (b ++ batch to (named seq members changes) (d ∷ rows)) ≡ members
named_members b to seq members changes d rows =
    members_at-append b (batch to (named seq members changes) (d ∷ rows))
    ∙ ap (λ (x : Option (List ℕ)). unwrap_or x (members_at b)) (all_named to seq members changes d rows)

cleared : {A : Type 0} (front : List Passed) (answer : Option Frame) (seq : A → ℕ) (members : List ℕ) (changes : A → List (ℕ × ℤ)) (d : A) (rows : List A)
    → walk answered front answer (map (λ e. Down (named seq members changes e)) (d ∷ rows)) ≡ None
cleared front answer seq members changes d [] = refl
cleared front answer seq members changes d (e ∷ rows) = cleared (front ++ Down (named seq members changes d) ∷ []) None seq members changes e rows

-- an Assign clears the answer
pub named_answer : {A : Type 0} (mon : ℕ) (b : List Noted) (to seq : A → ℕ) (members : List ℕ) (changes : A → List (ℕ × ℤ)) (rows : List A) (d : A) (rest : List A)
    → filter (λ e. to e == mon) rows ≡ d ∷ rest → answer_of mon (b ++ batch to (named seq members changes) rows) ≡ None
named_answer mon b to seq members changes rows d rest some =
    answer_of-append mon b (batch to (named seq members changes) rows)
    ∙ ap (walk answered (link_of mon b) (answer_of mon b)) (batch_link mon to (named seq members changes) rows)
    ∙ ap (λ xs. walk answered (link_of mon b) (answer_of mon b) (map (λ e. Down (named seq members changes e)) xs)) some
    ∙ cleared (link_of mon b) (answer_of mon b) seq members changes d rest

-- a monitor that is sent none keeps its answer
pub unnamed_answer : {A : Type 0} (mon : ℕ) (b : List Noted) (to seq : A → ℕ) (members : List ℕ) (changes : A → List (ℕ × ℤ)) (rows : List A)
    → filter (λ e. to e == mon) rows ≡ [] → answer_of mon (b ++ batch to (named seq members changes) rows) ≡ answer_of mon b
unnamed_answer mon b to seq members changes rows none =
    answer_of-append mon b (batch to (named seq members changes) rows)
    ∙ ap (walk answered (link_of mon b) (answer_of mon b)) (batch_link mon to (named seq members changes) rows)
    ∙ ap (λ xs. walk answered (link_of mon b) (answer_of mon b) (map (λ e. Down (named seq members changes e)) xs)) none
