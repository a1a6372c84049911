-- Each event of a settling costs energy, of all together and of its monitor, and opens no more rounds than are left.
use Rattle.std.proofs.Common.{◌≡◌, ℕ, suc, zero, ◌+◌, ◌*◌, ◌<◌, ◌≤◌, ◌&&◌, ◌||◌, Bool, true, false, List, [], ◌∷◌, refl, sym, ap, ◌∙◌, subst, arith, inl, inr}
use Rattle.std.specs.Prelude.{if◌then◌else◌, ◌⊎◌}
use Rattle.std.specs.List.{range_with_len, list_all, list_any}
use Rattle.std.proofs.lemmas.Bool.{cases_Bool, cases_eq, true≢false, false≢true, and_parts, and_from}
use Rattle.tk_base.proofs.ListLemmas.{any_in_range}
use Rattle.tk_drain.specs.Energy.{Falls, Local, local_energy, shared_energy}
use Rattle.tk_drain.specs.Moves.{Checks, Ends, Goes, Lessens, Lone, LoneOpens, Opens, OpensNext, Plain, Readings, Short, Takes, Turns, all_present, any_strained, left_of, rounds_left, shared_of}
use Rattle.tk_drain.specs.Settling.{Lowers}
use Rattle.tk_drain.proofs.EnergyLemmas.{energy_falls}

-- ---- Bools as numbers

abbrev two : Bool → ℕ
two b = if b then 2 else 0

abbrev lacks : Bool → ℕ
lacks b = if b then 0 else 4

two_most : (b : Bool) → two b ≤ 2
two_most true = omega arith
two_most false = omega arith

two_less : (b c : Bool) → (c ≡ true → b ≡ true) → two c ≤ two b
two_less b false h = omega arith
two_less true true h = omega arith
two_less false true h = absurd (false≢true (h refl))

lacks_less : (b c : Bool) → (b ≡ true → c ≡ true) → lacks c ≤ lacks b
lacks_less b true h = omega arith
lacks_less false false h = omega arith
lacks_less true false h = absurd (false≢true (h refl))

-- ---- one monitor

-- what one monitor may gain: some frames down, and strain
gains : (l l' : Local) (d x c : ℕ) → l'.down ≤ l.down + d → l'.up ≤ l.up → (l'.due ≡ true → l.due ≡ true) → (l.present ≡ true → l'.present ≡ true) → two l'.strained ≤ two l.strained + x → 2 * d + x ≤ c
    → local_energy l' ≤ local_energy l + c
gains l l' d x c down up due present strained cost =
    let a = two_less l.due l'.due due in
    let b = lacks_less l.present l'.present present in
    omega (arith, down, up, a, b, strained, cost)

loses : (l l' : Local) (d x c : ℕ) → l'.down ≤ l.down + d → l.up ≡ l'.up + 1 → (l'.due ≡ true → l.due ≡ true) → (l.present ≡ true → l'.present ≡ true) → two l'.strained ≤ two l.strained + x → 2 * d + x ≤ c
    → local_energy l' < local_energy l + c
loses l l' d x c down up due present strained cost =
    let a = two_less l.due l'.due due in
    let b = lacks_less l.present l'.present present in
    omega (arith, down, up, a, b, strained, cost)

-- ---- all monitors

all_kept : (p q : ℕ → Bool) (a k : ℕ) → ((j : ℕ) → a ≤ j → j < a + k → p j ≡ true → q j ≡ true) → list_all p (range_with_len a k) ≡ true → list_all q (range_with_len a k) ≡ true
all_kept p q a zero each h = refl
all_kept p q a (suc k) each h =
    let both = and_parts (p a) (list_all p (range_with_len (a + 1) k)) h in
    and_from (q a) (list_all q (range_with_len (a + 1) k)) (each a (omega arith) (omega arith) both.0) (all_kept p q (a + 1) k (λ j low high. each j (omega (arith, low)) (omega (arith, high))) both.1)

pub all_at : (p : ℕ → Bool) (a k at : ℕ) → a ≤ at → at < a + k → list_all p (range_with_len a k) ≡ true → p at ≡ true
all_at p a zero at low high h = absurd (omega (arith, low, high))
all_at p a (suc k) at low high h =
    let both = and_parts (p a) (list_all p (range_with_len (a + 1) k)) h in
    elim (cases_eq a at) [
      | inl e ↦ subst (λ q. p q ≡ true) e both.0
      | inr ne ↦ all_at p (a + 1) k at (omega (arith, low, ne)) (omega (arith, high)) both.1
    ]

all_same : (p q : ℕ → Bool) (xs : List ℕ) → ((j : ℕ) → p j ≡ q j) → list_all p xs ≡ list_all q xs
all_same p q [] each = refl
all_same p q (x ∷ xs) each = ap (λ b. b && list_all p xs) (each x) ∙ ap (λ b. q x && b) (all_same p q xs each)

any_same : (p q : ℕ → Bool) (xs : List ℕ) → ((j : ℕ) → p j ≡ q j) → list_any p xs ≡ list_any q xs
any_same p q [] each = refl
any_same p q (x ∷ xs) each = ap (λ b. b || list_any p xs) (each x) ∙ ap (λ b. q x || b) (any_same p q xs each)

all_in : (p : ℕ → Bool) (xs : List ℕ) → ((j : ℕ) → p j ≡ true) → list_all p xs ≡ true
all_in p [] each = refl
all_in p (x ∷ xs) each = and_from (p x) (list_all p xs) (each x) (all_in p xs each)

all_of : (m : ℕ) (r : Readings) → ((j : ℕ) → (r.local j).present ≡ true) → all_present m r ≡ true
all_of m r each = all_in (λ j. (r.local j).present) (range_with_len 1 m) each

-- the monitor that reports is strained where all are present
reports : (m at : ℕ) (r : Readings) → 1 ≤ at → at ≤ m → ((r.local at).present ≡ true → (r.local at).strained ≡ true) → all_present m r ≡ true → any_strained m r ≡ true
reports m at r low high report all =
    any_in_range (λ j. (r.local j).strained) 1 m at low (omega (arith, high)) (report (all_at (λ j. (r.local j).present) 1 m at low (omega (arith, high)) all))

-- ---- rounds left

stay : (waiting wide p p' s s' : Bool) (n n' : ℕ) → (p ≡ true → p' ≡ true) → (waiting ≡ true → n' ≡ n) → (p' ≡ true → s' ≡ true → n' ≡ n) → (waiting ≡ false → p ≡ true → s' ≡ true → s ≡ true)
    → left_of waiting wide p' s' n' ≤ left_of waiting wide p s n
stay true true true true s s' n n' kept on go from = omega arith
stay true true true false s s' n n' kept on go from = absurd (false≢true (kept refl))
stay true true false true s s' n n' kept on go from = omega arith
stay true true false false s s' n n' kept on go from = omega arith
stay true false true true s s' n n' kept on go from = let e = on refl in omega (arith, e)
stay true false true false s s' n n' kept on go from = absurd (false≢true (kept refl))
stay true false false true s s' n n' kept on go from = omega arith
stay true false false false s s' n n' kept on go from = omega arith
stay false wide true true true true n n' kept on go from = let e = go refl refl in omega (arith, e)
stay false wide true true false true n n' kept on go from = absurd (false≢true (from refl refl refl))
stay false wide true true s false n n' kept on go from = omega arith
stay false wide true false s s' n n' kept on go from = absurd (false≢true (kept refl))
stay false wide false true s true n n' kept on go from = omega arith
stay false wide false true s false n n' kept on go from = omega arith
stay false wide false false s s' n n' kept on go from = omega arith

opening : (wide wide' p s s' : Bool) (n n' : ℕ) → (p ≡ true → s ≡ true) → (wide' ≡ true) ⊎ ((n < 8) × (n' ≡ n + 1)) → left_of true wide' p s' n' + 1 ≤ left_of false wide p s n
opening wide true true true s' n n' report kind = omega arith
opening wide true true false s' n n' report kind = absurd (false≢true (report refl))
opening wide true false s s' n n' report kind = omega arith
opening wide false true true s' n n' report (inl e) = absurd (false≢true e)
opening wide false true true s' n n' report (inr (few, e)) = omega (arith, few, e)
opening wide false true false s' n n' report kind = absurd (false≢true (report refl))
opening wide false false s s' n n' report kind = omega arith

ending : (wide wide' p s s' : Bool) (n n' : ℕ) → (wide ≡ true → p ≡ true → s' ≡ false) → (s' ≡ true → n' ≡ n) → left_of false wide' true s' n' ≤ left_of true wide p s n
ending true wide' true s true n n' mended go = absurd (true≢false (mended refl refl))
ending true wide' true s false n n' mended go = omega arith
ending true wide' false s true n n' mended go = omega arith
ending true wide' false s false n n' mended go = omega arith
ending false wide' true s true n n' mended go = let e = go refl in omega (arith, e)
ending false wide' true s false n n' mended go = omega arith
ending false wide' false s true n n' mended go = omega arith
ending false wide' false s false n n' mended go = omega arith

next : (p s s' : Bool) (n n' : ℕ) → left_of true true p s' n' + 1 ≤ left_of true false p s n
next true s s' n n' = omega arith
next false s s' n n' = omega arith

lone : (wide wide' p s s' : Bool) (n n' : ℕ) → (p ≡ true → s ≡ true) → n < 8 → (s' ≡ true → n' ≡ n + 1) → left_of false wide' true s' n' + 1 ≤ left_of false wide p s n
lone wide wide' true true true n n' report few go = let e = go refl in omega (arith, few, e)
lone wide wide' true true false n n' report few go = omega (arith, few)
lone wide wide' true false s' n n' report few go = absurd (false≢true (report refl))
lone wide wide' false s true n n' report few go = omega arith
lone wide wide' false s false n n' report few go = omega arith

lone_next : (wide p s s' : Bool) (n n' : ℕ) → (p ≡ true → s ≡ true) → n < 8 → left_of true true p s' n' + 2 ≤ left_of false wide p s n
lone_next wide true true s' n n' report few = omega (arith, few)
lone_next wide true false s' n n' report few = absurd (false≢true (report refl))
lone_next wide false s s' n n' report few = omega arith

-- at most 11, and 10 while a round is open
pub left_most : (waiting wide p s : Bool) (n : ℕ) → left_of waiting wide p s n + (if waiting then 1 else 0) ≤ 11
left_most true true true s n = omega arith
left_most true true false s n = omega arith
left_most true false true s n = omega arith
left_most true false false s n = omega arith
left_most false wide true true n = omega arith
left_most false wide true false n = omega arith
left_most false wide false s n = omega arith

-- the streak goes on where a round is open after the turn, or where all are present and someone is strained
goes_open : (m fails : ℕ) (r r' : Readings) → Goes m fails r r' → r'.waiting ≡ true → r'.streak ≡ r.streak + fails
goes_open m fails r r' g is = elim (cases_Bool g.calm) [
  | inl calm ↦ absurd (true≢false (sym is ∙ g.closed calm))
  | inr going ↦ g.streak ∙ ap (λ (b : Bool). if b then 0 else r.streak + fails) going
]

goes_strained : (m fails : ℕ) (r r' : Readings) → Goes m fails r r' → all_present m r' ≡ true → any_strained m r' ≡ true → r'.streak ≡ r.streak + fails
goes_strained m fails r r' g all some = elim (cases_Bool g.calm) [
  | inl calm ↦ absurd (true≢false (sym some ∙ g.sound calm all))
  | inr going ↦ g.streak ∙ ap (λ (b : Bool). if b then 0 else r.streak + fails) going
]

-- ---- the events

abbrev four : Bool → ℕ
four b = if b then 4 else 0

abbrev unpaid : Bool → ℕ
unpaid b = if b then 0 else 2

shared_costs : (m c : ℕ) (r r' : Readings) → four r'.waiting + unpaid r'.stopped + 6 * rounds_left m r' + c ≤ four r.waiting + unpaid r.stopped + 6 * rounds_left m r → shared_energy (shared_of m r') + c ≤ shared_energy (shared_of m r)
shared_costs m c r r' h = h

-- what an event costs, and how many rounds it opens
pub record FallsBy (m at opened : ℕ) (r r' : Readings) : Type 0 where
  pub cost : ℕ
  pub falls : Falls m at cost (shared_of m r) (shared_of m r') r.local r'.local
  pub rounds : rounds_left m r' + opened ≤ rounds_left m r

falling : (m at c opened : ℕ) (r r' : Readings) → Falls m at c (shared_of m r) (shared_of m r') r.local r'.local → rounds_left m r' + opened ≤ rounds_left m r → FallsBy m at opened r r'
falling m at c opened r r' f rounds = record { cost = c; falls = f; rounds = rounds }

-- of all together it takes energy, and rounds
pub lessens_by : (m at opened : ℕ) (r r' : Readings) → FallsBy m at opened r r' → Lessens m opened r r'
lessens_by m at opened r r' f = record { energy = energy_falls m at f.cost (shared_of m r) (shared_of m r') r.local r'.local f.falls; rounds = f.rounds }

-- of each monitor it raises none, and lowers its own
pub lowers_by : (m at opened : ℕ) (r r' : Readings) → FallsBy m at opened r r' → Lowers m at r r'
lowers_by m at opened r r' f = record {
  each = λ j low high. let o = f.falls.others j low high in let s = f.falls.shared in omega (arith, o, s);
  here = let o = f.falls.here in let s = f.falls.shared in omega (arith, o, s);
}

due_back : (b c : Bool) → c ≡ b → c ≡ true → b ≡ true
due_back b c e h = sym e ∙ h

-- the locals of a turn, where each monitor is sent at most d frames and strain costs at most x
turn_falls : (m at stops d x c : ℕ) (r r' : Readings) (sent : ℕ → ℕ) → Turns m at r r' sent stops → ((j : ℕ) → sent j ≤ d) → ((j : ℕ) → two (r'.local j).strained ≤ two (r.local j).strained + x) → 2 * (d + stops) + x ≤ c
    → shared_energy (shared_of m r') + c ≤ shared_energy (shared_of m r) → Falls m at c (shared_of m r) (shared_of m r') r.local r'.local
turn_falls m at stops d x c r r' sent t most strained cost shared = record {
  from_one = t.from_one;
  within = t.within;
  shared = shared;
  others = λ j low high. elim (cases_eq j at) [
    | inl e ↦
        let here : (r.local j).up ≡ (r'.local j).up + 1 = subst (λ q. (r.local q).up ≡ (r'.local q).up + 1) (sym e) t.here in
        let less = loses (r.local j) (r'.local j) (d + stops) x c (let s = t.down j in let k = most j in omega (arith, s, k)) here (due_back (r.local j).due (r'.local j).due (t.due j)) (t.present j) (strained j) cost in
        omega (arith, less)
    | inr ne ↦ gains (r.local j) (r'.local j) (d + stops) x c (let s = t.down j in let k = most j in omega (arith, s, k)) (let u = t.up j ne in omega (arith, u)) (due_back (r.local j).due (r'.local j).due (t.due j)) (t.present j) (strained j) cost
  ];
  here = loses (r.local at) (r'.local at) (d + stops) x c (let s = t.down at in let k = most at in omega (arith, s, k)) t.here (due_back (r.local at).due (r'.local at).due (t.due at)) (t.present at) (strained at) cost;
}

strain_same : (r r' : Readings) → ((j : ℕ) → (r'.local j).strained ≡ (r.local j).strained) → (j : ℕ) → two (r'.local j).strained ≤ two (r.local j).strained + 0
strain_same r r' same j = let e = ap two (same j) in omega (arith, e)

strain_most : (r r' : Readings) (j : ℕ) → two (r'.local j).strained ≤ two (r.local j).strained + 2
strain_most r r' j = let e = two_most (r'.local j).strained in omega (arith, e)

kept_all : (m at : ℕ) (r r' : Readings) (sent : ℕ → ℕ) (stops : ℕ) → Turns m at r r' sent stops → all_present m r ≡ true → all_present m r' ≡ true
kept_all m at r r' sent stops t = all_kept (λ j. (r.local j).present) (λ j. (r'.local j).present) 1 m (λ j low high. t.present j)

pub plain_falls : (m at stops : ℕ) (r r' : Readings) → Plain m at stops r r' → FallsBy m at 0 r r'
plain_falls m at stops r r' h =
    let t = h.turn in
    let all = all_present m r' in
    let some = any_strained m r' in
    let left : left_of r.waiting r.wide all some r'.streak ≤ rounds_left m r =
    stay r.waiting r.wide (all_present m r) all (any_strained m r) some r.streak r'.streak (kept_all m at r r' (λ j. 0) stops t)
    (λ is. let e = goes_open m 0 r r' h.goes (h.waiting ∙ is) in omega (arith, e))
    (λ p s. let e = goes_strained m 0 r r' h.goes p s in omega (arith, e))
    (λ closed p s. sym (any_same (λ j. (r'.local j).strained) (λ j. (r.local j).strained) (range_with_len 1 m) h.strained) ∙ s) in
    let now : rounds_left m r' ≡ left_of r.waiting r.wide all some r'.streak = ap (λ b. left_of b r'.wide all some r'.streak) h.waiting ∙ ap (λ b. left_of r.waiting b all some r'.streak) h.wide in
    let wait : four r'.waiting ≡ four r.waiting = ap four h.waiting in
    let paid = t.paid in
    falling m at (2 * stops) 0 r r' (turn_falls m at stops 0 0 (2 * stops) r r' (λ j. 0) t (λ j. omega arith) (strain_same r r' h.strained) (omega arith) (shared_costs m (2 * stops) r r' (omega (arith, left, now, wait, paid)))) (omega (arith, left, now))

pub opens_falls : (m at stops : ℕ) (r r' : Readings) (sent : ℕ → ℕ) → Opens m at stops r r' sent → FallsBy m at 1 r r'
opens_falls m at stops r r' sent h =
    let t = h.turn in
    let all = all_present m r in
    let same : all_present m r' ≡ all = all_same (λ j. (r'.local j).present) (λ j. (r.local j).present) (range_with_len 1 m) h.same in
    let left = opening r.wide r'.wide all (any_strained m r) (any_strained m r') r.streak r'.streak (reports m at r t.from_one t.within h.report) h.kind in
    let before : rounds_left m r ≡ left_of false r.wide all (any_strained m r) r.streak = ap (λ b. left_of b r.wide all (any_strained m r) r.streak) h.closed in
    let now : rounds_left m r' ≡ left_of true r'.wide all (any_strained m r') r'.streak = ap (λ b. left_of b r'.wide (all_present m r') (any_strained m r') r'.streak) h.opened ∙ ap (λ b. left_of true r'.wide b (any_strained m r') r'.streak) same in
    let wait : four r'.waiting ≡ 4 = ap four h.opened in
    let paid = t.paid in
    falling m at (2 + 2 * stops) 1 r r' (turn_falls m at stops 1 0 (2 + 2 * stops) r r' sent t h.most (strain_same r r' h.strained) (omega arith) (shared_costs m (2 + 2 * stops) r r' (omega (arith, left, before, now, wait, paid)))) (omega (arith, left, before, now))

pub ends_falls : (m at stops : ℕ) (r r' : Readings) (sent : ℕ → ℕ) → Ends m at stops r r' sent → FallsBy m at 0 r r'
ends_falls m at stops r r' sent h =
    let t = h.turn in
    let all : all_present m r' ≡ true = all_of m r' h.renewed in
    let left = ending r.wide r'.wide (all_present m r) (any_strained m r) (any_strained m r') r.streak r'.streak h.mended (λ s. let e = goes_strained m 0 r r' h.goes all s in omega (arith, e)) in
    let before : rounds_left m r ≡ left_of true r.wide (all_present m r) (any_strained m r) r.streak = ap (λ b. left_of b r.wide (all_present m r) (any_strained m r) r.streak) h.opened in
    let now : rounds_left m r' ≡ left_of false r'.wide true (any_strained m r') r'.streak = ap (λ b. left_of b r'.wide (all_present m r') (any_strained m r') r'.streak) h.closed ∙ ap (λ b. left_of false r'.wide b (any_strained m r') r'.streak) all in
    let was : four r.waiting ≡ 4 = ap four h.opened in
    let wait : four r'.waiting ≡ 0 = ap four h.closed in
    let paid = t.paid in
    falling m at (4 + 2 * stops) 0 r r' (turn_falls m at stops 1 2 (4 + 2 * stops) r r' sent t h.most (strain_most r r') (omega arith) (shared_costs m (4 + 2 * stops) r r' (omega (arith, left, before, now, was, wait, paid)))) (omega (arith, left, before, now))

pub next_falls : (m at stops : ℕ) (r r' : Readings) (sent : ℕ → ℕ) → OpensNext m at stops r r' sent → FallsBy m at 1 r r'
next_falls m at stops r r' sent h =
    let t = h.turn in
    let all = all_present m r in
    let same : all_present m r' ≡ all = all_same (λ j. (r'.local j).present) (λ j. (r.local j).present) (range_with_len 1 m) h.same in
    let left = next all (any_strained m r) (any_strained m r') r.streak r'.streak in
    let before : rounds_left m r ≡ left_of true false all (any_strained m r) r.streak = ap (λ b. left_of b r.wide all (any_strained m r) r.streak) h.was ∙ ap (λ b. left_of true b all (any_strained m r) r.streak) h.full in
    let now : rounds_left m r' ≡ left_of true true all (any_strained m r') r'.streak =
    ap (λ b. left_of b r'.wide (all_present m r') (any_strained m r') r'.streak) h.opened ∙ ap (λ b. left_of true b (all_present m r') (any_strained m r') r'.streak) h.wide ∙ ap (λ b. left_of true true b (any_strained m r') r'.streak) same in
    let was : four r.waiting ≡ 4 = ap four h.was in
    let wait : four r'.waiting ≡ 4 = ap four h.opened in
    let paid = t.paid in
    falling m at (2 + 2 * stops) 1 r r' (turn_falls m at stops 1 0 (2 + 2 * stops) r r' sent t h.most (strain_same r r' h.strained) (omega arith) (shared_costs m (2 + 2 * stops) r r' (omega (arith, left, before, now, was, wait, paid)))) (omega (arith, left, before, now))

pub lone_falls : (m at stops : ℕ) (r r' : Readings) (sent : ℕ → ℕ) → Lone m at stops r r' sent → FallsBy m at 1 r r'
lone_falls m at stops r r' sent h =
    let t = h.turn in
    let all : all_present m r' ≡ true = all_of m r' h.renewed in
    let left = lone r.wide r'.wide (all_present m r) (any_strained m r) (any_strained m r') r.streak r'.streak (reports m at r t.from_one t.within h.report) h.few (λ s. goes_strained m 1 r r' h.goes all s) in
    let before : rounds_left m r ≡ left_of false r.wide (all_present m r) (any_strained m r) r.streak = ap (λ b. left_of b r.wide (all_present m r) (any_strained m r) r.streak) h.was in
    let now : rounds_left m r' ≡ left_of false r'.wide true (any_strained m r') r'.streak = ap (λ b. left_of b r'.wide (all_present m r') (any_strained m r') r'.streak) h.closed ∙ ap (λ b. left_of false r'.wide b (any_strained m r') r'.streak) all in
    let was : four r.waiting ≡ 0 = ap four h.was in
    let wait : four r'.waiting ≡ 0 = ap four h.closed in
    let paid = t.paid in
    falling m at (4 + 2 * stops) 1 r r' (turn_falls m at stops 1 2 (4 + 2 * stops) r r' sent t h.most (strain_most r r') (omega arith) (shared_costs m (4 + 2 * stops) r r' (omega (arith, left, before, now, was, wait, paid)))) (omega (arith, left, before, now))

pub lone_opens_falls : (m at stops : ℕ) (r r' : Readings) (sent : ℕ → ℕ) → LoneOpens m at stops r r' sent → FallsBy m at 2 r r'
lone_opens_falls m at stops r r' sent h =
    let t = h.turn in
    let all = all_present m r in
    let same : all_present m r' ≡ all = all_same (λ j. (r'.local j).present) (λ j. (r.local j).present) (range_with_len 1 m) h.same in
    let left = lone_next r.wide all (any_strained m r) (any_strained m r') r.streak r'.streak (reports m at r t.from_one t.within h.report) h.few in
    let before : rounds_left m r ≡ left_of false r.wide all (any_strained m r) r.streak = ap (λ b. left_of b r.wide all (any_strained m r) r.streak) h.closed in
    let now : rounds_left m r' ≡ left_of true true all (any_strained m r') r'.streak =
    ap (λ b. left_of b r'.wide (all_present m r') (any_strained m r') r'.streak) h.opened ∙ ap (λ b. left_of true b (all_present m r') (any_strained m r') r'.streak) h.wide ∙ ap (λ b. left_of true true b (any_strained m r') r'.streak) same in
    let was : four r.waiting ≡ 0 = ap four h.closed in
    let wait : four r'.waiting ≡ 4 = ap four h.opened in
    let paid = t.paid in
    falling m at (2 + 2 * stops) 2 r r' (turn_falls m at stops 1 0 (2 + 2 * stops) r r' sent t h.most (strain_same r r' h.strained) (omega arith) (shared_costs m (2 + 2 * stops) r r' (omega (arith, left, before, now, was, wait, paid)))) (omega (arith, left, before, now))

-- ---- a short round

short_here : (l l' : Local) (stops : ℕ) → l'.down ≤ l.down + 1 + stops → l.up ≡ l'.up + 1 → (l'.due ≡ true → l.due ≡ true) → l'.present ≡ true → (l.present ≡ true → l.strained ≡ true) → (l.present ≡ true → l'.strained ≡ false)
    → local_energy l' < local_energy l + 2 * stops
short_here l l' stops down up due renewed report mended =
    let a = two_less l.due l'.due due in
    let p : lacks l'.present ≡ 0 = ap lacks renewed in
    let x = two_most l'.strained in
    elim (cases_Bool l.present) [
      | inl is ↦
          let s : two l.strained ≡ 2 = ap two (report is) in
          let s' : two l'.strained ≡ 0 = ap two (mended is) in
          omega (arith, a, p, down, up, s, s')
      | inr not ↦
          let q : lacks l.present ≡ 4 = ap lacks not in
          omega (arith, a, p, q, down, up, x)
    ]

pub short_falls : (m at stops : ℕ) (r r' : Readings) (sent : ℕ → ℕ) → Short m at stops r r' sent → FallsBy m at 0 r r'
short_falls m at stops r r' sent h =
    let t = h.turn in
    let all = all_present m r' in
    let some = any_strained m r' in
    let back : all_present m r ≡ true → some ≡ true → any_strained m r ≡ true = λ p s. reports m at r t.from_one t.within h.report p in
    let left : left_of r.waiting r.wide all some r'.streak ≤ rounds_left m r =
    stay r.waiting r.wide (all_present m r) all (any_strained m r) some r.streak r'.streak (kept_all m at r r' sent stops t)
    (λ is. absurd (true≢false (sym is ∙ h.closed)))
    (λ p s. let e = goes_strained m 0 r r' h.goes p s in omega (arith, e))
    (λ closed p s. back p s) in
    let now : rounds_left m r' ≡ left_of r.waiting r.wide all some r'.streak = ap (λ b. left_of b r'.wide all some r'.streak) h.waiting ∙ ap (λ b. left_of r.waiting b all some r'.streak) h.wide in
    let wait : four r'.waiting ≡ four r.waiting = ap four h.waiting in
    let paid = t.paid in
    let here = short_here (r.local at) (r'.local at) stops (let d = t.down at in let o = h.one in omega (arith, d, o)) t.here (due_back (r.local at).due (r'.local at).due (t.due at)) h.renewed h.report h.mended in
    falling m at (2 * stops) 0 r r' (record {
      from_one = t.from_one;
      within = t.within;
      shared = shared_costs m (2 * stops) r r' (omega (arith, left, now, wait, paid));
      others = λ j low high. elim (cases_eq j at) [
        | inl e ↦ let less = subst (λ q. local_energy (r'.local q) < local_energy (r.local q) + 2 * stops) (sym e) here in omega (arith, less)
        | inr ne ↦
            gains (r.local j) (r'.local j) (0 + stops) 0 (2 * stops) (let d = t.down j in let z = h.none j ne in omega (arith, d, z)) (let u = t.up j ne in omega (arith, u)) (due_back (r.local j).due (r'.local j).due (t.due j)) (t.present j)
            (let e = ap two (h.strained j ne) in omega (arith, e)) (omega arith)
      ];
      here = here;
    }) (omega (arith, left, now))

-- ---- checks and taken frames

-- the present and the strained are as before
same_left : (m at : ℕ) (r r' : Readings) → ((j : ℕ) → (j ≡ at → ⊥) → r'.local j ≡ r.local j) → (r'.local at).present ≡ (r.local at).present → (r'.local at).strained ≡ (r.local at).strained → r'.waiting ≡ r.waiting → r'.wide ≡ r.wide
    → r'.streak ≡ r.streak → rounds_left m r' ≡ rounds_left m r
same_left m at r r' others present strained waiting wide streak =
    let each_p : (j : ℕ) → (r'.local j).present ≡ (r.local j).present = λ j. elim (cases_eq j at) [ inl e ↦ subst (λ q. (r'.local q).present ≡ (r.local q).present) (sym e) present | inr ne ↦ ap (λ (l : Local). l.present) (others j ne) ] in
    let each_s : (j : ℕ) → (r'.local j).strained ≡ (r.local j).strained = λ j. elim (cases_eq j at) [ inl e ↦ subst (λ q. (r'.local q).strained ≡ (r.local q).strained) (sym e) strained | inr ne ↦ ap (λ (l : Local). l.strained) (others j ne) ] in
    let p = all_same (λ j. (r'.local j).present) (λ j. (r.local j).present) (range_with_len 1 m) each_p in
    let s = any_same (λ j. (r'.local j).strained) (λ j. (r.local j).strained) (range_with_len 1 m) each_s in
    ap (λ b. left_of b r'.wide (all_present m r') (any_strained m r') r'.streak) waiting
    ∙ ap (λ b. left_of r.waiting b (all_present m r') (any_strained m r') r'.streak) wide
    ∙ ap (λ b. left_of r.waiting r.wide b (any_strained m r') r'.streak) p
    ∙ ap (λ b. left_of r.waiting r.wide (all_present m r) b r'.streak) s
    ∙ ap (λ n. left_of r.waiting r.wide (all_present m r) (any_strained m r) n) streak

local_falls : (m at : ℕ) (r r' : Readings) → 1 ≤ at → at ≤ m → ((j : ℕ) → (j ≡ at → ⊥) → r'.local j ≡ r.local j) → local_energy (r'.local at) < local_energy (r.local at) + 0 → shared_energy (shared_of m r') + 0 ≤ shared_energy (shared_of m r)
    → Falls m at 0 (shared_of m r) (shared_of m r') r.local r'.local
local_falls m at r r' low high others here shared = record {
  from_one = low;
  within = high;
  shared = shared;
  others = λ j l h. elim (cases_eq j at) [
    | inl e ↦ let less = subst (λ q. local_energy (r'.local q) < local_energy (r.local q) + 0) (sym e) here in omega (arith, less)
    | inr ne ↦ let e = ap (λ (x : Local). local_energy x) (others j ne) in omega (arith, e)
  ];
  here = here;
}

pub checks_fall : (m at : ℕ) (r r' : Readings) → Checks m at r r' → FallsBy m at 0 r r'
checks_fall m at r r' h =
    let left = same_left m at r r' h.others h.present h.strained h.waiting h.wide h.streak in
    let wait : four r'.waiting ≡ four r.waiting = ap four h.waiting in
    let stop : unpaid r'.stopped ≡ unpaid r.stopped = ap unpaid h.stopped in
    let p = ap lacks h.present in
    let s = ap two h.strained in
    let was : two (r.local at).due ≡ 2 = ap two h.was_due in
    let is : two (r'.local at).due ≡ 0 = ap two h.not_due in
    let up = h.up in
    let down = h.down in
    falling m at 0 0 r r' (local_falls m at r r' h.from_one h.within h.others (omega (arith, p, s, was, is, up, down)) (shared_costs m 0 r r' (omega (arith, left, wait, stop)))) (omega (arith, left))

pub takes_fall : (m at : ℕ) (r r' : Readings) → Takes m at r r' → FallsBy m at 0 r r'
takes_fall m at r r' h =
    let left = same_left m at r r' h.others h.present h.strained h.waiting h.wide h.streak in
    let wait : four r'.waiting ≡ four r.waiting = ap four h.waiting in
    let stop : unpaid r'.stopped ≡ unpaid r.stopped = ap unpaid h.stopped in
    let p = ap lacks h.present in
    let s = ap two h.strained in
    let d = two_less (r.local at).due (r'.local at).due h.due in
    let up = h.up in
    let down = h.down in
    falling m at 0 0 r r' (local_falls m at r r' h.from_one h.within h.others (omega (arith, p, s, d, up, down)) (shared_costs m 0 r r' (omega (arith, left, wait, stop)))) (omega (arith, left))
