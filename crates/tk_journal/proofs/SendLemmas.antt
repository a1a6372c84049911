-- What a legal journal sends can be taken, and what stands where it publishes.
use Rattle.tk_frames.specs.declared.frame.Frame.TheVariants as f
use Rattle.tk_journal.specs.declared.noted.Noted.TheVariants as n
use Rattle.std.proofs.Common.{◌≡◌, ℕ, suc, zero, ◌+◌, ◌^◌, ◌≤◌, ◌<◌, ℤ, Bool, true, false, not, List, [], ◌∷◌, ◌++◌, length, map, drop, Contains, Option, Some, None, refl, sym, ap, ◌∙◌, subst, arith}
use Rattle.std.specs.Prelude.{filter_map, is_some, unsigned_abs, if◌then◌else◌}
use Rattle.std.specs.List.{All, list_all, cons_option}
use Rattle.std.proofs.lemmas.Bool.{false≢true, and_parts, leb-true}
use Rattle.std.proofs.lemmas.List.Elements.{All-contains}
use Rattle.tk_base.specs.History.{EachFrom}
use Rattle.tk_base.specs.Ascending.{IsAscending}
use Rattle.tk_border.proofs.RisingLemmas.{ascends}
use Rattle.tk_base.specs.Objects.{objects}
use Rattle.tk_base.specs.Pairs.{objects_of}
use Rattle.tk_base.specs.Settings.{Setup, IsWithinLimits}
use Rattle.tk_base.proofs.PairsLemmas.{objects_paired}
use Rattle.tk_rows.specs.Factors.{Grid}
use Rattle.tk_frames.specs.Assigns.{members_of}
use Rattle.tk_frames.specs.declared.frame.Frame.{Frame}
use Rattle.tk_alloc.specs.Parts.{Part, new_factor}
use Rattle.tk_alloc.proofs.WideLemmas.{of_catalogue, in_catalogue}
use Rattle.tk_journal.specs.Laws.{IsMonitor, AreChanges}
use Rattle.tk_journal.specs.Publishing.{closing, is_due, is_last, publication_at, settled_at, stops}
use Rattle.tk_journal.specs.Readings.{Progress, assigns_sent, assigns_to, in_force, is_calm, is_open, members_at, monitors, settled_in, settled_of}
use Rattle.tk_journal.specs.Turns.{collects}
use Rattle.tk_journal.specs.declared.noted.Noted.{Noted}
use Rattle.tk_journal.specs.declared.publication.Publication.{Publication}
use Rattle.tk_journal.proofs.Appends.{answer_of-append}
use Rattle.tk_journal.proofs.Batches.{named_members, plain_answer, plain_assigns, plain_members}
use Rattle.tk_journal.proofs.Content.{all_by}
use Rattle.tk_journal.proofs.Dealing.{dealt_rows}
use Rattle.tk_journal.proofs.Firm.{IsFirm}
use Rattle.tk_journal.proofs.FirmTurns.{range_contains}
use Rattle.tk_journal.proofs.Orderly.{IsOrderly, Row}
use Rattle.tk_journal.proofs.Pieces.{batch}
use Rattle.tk_journal.proofs.Standing.{IsStanding, all_holds, is_small, object_of}
use Rattle.tk_journal.proofs.Tuning.{force_limits}
use Rattle.tk_journal.specs.Sending.{CanBeTaken, IsAssignable, IsSaidWell, Stands}

-- ---- lists

pub mapped_has : {A B : Type 0} (g : A → B) (xs : List A) (x : A) → Contains xs x → Contains (map g xs) (g x)
mapped_has g [] x (k, below, is) = absurd (omega (arith, below))
mapped_has g (y ∷ xs) x (zero, below, is) = (zero, omega arith, ap g is)
mapped_has g (y ∷ xs) x (suc k, below, is) = let rest = mapped_has g xs x (k, omega (arith, below), is) in (suc rest.0, (let b = rest.1 in omega (arith, b)), rest.2)

kept_head : {X : Type 0} (o : Option X) (rest : List X) (p : X) → o ≡ Some p → Contains (cons_option o rest) p
kept_head None rest p is = absurd (cc)
kept_head (Some x) rest p is = (zero, omega arith, (let same : x ≡ p = cc in same))

kept_tail : {X : Type 0} (o : Option X) (rest : List X) (p : X) → Contains rest p → Contains (cons_option o rest) p
kept_tail None rest p in' = in'
kept_tail (Some x) rest p (k, below, is) = (suc k, omega (arith, below), is)

pub kept_has : {A X : Type 0} (h : A → Option X) (xs : List A) (q : A) (p : X) → Contains xs q → h q ≡ Some p → Contains (filter_map h xs) p
kept_has h [] q p (k, below, is) e = absurd (omega (arith, below))
kept_has h (x ∷ xs) q p (zero, below, is) e = kept_head (h x) (filter_map h xs) p (ap h is ∙ e)
kept_has h (x ∷ xs) q p (suc k, below, is) e = kept_tail (h x) (filter_map h xs) p (kept_has h xs q p (k, omega (arith, below), is) e)

pub monitor_listed : (s : Setup) (mon : ℕ) → IsMonitor s mon → Contains (monitors s) mon
monitor_listed s mon m = range_contains 1 s.monitors mon m.from_one (let w = m.within in omega (arith, w))

pub listed_monitor : (s : Setup) (mon : ℕ) → Contains (monitors s) mon → IsMonitor s mon
unfolding objects
listed_monitor s mon in' = let r = of_catalogue s.monitors mon in' in record { from_one = r.0; within = r.1 }

-- ---- Assigns

pub batch_well : {A : Type 0} (s : Setup) (front : List Noted) (to : A → ℕ) (frame : A → Frame) (rows : List A) → ((d : A) → Contains rows d → (b : List Noted) → CanBeTaken s b (to d) (frame d)) → EachFrom (IsSaidWell s) front (batch to frame rows)
batch_well s front to frame [] each = tt
batch_well s front to frame (d ∷ rows) each =
    (each d (zero, omega arith, refl) front, batch_well s (front ++ n.Sent (record { 0 = to d }) (frame d) ∷ []) to frame rows (λ e in'. each e (suc in'.0, (let b = in'.1 in omega (arith, b)), in'.2)))

dealt_of : (grid : Grid) (parts : List Part) (all : List ℕ) (first : ℕ) (ps : List Part) (d : Row) → Contains (dealt_rows grid parts all first ps) d → objects_of d.1 ≡ all
dealt_of grid parts all first [] d (k, below, is) = absurd (omega (arith, below))
dealt_of grid parts all first (p ∷ ps) d (zero, below, is) = ap (λ (e : Row). objects_of e.1) (sym is) ∙ objects_paired (λ o. new_factor grid parts first p o) all
dealt_of grid parts all first (p ∷ ps) d (suc k, below, is) = dealt_of grid parts all (first + 1) ps d (k, omega (arith, below), is)

changes_of : (n : ℕ) (all : List ℕ) (changes : List (ℕ × ℤ)) → objects_of changes ≡ all → All (λ o. o ≤ n) all → list_all is_small changes ≡ true → AreChanges n changes
changes_of n all changes is within small c in' =
    (All-contains (λ o. o ≤ n) all c.0 within (subst (λ xs. Contains xs c.0) is (mapped_has (λ (p : ℕ × ℤ). p.0) changes c in')), leb-true (unsigned_abs c.1) (2 ^ 112) (all_holds is_small changes small c in'))

chosen_well : (s : Setup) (after : List Noted) (members : List ℕ) (changes : List (ℕ × ℤ)) → IsWithinLimits s → IsFirm s after → members_at after ≡ members → AreChanges s.objects changes → IsAssignable s members changes
chosen_well s after members changes limits firm is each =
    let st = firm.standing in
    let k = force_limits s after limits firm.tuned in
    let count : length members ≡ (in_force s after).k = ap (λ (xs : List ℕ). length xs) (sym is) ∙ st.chosen.count in
    record {
      some = (let l = k.some_member in omega (arith, count, l));
      few = (let l = k.k in omega (arith, count, l));
      ascends = subst IsAscending is st.chosen.ascends;
      within = subst (λ xs. All (λ o. o ≤ s.objects) xs) is st.chosen.within;
      each = each;
    }

pub sent_well : (s : Setup) (now : List Noted) (members : List ℕ) (grid : Grid) (parts : List Part) (all : List ℕ) (ps : List Part) → IsWithinLimits s
    → IsFirm s (now ++ batch (λ (d : Row). d.0) (λ d. f.Assign (assigns_sent d.0 now + 1) members d.1) (dealt_rows grid parts all 1 ps))
    → All (λ o. o ≤ s.objects) all → list_all (λ (d : Row). list_all is_small d.1) (dealt_rows grid parts all 1 ps) ≡ true
    → EachFrom (IsSaidWell s) now (batch (λ (d : Row). d.0) (λ d. f.Assign (assigns_sent d.0 now + 1) members d.1) (dealt_rows grid parts all 1 ps))
sent_well s now members grid parts all [] limits firm within small = tt
sent_well s now members grid parts all (p ∷ ps) limits firm within small =
    let rows = dealt_rows grid parts all 1 (p ∷ ps) in
    let is = named_members now (λ (d : Row). d.0) (λ d. assigns_sent d.0 now + 1) members (λ d. d.1) (p.node, map (λ o. (o, new_factor grid parts 1 p o)) all) (dealt_rows grid parts all (1 + 1) ps) in
    batch_well s now (λ (d : Row). d.0) (λ d. f.Assign (assigns_sent d.0 now + 1) members d.1) rows (λ d in' b.
    chosen_well s (now ++ batch (λ (e : Row). e.0) (λ e. f.Assign (assigns_sent e.0 now + 1) members e.1) rows) members d.1 limits firm is
    (changes_of s.objects all d.1 (dealt_of grid parts all 1 (p ∷ ps) d in') within (all_holds (λ (e : Row). list_all is_small e.1) rows small d in')))

pub rest_all : (p : Row → Bool) (rows : List Row) → list_all p rows ≡ true → list_all p (drop 1 rows) ≡ true
rest_all p [] h = refl
rest_all p (r ∷ rows) h = (and_parts (p r) (list_all p rows) h).1

-- ---- Collects

pub record CanAsk (s : Setup) (front : List Noted) (asked : List ℕ) : Type 0 where
  pub begun : (mon : ℕ) → IsMonitor s mon → 0 < assigns_sent mon front
  pub named : (mon : ℕ) → IsMonitor s mon → members_of (assigns_to mon front) ≡ members_at front
  pub some : 0 < length asked
  pub ascends : IsAscending asked
  pub within : All (λ o. o ≤ s.objects) asked
  pub among : All (Contains asked) (members_at front)

ask_more : (s : Setup) (front : List Noted) (asked : List ℕ) (round m : ℕ) → CanAsk s front asked → CanAsk s (front ++ n.Sent (record { 0 = m }) (f.Collect round asked) ∷ []) asked
unfolding assigns_sent
ask_more s front asked round m h =
    let same : (mon : ℕ) → assigns_to mon (front ++ n.Sent (record { 0 = m }) (f.Collect round asked) ∷ []) ≡ assigns_to mon front = λ mon. plain_assigns mon front (λ (x : ℕ). x) (λ _. f.Collect round asked) (m ∷ []) (λ _. refl) in
    let members : members_at (front ++ n.Sent (record { 0 = m }) (f.Collect round asked) ∷ []) ≡ members_at front = plain_members front (λ (x : ℕ). x) (λ _. f.Collect round asked) (m ∷ []) (λ _. refl) in
    record {
      begun = λ mon r. (let b = h.begun mon r in let e = ap length (same mon) in omega (arith, b, e));
      named = λ mon r. ap members_of (same mon) ∙ h.named mon r ∙ sym members;
      some = h.some;
      ascends = h.ascends;
      within = h.within;
      among = subst (λ ms. All (Contains asked) ms) (sym members) h.among;
    }

pub asks_well : (s : Setup) (front : List Noted) (round : ℕ) (asked mons : List ℕ) → ((q : ℕ) → Contains mons q → IsMonitor s q) → CanAsk s front asked → EachFrom (IsSaidWell s) front (collects round asked mons)
asks_well s front round asked [] each h = tt
asks_well s front round asked (m ∷ mons) each h =
    let r = each m (zero, omega arith, refl) in (
      record { begun = h.begun m r; some = h.some; ascends = h.ascends; within = h.within; among = h.among; named = h.named m r },
      asks_well s (front ++ n.Sent (record { 0 = m }) (f.Collect round asked) ∷ []) round asked mons (λ q in'. each q (suc in'.0, (let b = in'.1 in omega (arith, b)), in'.2)) (ask_more s front asked round m h),
    )

some_asked : (asked members : List ℕ) → 0 < length members → All (Contains asked) members → 0 < length asked
some_asked asked [] some among = absurd (omega (arith, some))
some_asked asked (t ∷ members) some among = let c = All-contains (Contains asked) (t ∷ members) t among (zero, omega arith, refl) in let b = c.1 in omega (arith, b)

-- what is asked over the objects of a round
pub can_ask : (s : Setup) (front : List Noted) (asked : List ℕ) → IsWithinLimits s → IsOrderly s front → IsFirm s front → ((mon : ℕ) → IsMonitor s mon → 0 < assigns_sent mon front) → IsAscending asked → All (λ o. o ≤ s.objects) asked → All (Contains asked) (members_at front) → CanAsk s front asked
can_ask s front asked limits o h begun up within among =
    let k = force_limits s front limits h.tuned in
    let count = h.standing.chosen.count in
    record {
      begun = begun;
      named = o.named;
      some = some_asked asked (members_at front) (let l = k.some_member in omega (arith, count, l)) among;
      ascends = up;
      within = within;
      among = among;
    }

pub all_among : (s : Setup) (front : List Noted) → IsStanding s front → All (Contains (objects s.objects)) (members_at front)
all_among s front st = all_by (Contains (objects s.objects)) (members_at front) (λ t in'. let o = object_of s (members_at front) [] t st.chosen.ascends st.chosen.within in' in in_catalogue s.objects t o.from_one o.within)

-- ---- Stops

record CanStop (s : Setup) (front : List Noted) : Type 0 where
  each : (mon : ℕ) → IsMonitor s mon → (p : Progress) × (settled_of mon front ≡ Some p) × (p.last ≡ true)

stop_more : (s : Setup) (front : List Noted) (m : ℕ) → CanStop s front → CanStop s (front ++ n.Sent (record { 0 = m }) f.Stop ∷ [])
stop_more s front m h = record { each = λ mon r. let e = h.each mon r in (e.0, ap settled_in (plain_answer mon front (λ (x : ℕ). x) (λ _. f.Stop) (m ∷ []) (λ _. refl)) ∙ e.1, e.2) }

publish_more : (s : Setup) (front : List Noted) (p : Publication) → CanStop s front → CanStop s (front ++ n.Published p ∷ [])
publish_more s front p h = record { each = λ mon r. let e = h.each mon r in (e.0, ap settled_in (answer_of-append mon front (n.Published p ∷ [])) ∙ e.1, e.2) }

stops_well : (s : Setup) (front : List Noted) (mons : List ℕ) → ((q : ℕ) → Contains mons q → IsMonitor s q) → CanStop s front → EachFrom (IsSaidWell s) front (map (λ mon. n.Sent (record { 0 = mon }) f.Stop) mons)
stops_well s front [] each h = tt
stops_well s front (m ∷ mons) each h =
    (h.each m (each m (zero, omega arith, refl)), stops_well s (front ++ n.Sent (record { 0 = m }) f.Stop ∷ []) mons (λ q in'. each q (suc in'.0, (let b = in'.1 in omega (arith, b)), in'.2)) (stop_more s front m h))

-- where all is calm each monitor stands with a Settled, and with `last` where all do
some_there : {B : Type 0} (o : Option B) → is_some o ≡ true → (y : B) × (o ≡ Some y)
some_there None e = absurd (false≢true e)
some_there (Some y) e = (y, refl)

pub calm_settled : (s : Setup) (j : List Noted) (mon : ℕ) → is_calm s j ≡ true → IsMonitor s mon → (p : Progress) × (settled_of mon j ≡ Some p)
unfolding is_calm
calm_settled s j mon calm m =
    let both = and_parts (not (is_open s j)) (list_all (λ q. is_some (settled_of q j)) (monitors s)) calm in
    some_there (settled_of mon j) (all_holds (λ q. is_some (settled_of q j)) (monitors s) both.1 mon (monitor_listed s mon m))

pub due_calm : (s : Setup) (j : List Noted) → is_due s j ≡ true → is_calm s j ≡ true
due_calm s j due = (and_parts (is_calm s j) _ due).0

pub last_settled : (s : Setup) (j : List Noted) (mon : ℕ) (p : Progress) → is_last s j ≡ true → IsMonitor s mon → settled_of mon j ≡ Some p → p.last ≡ true
last_settled s j mon p last m is =
    all_holds (λ (q : Progress). q.last) (settled_at s j) last p (kept_has (λ q. settled_of q j) (monitors s) mon p (monitor_listed s mon m) is)

pub stands : (s : Setup) (j : List Noted) → IsOrderly s j → IsFirm s j → Stands s j
stands s j o h = record {
  members = record { count = h.standing.chosen.count; ascends = h.standing.chosen.ascends; within = h.standing.chosen.within };
  own = λ t q in' out low high. h.standing.own t q in' out (record { from_one = low; within = high });
  small = record { own = λ q low high. h.standing.sizes.own q (record { from_one = low; within = high }); each = λ q mon low high m. h.standing.sizes.each q mon (record { from_one = low; within = high }) m };
  named = o.named;
}

closing_by : (s : Setup) (j : List Noted) (due last : Bool) → is_due s j ≡ due → is_last s j ≡ last → IsOrderly s j → IsFirm s j
    → EachFrom (IsSaidWell s) j (if due then n.Published (publication_at s j) ∷ (if last then stops s else []) else [])
closing_by s j false last is e o h = tt
closing_by s j true false is e o h = (record { stands = stands s j o h; due = is; says = refl }, tt)
closing_by s j true true is e o h = (
  record { stands = stands s j o h; due = is; says = refl },
  stops_well s (j ++ n.Published (publication_at s j) ∷ []) (monitors s) (λ q in'. listed_monitor s q in')
      (publish_more s j (publication_at s j) (record { each = λ mon m. let p = calm_settled s j mon (due_calm s j is) m in (p.0, p.1, last_settled s j mon p.0 e m p.1) })),
)

pub closing_well : (s : Setup) (j : List Noted) → IsOrderly s j → IsFirm s j → EachFrom (IsSaidWell s) j (closing s j)
unfolding closing
closing_well s j o h = closing_by s j (is_due s j) (is_last s j) refl refl o h
