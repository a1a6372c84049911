-- What is dealt at the end of a round, and the tests of its factors and of a Report.
use Rattle.std.proofs.Common.{◌≡◌, ℕ, zero, suc, ◌^◌, ◌&&◌, ℤ, ◌≤ℤ◌, unsigned_abs, Bool, true, false, not, List, [], ◌∷◌, Contains, refl, sym, ap, ap₂, ◌∙◌, arith, inl, inr}
use Rattle.std.specs.Prelude.{int_le, nat_le, filter, Result, Ok, Err, IfOk, IfErr, IsTrue, ◌↔◌}
use Rattle.std.specs.List.{list_all}
use Rattle.std.proofs.lemmas.Bool.{and_parts, false_from_ne_true, cases_Bool, leb-true, le-leb, true≢false}
use Rattle.std.proofs.lemmas.Int.{ints}
use Rattle.tk_base.specs.Objects.{is_in}
use Rattle.tk_base.specs.Pairs.{objects_of}
use Rattle.tk_base.specs.Settings.{Setup}
use Rattle.tk_base.proofs.BoolLemmas.{bool_same}
use Rattle.tk_base.proofs.MemberLemmas.{contained_is_in, is_in_contained}
use Rattle.tk_border.proofs.RisingLemmas.{is_in-filter}
use Rattle.tk_rows.specs.Factors.{Grid, IsFactor}
use Rattle.tk_rows.specs.Replacing.{IsReplacement}
use Rattle.tk_rows.specs.declared.reallocation.Reallocation.{Reallocation}
use Rattle.tk_alloc.specs.Limit.{AreAllWithin, IsFirstPast, TellsFault, full_factors, short_factors}
use Rattle.tk_alloc.specs.Parts.{Part, IsReallocation, dealt_from, leeway}
use Rattle.tk_alloc.specs.Resolving.{IsFullRound, IsShortRound, PassesShortTest, objects_over, round_parts}
use Rattle.tk_alloc.specs.Rounds.{IsWideRound, chosen}
use Rattle.tk_alloc.specs.declared.alloc_fault.AllocFault.{AllocFault}
use Rattle.tk_alloc.specs.declared.alloc_fault.AllocFault.TheVariants as fault
use Rattle.tk_alloc.specs.declared.reported.Reported.{Reported}
use Rattle.tk_journal.specs.Deciding.{Dealt, full_decides, is_within_limit, passes_short_test, short_decides, wide_decides}
use Rattle.tk_journal.proofs.Ending.{passed}
use Rattle.tk_journal.proofs.Standing.{all_holds}
use Rattle.tk_coord.specs.Board.{BoardView}
use Rattle.tk_coord.specs.Dealing.{IsDealt, IsDecided, dealt_in}

-- ---- tests that all of a list pass

-- what a list contains, a longer one does
later : {X : Type 0} (x : X) (xs : List X) (y : X) → Contains xs y → Contains (x ∷ xs) y
later x xs y (k, below, is) = (suc k, omega (arith, below), is)

-- a test that each element of a list passes
all_tested : {X : Type 0} (p : X → Bool) (xs : List X) → ((x : X) → Contains xs x → p x ≡ true) → list_all p xs ≡ true
all_tested p [] each = refl
all_tested p (x ∷ xs) each = ap₂ ◌&&◌ (each x (zero, omega arith, refl)) (all_tested p xs (λ y here. each y (later x xs y here)))

-- ---- the limit

-- whether a new factor is within its limit
abbrev is_small : ℕ × ℤ → Bool
is_small c = nat_le (unsigned_abs c.1) (2 ^ 112)

-- a factor within its limit passes the test
small_test : (z : ℤ) → IsFactor z → nat_le (unsigned_abs z) (2 ^ 112) ≡ true
small_test z small = le-leb (unsigned_abs z) (2 ^ 112) small

-- factors that are all within their limit
within_limit : (members : List ℕ) (nodes : Dealt) → AreAllWithin nodes → is_within_limit (record { members = members; dealt = nodes }) ≡ true
within_limit members nodes all =
    all_tested (λ d. list_all is_small d.1) nodes (λ d here.
    all_tested is_small d.1 (λ c there. small_test c.1 (all c.0 d.0 c.1 (record { changes = d.1; named = here; given = there }))))

-- factors of which one is past it
past_limit : (members : List ℕ) (nodes : Dealt) (o node : ℕ) (factor : ℤ) → IsFirstPast nodes o node factor → is_within_limit (record { members = members; dealt = nodes }) ≡ false
past_limit members nodes o node factor past =
    false_from_ne_true (list_all (λ d. list_all is_small d.1) nodes) (λ all.
    let there : list_all is_small past.given.changes ≡ true = all_holds (λ d. list_all is_small d.1) nodes all (node, past.given.changes) past.given.named in
    let small = leb-true (unsigned_abs factor) (2 ^ 112) (all_holds is_small past.given.changes there (o, factor) past.given.given) in
    let great = past.past in
    omega (arith, small, great))

-- ---- what is dealt

-- a reallocation of a round that a table can take is what the round decides
decided : (grid : Grid) (parts : List Part) (objects members : List ℕ) (r : Reallocation) → IsReallocation grid parts objects members r → IsReplacement grid r
    → IsDecided grid (record { members = members; dealt = dealt_from grid parts objects 0 parts }) r
decided grid parts objects members r is fits = record { members = is.chosen; dealt = is.factors; fits = fits }

-- what is dealt where a reallocation is within the limit, and where a factor is past it
dealt_is : (grid : Grid) (parts : List Part) (objects members : List ℕ) (r : Result Reallocation AllocFault) → IfOk r (IsReallocation grid parts objects members)
    → IfOk r (λ c. IsReplacement grid c)
    → IfOk r (λ _. AreAllWithin (dealt_from grid parts objects 0 parts)) → IfErr r (TellsFault (dealt_from grid parts objects 0 parts))
    → IfOk (dealt_in r) (IsDealt grid (record { members = members; dealt = dealt_from grid parts objects 0 parts }))
dealt_is grid parts objects members (Ok c) is fits within past =
    (decided grid parts objects members c is fits, within_limit members (dealt_from grid parts objects 0 parts) within)
dealt_is grid parts objects members (Err (fault.PastLimit o node factor)) is fits within past =
    past_limit members (dealt_from grid parts objects 0 parts) o.0 node factor past
dealt_is grid parts objects members (Err fault.NoMemory) is fits within past = tt

-- a short round deals what it decides
pub short_dealt : (s : Setup) (grid : Grid) (present : List ℕ) (report : Reported) (r : Result Reallocation AllocFault) → IfOk r (IsShortRound s grid present report)
    → IfOk r (λ c. IsReplacement grid c)
    → IfOk r (λ _. AreAllWithin (short_factors s grid present report)) → IfErr r (TellsFault (short_factors s grid present report))
    → IfOk (dealt_in r) (IsDealt grid (short_decides s grid present report))
unfolding short_decides
short_dealt s grid present report r is fits within past =
    dealt_is grid (round_parts s grid present present (objects_of report.values) (report ∷ [])) (objects_of report.values) present r is fits within past

-- a full round deals what it decides
pub full_dealt : (s : Setup) (grid : Grid) (present : List ℕ) (reports : List Reported) (r : Result Reallocation AllocFault) → IfOk r (IsFullRound s grid present reports)
    → IfOk r (λ c. IsReplacement grid c)
    → IfOk r (λ _. AreAllWithin (full_factors s grid present reports)) → IfErr r (TellsFault (full_factors s grid present reports))
    → IfOk (dealt_in r) (IsDealt grid (full_decides s grid present reports))
unfolding full_decides
full_dealt s grid present reports r is fits within past =
    let members = chosen s present reports (objects_over reports) in
    dealt_is grid (round_parts s grid present members (objects_over reports) reports) (objects_over reports) members r is fits within past

-- a wide round deals what it decides
pub wide_dealt : (s : Setup) (grid : Grid) (present : List ℕ) (reports : List Reported) (r : Reallocation) → IsWideRound s grid present reports r → IsReplacement grid r
    → IsDecided grid (wide_decides s grid present reports) r
unfolding wide_decides
wide_dealt s grid present reports r is fits = record { members = is.chosen; dealt = is.factors; fits = fits }

-- ---- the short test

-- two leeways in this order pass the test
test_at_most : (a b : ℤ) → a ≤ℤ b → int_le a b ≡ true
test_at_most a b le = elim (cases_Bool (int_le a b)) [
  | inl is ↦ is
  | inr fails ↦ absurd (omega (arith, ints, le, fails))
]

-- the objects of a Report that are no members
abbrev failed_of : List ℕ → Reported → List ℕ
failed_of present report = filter (λ o. not (is_in present o)) (objects_of report.values)

-- a failed object is one of the report that is no member
failed_is : (present : List ℕ) (report : Reported) (o : ℕ) → Contains (failed_of present report) o → Contains (objects_of report.values) o × (Contains present o → ⊥)
failed_is present report o here =
    let all : is_in (objects_of report.values) o && not (is_in present o) ≡ true =
    sym (is_in-filter (λ q. not (is_in present q)) (objects_of report.values) o) ∙ contained_is_in (failed_of present report) o here in
    let both = and_parts (is_in (objects_of report.values) o) (not (is_in present o)) all in
    (is_in_contained (objects_of report.values) o both.0, λ member. true≢false (sym both.1 ∙ ap not (contained_is_in present o member)))

-- the short test tells whether a Report passes it
pub test_is : (s : Setup) (grid : Grid) (present : List ℕ) (report : Reported) (test : Bool) → IsTrue test ↔ PassesShortTest s grid present report
    → test ≡ passes_short_test s grid present report
unfolding passes_short_test
test_is s grid present report test same =
    let parts = round_parts s grid present present (objects_of report.values) (report ∷ []) in
    bool_same test (passes_short_test s grid present report)
    (λ is.
    let passes = same.0 is in
    all_tested (λ t. list_all (λ o. int_le (leeway grid parts o) (leeway grid parts t)) (failed_of present report)) present (λ t member.
    all_tested (λ o. int_le (leeway grid parts o) (leeway grid parts t)) (failed_of present report) (λ o here.
    let of = failed_is present report o here in
    test_at_most (leeway grid parts o) (leeway grid parts t) (passes t o member of.1 of.0))))
    (λ is. same.1 (passed s grid present report is))

-- ---- a board

-- what a board lends of itself is the board
pub as_board : (b : BoardView) {members : List ℕ} {table : Grid} → members ≡ b.members → table ≡ b.table → record { members = members; table = table } ≡ b
as_board b {members} {table} named dealt = ap₂ (λ (ms : List ℕ) (g : Grid). record { members = ms; table = g }) named dealt
