-- Totals over a cut as sums over monitors, and when a set holds at a cut.
use Rattle.std.proofs.Common.{◌≡◌, ℕ, suc, ◌+◌, ◌<◌, ℤ, ◌+ℤ◌, ◌≤ℤ◌, List, [], ◌∷◌, length, map, get_or, Contains, refl, ap, ◌∙◌, arith}
use Rattle.std.specs.List.{zip, range_with_len}
use Rattle.std.proofs.lemmas.Int.{ints}
use Rattle.tk_base.specs.Settings.{Setup}
use Rattle.tk_base.specs.Sum.{int_sum}
use Rattle.tk_base.proofs.ListLemmas.{contained_behind}
use Rattle.tk_base.proofs.SumLemmas.{int_sum-cons}
use Rattle.tk_input.specs.Logs.{IsCut, total, value, value_of}
use Rattle.tk_journal.specs.Laws.{IsMonitor}
use Rattle.tk_journal.specs.Readings.{factor, in_force, members_at, monitors, own}
use Rattle.tk_journal.specs.declared.noted.Noted.{Noted}
use Rattle.tk_journal.proofs.Standing.{object_of}
use Rattle.tk_journal.proofs.Tables.{IsObject}
use Rattle.tk_journal.specs.Sending.{Stands}
use Rattle.tk_input.specs.Logs.{IsValid}
use Rattle.tk_journal.proofs.SendLemmas.{listed_monitor}

abbrev Logs : Type 0
Logs = List (List (List (ℕ × ℤ)))

sum_at : (g : ℕ → ℤ) (a : ℕ) (logs : Logs) (cut : List (List ℕ)) (o : ℕ) → length cut ≡ length logs → ((i : ℕ) → i < length logs → g (a + i) ≡ value_of (get_or logs i []) (get_or cut i []) o)
    → int_sum (map (λ p. value_of p.0 p.1 o) (zip logs cut)) ≡ int_sum (map g (range_with_len a (length logs)))
sum_at g a [] cut o same each = refl
sum_at g a (parts ∷ logs) [] o same each = absurd (omega (arith, same))
sum_at g a (parts ∷ logs) (places ∷ cut) o same each =
    let first : g a ≡ value_of parts places o = ap g (omega arith) ∙ each 0 (omega arith) in
    let rest = sum_at g (a + 1) logs cut o (omega (arith, same)) (λ i within. ap g (omega arith) ∙ each (suc i) (omega (arith, within))) in
    let x = int_sum-cons (value_of parts places o) (map (λ p. value_of p.0 p.1 o) (zip logs cut)) in
    let y = int_sum-cons (g a) (map g (range_with_len (a + 1) (length logs))) in
    omega (arith, ints, first, rest, x, y)

pub total_is : (logs : Logs) (cut : List (List ℕ)) (o m : ℕ) → length logs ≡ m → length cut ≡ length logs → total logs o cut ≡ int_sum (map (λ mon. value logs mon o cut) (range_with_len 1 m))
total_is logs cut o m count same =
    sum_at (λ mon. value logs mon o cut) 1 logs cut o same (λ i within. ap (λ (q : ℕ). value_of (get_or logs q []) (get_or cut q []) o) (omega arith))
    ∙ ap (λ (q : ℕ). int_sum (map (λ mon. value logs mon o cut) (range_with_len 1 q))) count

-- sums of two numbers each, where one is at most the other
sums_ordered : (f g h k : ℕ → ℤ) (ms : List ℕ) → ((m : ℕ) → Contains ms m → (f m +ℤ g m) ≤ℤ (h m +ℤ k m)) → (int_sum (map f ms) +ℤ int_sum (map g ms)) ≤ℤ (int_sum (map h ms) +ℤ int_sum (map k ms))
sums_ordered f g h k [] each = omega (arith, ints)
sums_ordered f g h k (m ∷ ms) each =
    let here = each m (0, omega arith, refl) in
    let rest = sums_ordered f g h k ms (λ q in'. each q (contained_behind m q ms in')) in
    let a = int_sum-cons (f m) (map f ms) in
    let b = int_sum-cons (g m) (map g ms) in
    let c = int_sum-cons (h m) (map h ms) in
    let d = int_sum-cons (k m) (map k ms) in
    omega (arith, ints, here, rest, a, b, c, d)

-- where at each monitor no outsider's value plus factor is above a member's, the members hold at the cut
pub holds_by : (s : Setup) (logs : Logs) (j : List Noted) (cut : List (List ℕ)) → length logs ≡ s.monitors → IsCut logs cut → Stands s j
    → ((t o mon : ℕ) → Contains (members_at j) t → (Contains (members_at j) o → ⊥) → IsObject s t → IsObject s o → IsMonitor s mon → (value logs mon o cut +ℤ factor mon j o) ≤ℤ (value logs mon t cut +ℤ factor mon j t))
    → IsValid logs s.objects (in_force s j).k (in_force s j).epsilon cut (members_at j)
unfolding own
holds_by s logs j cut count is st each = record {
  is_cut = is;
  size = st.members.count;
  ascends = st.members.ascends;
  within = st.members.within;
  greatest = λ t o in' low high out.
      let t_of = object_of s (members_at j) [] t st.members.ascends st.members.within in' in
      let o_of : IsObject s o = record { from_one = low; within = high } in
      let all = sums_ordered (λ mon. value logs mon o cut) (λ mon. factor mon j o) (λ mon. value logs mon t cut) (λ mon. factor mon j t) (monitors s) (λ mon m. each t o mon in' out t_of o_of (listed_monitor s mon m)) in
      let a = total_is logs cut o s.monitors count is.shape in
      let b = total_is logs cut t s.monitors count is.shape in
      let c = st.own t o in' out low high in
      omega (arith, ints, all, a, b, c);
}
