use Rattle.std.proofs.Common.{◌≡◌, ◌≢◌, ◌<◌, ◌∙◌, ℕ, List, true, false, length, rules, arith, sym, subst, get_or}
use Rattle.std.specs.Prelude.{nat_lt}
use Rattle.std.specs.List.Sorted.{IsNonDecreasing, IsPartitionPoint}
use Rattle.std.proofs.lemmas.List.{get_or_read}
use Rattle.std.proofs.lemmas.List.Sorted.{IsPartitionPoint-from_clause}
use Rattle.tk_window.proofs.PlaceLemmas.{parted, tick_found, tick_missing}
use Rattle.tk_window.proofs.expanded.tick_at.Goals.{else-i-len-via-then-i-len+else-index-place, else-i-len-via-else-i-len}
use Rattle.tk_window.proofs.expanded.tick_at.Goals as goal

pub returns-then-index-place : goal.returns-then-index-place
returns-then-index-place c =
    let e = c.args.expanded.now in
    let i = c.partition_point-i.result in
    let slice = c.deref.result.now in
    let parts : IsPartitionPoint (λ e. nat_lt e c.args.place ≡ true) (λ e. nat_lt e c.args.place ≡ false) slice i =
    IsPartitionPoint-from_clause (λ e. nat_lt e c.args.place) slice i c.partition_point-i.ensures.partitioned (parted slice c.args.place (subst IsNonDecreasing (sym c.deref.ensures.value) e.ordered)) (λ a r f called. search rules) in
    let within : i < length e.ends.items = omega (arith, e.ends.ok.0) in
    tick_found e.ends.items c.args.place i c.if-place-eq0.false (subst (λ (ends : List ℕ). IsPartitionPoint (λ e. nat_lt e c.args.place ≡ true) (λ e. nat_lt e c.args.place ≡ false) ends i) c.deref.ensures.value parts) within
    (sym (get_or_read e.ends.items i c.index.result.now within c.index.ensures 0) ∙ c.if-index-place.true)

pub returns-else-i-len : goal.returns-else-i-len
returns-else-i-len c =
    let e = c.args.expanded.now in
    let i = c.partition_point-i.result in
    let slice = c.deref.result.now in
    let ordered : IsNonDecreasing slice = subst IsNonDecreasing (sym c.deref.ensures.value) e.ordered in
    let parts : IsPartitionPoint (λ e. nat_lt e c.args.place ≡ true) (λ e. nat_lt e c.args.place ≡ false) slice i =
    IsPartitionPoint-from_clause (λ e. nat_lt e c.args.place) slice i c.partition_point-i.ensures.partitioned (parted slice c.args.place ordered) (λ a r f called. search rules) in
    let other : i < length e.ends.items → get_or e.ends.items i 0 ≢ c.args.place = elim c.else-i-len.branch [
      | else-i-len-via-then-i-len+else-index-place w ↦ λ within is. w.if-index-place.false (get_or_read e.ends.items i w.index.result.now within w.index.ensures 0 ∙ is)
      | else-i-len-via-else-i-len w ↦ λ within is. absurd (omega (arith, e.ends.ok.0, w.if-i-len.false, within))
    ] in
    tick_missing e.ends.items c.args.place i c.if-place-eq0.false e.ordered (subst (λ (ends : List ℕ). IsPartitionPoint (λ e. nat_lt e c.args.place ≡ true) (λ e. nat_lt e c.args.place ≡ false) ends i) c.deref.ensures.value parts) other
