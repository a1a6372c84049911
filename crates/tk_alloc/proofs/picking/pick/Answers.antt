use Rattle.std.proofs.Common.{◌≡◌, ◌+◌, ◌-◌, ◌<◌, length, map, sym, ap, ◌∙◌, subst, not, arith}
use Rattle.std.proofs.lemmas.Bool.{true≢false}
use Rattle.std.proofs.lemmas.List.{length-map}
use Rattle.std.proofs.lemmas.List.Sorted.{length_permutation}
use Rattle.tk_base.specs.Ascending.{IsAscending}
use Rattle.tk_alloc.specs.declared.candidate.Candidate.{Candidate}
use Rattle.tk_alloc.specs.Candidates.{candidate, comes_first}
use Rattle.tk_alloc.specs.Pick.{picked}
use Rattle.tk_alloc.proofs.AscentLemmas.{ascending_filter}
use Rattle.tk_alloc.proofs.PickLemmas.{IsRanked, picked_is, length-picked_ranked}
use Rattle.tk_alloc.proofs.picking.pick.Goals as goal

pub index-last-requires : goal.index-last-requires
index-last-requires c =
    let long = length_permutation (map (candidate c.args.old.now) c.args.totals.now) c.in_ok-ranked.ranked.items c.in_ok-ranked.ensures.all in
    omega (arith, long, length-map {B = Candidate} c.args.totals.now (candidate c.args.old.now))

pub unreachable-requires : goal.unreachable-requires
unreachable-requires c =
    let last = c.index-last.result.now in
    let up = subst IsAscending (sym c.in_ok-list.ensures) (ascending_filter (λ p. not (comes_first last (candidate c.args.old.now p))) c.args.totals.now c.ranked.ensures.ascends) in
    absurd (true≢false (sym (c.in-Err.ensures.ascends.1 up)))

ranked : (c : goal.After-drop-ranked-2) → IsRanked c.args.old.now c.args.totals.now c.in_ok-ranked.ranked.items
ranked c = record { all = c.in_ok-ranked.ensures.all; order = c.in_ok-ranked.ensures.order }

within : (c : goal.After-drop-ranked-2) → c.args.k - 1 < length c.in_ok-ranked.ranked.items
within c =
    let long = length_permutation (map (candidate c.args.old.now) c.args.totals.now) c.in_ok-ranked.ranked.items c.in_ok-ranked.ensures.all in
    omega (arith, long, length-map {B = Candidate} c.args.totals.now (candidate c.args.old.now))

pub returns-clause-value : goal.returns-clause-value
returns-clause-value c =
    let last = c.index-last.result.now in
    let k : c.args.k - 1 + 1 ≡ c.args.k = omega arith in
    c.in-Ok.ensures.ok ∙ c.in_ok-list.ensures
    ∙ sym (picked_is c.args.old.now c.args.totals.now c.in_ok-ranked.ranked.items (c.args.k - 1) last (ranked c) (within c) c.index-last.ensures)
    ∙ ap (picked c.args.totals.now c.args.old.now) k

pub returns-clause-count : goal.returns-clause-count
returns-clause-count c =
    let last = c.index-last.result.now in
    let k : c.args.k - 1 + 1 ≡ c.args.k = omega arith in
    ap length (c.in-Ok.ensures.ok ∙ c.in_ok-list.ensures ∙ sym (picked_is c.args.old.now c.args.totals.now c.in_ok-ranked.ranked.items (c.args.k - 1) last (ranked c) (within c) c.index-last.ensures))
    ∙ length-picked_ranked c.args.old.now c.args.totals.now c.in_ok-ranked.ranked.items (c.args.k - 1) last (ranked c) c.ranked.ensures.ascends (within c) c.index-last.ensures
    ∙ k
