use Rattle.std.proofs.Common.{◌^◌, ℕ, List, ap, sym, ◌∙◌}
use Rattle.std.specs.Prelude.{nat_lt, position}
use Rattle.tk_input.proofs.GreatLemmas.{great_found, great_missing}
use Rattle.tk_input.proofs.SmallLemmas.{small_pass}
use Rattle.tk_input.proofs.logs.judging.first_great.Goals as goal

pub returns-then-are_narrow : goal.returns-then-are_narrow
returns-then-are_narrow c = sym (small_pass c.args.objects c.args.row.now (c.are_narrow.ensures c.if-are_narrow.true) c.requires.updates)

pub returns-in-Some : goal.returns-in-Some
returns-in-Some c =
    sym (great_found c.args.row.now c.in_ok-weights.weights.items c.args.objects c.in-Some.place c.in_ok-weights.ensures.size c.in_ok-weights.ensures.weights
    (ap (λ (ws : List ℕ). position (λ w. nat_lt (2 ^ 100) w) ws) (sym c.as_slice.ensures.value) ∙ sym c.first_heavy.ensures ∙ c.in-Some.is))

pub returns : goal.returns
returns c =
    sym (great_missing c.args.row.now c.in_ok-weights.weights.items c.args.objects c.in_ok-weights.ensures.size c.in_ok-weights.ensures.weights
    (ap (λ (ws : List ℕ). position (λ w. nat_lt (2 ^ 100) w) ws) (sym c.as_slice.ensures.value) ∙ sym c.first_heavy.ensures ∙ c.in-None.is))
