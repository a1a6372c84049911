use Rattle.std.proofs.Common.{◌≡◌, ◌+◌, ◌≤◌, pos, ◌+ℤ◌, ◌*ℤ◌, unsigned_abs, ℤ, FitsSigned, to_z, of_z, arith, ap, ◌∙◌, refl}
use Rattle.std.specs.Int.{w128}
use Rattle.std.proofs.lemmas.Int.{ints, to_z-of_z}
use Rattle.std.specs.List.{sum}
use Rattle.tk_share.specs.Shares.{share}
use Rattle.tk_share.proofs.ShareLemmas.{quotient_is, remainder_is, dealt_is, dealt_part, share_size}
use Rattle.tk_share.proofs.dealing.Participant.deal.Goals as goal

-- the product is no greater than the leeway and one total
part : (c : goal.After-from) → unsigned_abs (c.div_euclid-whole.result *ℤ c.from.result) ≤ unsigned_abs c.args.leeway + sum c.args.self.now.weights.now
part c =
    dealt_part c.args.self.now.weights.now c.args.self.now.place c.args.leeway c.div_euclid-whole.result c.from.result c.args.self.now.within c.args.self.now.some_weight
    (quotient_is c.args.leeway c.from-total.result c.div_euclid-whole.result (sum c.args.self.now.weights.now) c.requires
    (c.from-total.ensures ∙ ap pos c.args.self.now.total_is) c.args.self.now.weight c.div_euclid-whole.ensures)
    c.from.ensures

pub overflow_mul-result : goal.overflow_mul-result
overflow_mul-result c =
    let whole : FitsSigned w128 c.div_euclid-whole.result = omega (arith, ints) in
    let own : FitsSigned w128 c.from.result = omega (arith, ints) in
    rw (to_z-of_z w128 c.div_euclid-whole.result whole, to_z-of_z w128 c.from.result own) (omega (arith, ints, part c))

-- what the code adds up is the share
dealt : (c : goal.After-from-2) → c.div_euclid-whole.result *ℤ c.from.result +ℤ c.from-2.result ≡ share c.args.self.now.weights.now c.args.self.now.place c.args.leeway
dealt c =
    let total : c.from-total.result ≡ pos (sum c.args.self.now.weights.now) = c.from-total.ensures ∙ ap pos c.args.self.now.total_is in
    let rest : FitsSigned w128 c.rem_euclid-rest.result = omega (arith, ints) in
    ap (λ (z : ℤ). c.div_euclid-whole.result *ℤ c.from.result +ℤ z) c.from-2.ensures
    ∙ dealt_is c.args.self.now.weights.now c.args.self.now.place c.args.leeway c.div_euclid-whole.result c.from.result c.rem_euclid-rest.result c.owned_below.result c.args.self.now.within c.args.self.now.some_weight
    (record {
      quotient = quotient_is c.args.leeway c.from-total.result c.div_euclid-whole.result (sum c.args.self.now.weights.now) c.requires total c.args.self.now.weight c.div_euclid-whole.ensures;
      weight = c.from.ensures;
      remainder = remainder_is c.args.leeway c.from-total.result c.rem_euclid-rest.result (sum c.args.self.now.weights.now) c.requires total c.args.self.now.weight c.rem_euclid-rest.ensures.value;
      kept = rw (← c.args.self.now.before_is, ← to_z-of_z w128 c.rem_euclid-rest.result rest) c.owned_below.ensures;
    })

-- the sum is computed without loss
summed : (c : goal.After-from-2) → to_z w128 (of_z w128 (to_z w128 (of_z w128 c.div_euclid-whole.result) *ℤ to_z w128 (of_z w128 c.from.result))) +ℤ to_z w128 (of_z w128 c.from-2.result) ≡ share c.args.self.now.weights.now c.args.self.now.place c.args.leeway
summed c =
    let whole : FitsSigned w128 c.div_euclid-whole.result = omega (arith, ints) in
    let own : FitsSigned w128 c.from.result = omega (arith, ints) in
    let owned : FitsSigned w128 c.from-2.result = omega (arith, ints) in
    let total : c.from-total.result ≡ pos (sum c.args.self.now.weights.now) = c.from-total.ensures ∙ ap pos c.args.self.now.total_is in
    let most = dealt_part c.args.self.now.weights.now c.args.self.now.place c.args.leeway c.div_euclid-whole.result c.from.result c.args.self.now.within c.args.self.now.some_weight
    (quotient_is c.args.leeway c.from-total.result c.div_euclid-whole.result (sum c.args.self.now.weights.now) c.requires total c.args.self.now.weight c.div_euclid-whole.ensures) c.from.ensures in
    let product : FitsSigned w128 (c.div_euclid-whole.result *ℤ c.from.result) = omega (arith, ints, most) in
    rw (to_z-of_z w128 c.div_euclid-whole.result whole, to_z-of_z w128 c.from.result own, to_z-of_z w128 (c.div_euclid-whole.result *ℤ c.from.result) product, to_z-of_z w128 c.from-2.result owned) (dealt c)

pub overflow_add-result : goal.overflow_add-result
overflow_add-result c = rw (summed c) (omega (arith, ints, share_size c.args.self.now.weights.now c.args.self.now.place c.args.leeway))

pub returns-clause-value : goal.returns-clause-value
returns-clause-value c =
    let fits : FitsSigned w128 (share c.args.self.now.weights.now c.args.self.now.place c.args.leeway) = omega (arith, ints, share_size c.args.self.now.weights.now c.args.self.now.place c.args.leeway) in
    rw (summed c, to_z-of_z w128 (share c.args.self.now.weights.now c.args.self.now.place c.args.leeway) fits) refl

pub returns-clause-size : goal.returns-clause-size
returns-clause-size c =
    let fits : FitsSigned w128 (share c.args.self.now.weights.now c.args.self.now.place c.args.leeway) = omega (arith, ints, share_size c.args.self.now.weights.now c.args.self.now.place c.args.leeway) in
    rw (summed c, to_z-of_z w128 (share c.args.self.now.weights.now c.args.self.now.place c.args.leeway) fits) (share_size c.args.self.now.weights.now c.args.self.now.place c.args.leeway)
