use Rattle.std.proofs.Common.{◌≡◌, ℕ, ◌+ℤ◌, ◌<ℤ◌, ◌≤ℤ◌, refl, sym, ap, ◌∙◌, subst, arith, inl, inr, FitsSigned}
use Rattle.std.specs.Int.{w128}
use Rattle.std.proofs.lemmas.Int.{ints, to_z-of_z}
use Rattle.std.proofs.lemmas.Bool.{true≢false, cases_lt}
use Rattle.tk_base.specs.Objects.{is_in}
use Rattle.tk_alloc.specs.Search.{joint_of}
use Rattle.tk_alloc.proofs.PartLemmas.{object_read}
use Rattle.tk_alloc.proofs.ShortTestLemmas.{object_at, passes, passes_alone, fails}
use Rattle.tk_alloc.proofs.short_round.short_test.Goals as goal
use Rattle.tk_alloc.proofs.short_round.short_test.Goals.{else-is_member-via-then-is_member+else-joint-epsilon, else-is_member-via-else-is_member}

pub returns-in_default : goal.returns-in_default
returns-in_default c = (
  λ _. passes_alone c.args.settings.now c.args.table.now c.args.members.now c.args.report.now (record { bound = c.in_default.ensures.bound; reached = tt }),
  λ _. refl,
)

pub returns-then-joint-epsilon : goal.returns-then-joint-epsilon
returns-then-joint-epsilon c = (
  λ t. absurd (true≢false (sym t)),
  λ passed.
      let n = c.loop-place.place in
      let here : object_at c.args.report.now n ≡ c.at.result.0.0 = object_read c.args.report.now.values n c.at.result.0.0 c.at.result.1 (omega (arith, c.len-place-end.ensures.value)) c.at.ensures.value in
      let level : FitsSigned w128 c.joint.result = omega (arith, ints) in
      let epsilon : FitsSigned w128 c.epsilon.result = omega (arith, ints) in
      let sum : FitsSigned w128 (c.joint.result +ℤ c.epsilon.result) = omega (arith, ints, c.joint.ensures.size, c.epsilon.ensures.value, c.epsilon.ensures.limits.no_debt, c.epsilon.ensures.limits.epsilon) in
      let greatest : FitsSigned w128 c.in-Some.greatest = omega (arith, ints) in
      let less = rw (to_z-of_z w128 c.joint.result level, to_z-of_z w128 c.epsilon.result epsilon, to_z-of_z w128 (c.joint.result +ℤ c.epsilon.result) sum, to_z-of_z w128 c.in-Some.greatest greatest) at c.if-joint-epsilon.true in
      let low : (c.joint.result +ℤ c.epsilon.result) <ℤ c.in-Some.greatest = omega (arith, ints, less) in
      let below : (joint_of c.args.table.now c.args.report.now (object_at c.args.report.now n) +ℤ c.args.settings.now.epsilon) <ℤ c.in-Some.greatest = omega (arith, ints, low, c.joint.ensures.value, c.epsilon.ensures.value) in
      absurd (fails c.args.settings.now c.args.table.now c.args.members.now c.args.report.now c.in-Some.greatest n (record { bound = c.in-Some.ensures.bound; reached = c.in-Some.ensures.reached }) (omega (arith, c.len-place-end.ensures.value))
      (ap (is_in c.args.members.now) here ∙ sym c.is_member.ensures ∙ c.if-is_member.true) below passed),
)

pub loop-place-preserved : goal.loop-place-preserved
loop-place-preserved c i below member =
    let n = c.loop-place.place in
    let here : object_at c.args.report.now n ≡ c.at.result.0.0 = object_read c.args.report.now.values n c.at.result.0.0 c.at.result.1 (omega (arith, c.len-place-end.ensures.value)) c.at.ensures.value in
    elim (cases_lt i n) [
      | inl lt ↦ c.loop-place.invariant i lt member
      | inr ge ↦
          let e : i ≡ n = omega arith in
          elim c.else-is_member.branch [
            | else-is_member-via-then-is_member+else-joint-epsilon w ↦
                let level : FitsSigned w128 w.joint.result = omega (arith, ints) in
                let epsilon : FitsSigned w128 w.epsilon.result = omega (arith, ints) in
                let sum : FitsSigned w128 (w.joint.result +ℤ w.epsilon.result) = omega (arith, ints, w.joint.ensures.size, w.epsilon.ensures.value, w.epsilon.ensures.limits.no_debt, w.epsilon.ensures.limits.epsilon) in
                let greatest : FitsSigned w128 c.in-Some.greatest = omega (arith, ints) in
                let more = rw (to_z-of_z w128 w.joint.result level, to_z-of_z w128 w.epsilon.result epsilon, to_z-of_z w128 (w.joint.result +ℤ w.epsilon.result) sum, to_z-of_z w128 c.in-Some.greatest greatest) at w.if-joint-epsilon.false in
                let high : c.in-Some.greatest ≤ℤ (w.joint.result +ℤ w.epsilon.result) = omega (arith, ints, more) in
                let above : c.in-Some.greatest ≤ℤ (joint_of c.args.table.now c.args.report.now (object_at c.args.report.now n) +ℤ c.args.settings.now.epsilon) = omega (arith, ints, high, w.joint.ensures.value, w.epsilon.ensures.value) in
                rw (to_z-of_z w128 c.in-Some.greatest greatest)
                (subst (λ (m : ℕ). c.in-Some.greatest ≤ℤ (joint_of c.args.table.now c.args.report.now (object_at c.args.report.now m) +ℤ c.args.settings.now.epsilon)) (sym e) above)
            | else-is_member-via-else-is_member w ↦
                absurd (true≢false (sym member ∙ ap (λ (m : ℕ). is_in c.args.members.now (object_at c.args.report.now m)) e ∙ ap (is_in c.args.members.now) here ∙ sym c.is_member.ensures ∙ w.if-is_member.false))
          ]
    ]

pub returns : goal.returns
returns c = (
  λ _. passes c.args.settings.now c.args.table.now c.args.members.now c.args.report.now c.in-Some.greatest c.requires.ready.members (record { bound = c.in-Some.ensures.bound; reached = c.in-Some.ensures.reached })
      (λ i below member.
      let greatest : FitsSigned w128 c.in-Some.greatest = omega (arith, ints) in
      rw (to_z-of_z w128 c.in-Some.greatest greatest) at c.loop-place.invariant i (omega (arith, below, c.len-place-end.ensures.value, c.loop-place-test.false)) member),
  λ _. refl,
)
