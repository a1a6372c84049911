use Rattle.std.proofs.Common.{◌≤◌, ℕ, ℤ, ◌+ℤ◌, length, subst, arith, FitsSigned}
use Rattle.std.specs.Int.{w128}
use Rattle.std.proofs.lemmas.Int.{ints, to_z-of_z}
use Rattle.std.proofs.lemmas.List.{length-map}
use Rattle.tk_base.specs.Pairs.{objects_of}
use Rattle.tk_alloc.proofs.PartLemmas.{IsRead, is_read}
use Rattle.tk_alloc.proofs.ShortTestLemmas.{joint_is}
use Rattle.tk_alloc.proofs.short_round.joint.Goals as goal

read : (c : goal.After-struct_told-1) → IsRead c.args.report.now.values (objects_of c.args.report.now.values) c.args.place c.at-value.result.0.0 c.at-value.result.1
read c =
    is_read c.args.report.now.values (objects_of c.args.report.now.values) c.args.place c.at-value.result.0.0 c.at-value.result.1 c.requires.values c.at-value.ensures.ascends
    (omega (arith, length-map c.args.report.now.values (λ (p : ℕ × ℤ). p.0))) c.at-value.ensures.value

inside : (c : goal.After-struct_told-1) → c.at-value.result.0.0 ≤ length c.args.table.now.rows
inside c =
    let bound = c.requires.within c.args.place 0 (omega (arith, length-map c.args.report.now.values (λ (p : ℕ × ℤ). p.0))) in
    subst (λ (o : ℕ). o ≤ length c.args.table.now.rows) (read c).at bound

pub own-requires-clause-some : goal.own-requires-clause-some
own-requires-clause-some c = (read c).positive

pub own-requires-clause-within : goal.own-requires-clause-within
own-requires-clause-within c = inside c

pub at-requires-clause-some : goal.at-requires-clause-some
at-requires-clause-some c = (is_read c.args.report.now.values (objects_of c.args.report.now.values) c.args.place c.at-value.result.0.0 c.at-value.result.1 c.requires.values c.at-value.ensures.ascends
    (omega (arith, length-map c.args.report.now.values (λ (p : ℕ × ℤ). p.0))) c.at-value.ensures.value).positive

pub at-requires-clause-within : goal.at-requires-clause-within
at-requires-clause-within c =
    let bound = c.requires.within c.args.place 0 (omega (arith, length-map c.args.report.now.values (λ (p : ℕ × ℤ). p.0))) in
    let r = is_read c.args.report.now.values (objects_of c.args.report.now.values) c.args.place c.at-value.result.0.0 c.at-value.result.1 c.requires.values c.at-value.ensures.ascends
    (omega (arith, length-map c.args.report.now.values (λ (p : ℕ × ℤ). p.0))) c.at-value.ensures.value in
    subst (λ (o : ℕ). o ≤ length c.args.table.now.rows) r.at bound

-- what is added
record IsSummed (report : ℤ) (own at : ℤ) : Type 0 where
  value_fits : FitsSigned w128 report
  own_fits : FitsSigned w128 own
  at_fits : FitsSigned w128 at
  some_fit : FitsSigned w128 (own +ℤ at)
  all_fit : FitsSigned w128 (own +ℤ at +ℤ report)

summed : (c : goal.After-at) → IsSummed c.at-value.result.1 c.own.result c.at.result
summed c =
    let r = is_read c.args.report.now.values (objects_of c.args.report.now.values) c.args.place c.at-value.result.0.0 c.at-value.result.1 c.requires.values c.at-value.ensures.ascends
    (omega (arith, length-map c.args.report.now.values (λ (p : ℕ × ℤ). p.0))) c.at-value.ensures.value in
    let small = r.small in
    let own = c.own.ensures.size in
    let at = c.at.ensures.size in
    record {
      value_fits = omega (arith, ints, small);
      own_fits = omega (arith, ints, own);
      at_fits = omega (arith, ints, at);
      some_fit = omega (arith, ints, own, at);
      all_fit = omega (arith, ints, own, at, small);
    }

pub overflow_add-result-2 : goal.overflow_add-result-2
overflow_add-result-2 c =
    let s = summed c in
    rw (to_z-of_z w128 c.own.result s.own_fits, to_z-of_z w128 c.at.result s.at_fits, to_z-of_z w128 c.at-value.result.1 s.value_fits, to_z-of_z w128 (c.own.result +ℤ c.at.result) s.some_fit) s.all_fit

pub returns-clause-value : goal.returns-clause-value
returns-clause-value c =
    let s = summed c in
    let r = is_read c.args.report.now.values (objects_of c.args.report.now.values) c.args.place c.at-value.result.0.0 c.at-value.result.1 c.requires.values c.at-value.ensures.ascends
    (omega (arith, length-map c.args.report.now.values (λ (p : ℕ × ℤ). p.0))) c.at-value.ensures.value in
    rw (to_z-of_z w128 c.own.result s.own_fits, to_z-of_z w128 c.at.result s.at_fits, to_z-of_z w128 c.at-value.result.1 s.value_fits, to_z-of_z w128 (c.own.result +ℤ c.at.result) s.some_fit, to_z-of_z w128 (c.own.result +ℤ c.at.result +ℤ c.at-value.result.1) s.all_fit)
    (joint_is c.args.table.now c.args.report.now c.args.place c.at-value.result.0.0 c.at-value.result.1 c.own.result c.at.result r c.own.ensures.value c.at.ensures.value)

pub returns-clause-size : goal.returns-clause-size
returns-clause-size c =
    let s = summed c in
    let r = is_read c.args.report.now.values (objects_of c.args.report.now.values) c.args.place c.at-value.result.0.0 c.at-value.result.1 c.requires.values c.at-value.ensures.ascends
    (omega (arith, length-map c.args.report.now.values (λ (p : ℕ × ℤ). p.0))) c.at-value.ensures.value in
    rw (to_z-of_z w128 c.own.result s.own_fits, to_z-of_z w128 c.at.result s.at_fits, to_z-of_z w128 c.at-value.result.1 s.value_fits, to_z-of_z w128 (c.own.result +ℤ c.at.result) s.some_fit, to_z-of_z w128 (c.own.result +ℤ c.at.result +ℤ c.at-value.result.1) s.all_fit)
    (omega (arith, ints, c.own.ensures.size, c.at.ensures.size, r.small))
