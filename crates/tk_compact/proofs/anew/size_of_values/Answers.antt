use Rattle.std.proofs.Common.{◌≡◌, ◌+◌, ◌<◌, ◌∙◌, List, sym, ap, arith}
use Rattle.std.specs.Prelude.{FitsSigned, ℤ, sum_by, unsigned_abs}
use Rattle.std.specs.Int.{w128}
use Rattle.std.proofs.lemmas.Int.{ints, to_z-of_z}
use Rattle.std.proofs.lemmas.List.{take_all}
use Rattle.tk_base.specs.Settings.{Setup}
use Rattle.tk_trail.specs.Readings.{value_of_object, values_of}
use Rattle.tk_trail.proofs.BoundLemmas.{small_values}
use Rattle.tk_compact.proofs.BaseLemmas.{length-values_of}
use Rattle.tk_compact.proofs.BeginLemmas.{sizes_more}
use Rattle.tk_compact.proofs.anew.size_of_values.Goals as goal

pub loop-i-preserved : goal.loop-i-preserved
loop-i-preserved c =
    let m = c.args.monitor.now in
    let i = c.loop-i.i in
    let count : c.objects-i-end.result ≡ m.setup.objects = c.objects-i-end.ensures.value ∙ ap (λ (s : Setup). s.objects) c.settings.ensures.value ∙ sym c.settings.ensures.objects in
    let low = c.loop-i-test.true in
    let inside : i < m.setup.objects = omega (arith, count, low) in
    let is : c.value.result ≡ value_of_object m.setup m.trail (i + 1) = c.value.ensures in
    let small = small_values m.setup m.trail (i + 1) c.requires.setup in
    let fits : FitsSigned w128 c.value.result = omega (arith, ints, is, small) in
    let passed = to_z-of_z w128 c.value.result fits in
    let size = c.unsigned_abs-sum.ensures.value in
    let more = sizes_more m.setup m.trail i inside in
    let sum = c.loop-i.invariant.sum_is in
    let few = c.loop-i.invariant.few in
    record {
      sum_is = omega (arith, ints, sum, size, is, passed, more);
      few = omega (arith, ints, few, size, is, passed, small);
    }

pub returns : goal.returns
returns c =
    let m = c.args.monitor.now in
    let count : c.objects-i-end.result ≡ m.setup.objects = c.objects-i-end.ensures.value ∙ ap (λ (s : Setup). s.objects) c.settings.ensures.value ∙ sym c.settings.ensures.objects in
    let high = c.loop-i-test.false in
    c.loop-i.invariant.sum_is
    ∙ ap (λ (values : List ℤ). sum_by (λ v. unsigned_abs v) values) (take_all c.loop-i.i (values_of m.setup m.trail) (omega (arith, count, high, length-values_of m.setup m.trail)))
