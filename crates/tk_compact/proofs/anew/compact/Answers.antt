use Rattle.std.proofs.Common.{◌≡◌, ℕ, suc, ◌+◌, ◌<◌, ◌∙◌, ◌++◌, ◌∷◌, [], List, cond, get_or, take, sym, ap, arith}
use Rattle.std.specs.Prelude.{FitsSigned, ℤ, pos, filter}
use Rattle.std.specs.Int.{w128}
use Rattle.std.specs.List.{enumerate_from}
use Rattle.std.proofs.lemmas.Int.{ints, to_z-of_z}
use Rattle.std.proofs.lemmas.List.{take_all}
use Rattle.tk_base.specs.Settings.{Setup}
use Rattle.tk_trail.specs.Readings.{value_of_object, values_of}
use Rattle.tk_trail.proofs.BoundLemmas.{small_values}
use Rattle.tk_compact.specs.Compacted.{changes_something, compacted}
use Rattle.tk_compact.proofs.BaseLemmas.{length-values_of}
use Rattle.tk_compact.proofs.BeginLemmas.{value_in}
use Rattle.tk_compact.proofs.CompactedLemmas.{taken_more}
use Rattle.tk_compact.proofs.anew.compact.Goals as goal

pub loop-i-preserved : goal.loop-i-preserved
loop-i-preserved c =
    let m = c.args.monitor.now in
    let values = values_of m.setup m.trail in
    let i = c.loop-i.i in
    let front : List (ℕ × ℤ) = filter changes_something (enumerate_from 1 (take i values)) in
    let count : c.objects-objects.result ≡ m.setup.objects = c.objects-objects.ensures.value ∙ ap (λ (s : Setup). s.objects) c.settings.ensures.value ∙ sym c.settings.ensures.objects in
    let low = c.loop-i-test.true in
    let inside : i < m.setup.objects = omega (arith, count, low) in
    let more : filter changes_something (enumerate_from 1 (take (suc i) values)) ≡ front ++ cond (changes_something (1 + i, get_or values i (pos 0))) ((1 + i, get_or values i (pos 0)) ∷ []) [] =
    taken_more 1 values i (pos 0) (omega (arith, inside, length-values_of m.setup m.trail)) in
    let is : c.value.result ≡ value_of_object m.setup m.trail (i + 1) = c.value.ensures in
    let small = small_values m.setup m.trail (i + 1) c.requires.setup in
    let fits : FitsSigned w128 c.value.result = omega (arith, ints, is, small) in
    let same : i + 1 ≡ 1 + i = omega arith in
    let next : i + 1 ≡ suc i = omega arith in
    let added : c.add.new.changes ≡ front ++ cond (changes_something (i + 1, c.value.result)) ((i + 1, c.value.result) ∷ []) [] =
    rw (to_z-of_z w128 c.value.result fits) at c.in_ok-add.ensures ∙ ap (λ (cs : List (ℕ × ℤ)). cs ++ cond (changes_something (i + 1, c.value.result)) ((i + 1, c.value.result) ∷ []) []) c.loop-i.invariant in
    added
    ∙ ap (λ (v : ℤ). front ++ cond (changes_something (i + 1, v)) ((i + 1, v) ∷ []) []) (is ∙ sym (value_in m.setup m.trail i inside))
    ∙ ap (λ (n : ℕ). front ++ cond (changes_something (n, get_or values i (pos 0))) ((n, get_or values i (pos 0)) ∷ []) []) same
    ∙ sym more
    ∙ ap (λ (n : ℕ). filter changes_something (enumerate_from 1 (take n values))) (sym next)

pub returns : goal.returns
unfolding compacted
returns c =
    let m = c.args.monitor.now in
    let values = values_of m.setup m.trail in
    let count : c.objects-objects.result ≡ m.setup.objects = c.objects-objects.ensures.value ∙ ap (λ (s : Setup). s.objects) c.settings.ensures.value ∙ sym c.settings.ensures.objects in
    let high = c.loop-i-test.false in
    c.loop-i.invariant
    ∙ ap (λ (vs : List ℤ). filter changes_something (enumerate_from 1 vs)) (take_all c.loop-i.i values (omega (arith, count, high, length-values_of m.setup m.trail)))
