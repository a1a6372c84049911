use Rattle.std.proofs.Common.{◌≡◌, ◌<◌, ℕ, Bool, false, ◌==◌, ◌&&◌, length, get_or, eq-eqb, arith, sym, ap, ap₂, ◌∙◌}
use Rattle.std.proofs.Math.Bool.{and-false}
use Rattle.std.specs.Prelude.{nat_le}
use Rattle.std.specs.List.{zip, list_all}
use Rattle.std.proofs.lemmas.Bool.{leb-true, false_from_ne_true}
use Rattle.std.proofs.lemmas.List.Folds.{list_all_at}
use Rattle.std.proofs.lemmas.Slice.Zip.{get_or-zip, length-zip}
use Rattle.tk_coord.proofs.SearchLemmas.{all_pass}
use Rattle.tk_coord.proofs.checks.are_further.Goals as goal

abbrev no_less : ℕ × ℕ → Bool
no_less p = nat_le p.0 p.1

pub returns-then-at : goal.returns-then-at
returns-then-at c =
    let earlier = c.args.earlier.now in
    let places = c.args.places.now in
    let same : length places ≡ length earlier = omega (arith, c.len.ensures, c.len-2.ensures, c.if-len.false) in
    let one : c.loop-f.f < length earlier = omega (arith, c.len-f-end.ensures, same) in
    let two : c.loop-f.f < length places = omega (arith, same, one) in
    let back : nat_le (get_or earlier c.loop-f.f 0) (get_or places c.loop-f.f 0) ≡ false =
    false_from_ne_true (nat_le (get_or earlier c.loop-f.f 0) (get_or places c.loop-f.f 0))
    (λ up. let le = leb-true (get_or earlier c.loop-f.f 0) (get_or places c.loop-f.f 0) up in omega (arith, le, c.at.ensures, c.at-in-loop-f.ensures, c.if-at.true)) in
    let lower : list_all no_less (zip earlier places) ≡ false =
    list_all_at no_less (zip earlier places) c.loop-f.f (0, 0) (omega (arith, one, two, length-zip earlier places)) (ap no_less (get_or-zip earlier places c.loop-f.f (0, 0) one two) ∙ back) in
    sym (ap (λ b. length places == length earlier && b) lower ∙ and-false (length places == length earlier))

pub returns : goal.returns
returns c =
    let earlier = c.args.earlier.now in
    let places = c.args.places.now in
    let same : length places ≡ length earlier = omega (arith, c.len.ensures, c.len-2.ensures, c.if-len.false) in
    sym (ap₂ ◌&&◌ (eq-eqb (length places) (length earlier) same)
    (all_pass no_less (zip earlier places) (0, 0) (λ k within.
    let one : k < length earlier = omega (arith, within, same, length-zip earlier places) in
    let two : k < length places = omega (arith, same, one) in
    ap no_less (get_or-zip earlier places k (0, 0) one two) ∙ c.loop-f.invariant k (omega (arith, c.len-f-end.ensures, same, one)))))
