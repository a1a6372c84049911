use Rattle.std.proofs.Common.{◌≡◌, ◌∷◌, [], ◌++◌, ℕ, ℤ, pos, List, get_or, length, map, take, sym, ap, ◌∙◌, arith}
use Rattle.std.proofs.Math.Seq.{take-length}
use Rattle.std.proofs.lemmas.List.{map-append, take_more}
use Rattle.tk_base.specs.declared.ids.Obj.{Obj}
use Rattle.tk_base.specs.declared.narrow_pair.NarrowPair.{NarrowPair}
use Rattle.tk_base.specs.Pairs.{pairs_of, narrow_pair_of}
use Rattle.tk_base.proofs.pairs.builder.widened.Goals as goal

abbrev pair_of : Obj × ℤ → ℕ × ℤ
pair_of p = (p.0.0, p.1)

pub loop-narrow-preserved : goal.loop-narrow-preserved
loop-narrow-preserved c =
    let loop = c.loop-narrow in
    let list = c.args.list.now in
    let front = take loop.narrow-index list in
    let blank : NarrowPair = record { obj = record { 0 = 0 }; by = pos 0 } in
    let item = get_or list loop.narrow-index blank in
    record {
      same = ap pairs_of c.push_reserved.ensures.items
          ∙ map-append pair_of loop.wide.items (c.wide.result ∷ [])
          ∙ ap (λ (pairs : List (ℕ × ℤ)). pairs ++ pair_of c.wide.result ∷ []) loop.invariant.same
          ∙ ap (λ (p : ℕ × ℤ). map narrow_pair_of front ++ p ∷ []) c.wide.ensures
          ∙ sym (map-append narrow_pair_of front (item ∷ []))
          ∙ ap (λ (all : List NarrowPair). map narrow_pair_of all) (sym (take_more list loop.narrow-index blank c.loop-narrow-test.true));
      len = omega (arith, c.push_reserved.ensures.len, loop.invariant.len);
      room = omega (arith, c.push_reserved.ensures.capacity, loop.invariant.room);
    }

pub returns : goal.returns
returns c =
    let loop = c.loop-narrow in
    let list = c.args.list.now in
    let whole : loop.narrow-index ≡ length list = omega (arith, c.loop-narrow-test.false, loop.auto.narrow-index-end) in
    ap pairs_of c.push_reserved-2.ensures.items
    ∙ map-append pair_of loop.wide.items (c.args.last ∷ [])
    ∙ ap (λ (pairs : List (ℕ × ℤ)). pairs ++ pair_of c.args.last ∷ [])
    (loop.invariant.same ∙ ap (λ (n : ℕ). map narrow_pair_of (take n list)) whole ∙ ap (λ (ns : List NarrowPair). map narrow_pair_of ns) (take-length list))
