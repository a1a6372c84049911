use Rattle.std.proofs.Common.{◌≡◌, ℕ, ◌+◌, ◌-◌, ◌∙◌, List, [], get_or, set, sym, ap, arith}
use Rattle.std.specs.Prelude.{ℤ}
use Rattle.std.proofs.lemmas.List.{get_or_default}
use Rattle.tk_input.specs.Changes.{grown_by}
use Rattle.tk_trail.specs.Growing.{grown_parts}
use Rattle.tk_monitor.proofs.parts.grow_part.Goals as goal

pub returns-clause-ok : goal.returns-clause-ok
unfolding grown_parts
returns-clause-ok c =
    let parts = c.args.parts.now.items in
    let i = c.args.i in
    let change : ℕ × ℤ = (c.args.change.obj.0, c.args.change.by) in
    let item : c.index_mut.result.now ≡ get_or parts i [] = c.index_mut.ensures.value ∙ get_or_default parts i c.index_mut.result.now [] c.requires.part in
    let new : c.grow.new.self ≡ grown_by change (get_or parts i []) = c.in_ok-grow.ensures.ok ∙ ap (grown_by change) item in
    let e : (i + 1) - 1 ≡ i = omega arith in
    ap (λ (p : List (ℕ × ℤ)). set parts i p) new ∙ ap (λ (k : ℕ). set parts k (grown_by change (get_or parts k []))) (sym e)
