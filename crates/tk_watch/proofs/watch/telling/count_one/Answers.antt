use Rattle.std.proofs.Common.{◌≡◌, ℕ, ◌+◌, ◌-◌, ◌∙◌, get_or, set, sym, ap, arith}
use Rattle.std.proofs.lemmas.List.{get_or_default}
use Rattle.tk_wire.specs.Meanings.{raised_by}
use Rattle.tk_watch.proofs.watch.telling.count_one.Goals as goal

pub returns : goal.returns
returns c =
    let items = c.args.counts.now.items in
    let i = c.args.i in
    let at : c.index.result.now ≡ get_or items i 0 = c.index.ensures ∙ get_or_default items i c.index.result.now 0 c.requires in
    let e : (i + 1) - 1 ≡ i = omega arith in
    ap (λ (v : ℕ). set items i v) (c.saturating_add-count.ensures ∙ ap (raised_by 1) at)
    ∙ ap (λ (k : ℕ). set items k (raised_by 1 (get_or items k 0))) (sym e)
