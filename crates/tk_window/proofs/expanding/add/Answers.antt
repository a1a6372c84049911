use Rattle.std.proofs.Common.{ℕ, ℤ, List, [], ◌∷◌, ◌++◌, take, append_assoc, ap, sym, ◌∙◌}
use Rattle.tk_input.specs.Changes.{pair_of}
use Rattle.tk_input.proofs.TakingLemmas.{take_one_more}
use Rattle.tk_window.proofs.expanding.add.Goals as goal

pub loop-i-preserved : goal.loop-i-preserved
loop-i-preserved c =
    let list = c.args.list.now in
    let changes = c.args.changes.now in
    let i = c.loop-i.i in
    let here = pair_of c.at.result in
    c.in_ok-push.ensures.ok
    ∙ ap (λ (all : List (ℕ × ℤ)). all ++ here ∷ []) c.loop-i.invariant
    ∙ append_assoc list (take i changes) (here ∷ [])
    ∙ ap (λ (more : List (ℕ × ℤ)). list ++ more) (sym (take_one_more changes i here c.at.ensures))
