use Rattle.std.proofs.Common.{ℕ, ℤ, List, ◌++◌, take, ap, sym, ◌∙◌}
use Rattle.std.specs.List.{flat_map}
use Rattle.std.proofs.lemmas.List.{flat_map_more}
use Rattle.tk_input.specs.Changes.{pair_of}
use Rattle.tk_input.proofs.TakingLemmas.{take_one_more}
use Rattle.tk_trace.specs.Spelling.{change}
use Rattle.tk_trace.proofs.writing.logs.changes.Goals as goal

pub loop-i-preserved : goal.loop-i-preserved
loop-i-preserved c =
    let out = c.args.out.now.items in
    let changes = c.args.changes.now in
    let i = c.loop-i.i in
    let here = pair_of c.at.result in
    c.in_ok-change.ensures
    ∙ ap (λ (bytes : List ℕ). bytes ++ change here) c.loop-i.invariant
    ∙ flat_map_more change out (take i changes) here
    ∙ ap (λ (cs : List (ℕ × ℤ)). out ++ flat_map change cs) (sym (take_one_more changes i here c.at.ensures))
