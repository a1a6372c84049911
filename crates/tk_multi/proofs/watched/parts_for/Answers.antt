use Rattle.std.proofs.Common.{ℕ, ℤ, ◌+◌, ◌<◌, ◌≤◌, List, ◌++◌, length, map, ap, ◌∙◌, arith}
use Rattle.std.proofs.lemmas.List.{take_all}
use Rattle.tk_input.specs.Judged.{Assigned, under, assigned_from}
use Rattle.tk_input.specs.Logs.{parts_of}
use Rattle.tk_multi.specs.Projection.{seen_logs, watched_in}
use Rattle.tk_multi.proofs.AssignLemmas.{assigned_more}
use Rattle.tk_multi.proofs.watched.parts_for.Goals as goal

pub loop-j-preserved : goal.loop-j-preserved
loop-j-preserved c =
    let logs = c.args.logs.now.logs in
    let j = c.loop-j.j in
    let within : j < length logs = let e = c.monitors-j-end.ensures.value in let t = c.loop-j-test.true in omega (arith, e, t) in
    c.in_ok-add_parts.ensures
    ∙ ap (λ (l : Assigned). l ++ under (j + 1) (map (watched_in c.args.watch.now) (parts_of logs (j + 1)))) c.loop-j.invariant
    ∙ assigned_more c.args.watch.now logs j within

pub returns-clause-parts : goal.returns-clause-parts
returns-clause-parts c =
    let logs = c.args.logs.now.logs in
    let past : length logs ≤ c.loop-j.j = let e = c.monitors-j-end.ensures.value in let t = c.loop-j-test.false in omega (arith, e, t) in
    c.loop-j.invariant ∙ ap (λ (l : List (List (List (ℕ × ℤ)))). assigned_from 1 (seen_logs c.args.watch.now l)) (take_all c.loop-j.j logs past)
