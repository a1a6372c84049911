use Rattle.std.proofs.Common.{◌≡◌, ℕ, ◌+◌, ◌-◌, ◌<◌, [], length, get_or, replicate, ap, ◌∙◌, arith, rules}
use Rattle.tk_multi.proofs.StartLemmas.{begin_all, begin_one}
use Rattle.tk_multi.proofs.WatchLemmas.{rows_in, rows_push}
use Rattle.tk_multi.proofs.front.Front.start.Goals as goal

pub loop-j-preserved : goal.loop-j-preserved
loop-j-preserved c =
    let logs = c.args.logs.now.logs in
    let j = c.loop-j.j in
    let place : (j + 1) - 1 ≡ j = omega arith in
    let count : c.feeders.result ≡ length (get_or logs j []) = c.feeders.ensures.value ∙ ap (λ (k : ℕ). length (get_or logs k [])) place in
    let same : c.in_ok-vec.field-0.items ≡ replicate c.feeders.result 0 = search rules in
    let within : j < length logs = let end = c.monitors-j-end.ensures.value in let test = c.loop-j-test.true in omega (arith, end, test) in
    ap rows_in c.in_ok-push.ensures.items
    ∙ rows_push c.loop-j.rows.items c.in_ok-vec.field-0
    ∙ begin_one logs j (rows_in c.loop-j.rows.items) c.in_ok-vec.field-0.items within c.loop-j.invariant (same ∙ ap (λ (n : ℕ). replicate n 0) count)

pub returns : goal.returns
returns c =
    let logs = c.args.logs.now.logs in
    let all : c.loop-j.j ≡ length logs = let end = c.monitors-j-end.ensures.value in let test = c.loop-j-test.false in let most = c.loop-j.auto.j-end in omega (arith, end, test, most) in
    begin_all logs c.loop-j.j (rows_in c.loop-j.rows.items) all c.loop-j.invariant
