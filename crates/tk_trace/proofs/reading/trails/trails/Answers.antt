use Rattle.std.proofs.Common.{◌≡◌, ◌++◌, ◌∷◌, [], ◌+◌, ◌-◌, ◌<◌, ℕ, length, get_or, Some, subst, ap, ◌∙◌, arith}
use Rattle.std.proofs.lemmas.Result.{err_from_is_err_and}
use Rattle.std.proofs.lemmas.List.{map_push}
use Rattle.tk_trace.specs.Reading.{Fails, trail_at, trails_at}
use Rattle.tk_verify.specs.Recorded.{trails_in}
use Rattle.tk_trace.proofs.Loop.{trails_done, trails_end, trails_go_on}
use Rattle.tk_trace.proofs.reading.trails.trails.Goals as goal

pub returns-in_err-item : goal.returns-in_err-item
returns-in_err-item c =
    let p = err_from_is_err_and c.from_residual.result c.from_residual.ensures.1 in
    let logs = c.args.logs.now.logs in
    let i = c.loop-i.i in
    let within : i < length logs = omega (arith, c.loop-i-test.true, c.monitors-i-end.ensures.value) in
    let place : i + 1 - 1 ≡ i = omega arith in
    let feeders : c.feeders.result ≡ length (get_or logs i []) = c.feeders.ensures.value ∙ ap (λ (k : ℕ). length (get_or logs k [])) place in
    let failed = subst (λ (n : ℕ). Fails c.in_err-item.field-0.0 (trail_at n c.loop-i.rest.now)) feeders c.in_err-item.ensures in
    rw (p.1, p.2) (trails_end c.in_err-item.field-0.0 logs (trails_in c.loop-i.list.items) i c.loop-i.rest.now (trails_at logs c.args.bytes.now) within failed c.loop-i.invariant)

pub loop-i-preserved : goal.loop-i-preserved
loop-i-preserved c =
    let logs = c.args.logs.now.logs in
    let i = c.loop-i.i in
    let within : i < length logs = omega (arith, c.loop-i-test.true, c.monitors-i-end.ensures.value) in
    let place : i + 1 - 1 ≡ i = omega arith in
    let feeders : c.feeders.result ≡ length (get_or logs i []) = c.feeders.ensures.value ∙ ap (λ (k : ℕ). length (get_or logs k [])) place in
    let read = subst (λ (n : ℕ). trail_at n c.loop-i.rest.now ≡ Some (c.in_ok-item.item.items, c.in_ok-item.after.now)) feeders c.in_ok-item.ensures in
    let more : trails_in c.push.new.self.items ≡ trails_in c.loop-i.list.items ++ c.in_ok-item.item.items ∷ [] = rw c.in_ok-push.ensures.items (map_push _ c.loop-i.list.items _) in
    rw more (trails_go_on logs (trails_in c.loop-i.list.items) i c.loop-i.rest.now c.in_ok-item.item.items c.in_ok-item.after.now (trails_at logs c.args.bytes.now) within read c.loop-i.invariant)

pub returns : goal.returns
returns c = trails_done c.args.logs.now.logs (trails_in c.loop-i.list.items) c.loop-i.i c.loop-i.rest.now (trails_at c.args.logs.now.logs c.args.bytes.now) (omega (arith, c.loop-i-test.false, c.monitors-i-end.ensures.value)) c.loop-i.invariant
