use Rattle.std.proofs.Common.{◌≡◌, ◌∙◌, ◌<◌, ◌++◌, ◌∷◌, [], ap, refl, get_or, length, length-append, arith}
use Rattle.std.specs.Prelude.{List}
use Rattle.tk_wire.specs.declared.beginning.Beginning.{Beginning}
use Rattle.tk_watch.specs.Greeted.{beginning}
use Rattle.tk_watch.proofs.GreetingLemmas.{beginnings_more}
use Rattle.tk_watch.proofs.watch.connecting.beginnings.Goals as goal

pub loop-i-preserved : goal.loop-i-preserved
loop-i-preserved c =
    let counts = c.args.counts.now in
    let i = c.loop-i.i in
    let next : Beginning = beginning (get_or counts i 0) c.at.result in
    let pushed : c.push.new.self.items ≡ c.loop-i.list.items ++ next ∷ [] = c.in_ok-push.ensures.items in
    let long = ap (λ (bs : List Beginning). length bs) pushed ∙ length-append c.loop-i.list.items (next ∷ []) in
    let low : i < length counts = c.loop-i-test.true in
    let high : i < length c.args.starts.now = omega (arith, low, c.requires) in (
      omega (arith, long, c.loop-i.invariant.0),
      pushed ∙ ap (λ (bs : List Beginning). bs ++ next ∷ []) c.loop-i.invariant.1 ∙ beginnings_more counts c.args.starts.now i (get_or counts i 0) c.at.result low high refl c.at.ensures,
    )
