use Rattle.std.proofs.Common.{ℕ, ◌+◌, ◌-◌, ◌<◌, refl, List, length, ap, arith}
use Rattle.std.specs.Vec.{with_item}
use Rattle.tk_multi.proofs.WatchLemmas.{row_at, rows_set}
use Rattle.tk_multi.proofs.front.Front.raise.Goals as goal

pub returns : goal.returns
returns c =
    let rows = c.self.inside.rows.items in
    let row = c.index_mut.result.now in
    let i = c.args.mon.0 - 1 in
    let within : i < length c.args.self.now = let a = c.requires.place.from_one in let b = c.requires.place.monitor in omega (arith, a, b) in
    let here = row_at rows row c.args.self.now i c.self.view_is c.index_mut.ensures.value within in
    rows_set rows row (with_item row (c.args.f.0 - 1) (c.index_mut-2.result.now + 1)) c.args.self.now i (c.args.f.0 - 1) c.index_mut-2.result.now c.self.view_is c.index_mut.ensures.value c.index_mut-2.ensures.value refl within
    (let a = c.requires.place.some in let b = c.requires.place.within in let e = ap (λ (r : List ℕ). length r) here in omega (arith, a, b, e))
