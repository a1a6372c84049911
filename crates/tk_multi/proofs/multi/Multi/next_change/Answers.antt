use Rattle.std.proofs.Common.{◌≡◌, true, sym, subst, ap, ◌∙◌, arith}
use Rattle.tk_multi.specs.Multi.{GoesOn, MultiView, next_change}
use Rattle.tk_multi.specs.Projection.{is_feeder}
use Rattle.tk_multi.proofs.MultiLemmas.{at_the_end, goes_on}
use Rattle.tk_multi.proofs.multi.Multi.next_change.Goals as goal

pub returns-then-place-length-clause-more : goal.returns-then-place-length-clause-more
returns-then-place-length-clause-more g c =
    let m : MultiView = record { logs = c.self.inside.logs; places = c.self.inside.front; watches = c.self.inside.watches.items; worlds = c.self.inside.worlds.items } in
    let view : m ≡ c.args.self.now = c.self.view_is in
    let there : is_feeder m.logs c.args.mon.0 c.args.f.0 ≡ true =
    ap (λ (v : MultiView). is_feeder v.logs c.args.mon.0 c.args.f.0) view ∙ sym c.has_feeder.ensures ∙ c.if-not-has_feeder.false in
    subst (λ (v : MultiView). GoesOn v c.args.mon.0 c.args.f.0) view
    (goes_on m c.args.mon.0 c.args.f.0 c.self.invariant.cut there
    (let p = c.place-place.ensures in let l = c.length.ensures in let t = c.if-place-length.true in omega (arith, p, l, t))
    (let l = c.length.ensures in let t = c.length.type_inv in omega (arith, l, t)))

pub returns-else-place-length-clause-value : goal.returns-else-place-length-clause-value
returns-else-place-length-clause-value g c =
    let m : MultiView = record { logs = c.self.inside.logs; places = c.self.inside.front; watches = c.self.inside.watches.items; worlds = c.self.inside.worlds.items } in
    let view : m ≡ c.args.self.now = c.self.view_is in
    let there : is_feeder m.logs c.args.mon.0 c.args.f.0 ≡ true =
    ap (λ (v : MultiView). is_feeder v.logs c.args.mon.0 c.args.f.0) view ∙ sym c.has_feeder.ensures ∙ c.if-not-has_feeder.false in
    sym (sym (ap (λ (v : MultiView). next_change v c.args.mon.0 c.args.f.0) view)
    ∙ at_the_end m c.args.mon.0 c.args.f.0 there (let p = c.place-place.ensures in let l = c.length.ensures in let t = c.if-place-length.false in omega (arith, p, l, t)))
