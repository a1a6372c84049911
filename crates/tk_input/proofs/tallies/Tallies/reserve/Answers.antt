use Rattle.std.proofs.Common.{refl, sym, ◌∙◌}
use Rattle.tk_input.proofs.CountLemmas.{noted_again, noted_push, not_some, found_none}
use Rattle.tk_input.proofs.tallies.Tallies.reserve.Goals as goal

pub returns-then-is_some-clause-ok : goal.returns-then-is_some-clause-ok
returns-then-is_some-clause-ok c = noted_again c.args.self.now c.args.name.now c.place_of.result c.place_of.ensures (sym c.is_some.ensures ∙ c.if-is_some.true)

pub returns-clause-ok : goal.returns-clause-ok
returns-clause-ok c =
    rw c.in_ok-push.ensures.items
    (noted_push c.args.self.now c.self.inside.list.items c.args.name.now _ c.self.view_is
    (found_none c.args.self.now c.args.name.now c.place_of.result c.place_of.ensures (not_some c.place_of.result (sym c.is_some.ensures ∙ c.if-is_some.false)))
    c.in_ok-from_str.ensures.ok refl refl)
