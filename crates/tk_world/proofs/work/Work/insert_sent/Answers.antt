use Rattle.std.proofs.Common.{refl, ap, sym, ◌∙◌}
use Rattle.std.proofs.lemmas.Bool.{eq-eqb}
use Rattle.std.proofs.lemmas.List.Folds.{list_any_at}
use Rattle.tk_world.specs.Work.{sends_to}
use Rattle.tk_world.proofs.work.Work.insert_sent.Goals as goal

pub insert-requires-clause-some : goal.insert-requires-clause-some
insert-requires-clause-some c =
    let to = c.in-Sent.to in
    (c.requires to.0 (list_any_at (sends_to to.0) c.args.entries.now c.loop-entry.entry-index c.entry-item.result c.loop-entry-test.true
    (ap (sends_to to.0) (sym c.entry-item.is ∙ c.in-Sent.is) ∙ eq-eqb to.0 to.0 refl))).0

pub insert-requires-clause-within : goal.insert-requires-clause-within
insert-requires-clause-within c =
    let to = c.in-Sent.to in
    (c.requires to.0 (list_any_at (sends_to to.0) c.args.entries.now c.loop-entry.entry-index c.entry-item.result c.loop-entry-test.true
    (ap (sends_to to.0) (sym c.entry-item.is ∙ c.in-Sent.is) ∙ eq-eqb to.0 to.0 refl))).1
