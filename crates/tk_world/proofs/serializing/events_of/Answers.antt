use Rattle.std.proofs.Common.{◌≡◌, replicate, rules, ap, ◌∙◌}
use Rattle.tk_base.specs.Settings.{Setup}
use Rattle.tk_world.proofs.serializing.events_of.Goals as goal

pub walk_journal-requires-clause-places : goal.walk_journal-requires-clause-places
walk_journal-requires-clause-places c =
    let places : c.in_ok-vec.field-0.items ≡ replicate c.monitors.result 0 = search rules in
    places ∙ ap (λ k. replicate k 0) (c.monitors.ensures.value ∙ ap (λ (q : Setup). q.monitors) c.settings.ensures)

pub walk_journal-requires-clause-events : goal.walk_journal-requires-clause-events
walk_journal-requires-clause-events c = c.new.ensures.items
