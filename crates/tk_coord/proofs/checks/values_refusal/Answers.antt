use Rattle.std.proofs.Common.{◌∙◌, sym}
use Rattle.tk_journal.proofs.Content.{values_small}
use Rattle.tk_coord.proofs.checks.values_refusal.Goals as goal

pub least_member-least-requires-clause-small : goal.least_member-least-requires-clause-small
least_member-least-requires-clause-small c = values_small c.args.values.now (sym c.too_great.ensures ∙ c.in_default.is)
