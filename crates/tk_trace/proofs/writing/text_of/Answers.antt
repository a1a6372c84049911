use Rattle.std.proofs.Common.{ap, ◌∙◌}
use Rattle.tk_input.proofs.CatalogLemmas.{names_fit}
use Rattle.tk_trace.proofs.StoryLemmas.{journal_given}
use Rattle.tk_trace.proofs.writing.text_of.Goals as goal

pub put_names-requires : goal.put_names-requires
put_names-requires c = names_fit c.args.names.now c.requires.names

pub put_journal-requires : goal.put_journal-requires
put_journal-requires c =
    journal_given c.args.story.now.story c.monitors.result c.journal.result.now c.journal.ensures.legal (c.monitors.ensures.value ∙ ap (λ t. t.monitors) c.settings-settings.ensures) c.journal.ensures.value
