use Rattle.std.proofs.Common.{ℕ, List, ap, ◌∙◌}
use Rattle.tk_input.specs.Catalog.{catalog_of}
use Rattle.tk_commands.proofs.NumberedLemmas.{catalog_numbered}
use Rattle.tk_commands.proofs.generate.catalogue.Goals as goal

pub returns-in-Ok-clause-ok : goal.returns-in-Ok-clause-ok
returns-in-Ok-clause-ok c =
    let read = c.in-Ok.ensures.ok in
    let text = ap (λ (t : List ℕ). catalog_of t) (c.as_slice.ensures.value ∙ c.in_ok-text.ensures) in
    let meant = catalog_numbered c.args.objects c.requires.some c.requires.few in
    cc (read, text, meant)
