use Rattle.std.proofs.Common.{◌≡◌, ℕ, List, Some, sym, ap, ◌∙◌}
use Rattle.std.specs.Prelude.{bytes_eq}
use Rattle.csv.specs.Records.{field_at, fields_of}
use Rattle.tk_input.proofs.LogLemmas.{bytes_of}
use Rattle.tk_window.proofs.ReadingLemmas.{mark_found, no_field}
use Rattle.tk_window.proofs.ticked.is_mark.Goals as goal

pub returns-in-Some : goal.returns-in-Some
returns-in-Some c =
    let fields = fields_of c.args.row.now in
    let field = c.in-Some.field.now in
    let found : Some field ≡ field_at fields 0 = sym (ap bytes_of c.in-Some.is) ∙ c.get.ensures.value in
    c.eq.ensures ∙ ap (λ (t : List ℕ). bytes_eq field t) c.as_slice.ensures ∙ mark_found fields field (sym c.len.ensures ∙ c.if-len-ne1.false) found

pub returns-in-None : goal.returns-in-None
returns-in-None c = let none = no_field (fields_of c.args.row.now) (sym c.len.ensures ∙ c.if-len-ne1.false) (sym c.get.ensures.value ∙ ap bytes_of c.in-None.is) in absurd none
