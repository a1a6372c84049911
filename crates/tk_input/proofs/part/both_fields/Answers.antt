use Rattle.std.proofs.Common.{sym, ap, ◌∙◌}
use Rattle.csv.specs.Records.{fields_of}
use Rattle.tk_input.proofs.LogLemmas.{both_found, no_first, no_second, bytes_of}
use Rattle.tk_input.proofs.part.both_fields.Goals as goal

pub returns-in_err-get : goal.returns-in_err-get
returns-in_err-get c = let none = no_first (fields_of c.args.row.now) (sym c.len.ensures ∙ c.if-len-ne2.false) (sym c.get.ensures.value ∙ ap bytes_of c.in_err-get.was) in absurd none

pub returns-in_err-get-2 : goal.returns-in_err-get-2
returns-in_err-get-2 c = let none = no_second (fields_of c.args.row.now) (sym c.len.ensures ∙ c.if-len-ne2.false) (sym c.get-2.ensures.value ∙ ap bytes_of c.in_err-get-2.was) in absurd none

pub returns : goal.returns
returns c =
    both_found (fields_of c.args.row.now) c.in_ok-get.field-0.now c.in_ok-get-2.field-0.now (sym c.len.ensures ∙ c.if-len-ne2.false)
    (sym (ap bytes_of c.in_ok-get.was) ∙ c.get.ensures.value)
    (sym (ap bytes_of c.in_ok-get-2.was) ∙ c.get-2.ensures.value)
