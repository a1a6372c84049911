use Rattle.std.proofs.Common.{◌+◌, sym, ◌∙◌, ap, arith}
use Rattle.std.specs.List.{list_any}
use Rattle.tk_base.proofs.ListLemmas.{rest_is}
use Rattle.tk_stream.specs.Plain.{is_mark}
use Rattle.tk_stream.proofs.PlainLemmas.{first_mark}
use Rattle.tk_stream.proofs.plain.comma_in.Goals as goal

pub returns : goal.returns
returns c =
    let line = c.args.line.now in
    let place = c.in_ok-place.place in
    let first = first_mark line place (sym c.mark_in.ensures ∙ c.in_ok-place.was) in
    record {
      some = omega (arith, c.if-place-eq0.false);
      within = first.0;
      comma = c.if-line-place-ne44.false;
      start = c.if-line.false;
      name = first.1;
      text = ap (list_any is_mark) (sym (rest_is line (place + 1))) ∙ sym c.has_mark.ensures ∙ c.if-has_mark.false;
    }
