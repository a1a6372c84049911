use Rattle.std.proofs.Common.{sym, ◌∙◌}
use Rattle.tk_input.proofs.CuttingLemmas.{no_comma, one_comma, two_commas}
use Rattle.tk_input.proofs.plain.both_in.Goals as goal

pub returns-in_err-place : goal.returns-in_err-place
returns-in_err-place c = rw c.from_residual.ensures (sym (no_comma c.args.line.now (sym c.place_of.ensures ∙ c.in_err-place.was)))

pub returns-then-is_some : goal.returns-then-is_some
returns-then-is_some c =
    sym (two_commas c.args.line.now c.in_ok-place.place c.place_of-2.result (sym c.place_of.ensures ∙ c.in_ok-place.was) c.place_of-2.ensures (sym c.is_some.ensures ∙ c.if-is_some.true))

pub returns : goal.returns
returns c =
    one_comma c.args.line.now c.in_ok-place.place c.place_of-2.result (sym c.place_of.ensures ∙ c.in_ok-place.was) c.place_of-2.ensures (sym c.is_some.ensures ∙ c.if-is_some.false)
