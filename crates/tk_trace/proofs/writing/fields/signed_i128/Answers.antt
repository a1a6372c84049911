use Rattle.std.proofs.Common.{List, ℕ, ◌++◌, ap, ◌∙◌, arith}
use Rattle.std.specs.Prelude.{FitsSigned}
use Rattle.std.specs.Int.{w128, cast_unsigned}
use Rattle.std.proofs.lemmas.Int.{ints, to_z-of_z}
use Rattle.std.proofs.lemmas.Result.{on_ok_weaker}
use Rattle.tk_trace.specs.Spelling.{number}
use Rattle.tk_trace.proofs.WritingLemmas.{signed_is}
use Rattle.tk_trace.proofs.writing.fields.signed_i128.Goals as goal

pub returns : goal.returns
returns c =
    let fits : FitsSigned w128 c.args.value = omega (arith, ints, c.ranges.value.sfits) in
    let form = c.cast_unsigned.ensures ∙ ap (cast_unsigned w128) (to_z-of_z w128 c.args.value fits) in
    on_ok_weaker c.number_u128.result (λ wrote. wrote ∙ ap (λ (t : List ℕ). c.args.out.now.items ++ t) (ap (number 16) form ∙ signed_is c.args.value)) c.number_u128.ensures
