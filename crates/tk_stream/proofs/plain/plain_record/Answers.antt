use Rattle.std.proofs.Common.{◌≡◌, ◌+◌, ℤ, Ok, Some, None, option_map, take, drop, sym, ◌∙◌, ap, arith, FitsSigned}
use Rattle.std.specs.Int.{w128}
use Rattle.std.proofs.lemmas.Int.{ints, to_z-of_z}
use Rattle.tk_base.proofs.ListLemmas.{rest_is}
use Rattle.tk_input.specs.Catalog.{object_of}
use Rattle.tk_input.specs.Number.{whole_number}
use Rattle.tk_stream.proofs.PlainLemmas.{none_of, plain_line, plain_of}
use Rattle.tk_stream.proofs.plain.plain_record.Goals as goal

pub returns-in_default-clause-value : goal.returns-in_default-clause-value
returns-in_default-clause-value c =
    let line = c.args.line.now in
    let place = c.args.place in
    let missing : object_of c.args.names.now (take place line) ≡ None = sym c.find.ensures ∙ ap (λ o. option_map (λ x. x.0) o) (none_of c.find.result c.in_default.not-Some) in
    sym (plain_line c.args.names.now line place c.requires ∙ ap (λ o. plain_of o (whole_number (drop (place + 1) line))) missing)

pub returns-in-Some-whole_number_of-clause-value : goal.returns-in-Some-whole_number_of-clause-value
returns-in-Some-whole_number_of-clause-value c =
    let line = c.args.line.now in
    let place = c.args.place in
    let by = c.in-Some-whole_number_of.by in
    let found : object_of c.args.names.now (take place line) ≡ Some c.in-Some.obj.0 = sym c.find.ensures ∙ ap (λ o. option_map (λ x. x.0) o) c.in-Some.is in
    let number : whole_number (drop (place + 1) line) ≡ Some by = ap whole_number (sym (rest_is line (place + 1))) ∙ sym c.whole_number_of.ensures.value ∙ c.in-Some-whole_number_of.is in
    let fits : FitsSigned w128 by = omega (arith, ints, c.in-Some-whole_number_of.ensures.size) in
    ap (λ (z : ℤ). Ok (c.in-Some.obj.0, z)) (to_z-of_z w128 by fits)
    ∙ sym (plain_line c.args.names.now line place c.requires ∙ ap (λ o. plain_of o (whole_number (drop (place + 1) line))) found ∙ ap (plain_of (Some c.in-Some.obj.0)) number)

pub returns-in-None-clause-value : goal.returns-in-None-clause-value
returns-in-None-clause-value c =
    let line = c.args.line.now in
    let place = c.args.place in
    let found : object_of c.args.names.now (take place line) ≡ Some c.in-Some.obj.0 = sym c.find.ensures ∙ ap (λ o. option_map (λ x. x.0) o) c.in-Some.is in
    let number : whole_number (drop (place + 1) line) ≡ None = ap whole_number (sym (rest_is line (place + 1))) ∙ sym c.whole_number_of.ensures.value ∙ c.in-None.is in
    sym (plain_line c.args.names.now line place c.requires ∙ ap (λ o. plain_of o (whole_number (drop (place + 1) line))) found ∙ ap (plain_of (Some c.in-Some.obj.0)) number)
