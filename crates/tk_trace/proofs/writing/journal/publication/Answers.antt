use Rattle.std.proofs.Common.{rules, ℤ, ◌++◌, FitsSigned, refl, ap, subst, ◌∙◌}
use Rattle.std.specs.Int.{w128}
use Rattle.std.proofs.lemmas.Int.{to_z-of_z}
use Rattle.std.proofs.lemmas.Result.{err_from_is_err_and, on_ok_weaker}
use Rattle.tk_trace.specs.Spelling.{IsEpsilon, bounds}
use Rattle.tk_trace.proofs.WritingLemmas.{not_ok, out_2}
use Rattle.tk_trace.proofs.writing.journal.publication.Goals as goal

pub returns-in_err-number_u64-clause-bytes : goal.returns-in_err-number_u64-clause-bytes
returns-in_err-number_u64-clause-bytes c =
    let p = err_from_is_err_and c.from_residual.result c.from_residual.ensures.1 in
    not_ok c.from_residual.result p.0 _ p.1

pub returns-in_err-number_u64-clause-within : goal.returns-in_err-number_u64-clause-within
returns-in_err-number_u64-clause-within c =
    let p = err_from_is_err_and c.from_residual.result c.from_residual.ensures.1 in
    not_ok c.from_residual.result p.0 _ p.1

pub returns-in_err-flag-clause-bytes : goal.returns-in_err-flag-clause-bytes
returns-in_err-flag-clause-bytes c =
    let p = err_from_is_err_and c.from_residual-in_err-flag.result c.from_residual-in_err-flag.ensures.1 in
    not_ok c.from_residual-in_err-flag.result p.0 _ p.1

pub returns-in_err-flag-clause-within : goal.returns-in_err-flag-clause-within
returns-in_err-flag-clause-within c =
    let p = err_from_is_err_and c.from_residual-in_err-flag.result c.from_residual-in_err-flag.ensures.1 in
    not_ok c.from_residual-in_err-flag.result p.0 _ p.1

pub returns-in_err-bounds-clause-bytes : goal.returns-in_err-bounds-clause-bytes
returns-in_err-bounds-clause-bytes c =
    let p = err_from_is_err_and c.from_residual-in_err-bounds.result c.from_residual-in_err-bounds.ensures.1 in
    not_ok c.from_residual-in_err-bounds.result p.0 _ p.1

pub returns-in_err-bounds-clause-within : goal.returns-in_err-bounds-clause-within
returns-in_err-bounds-clause-within c =
    let p = err_from_is_err_and c.from_residual-in_err-bounds.result c.from_residual-in_err-bounds.ensures.1 in
    not_ok c.from_residual-in_err-bounds.result p.0 _ p.1

pub returns-in_err-set-clause-bytes : goal.returns-in_err-set-clause-bytes
returns-in_err-set-clause-bytes c =
    let p = err_from_is_err_and c.from_residual-in_err-set.result c.from_residual-in_err-set.ensures.1 in
    not_ok c.from_residual-in_err-set.result p.0 _ p.1

pub returns-in_err-set-clause-within : goal.returns-in_err-set-clause-within
returns-in_err-set-clause-within c =
    let p = err_from_is_err_and c.from_residual-in_err-set.result c.from_residual-in_err-set.ensures.1 in
    not_ok c.from_residual-in_err-set.result p.0 _ p.1

pub returns-clause-bytes : goal.returns-clause-bytes
returns-clause-bytes c =
    let out = c.args.out.now.items in
    let a = c.number_u64.new.out.items in
    let b = c.flag.new.out.items in
    let d = c.bounds.new.out.items in
    let e = c.set.new.out.items in
    let end = c.cut.new.out.items in
    let p = c.args.p.now in
    let fits : FitsSigned w128 p.epsilon = search rules in
    let bounded = c.in_ok-bounds.ensures.bytes ∙ ap (λ (x : ℤ). b ++ bounds p.k x) (to_z-of_z w128 p.epsilon fits) in
    on_ok_weaker c.cut.result (λ wrote. out_2 out a end _ _ c.in_ok-number_u64.ensures.bytes (out_2 a b end _ _ c.in_ok-flag.ensures (out_2 b d end _ _ bounded (out_2 d e end _ _ c.in_ok-set.ensures.bytes wrote)))) c.cut.ensures.bytes

pub returns-clause-within : goal.returns-clause-within
returns-clause-within c =
    let p = c.args.p.now in
    let fits : FitsSigned w128 p.epsilon = search rules in
    on_ok_weaker c.cut.result (λ places. record { number = c.number_u64.ensures.within; k = c.bounds.ensures.k; epsilon = subst IsEpsilon (to_z-of_z w128 p.epsilon fits) c.bounds.ensures.epsilon; members = c.in_ok-set.ensures.within; monitors = refl; places = places }) c.cut.ensures.within
