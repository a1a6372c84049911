use Rattle.std.proofs.Common.{◌∙◌, ap, ap₂, arith, sym}
use Rattle.std.specs.Prelude.{int_lt, FitsSigned}
use Rattle.std.specs.Int.{w128}
use Rattle.std.proofs.lemmas.Int.{ints, to_z-of_z}
use Rattle.tk_base.proofs.CompareLemmas.{lt-cmp}
use Rattle.tk_rank.specs.Tree.{is_over}
use Rattle.tk_rank.proofs.RankLemmas.{broken_where}
use Rattle.tk_rank.proofs.SidesLemmas.{passed_on}
use Rattle.tk_rank.proofs.rank.Rank.is_broken_by_level.Goals as goal

pub returns-in-None : goal.returns-in-None
returns-in-None c =
    let now = c.args.self.now in
    let least = c.least_member-least.result in
    sym (broken_where now.levels now.members least c.least_member-least.ensures.value ∙ ap (is_over least) (sym c.greatest_outsider.ensures ∙ c.in-None.is))

pub returns-in-Some : goal.returns-in-Some
returns-in-Some c =
    let now = c.args.self.now in
    let least = c.least_member-least.result in
    let greatest = c.in-Some.greatest in
    let fits : FitsSigned w128 greatest = omega (arith, ints) in
    ap₂ int_lt (passed_on least c.least_member-least.ensures.size) (to_z-of_z w128 greatest fits)
    ∙ sym (lt-cmp least greatest)
    ∙ sym (broken_where now.levels now.members least c.least_member-least.ensures.value ∙ ap (is_over least) (sym c.greatest_outsider.ensures ∙ c.in-Some.is))
