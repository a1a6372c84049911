use Rattle.std.proofs.Common.{FitsSigned, ◌≡◌, ◌≤ℤ◌, rules, pos, ℤ, List, ℕ, Contains, to_z, of_z, sym, ap, ap₂, ◌∙◌, subst}
use Rattle.std.specs.Int.{w128}
use Rattle.std.specs.Prelude.{IsTrue, ◌^◌}
use Rattle.std.proofs.lemmas.Int.{to_z-of_z}
use Rattle.std.specs.List.{All}
use Rattle.tk_base.specs.Pairs.{objects_of}
use Rattle.tk_border.specs.Levels.{holds, own_border}
use Rattle.tk_alloc.specs.Resolving.{round_border}
use Rattle.tk_coord.specs.Board.{BoardView}
use Rattle.tk_coord.proofs.BoardLemmas.{are_held, rank_border}
use Rattle.tk_coord.proofs.board.Board.border_over.Goals as goal

-- an epsilon that is passed on stays what it is
passed_on : (result epsilon : ℤ) → FitsSigned w128 result → result ≡ epsilon → to_z w128 (of_z w128 result) ≡ epsilon
passed_on result epsilon fits is = to_z-of_z w128 result fits ∙ is

pub own_border-requires-clause-members : goal.own_border-requires-clause-members
own_border-requires-clause-members c =
    let f = c.self.inside in
    let over = objects_of c.args.values.now in
    subst (λ (xs : List ℕ). IsTrue (holds xs f.ranks.members)) (sym c.in_ok-over.ensures)
    (are_held f.table f.members over f.ranks c.self.invariant (subst (λ (b : BoardView). All (Contains over) b.members) (sym c.self.view_is) c.requires))

pub own_border-requires-clause-no_debt : goal.own_border-requires-clause-no_debt
own_border-requires-clause-no_debt c =
    let is = passed_on c.epsilon.result c.args.settings.now.epsilon (search rules) c.epsilon.ensures.value in
    subst (λ (z : ℤ). pos 0 ≤ℤ z) (sym is) c.epsilon.ensures.limits.no_debt

pub own_border-requires-clause-epsilon : goal.own_border-requires-clause-epsilon
own_border-requires-clause-epsilon c =
    let is = passed_on c.epsilon.result c.args.settings.now.epsilon (search rules) c.epsilon.ensures.value in
    subst (λ (z : ℤ). z ≤ℤ pos (2 ^ 100)) (sym is) c.epsilon.ensures.limits.epsilon

pub returns : goal.returns
returns c =
    let f = c.self.inside in
    let ranks = f.ranks in
    let settings = c.args.settings.now in
    let over = objects_of c.args.values.now in
    let fits : FitsSigned w128 c.own_border.result = search rules in
    to_z-of_z w128 c.own_border.result fits
    ∙ c.own_border.ensures
    ∙ ap₂ (λ (z : ℤ) (xs : List ℕ). own_border ranks.levels ranks.members z xs) (passed_on c.epsilon.result c.args.settings.now.epsilon (search rules) c.epsilon.ensures.value) c.in_ok-over.ensures
    ∙ rank_border settings f.table f.members over ranks c.self.invariant
    ∙ ap (λ (b : BoardView). round_border settings b.table b.members over) c.self.view_is
