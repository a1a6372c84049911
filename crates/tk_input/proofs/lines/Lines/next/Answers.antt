use Rattle.std.proofs.Common.{◌∷◌, ◌∙◌, ℕ, ap, length, sym}
use Rattle.std.proofs.lemmas.Bool.{eqb-true}
use Rattle.tk_input.specs.Order.{left_after}
use Rattle.tk_base.proofs.DigitsLemmas.{eqb_some}
use Rattle.tk_input.proofs.OrderLemmas.{line_next, line_skipped, none_left}
use Rattle.tk_input.proofs.lines.Lines.next.Goals as goal

pub loop-self-init : goal.loop-self-init
loop-self-init c = c.self.view_is

pub returns-then-not-is_empty-clause-some : goal.returns-then-not-is_empty-clause-some
returns-then-not-is_empty-clause-some c =
    let before = c.loop-self.self-inside in
    let line = c.split_line.result.0.now in
    let rest = c.split_line.result.1.now in
    sym c.loop-self.invariant
    ∙ line_next before.number before.rest.now line rest c.split_line.ensures.lines (eqb_some (length line) (sym c.is_empty-in-loop-self.ensures ∙ c.if-not-is_empty.true))
    ∙ ap (λ (n : ℕ). (n, line) ∷ left_after n rest) (sym c.saturating_add-self-inside.ensures)

pub loop-self-smaller : goal.loop-self-smaller
loop-self-smaller c = c.split_line.ensures.rest

-- an empty line is passed over
pub loop-self-preserved : goal.loop-self-preserved
loop-self-preserved c =
    let before = c.loop-self.self-inside in
    let line = c.split_line.result.0.now in
    let rest = c.split_line.result.1.now in
    ap (λ (n : ℕ). left_after n rest) c.saturating_add-self-inside.ensures
    ∙ sym (line_skipped before.number before.rest.now line rest c.split_line.ensures.lines (eqb-true (length line) 0 (sym c.is_empty-in-loop-self.ensures ∙ c.if-not-is_empty.false)))
    ∙ c.loop-self.invariant

pub returns-clause-none : goal.returns-clause-none
returns-clause-none c none =
    sym c.loop-self.invariant
    ∙ none_left c.loop-self.self-inside.number c.loop-self.self-inside.rest.now (eqb-true (length c.loop-self.self-inside.rest.now) 0 (sym c.is_empty.ensures ∙ c.loop-self-test.false))
