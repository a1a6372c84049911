use Rattle.std.proofs.Common.{sym, ap, ◌∙◌}
use Rattle.std.specs.Prelude.{if◌then◌else◌}
use Rattle.std.proofs.lemmas.Bool.{false≢true}
use Rattle.tk_hub.specs.Turn.{halted_of}
use Rattle.tk_live.specs.Parting.{halts_of}
use Rattle.tk_live.proofs.hosting.halt.Goals as goal

pub returns-then-halts-clause-finished : goal.returns-then-halts-clause-finished
returns-then-halts-clause-finished g c = λ is. absurd (false≢true (sym (ap halts_of is) ∙ (sym c.halts.ensures ∙ c.if-halts.true)))

pub returns-then-halts-clause-course : goal.returns-then-halts-clause-course
returns-then-halts-clause-course g c =
    let course = c.args.hub.now.course in
    c.halt.ensures.course ∙ ap (λ b. if b then halted_of course else course) (sym c.if-halts.true ∙ c.halts.ensures)

pub returns-else-halts-clause-course : goal.returns-else-halts-clause-course
returns-else-halts-clause-course g c =
    let course = c.args.hub.now.course in
    ap (λ b. if b then halted_of course else course) (sym c.if-halts.false ∙ c.halts.ensures)
