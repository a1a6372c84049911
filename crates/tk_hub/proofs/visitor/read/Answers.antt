use Rattle.std.proofs.Common.{◌∙◌, sym, subst, ap, Ok}
use Rattle.tk_frames.specs.Answer.{Answers}
use Rattle.tk_wire.specs.Buffered.{rest_of}
use Rattle.tk_hub.proofs.VisitorLemmas.{SaysHello, bad_is_strange, whole_leaves}
use Rattle.tk_hub.proofs.visitor.read.Goals as goal

pub returns-in-Ok-Whole-clause-answer : goal.returns-in-Ok-Whole-clause-answer
returns-in-Ok-Whole-clause-answer c =
    let took = c.in-Ok-Whole in
    let says : SaysHello c.args.came.now.bytes = subst SaysHello c.bytes.ensures (c.is_strange.ensures.length_of_hello c.if-is_strange.false) in
    whole_leaves c.args.came.now.version took.frame took.field-0-1 c.args.came.now.bytes _ took.field-0 c.requires says took.field-0-is took.ensures.answer took.ensures.rest

pub returns-in-Ok-Bad-clause-answer : goal.returns-in-Ok-Bad-clause-answer
returns-in-Ok-Bad-clause-answer c =
    let took = c.in-Ok-Bad in
    let bytes = c.args.came.now.bytes in
    let says : SaysHello bytes = subst SaysHello c.bytes.ensures (c.is_strange.ensures.length_of_hello c.if-is_strange.false) in (
      bad_is_strange bytes took.field-0-0 says
          (λ next answers. sym took.field-0-is ∙ took.ensures.only next (subst (λ v. Answers v bytes next) (sym c.requires) answers)),
      took.ensures.rest ∙ ap (λ n. rest_of (Ok n) bytes) took.field-0-is,
    )
