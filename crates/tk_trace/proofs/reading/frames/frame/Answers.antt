use Rattle.std.proofs.Common.{List, ℕ, Some, ap, sym, subst, ◌∙◌, arith}
use Rattle.tk_base.proofs.ListLemmas.{rest_is}
use Rattle.tk_frames.specs.declared.answer.Next.TheVariants.{Whole, Part, Bad}
use Rattle.tk_frames.specs.Answer.{Answers}
use Rattle.tk_trace.proofs.FrameLemmas.{frame_found}
use Rattle.tk_trace.proofs.reading.frames.frame.Goals as goal

pub returns-in-Whole : goal.returns-in-Whole
returns-in-Whole c =
    let bytes = c.args.bytes.now in
    let whole = Whole c.in-Whole.frame c.in-Whole.size in
    frame_found bytes whole (λ i. omega (arith, c.type_inv.bytes i)) (subst (Answers 1 bytes) c.in-Whole.is c.in_ok-frame.ensures.answer)
    ∙ ap (λ (rest : List ℕ). Some (c.in-Whole.frame, rest)) (sym (rest_is bytes c.in-Whole.size))

pub returns-in-Part : goal.returns-in-Part
returns-in-Part c = frame_found c.args.bytes.now Part (λ i. omega (arith, c.type_inv.bytes i)) (subst (Answers 1 c.args.bytes.now) c.in-Part.is c.in_ok-frame.ensures.answer)

pub returns-in-Bad : goal.returns-in-Bad
returns-in-Bad c = frame_found c.args.bytes.now (Bad c.in-Bad.field-0) (λ i. omega (arith, c.type_inv.bytes i)) (subst (Answers 1 c.args.bytes.now) c.in-Bad.is c.in_ok-frame.ensures.answer)
