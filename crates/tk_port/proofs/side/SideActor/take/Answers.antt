use Rattle.std.proofs.Common.{ap, ◌∙◌, sym, subst}
use Rattle.tk_base.specs.History.{IsFront}
use Rattle.tk_trail.specs.Readings.{sent_by, taken_by}
use Rattle.tk_trail.specs.Refusal.{refusal_of}
use Rattle.tk_port.proofs.SideLemmas.{declined, never_memory, sent_after, taken_after}
use Rattle.tk_port.proofs.side.SideActor.take.Goals as goal

pub returns-in-Ok-clause-heard : goal.returns-in-Ok-clause-heard
returns-in-Ok-clause-heard c =
    let monitor = c.args.self.now.monitor in
    ap (λ m. taken_by m.trail) c.in-Ok.ensures.ok ∙ taken_after monitor.setup monitor.trail c.args.frame

pub returns-in-Ok-clause-said : goal.returns-in-Ok-clause-said
returns-in-Ok-clause-said c =
    let monitor = c.args.self.now.monitor in
    subst (λ m. IsFront (sent_by monitor.trail) (sent_by m.trail)) (sym c.in-Ok.ensures.ok) (sent_after monitor.setup monitor.trail c.args.frame)

pub returns-in-Err-NoMemory-default-clause-answer : goal.returns-in-Err-NoMemory-default-clause-answer
returns-in-Err-NoMemory-default-clause-answer c =
    let monitor = c.args.self.now.monitor in
    let back = c.in-Err-NoMemory-default in
    declined (refusal_of monitor.setup monitor.trail c.args.frame) c.args.frame back.frame back.field-0-0 (never_memory monitor.setup monitor.trail c.args.frame) back.field-0-0-is back.ensures.answer
