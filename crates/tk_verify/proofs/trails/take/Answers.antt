use Rattle.std.proofs.Common.{subst}
use Rattle.std.specs.Prelude.{OnOk}
use Rattle.tk_frames.specs.declared.frame.Frame.{Frame}
use Rattle.tk_trail.specs.Legal.{IsLegal}
use Rattle.tk_trail.specs.declared.entry.Entry.TheVariants as e
use Rattle.tk_verify.specs.Driving.{Leads}
use Rattle.tk_verify.proofs.TrailLemmas.{refused_leads, taken}
use Rattle.tk_verify.proofs.trails.take.Goals as goal

pub returns-in-Ok-clause-leads : goal.returns-in-Ok-clause-leads
returns-in-Ok-clause-leads c =
    let old = c.args.monitor.now in
    let new = c.take.new.self in
    subst (λ (f : Frame). Leads (IsLegal old.setup) old.trail (e.Took f) new.trail) c.in_ok-frame.ensures (taken old c.in_ok-frame.frame new c.take.ensures.legal c.in-Ok.ensures.ok).leads

pub returns-in-Err-clause-leads : goal.returns-in-Err-clause-leads
returns-in-Err-clause-leads c =
    let old = c.args.monitor.now in
    let new = c.take.new.self in
    subst (λ (f : Frame). OnOk c.unless_memory.result (Leads (IsLegal old.setup) old.trail (e.Took f) new.trail)) c.in_ok-frame.ensures
    (refused_leads old c.in_ok-frame.frame c.in-Err.refusal c.in-Err.frame new c.unless_memory.result c.trail.ensures.legal c.in-Err.ensures.err c.in-Err.ensures.answer c.unless_memory.ensures)
