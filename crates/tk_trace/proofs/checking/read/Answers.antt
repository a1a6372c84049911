use Rattle.std.proofs.Common.{◌≡◌, ◌⊎◌, Err, sym, ap, subst, ◌∙◌}
use Rattle.tk_trace.specs.Checked.{Faults}
use Rattle.tk_trace.specs.Recorded.{recorded, recorded_of}
use Rattle.tk_trace.specs.declared.fault.ParseFault.{ParseFault}
use Rattle.tk_verify.specs.declared.trace_fault.TraceFault.TheVariants as t
use Rattle.tk_trace.proofs.CheckLemmas.{kept_events, kept_finished, kept_legal, kept_spelled, kept_starts, kept_succeeds, unread_exact, unread_is, unread_none}
use Rattle.tk_trace.proofs.checking.read.Goals as goal

-- ---- a run that was read

pub returns-in-Ok-clause-spelled : goal.returns-in-Ok-clause-spelled
returns-in-Ok-clause-spelled c = kept_spelled c.args.bytes.now (recorded c.in-Ok.recording) c.checked.result c.in-Ok.ensures.ok c.checked.ensures.kept

pub returns-in-Ok-clause-starts : goal.returns-in-Ok-clause-starts
returns-in-Ok-clause-starts c = kept_starts (recorded c.in-Ok.recording) c.checked.result c.checked.ensures.kept

pub returns-in-Ok-clause-events : goal.returns-in-Ok-clause-events
returns-in-Ok-clause-events c = kept_events (recorded c.in-Ok.recording) c.checked.result c.checked.ensures.kept

pub returns-in-Ok-clause-legal : goal.returns-in-Ok-clause-legal
returns-in-Ok-clause-legal c = kept_legal (recorded c.in-Ok.recording) c.checked.result c.checked.ensures.kept

pub returns-in-Ok-clause-finished : goal.returns-in-Ok-clause-finished
returns-in-Ok-clause-finished c = kept_finished (recorded c.in-Ok.recording) c.checked.result c.checked.ensures.kept

pub returns-in-Ok-clause-succeeds : goal.returns-in-Ok-clause-succeeds
returns-in-Ok-clause-succeeds c = λ names s other from legal over. kept_succeeds c.args.bytes.now (recorded c.in-Ok.recording) names s c.in-Ok.ensures.ok other from legal over c.checked.ensures.succeeds

pub returns-in-Ok-clause-found : goal.returns-in-Ok-clause-found
returns-in-Ok-clause-found c = c.checked.ensures.found c.args.bytes.now c.in-Ok.ensures.ok

pub returns-in-Ok-clause-exact : goal.returns-in-Ok-clause-exact
returns-in-Ok-clause-exact c = c.checked.ensures.exact c.args.bytes.now c.in-Ok.ensures.ok

-- ---- bytes that were not

pub returns-in-Err-clause-succeeds : goal.returns-in-Err-clause-succeeds
returns-in-Err-clause-succeeds c =
    λ names s other from legal over. c.from.ensures ∙ unread_none c.args.bytes.now c.in-Err.fault (recorded_of names s) (λ r is e. c.in-Err.ensures.refused r is (ap (λ (fault : ParseFault). Err fault) e)) other

pub returns-in-Err-clause-found : goal.returns-in-Err-clause-found
returns-in-Err-clause-found c =
    let bytes = c.args.bytes.now in
    subst (λ e. (e ≡ t.NoMemory) ⊎ Faults bytes e) (sym c.from.ensures) (unread_is bytes c.in-Err.fault (λ r is e. c.in-Err.ensures.refused r is (ap (λ (fault : ParseFault). Err fault) e)))

pub returns-in-Err-clause-exact : goal.returns-in-Err-clause-exact
returns-in-Err-clause-exact c =
    λ wrong is. subst (λ e. (e ≡ wrong) ⊎ (e ≡ t.NoMemory)) (sym c.from.ensures) (unread_exact c.args.bytes.now c.in-Err.fault wrong (λ r trace e. c.in-Err.ensures.refused r trace (ap (λ (fault : ParseFault). Err fault) e)) is)
