use Rattle.std.proofs.Common.{◌≡◌, ◌⊎◌, length, sym, ap, subst, ◌∙◌}
use Rattle.std.proofs.lemmas.List.{length-map}
use Rattle.tk_trail.specs.declared.entry.Entry.{Entry}
use Rattle.std.specs.Global.{Vec}
use Rattle.tk_verify.specs.Recorded.{Finds, trails_in}
use Rattle.tk_verify.specs.declared.finding.Finding.TheVariants as f
use Rattle.tk_trace.specs.Checked.{Faults}
use Rattle.tk_trace.specs.Recorded.{recorded}
use Rattle.tk_verify.specs.declared.trace_fault.TraceFault.TheVariants as t
use Rattle.tk_trace.proofs.CheckLemmas.{a_trail_each, found_in, nothing_wrong, told_is, wrong_is}
use Rattle.tk_trace.proofs.checking.checked.Goals as goal

pub verify-requires-clause-trails : goal.verify-requires-clause-trails
verify-requires-clause-trails c =
    ap length c.deref-2.ensures.value ∙ sym (length-map c.args.run.trails.items (λ (trail : Vec Entry). trail.items)) ∙ a_trail_each (recorded c.args.run) c.requires

pub returns-in-Ok-clause-exact : goal.returns-in-Ok-clause-exact
returns-in-Ok-clause-exact c =
    let r = recorded c.args.run in
    let same = told_is r c.deref.result.now (trails_in c.deref-2.result.now) c.deref.ensures.value (ap trails_in c.deref-2.ensures.value) in
    λ bytes is fault wrong. nothing_wrong bytes r fault is (λ finding found. c.in-Ok.ensures.exact finding (subst (λ s. Finds s finding) (sym same) found)) wrong

pub returns-in-Err-clause-found : goal.returns-in-Err-clause-found
returns-in-Err-clause-found c =
    let r = recorded c.args.run in
    let finding = c.in-Err.finding in
    let same = told_is r c.deref.result.now (trails_in c.deref-2.result.now) c.deref.ensures.value (ap trails_in c.deref-2.ensures.value) in
    λ bytes is. subst (λ e. (e ≡ t.NoMemory) ⊎ Faults bytes e) (sym c.from.ensures) (found_in bytes r finding is (subst (λ s. (finding ≡ f.NoMemory) ⊎ Finds s finding) same c.in-Err.ensures.found))

pub returns-in-Err-clause-exact : goal.returns-in-Err-clause-exact
returns-in-Err-clause-exact c =
    let r = recorded c.args.run in
    let same = told_is r c.deref.result.now (trails_in c.deref-2.result.now) c.deref.ensures.value (ap trails_in c.deref-2.ensures.value) in
    λ bytes is fault wrong. subst (λ e. (e ≡ fault) ⊎ (e ≡ t.NoMemory)) (sym c.from.ensures) (wrong_is bytes r c.in-Err.finding fault is (λ finding found. c.in-Err.ensures.exact finding (subst (λ s. Finds s finding) (sym same) found)) wrong)
