use Rattle.std.proofs.Common.{◌<◌, List, [], length, take, refl, sym, ap, ◌∙◌, subst, arith}
use Rattle.std.proofs.lemmas.Bool.{true≢false}
use Rattle.std.proofs.lemmas.List.{take_all}
use Rattle.std.proofs.lemmas.Option.{slice_get_read}
use Rattle.tk_base.specs.Settings.{Setup}
use Rattle.tk_journal.specs.Legal.{IsLegal, start}
use Rattle.tk_journal.specs.declared.noted.Noted.{Noted}
use Rattle.tk_verify.specs.Driving.{IsDriven}
use Rattle.tk_verify.proofs.FrontLemmas.{driven_on, fault_at_end, fault_here, length_take}
use Rattle.tk_verify.proofs.JournalLemmas.{fresh, reached}
use Rattle.tk_verify.proofs.journals.drive.Goals as goal

pub loop-i-init : goal.loop-i-init
loop-i-init c = record {
  settings = refl;
  driven = subst (IsDriven (IsLegal (start c.args.coordinator.now.settings)) []) (sym c.requires) (fresh c.args.coordinator.now.settings);
}

pub reach-requires : goal.reach-requires
reach-requires c = subst (λ (s : Setup). IsLegal (start s) c.loop-i.coordinator.journal) (sym c.loop-i.invariant.settings) c.loop-i.invariant.driven.legal

-- the coordinator did something else there
pub returns-then-not-did-clause-halts : goal.returns-then-not-did-clause-halts
returns-then-not-did-clause-halts c =
    let journal = c.args.journal.now in
    let i = c.loop-i.i in
    let entry = c.index-journal-i.result in
    let now = c.reach.new.coordinator.journal in
    let less : i < length journal = c.loop-i-test.true in
    let leads = reached c.args.coordinator.now.settings c.loop-i.coordinator (take i journal) entry now i c.loop-i.invariant.settings c.loop-i.invariant.driven (length_take journal i (omega (arith, less))) c.in_ok-reach.ensures.leads in
    fault_here (IsLegal (start c.args.coordinator.now.settings)) journal i entry now leads (slice_get_read journal (length journal) i entry refl less c.index-journal-i.is)
    (λ at. true≢false (sym (c.did.ensures.1 at) ∙ c.if-not-did.true))

pub loop-i-preserved : goal.loop-i-preserved
loop-i-preserved c =
    let journal = c.args.journal.now in
    let i = c.loop-i.i in
    let entry = c.index-journal-i.result in
    let now = c.reach.new.coordinator.journal in
    let less : i < length journal = c.loop-i-test.true in
    let leads = reached c.args.coordinator.now.settings c.loop-i.coordinator (take i journal) entry now i c.loop-i.invariant.settings c.loop-i.invariant.driven (length_take journal i (omega (arith, less))) c.in_ok-reach.ensures.leads in
    record {
      settings = c.in_ok-reach.ensures.settings ∙ c.loop-i.invariant.settings;
      driven = driven_on (IsLegal (start c.args.coordinator.now.settings)) journal i entry now leads (slice_get_read journal (length journal) i entry refl less c.index-journal-i.is) (c.did.ensures.0 c.if-not-did.false);
    }

-- the coordinator did more than the journal says
pub returns-then-journal-clause-halts : goal.returns-then-journal-clause-halts
returns-then-journal-clause-halts c =
    let journal = c.args.journal.now in
    let now = c.loop-i.coordinator.journal in
    let past = c.loop-i-test.false in
    let more = c.if-journal.true in
    let same = ap length c.journal.ensures.value in
    let driven = subst (λ (xs : List Noted). IsDriven (IsLegal (start c.args.coordinator.now.settings)) xs now) (take_all c.loop-i.i journal past) c.loop-i.invariant.driven in
    fault_at_end (IsLegal (start c.args.coordinator.now.settings)) journal now driven (omega (arith, more, same))
