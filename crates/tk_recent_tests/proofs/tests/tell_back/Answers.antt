use Rattle.std.proofs.Common.{refl}
use Rattle.tk_input.specs.Changes.{pair_of}
use Rattle.tk_recent_tests.proofs.TellingLemmas.{tells_more, told_all}
use Rattle.tk_recent_tests.proofs.tests.tell_back.Goals as goal

pub loop-change-init : goal.loop-change-init
loop-change-init c = record { together = refl; others = refl }

pub loop-change-preserved : goal.loop-change-preserved
loop-change-preserved c =
    tells_more c.args.told.now c.loop-change.told c.push.new.self (pair_of c.in-Some.change) c.args.recent.now c.loop-change.recent c.take_back.new.self
    c.loop-change.invariant c.in-Some.ensures.value c.in_ok-push.ensures.ok c.take_back.ensures

pub returns : goal.returns
returns c = told_all c.args.told.now c.loop-change.told c.args.recent.now c.loop-change.recent c.loop-change.invariant c.in_default.ensures.value
