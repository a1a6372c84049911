use Rattle.std.proofs.Common.{Some, None, refl, ◌∙◌, ap}
use Rattle.tk_stream.specs.Records.{faults_by}
use Rattle.tk_stream.proofs.TurnLemmas.{ends_behind, finds_behind, fails_behind, passes_more}
use Rattle.tk_stream.proofs.records.Records.go_on.Goals as goal

pub loop-init : goal.loop-init
loop-init g c = record { tells = refl; skips = refl; faults = refl; first = λ _. refl }

pub returns-in-Ok-Found-clause-ok : goal.returns-in-Ok-Found-clause-ok
returns-in-Ok-Found-clause-ok g c =
    finds_behind c.args.ticks c.args.names.now (Some c.in-Ok-Found.item) c.args.self.now c.loop.self c.turn.new.self c.loop.invariant (rw c.in-Ok-Found.field-0-is at c.in-Ok-Found.ensures.ok)

pub returns-in-Ok-Found-clause-counted : goal.returns-in-Ok-Found-clause-counted
returns-in-Ok-Found-clause-counted g c = c.in-Ok-Found.ensures.counted ∙ c.loop.invariant.faults

pub returns-in-Ok-Found-clause-skips : goal.returns-in-Ok-Found-clause-skips
returns-in-Ok-Found-clause-skips g c = c.turn.ensures.skips ∙ c.loop.invariant.skips

pub returns-in-Ok-Found-clause-tells : goal.returns-in-Ok-Found-clause-tells
returns-in-Ok-Found-clause-tells g c = c.turn.ensures.tells ∙ c.loop.invariant.tells

pub returns-in-Ok-End-clause-ok : goal.returns-in-Ok-End-clause-ok
returns-in-Ok-End-clause-ok g c =
    finds_behind c.args.ticks c.args.names.now None c.args.self.now c.loop.self c.turn.new.self c.loop.invariant (rw c.in-Ok-End.field-0-is at c.in-Ok-End.ensures.ok)

pub returns-in-Ok-End-clause-counted : goal.returns-in-Ok-End-clause-counted
returns-in-Ok-End-clause-counted g c = c.in-Ok-End.ensures.counted ∙ c.loop.invariant.faults

pub returns-in-Ok-End-clause-skips : goal.returns-in-Ok-End-clause-skips
returns-in-Ok-End-clause-skips g c = c.turn.ensures.skips ∙ c.loop.invariant.skips

pub returns-in-Ok-End-clause-tells : goal.returns-in-Ok-End-clause-tells
returns-in-Ok-End-clause-tells g c = c.turn.ensures.tells ∙ c.loop.invariant.tells

pub returns-in-Err-clause-err : goal.returns-in-Err-clause-err
returns-in-Err-clause-err g c =
    fails_behind c.args.ticks c.args.names.now c.in-Err.fault c.args.self.now c.loop.self c.turn.new.self c.loop.invariant c.in-Err.ensures.err

pub returns-in-Err-clause-counted : goal.returns-in-Err-clause-counted
returns-in-Err-clause-counted g c = c.in-Err.ensures.counted ∙ ap (faults_by c.in-Err.fault) c.loop.invariant.faults

pub returns-in-Err-clause-skips : goal.returns-in-Err-clause-skips
returns-in-Err-clause-skips g c = c.turn.ensures.skips ∙ c.loop.invariant.skips

pub returns-in-Err-clause-tells : goal.returns-in-Err-clause-tells
returns-in-Err-clause-tells g c = c.turn.ensures.tells ∙ c.loop.invariant.tells

pub loop-preserved : goal.loop-preserved
loop-preserved g c =
    passes_more c.args.ticks c.args.names.now c.args.self.now c.loop.self c.turn.new.self c.loop.invariant (rw c.in-Ok-More.field-0-is at c.in-Ok-More.ensures.ok) c.turn.ensures.tells c.turn.ensures.skips c.in-Ok-More.ensures.counted

pub returns-clause-err : goal.returns-clause-err
returns-clause-err g c = c.loop.invariant.first

pub returns-clause-counted : goal.returns-clause-counted
returns-clause-counted g c = c.loop.invariant.faults

pub returns-clause-skips : goal.returns-clause-skips
returns-clause-skips g c = c.loop.invariant.skips

pub returns-clause-tells : goal.returns-clause-tells
returns-clause-tells g c = c.loop.invariant.tells

pub returns-in-Err-clause-strict : goal.returns-in-Err-clause-strict
returns-in-Err-clause-strict g c =
    ends_behind c.args.ticks c.args.names.now c.in-Err.fault c.args.self.now c.loop.self c.loop.invariant c.in-Err.ensures.strict
