use Rattle.std.proofs.Common.{length, sym, ap, subst, ◌∙◌}
use Rattle.std.proofs.lemmas.Bool.{eqb-true}
use Rattle.std.proofs.lemmas.Result.{err_from_is_err_and}
use Rattle.tk_input.specs.Log.{IsFault, change_added}
use Rattle.tk_input.specs.Plain.{cut_records}
use Rattle.tk_input.specs.Records.{through}
use Rattle.tk_input.proofs.PlainLogLemmas.{line_fault, line_taken, nothing_left}
use Rattle.tk_input.proofs.part.take_plain.Goals as goal

pub loop-rest-preserved : goal.loop-rest-preserved
loop-rest-preserved c =
    let loop = c.loop-rest in
    let line = c.split_line.result.0.now in
    let rows = cut_records c.split_line.result.1.now in
    let step = change_added c.args.names.now in
    record {
      same =
          sym (line_taken step loop.changes c.take_line.new.changes line rows c.in_ok-take_line.ensures.ok)
          ∙ ap (through step loop.changes) (sym c.split_line.ensures.records)
          ∙ loop.invariant.same;
      few = c.in_ok-take_line.ensures.most;
      objects = c.in_ok-take_line.ensures.objects;
    }

pub returns-in_err-take_line-clause-err : goal.returns-in_err-take_line-clause-err
returns-in_err-take_line-clause-err c =
    let loop = c.loop-rest in
    let e = c.in_err-take_line.field-0.0 in
    let step = change_added c.args.names.now in
    let here = line_fault step loop.changes c.split_line.result.0.now (cut_records c.split_line.result.1.now) e c.in_err-take_line.ensures.err in
    let given = err_from_is_err_and c.from_residual.result c.from_residual.ensures.1 in
    rw (given.1, given.2)
    (subst (IsFault e) (ap (through step loop.changes) (sym c.split_line.ensures.records) ∙ loop.invariant.same) here)

pub returns-clause-ok : goal.returns-clause-ok
returns-clause-ok c =
    let loop = c.loop-rest in
    sym loop.invariant.same
    ∙ nothing_left (change_added c.args.names.now) loop.changes loop.rest.now (eqb-true (length loop.rest.now) 0 (sym c.is_empty.ensures ∙ c.loop-rest-test.false))

pub returns-clause-objects : goal.returns-clause-objects
returns-clause-objects c = c.loop-rest.invariant.objects

pub returns-clause-most : goal.returns-clause-most
returns-clause-most c = c.loop-rest.invariant.few
