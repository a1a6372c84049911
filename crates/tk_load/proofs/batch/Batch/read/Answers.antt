use Rattle.std.proofs.Common.{rules, ℕ, [], List, Bor, ap, arith, length, refl}
use Rattle.tk_base.specs.declared.ids.Mon.{Mon}
use Rattle.tk_load.specs.Batch.{IsReadAs}
use Rattle.tk_load.specs.Reads.{reads_by}
use Rattle.tk_load.proofs.BatchLemmas.{each_none, one_more_read}
use Rattle.tk_load.proofs.FailLemmas.{all_counted, counts_at_most, counts_behind, counts_fine, fine_more, if_wanting, last_counted, most_behind, none_behind}
use Rattle.tk_load.proofs.ReadLemmas.{kept_all, kept_on}
use Rattle.tk_load.proofs.batch.Batch.read.Goals as goal
use Rattle.tk_load.proofs.batch.Batch.read.Goals.{else-loop-file-test, then-loop-file-test+in_ok-push+then-ends}

abbrev nobody : Mon × Bor (List ℕ)
nobody = (record { 0 = 0 }, record { ref_ptr = (0, 0); now = [] })

pub loop-file-init : goal.loop-file-init
loop-file-init g c = record {
  count = search rules;
  read = each_none (IsReadAs (reads_by g.F.Files c.args.files.now c.args.files.now)) c.args.words.now c.new-logs.result.items c.new-logs.ensures.items;
  kept = kept_all g.F.Files c.args.files.now;
  none = λ name. refl;
  fine = λ i d within. absurd (omega (arith, within, ap (λ (l : List _). length l) c.new-logs.ensures.items));
}

pub loop-file-preserved : goal.loop-file-preserved
loop-file-preserved g c = record {
  count = search rules;
  read = one_more_read g.F.Files c.args.files.now c.loop-file.files c.read-content.new.files c.args.words.now c.loop-file.logs.items c.push.new.self.items c.loop-file.file-index nobody c.read-content.result
      c.loop-file.invariant.kept c.read-content.ensures.kept c.loop-file-test.true c.loop-file.invariant.count c.loop-file.invariant.read c.read-content.ensures.read c.in_ok-push.ensures.items;
  kept = kept_on g.F.Files c.args.files.now c.loop-file.files c.read-content.new.files c.loop-file.invariant.kept c.read-content.ensures.kept;
  none = none_behind g.F.Files c.args.files.now c.loop-file.files c.read-content.new.files c.loop-file.invariant.none
      (counts_fine (reads_by g.F.Files c.loop-file.files c.read-content.new.files) c.read-content.result (c.ends_with-ends.ensures c.if-ends.false) c.read-content.ensures.counts);
  fine = fine_more c.loop-file.logs.items _ c.read-content.result c.push.new.self.items c.loop-file.invariant.fine (c.ends_with-ends.ensures c.if-ends.false) c.in_ok-push.ensures.items;
}

pub returns-clause-read : goal.returns-clause-read
returns-clause-read g c = elim c.loop-file-test.branch [
  | else-loop-file-test w ↦ rw w.files-is (rw w.logs-is c.loop-file.invariant.read)
  | then-loop-file-test+in_ok-push+then-ends w ↦ rw w.files-is (rw w.logs-is
      (one_more_read g.F.Files c.args.files.now c.loop-file.files w.read-content.new.files c.args.words.now c.loop-file.logs.items w.push.new.self.items c.loop-file.file-index nobody w.read-content.result
      c.loop-file.invariant.kept w.read-content.ensures.kept w.loop-file-test.true c.loop-file.invariant.count c.loop-file.invariant.read w.read-content.ensures.read w.in_ok-push.ensures.items))
]

pub returns-clause-counts : goal.returns-clause-counts
returns-clause-counts g c = elim c.loop-file-test.branch [
  | else-loop-file-test w ↦ rw w.files-is (rw w.logs-is
      (all_counted (reads_by g.F.Files c.args.files.now c.loop-file.files) c.loop-file.logs.items c.loop-file.invariant.fine c.loop-file.invariant.none))
  | then-loop-file-test+in_ok-push+then-ends w ↦ rw w.files-is (rw w.logs-is
      (last_counted (reads_by g.F.Files c.args.files.now w.read-content.new.files) c.loop-file.logs.items c.loop-file.invariant.fine _ w.read-content.result w.push.new.self.items
      (counts_behind g.F.Files c.args.files.now c.loop-file.files w.read-content.new.files c.loop-file.invariant.none w.read-content.result w.read-content.ensures.counts) w.in_ok-push.ensures.items))
]

-- the read before it may have failed
pub returns-in_err-push-clause-most : goal.returns-in_err-push-clause-most
returns-in_err-push-clause-most g c =
    if_wanting (reads_by g.F.Files c.args.files.now c.read-content.new.files) c.from_residual.result
    (most_behind g.F.Files c.args.files.now c.loop-file.files c.read-content.new.files c.loop-file.invariant.none
    (counts_at_most (reads_by g.F.Files c.loop-file.files c.read-content.new.files) c.read-content.result c.read-content.ensures.counts))
