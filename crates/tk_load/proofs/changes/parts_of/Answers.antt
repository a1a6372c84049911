use Rattle.std.proofs.Common.{rules, ◌≡◌, ℕ, ◌+◌, ◌∷◌, [], ◌++◌, ◌<◌, ◌∙◌, All, List, Bor, IfErr, Result, true, get_or, length, ap, arith, refl, subst, sym}
use Rattle.std.specs.Prelude.{is_ok}
use Rattle.std.proofs.lemmas.Iterator.Adapters.{YieldsList-from_vec}
use Rattle.std.proofs.lemmas.Iterator.Consumers.{YieldsList-end, YieldsList-turn}
use Rattle.std.proofs.lemmas.List.{length-append, map-id}
use Rattle.std.proofs.lemmas.List.Elements.{All-push}
use Rattle.tk_base.specs.declared.ids.Mon.{Mon}
use Rattle.tk_words.specs.Asked.{asked_logs}
use Rattle.tk_window.specs.declared.expanded.Expanded.{Expanded}
use Rattle.tk_load.specs.Batch.{IsLogOf}
use Rattle.tk_load.specs.Reads.{FailsAsTold, reads_by}
use Rattle.tk_load.specs.declared.status.Status.{Status}
use Rattle.tk_load.proofs.FailLemmas.{counts_wanting, most_behind, none_behind, refused_counts, told_behind}
use Rattle.tk_load.proofs.BatchLemmas.{each_log_after}
use Rattle.tk_load.proofs.LogsLemmas.{logs_answered}
use Rattle.tk_load.proofs.PartsLemmas.{log_at, no_parts, one_more_part, part_refused, parts_later, place_inside}
use Rattle.tk_load.proofs.ReadLemmas.{kept_all, kept_on}
use Rattle.tk_load.proofs.changes.parts_of.Given.{Over}
use Rattle.tk_load.proofs.changes.parts_of.Goals as goal
use Rattle.tk_load.proofs.changes.parts_of.Goals.{After-next_part}

abbrev nobody : Mon × Bor (List ℕ)
nobody = (record { 0 = 0 }, record { ref_ptr = (0, 0); now = [] })

pub loop-alloc-init : goal.loop-alloc-init
loop-alloc-init g c = record {
  parts = no_parts (reads_by g.F.Files c.args.files.now c.args.files.now) c.args.width c.args.names.now c.args.words.now c.new-parts.result.items c.new-parts.ensures.items;
  kept = kept_all g.F.Files c.args.files.now;
  none = λ name. refl;
}

pub loop-log-init : goal.loop-log-init
loop-log-init g c = record {
  parts = parts_later g.F.Files c.args.files.now c.loop-alloc.files c.next_logs.new.files c.args.width c.args.names.now c.args.words.now c.loop-alloc.parts.items c.loop-alloc.updates c.next_logs.ensures.kept c.loop-alloc.invariant.parts;
  count = omega arith;
  fine = λ i d within. absurd (omega (arith, within));
}

-- the log that is next is that of the word behind the parts so far
record IsNext (g : Over) (c : After-next_part g) : Type 0 where
  at : c.len-in-loop-log.result ≡ length c.loop-log.parts.items
  inside : c.len-in-loop-log.result < length c.args.words.now
  read : IsLogOf (reads_by g.F.Files c.args.files.now c.next_logs.new.files) c.args.width c.args.names.now (get_or c.args.words.now c.len-in-loop-log.result nobody) c.in-Some.log

next : (g : Over) (c : After-next_part g) → IsNext g c
next g c =
    let a = c.args.files.now in
    let reads = reads_by g.F.Files a c.next_logs.new.files in
    let words = c.args.words.now in
    let logs = c.in_ok-logs.logs.items in
    let m = c.len-in-loop-alloc.result in
    let i = length c.loop-log.yielded in
    let k = c.len-in-loop-log.result in
    let turn = YieldsList-turn (YieldsList-from_vec {s = c.into_iter-log-iterator.result} logs (search rules) (search rules)) c.loop-log.yielded c.loop-log.log-iterator c.loop-log.yielded_by c.next.result c.next.new.self c.in-Some.log c.in-Some.is c.next.ensures.steps in
    let at : k ≡ length c.loop-log.parts.items = search rules in
    let begin : m ≡ length c.loop-alloc.parts.items = search rules in
    let count = c.loop-log.invariant.count in
    let place : k ≡ m + i = omega (arith, at, begin, count) in
    let each = each_log_after g.F.Files a c.loop-alloc.files c.next_logs.new.files c.args.width c.args.names.now _ logs c.loop-alloc.invariant.kept c.next_logs.ensures.kept c.in_ok-logs.ensures.read in record {
      at = at;
      inside = place_inside words m i k (length logs) turn.0 c.in_ok-logs.ensures.few place;
      read = log_at reads c.args.width c.args.names.now words logs c.in-Some.log m i k nobody each turn.0 turn.1 place;
    }

pub loop-log-preserved : goal.loop-log-preserved
loop-log-preserved g c =
    let reads = reads_by g.F.Files c.args.files.now c.next_logs.new.files in
    let word = get_or c.args.words.now c.len-in-loop-log.result nobody in
    let one = next g (goal.at.loop-log-preserved g c).After-next_part in record {
      parts = one_more_part reads c.args.width c.args.names.now c.args.words.now c.loop-log.parts.items c.loop-log.updates c.loop-log.invariant.parts c.len-in-loop-log.result nobody one.at one.inside c.requires.monitors c.in-Some.log c.in-Ok.log
          c.push.new.self.items c.len-updates.result one.read c.in-Ok.ensures.meets c.in-Ok.ensures.same c.in-Ok.ensures.few c.in_ok-push.ensures.items c.len-updates.ensures;
      count =
          let before = c.loop-log.invariant.count in
          let longer : length c.push.new.self.items ≡ length (c.loop-log.parts.items ++ (word.0, c.in-Ok.log) ∷ []) = ap (λ (l : List (Mon × Expanded)). length l) c.in_ok-push.ensures.items in
          let parts = length-append c.loop-log.parts.items ((word.0, c.in-Ok.log) ∷ []) in
          let passed = length-append c.loop-log.yielded (c.in-Some.log ∷ []) in omega (arith, before, longer, parts, passed);
      fine = All-push (λ (log : Result Expanded Status). is_ok log ≡ true) c.loop-log.yielded c.in-Some.log c.loop-log.invariant.fine (ap (λ (r : Result Expanded Status). is_ok r) c.in-Ok.ensures.same);
    }

pub loop-alloc-preserved : goal.loop-alloc-preserved
loop-alloc-preserved g c = record {
  parts = c.loop-log.invariant.parts;
  kept = kept_on g.F.Files c.args.files.now c.loop-alloc.files c.next_logs.new.files c.loop-alloc.invariant.kept c.next_logs.ensures.kept;
  none =
      let whole = YieldsList-end (YieldsList-from_vec {s = c.into_iter-log-iterator.result} c.in_ok-logs.logs.items (search rules) (search rules)) c.loop-log.yielded c.loop-log.log-iterator c.loop-log.yielded_by c.next.result c.next.new.self c.in-None.is c.next.ensures.steps in
      none_behind g.F.Files c.args.files.now c.loop-alloc.files c.next_logs.new.files c.loop-alloc.invariant.none
      (c.in_ok-logs.ensures.counts.none (subst (All (λ (log : Result Expanded Status). is_ok log ≡ true)) (sym (map-id c.loop-log.yielded) ∙ whole.0) c.loop-log.invariant.fine));
}

pub returns-in-Err-clause-read : goal.returns-in-Err-clause-read
returns-in-Err-clause-read g c =
    let reads = reads_by g.F.Files c.args.files.now c.next_logs.new.files in
    let one = next g (goal.at.returns-in-Err-clause-read g c).After-next_part in
    part_refused reads c.args.width c.args.names.now c.args.words.now c.loop-log.parts.items c.loop-log.updates c.loop-log.invariant.parts c.len-in-loop-log.result nobody one.at one.inside _ c.in-Some.log c.in-Err.status one.read c.in-Err.ensures.meets

pub returns-in_err-logs-clause-read : goal.returns-in_err-logs-clause-read
returns-in_err-logs-clause-read g c = logs_answered _ (reads_by g.F.Files c.args.files.now c.next_logs.new.files) c.args.width c.args.names.now (asked_logs c.args.words.now) c.from_residual.result c.from_residual.ensures.1

pub returns-in_err-push-clause-read : goal.returns-in_err-push-clause-read
returns-in_err-push-clause-read g c = logs_answered _ (reads_by g.F.Files c.args.files.now c.next_logs.new.files) c.args.width c.args.names.now (asked_logs c.args.words.now) c.from_residual-in_err-push.result c.from_residual-in_err-push.ensures.1

-- a log that is refused tells what reading it gave, or that there are too many changes
pub returns-in-Err-clause-counts : goal.returns-in-Err-clause-counts
returns-in-Err-clause-counts g c =
    let logs = c.in_ok-logs.logs.items in
    let reads = reads_by g.F.Files c.loop-alloc.files c.next_logs.new.files in
    let turn = YieldsList-turn (YieldsList-from_vec {s = c.into_iter-log-iterator.result} logs (search rules) (search rules)) c.loop-log.yielded c.loop-log.log-iterator c.loop-log.yielded_by c.next.result c.next.new.self c.in-Some.log c.in-Some.is c.next.ensures.steps in
    let one : IfErr c.in-Some.log (FailsAsTold reads) = subst (λ (l : Result Expanded Status). IfErr l (FailsAsTold reads)) (sym turn.1) (c.in_ok-logs.ensures.counts.each (length c.loop-log.yielded) c.in-Some.log turn.0) in
    told_behind g.F.Files c.args.files.now c.loop-alloc.files c.next_logs.new.files c.loop-alloc.invariant.none c.in-Err.status
    (refused_counts reads c.in-Some.log c.in-Err.status _ c.in_ok-logs.ensures.counts.most one c.in-Err.ensures.err)

pub returns-in_err-logs-clause-counts : goal.returns-in_err-logs-clause-counts
returns-in_err-logs-clause-counts g c =
    counts_wanting (reads_by g.F.Files c.args.files.now c.next_logs.new.files) c.from_residual.result
    (most_behind g.F.Files c.args.files.now c.loop-alloc.files c.next_logs.new.files c.loop-alloc.invariant.none c.in_err-logs.ensures.most) c.from_residual.ensures.1

pub returns-in_err-push-clause-counts : goal.returns-in_err-push-clause-counts
returns-in_err-push-clause-counts g c =
    counts_wanting (reads_by g.F.Files c.args.files.now c.next_logs.new.files) c.from_residual-in_err-push.result
    (most_behind g.F.Files c.args.files.now c.loop-alloc.files c.next_logs.new.files c.loop-alloc.invariant.none c.in_ok-logs.ensures.counts.most) c.from_residual-in_err-push.ensures.1
