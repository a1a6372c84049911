use Rattle.std.proofs.Common.{rules, List, ◌∷◌, [], length, ap, subst, sym, ◌∙◌, arith}
use Rattle.std.proofs.lemmas.Iterator.Adapters.{YieldsList-from_vec}
use Rattle.std.proofs.lemmas.Iterator.Consumers.{YieldsList-end}
use Rattle.std.proofs.lemmas.List.{length-append, map-id}
use Rattle.tk_load.specs.Batch.{EachAt, IsParsed}
use Rattle.tk_load.specs.declared.batch.Unparsed.{Unparsed}
use Rattle.tk_load.proofs.BatchLemmas.{each_both}
use Rattle.tk_load.proofs.batch.parsed_in_turn.Goals as goal

pub loop-log-preserved : goal.loop-log-preserved
loop-log-preserved c = record {
  count =
      let before = c.loop-log.invariant.count in
      let one = ap (λ (l : List _). length l) c.push_reserved.ensures.items in
      let more = length-append c.loop-log.all.items (c.parsed.result ∷ []) in
      let other = length-append c.loop-log.yielded (c.in-Some.log ∷ []) in omega (arith, before, one, more, other);
  room = search rules;
  parsed = rw c.push_reserved.ensures.items
      (each_both (IsParsed c.args.width c.args.names.now) c.loop-log.yielded c.loop-log.all.items c.in-Some.log c.parsed.result c.loop-log.invariant.count c.loop-log.invariant.parsed c.parsed.ensures);
}

pub returns-clause-parsed : goal.returns-clause-parsed
returns-clause-parsed c =
    let whole = YieldsList-end (YieldsList-from_vec {s = c.into_iter-log-iterator.result} c.args.logs.items (search rules) (search rules)) c.loop-log.yielded c.loop-log.log-iterator c.loop-log.yielded_by c.next.result c.next.new.self c.in-None.is c.next.ensures.steps in
    subst (λ (logs : List Unparsed). EachAt (IsParsed c.args.width c.args.names.now) logs c.loop-log.all.items) (sym (map-id c.loop-log.yielded) ∙ whole.0) c.loop-log.invariant.parsed
