use Rattle.std.proofs.Common.{◌≡◌, ◌++◌, ◌∷◌, [], All, true, None, length, map, arith, rules, sym, ◌∙◌, subst, ap}
use Rattle.std.proofs.lemmas.Iterator.Adapters.{YieldsList-from_vec}
use Rattle.std.proofs.lemmas.Iterator.Consumers.{YieldsList-end, YieldsList-turn}
use Rattle.std.proofs.lemmas.List.{length_push, map-append, map-id}
use Rattle.std.proofs.lemmas.List.Elements.{All-push}
use Rattle.std.proofs.lemmas.List.Sums.{sum_by_push}
use Rattle.tk_serve.specs.declared.served.Why.TheVariants.{Stopped}
use Rattle.tk_trail.specs.Readings.{is_stopped, taken_by}
use Rattle.tk_live.specs.Carried.{bytes_of}
use Rattle.tk_live.specs.Crew.{IsCalm, graver as graver_of, gravest}
use Rattle.tk_live.proofs.CauseLemmas.{calm_both, gravest_push, stopped_both, why_calm, why_stopped}
use Rattle.tk_live.proofs.returning.part.Goals as goal

pub push_reserved-requires : goal.push_reserved-requires
push_reserved-requires g c =
    let turn = YieldsList-turn (YieldsList-from_vec {s = c.into_iter-worked-iterator.result} c.args.workers.items (search rules) (search rules)) c.loop-worked.yielded c.loop-worked.worked-iterator c.loop-worked.yielded_by c.next.result c.next.new.self c.in-Some.worked c.in-Some.is c.next.ensures.steps in
    omega (arith, c.loop-worked.invariant.count, c.loop-worked.invariant.room, turn.0, c.loop-worked.ends.ok.0)

pub loop-worked-preserved : goal.loop-worked-preserved
loop-worked-preserved g c =
    let before = c.loop-worked.invariant in
    let done = c.loop-worked.yielded in
    let one = c.in-Some.worked in
    let size = length_push done one in
    let pushed = ap (λ xs. length xs) c.push_reserved.ensures.items ∙ length_push c.loop-worked.ends.items one.served.end in
    let cause = c.graver-cause.ensures ∙ ap (λ k. graver_of k one.served.why) before.cause in record {
      ends = c.push_reserved.ensures.items ∙ ap (λ xs. xs ++ one.served.end ∷ []) before.ends ∙ sym (map-append (λ w. w.served.end) done (one ∷ []));
      cause = cause ∙ sym (ap gravest (map-append (λ w. w.served.why) done (one ∷ [])) ∙ gravest_push (map (λ w. w.served.why) done) one.served.why);
      calm = λ is.
          let both = calm_both c.loop-worked.cause one.served.why (subst IsCalm c.graver-cause.ensures is) in
          All-push (λ w. w.served.end.odd ≡ None) done one (before.calm both.0) (why_calm one.served.end (g.N.Link.Wire.counts one.served.link) (g.N.Rest.Rest.fault_count one.served.rest) (subst IsCalm one.why both.1));
      stopped = λ is.
          let both = stopped_both c.loop-worked.cause one.served.why (sym c.graver-cause.ensures ∙ is) in
          All-push (λ w. is_stopped w.served.end.monitor.trail ≡ true) done one (before.stopped both.0) (why_stopped one.served.end (g.N.Link.Wire.counts one.served.link) (g.N.Rest.Rest.fault_count one.served.rest) (sym one.why ∙ both.1));
      taken = omega (arith, before.taken, ap (λ s. s.taken) c.back.ensures.state, ap (λ s. s.taken) c.back_rest.ensures.state, one.covered, sum_by_push (λ w. bytes_of w.version (taken_by w.served.end.monitor.trail)) done one);
      count = omega (arith, before.count, size, pushed);
      room = omega (arith, before.room, c.push_reserved.ensures.capacity);
    }

pub returns-clause-ends : goal.returns-clause-ends
returns-clause-ends g c =
    let whole = YieldsList-end (YieldsList-from_vec {s = c.into_iter-worked-iterator.result} c.args.workers.items (search rules) (search rules)) c.loop-worked.yielded c.loop-worked.worked-iterator c.loop-worked.yielded_by c.next.result c.next.new.self c.in-None.is c.next.ensures.steps in
    subst (λ xs. c.loop-worked.ends.items ≡ map (λ w. w.served.end) xs) (sym (map-id c.loop-worked.yielded) ∙ whole.0) c.loop-worked.invariant.ends

pub returns-clause-cause : goal.returns-clause-cause
returns-clause-cause g c =
    let whole = YieldsList-end (YieldsList-from_vec {s = c.into_iter-worked-iterator.result} c.args.workers.items (search rules) (search rules)) c.loop-worked.yielded c.loop-worked.worked-iterator c.loop-worked.yielded_by c.next.result c.next.new.self c.in-None.is c.next.ensures.steps in
    subst (λ xs. c.loop-worked.cause ≡ gravest (map (λ w. w.served.why) xs)) (sym (map-id c.loop-worked.yielded) ∙ whole.0) c.loop-worked.invariant.cause

pub returns-clause-stopped : goal.returns-clause-stopped
returns-clause-stopped g c =
    let whole = YieldsList-end (YieldsList-from_vec {s = c.into_iter-worked-iterator.result} c.args.workers.items (search rules) (search rules)) c.loop-worked.yielded c.loop-worked.worked-iterator c.loop-worked.yielded_by c.next.result c.next.new.self c.in-None.is c.next.ensures.steps in
    subst (λ xs. c.loop-worked.cause ≡ Stopped → All (λ w. is_stopped w.served.end.monitor.trail ≡ true) xs) (sym (map-id c.loop-worked.yielded) ∙ whole.0) c.loop-worked.invariant.stopped

pub returns-clause-calm : goal.returns-clause-calm
returns-clause-calm g c =
    let whole = YieldsList-end (YieldsList-from_vec {s = c.into_iter-worked-iterator.result} c.args.workers.items (search rules) (search rules)) c.loop-worked.yielded c.loop-worked.worked-iterator c.loop-worked.yielded_by c.next.result c.next.new.self c.in-None.is c.next.ensures.steps in
    subst (λ xs. IsCalm c.loop-worked.cause → All (λ w. w.served.end.odd ≡ None) xs) (sym (map-id c.loop-worked.yielded) ∙ whole.0) c.loop-worked.invariant.calm
