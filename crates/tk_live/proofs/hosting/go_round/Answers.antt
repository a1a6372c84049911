use Rattle.std.proofs.Common.{sym, ap, ◌∙◌}
use Rattle.tk_live.proofs.CountLemmas.{faults_parted, faults_turned}
use Rattle.tk_live.proofs.HostLemmas.{goes_on_admitted, goes_parted, goes_turned, gone_none, gone_on, hosts_alarmed, hosts_between, hosts_turned, is_not}
use Rattle.tk_live.proofs.hosting.go_round.Goals as goal

pub returns-then-raised-clause-goes : goal.returns-then-raised-clause-goes
returns-then-raised-clause-goes g c = λ old first before going. hosts_alarmed _ _ _ _ _ _ _ going

pub returns-in_err-pause-clause-goes : goal.returns-in_err-pause-clause-goes
returns-in_err-pause-clause-goes g c =
    goes_parted c.in_err-pause.field-0.0 c.from_residual.result c.args.names.now c.args.hub.now c.args.hub.now _ _ _ _ c.from_residual.ensures.1 (λ old first before going.
    hosts_between _ _ _ _ _ _ _ _ _ going c.in_err-pause.ensures.net c.in_err-pause.ensures.fault)

pub returns-in_err-pause-clause-counted : goal.returns-in_err-pause-clause-counted
returns-in_err-pause-clause-counted g c = faults_parted c.in_err-pause.field-0.0 c.from_residual.result c.from_residual.ensures.1 c.in_err-pause.ensures.fault _

pub admit-requires-clause-listens : goal.admit-requires-clause-listens
admit-requires-clause-listens g c κs within = c.in_ok-pause.ensures.net.listens c.requires.listens

pub returns-in_err-more-clause-goes : goal.returns-in_err-more-clause-goes
returns-in_err-more-clause-goes g c =
    goes_parted c.in_err-more.field-0.0 c.from_residual-in_err-more.result c.args.names.now c.args.hub.now c.admit.new.hub _ _ _ _ c.from_residual-in_err-more.ensures.1 (λ old first before going.
    let on = goes_on_admitted _ _ _ _ _ _ _ _ _ going c.in_err-more.ensures.rest c.in_err-more.ensures.kept (gone_on _ _ _ c.in_ok-pause.ensures.net c.in_err-more.ensures.net) in
    hosts_between _ _ _ _ _ _ _ _ _ on (gone_none _) c.in_err-more.ensures.fault)

pub returns-in_err-more-clause-counted : goal.returns-in_err-more-clause-counted
returns-in_err-more-clause-counted g c = faults_parted c.in_err-more.field-0.0 c.from_residual-in_err-more.result c.from_residual-in_err-more.ensures.1 c.in_err-more.ensures.fault _

pub turn-turn-requires-clause-not_halted : goal.turn-turn-requires-clause-not_halted
turn-turn-requires-clause-not_halted g c = is_not _ _ (λ e. absurd (cc)) (ap (λ h. h.course) c.in_ok-more.ensures.rest ∙ c.requires.going)

pub turn-turn-requires-clause-written : goal.turn-turn-requires-clause-written
turn-turn-requires-clause-written g c = is_not _ _ (λ e. absurd (cc)) (ap (λ h. h.course) c.in_ok-more.ensures.rest ∙ c.requires.going)

pub returns-in-Some-clause-counted : goal.returns-in-Some-clause-counted
returns-in-Some-clause-counted g c =
    c.turn-turn.ensures.counted ∙ faults_turned c.turn-turn.result _ (sym c.after.ensures ∙ c.in-Some.is) (g.O.Sink.fault_count c.args.out.now)

-- the turn, in words of the hub that admitted
pub returns-in-Some-clause-goes : goal.returns-in-Some-clause-goes
returns-in-Some-clause-goes g c = λ old first before going.
    let on = goes_on_admitted _ _ _ _ _ _ _ _ _ going c.in_ok-more.ensures.rest c.in_ok-more.ensures.kept (gone_on _ _ _ c.in_ok-pause.ensures.net c.in_ok-more.ensures.net) in
    let e = c.turn-turn.ensures in
    hosts_turned _ _ _ c.turn-turn.new.self _ _ _ _ (g.O.Sink.written c.turn-turn.new.out) on c.turn-turn.result c.in-Some.parting (record {
      lines = e.lines;
      cut = e.cut;
      forward = e.forward;
      grows = e.grows;
      settings = e.settings;
      kept = e.kept;
      course = e.course;
      finished = e.finished;
      counts = g.N.Link.Wire.counts;
      goes = e.goes on.course on.unfinished;
    }) (sym c.after.ensures ∙ c.in-Some.is)

pub returns-in-None-clause-counted : goal.returns-in-None-clause-counted
returns-in-None-clause-counted g c =
    c.turn-turn.ensures.counted ∙ faults_turned c.turn-turn.result _ (sym c.after.ensures ∙ c.in-None.is) (g.O.Sink.fault_count c.args.out.now)

pub returns-in-None-clause-goes : goal.returns-in-None-clause-goes
returns-in-None-clause-goes g c = λ old first before going.
    let on = goes_on_admitted _ _ _ _ _ _ _ _ _ going c.in_ok-more.ensures.rest c.in_ok-more.ensures.kept (gone_on _ _ _ c.in_ok-pause.ensures.net c.in_ok-more.ensures.net) in
    let e = c.turn-turn.ensures in
    goes_turned _ _ _ c.turn-turn.new.self _ _ _ _ (g.O.Sink.written c.turn-turn.new.out) on c.turn-turn.result (record {
      lines = e.lines;
      cut = e.cut;
      forward = e.forward;
      grows = e.grows;
      settings = e.settings;
      kept = e.kept;
      course = e.course;
      finished = e.finished;
      counts = g.N.Link.Wire.counts;
      goes = e.goes on.course on.unfinished;
    }) (sym c.after.ensures ∙ c.in-None.is)
