use Rattle.std.proofs.Common.{ap, arith}
use Rattle.std.specs.Prelude.{is_err}
use Rattle.tk_hub.proofs.LobbyLemmas.{greets_same, greets_step, greets_wanting, links_alone}
use Rattle.tk_hub.proofs.lobby.Lobby.greet.Goals as goal

pub loop-key-preserved : goal.loop-key-preserved
loop-key-preserved g c =
    let l = c.loop-key in (
      greets_step g.W.Wire.counts c.args.seats.now l.seats l.key _ _ _ l.invariant.1 l.invariant.0 c.in_ok-greet_at.ensures.greets,
      links_alone c.args.seats.now l.seats c.greet_at.new.seats l.invariant.1 c.greet_at.ensures.rest,
      λ are. c.greet_at.ensures.kept (l.invariant.2 are),
      λ open_before. c.greet_at.ensures.going (l.invariant.3 open_before),
      c.greet_at.ensures.few,
      omega (arith, l.invariant.5, c.greet_at.ensures.more),
    )

-- the greeting at this key found no memory
pub returns-in_err-greet_at-clause-greets : goal.returns-in_err-greet_at-clause-greets
returns-in_err-greet_at-clause-greets g c =
    let l = c.loop-key in
    greets_wanting g.W.Wire.counts c.args.seats.now.run c.args.seats.now.coordinator.settings.monitors c.from_residual.result _ _ c.from_residual.ensures.0 (record {
      keys = l.key;
      mid = record { lobby = l.self; links = l.seats.links };
      greets = l.invariant.0;
      last = c.greet_at.result;
      wants = ap is_err c.in_err-greet_at.was;
      greeted = greets_same g.W.Wire.counts c.args.seats.now l.seats l.key c.greet_at.result _ _ l.invariant.1 c.greet_at.ensures.greets;
    })

pub returns-in_err-greet_at-clause-few : goal.returns-in_err-greet_at-clause-few
returns-in_err-greet_at-clause-few g c = c.greet_at.ensures.few

pub returns-clause-few : goal.returns-clause-few
returns-clause-few g c = c.loop-key.invariant.4
