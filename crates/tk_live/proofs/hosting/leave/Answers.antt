use Rattle.std.proofs.Common.{refl, sym, ap, ◌∙◌}
use Rattle.tk_live.proofs.HostLemmas.{done_is}
use Rattle.tk_live.proofs.hosting.leave.Goals as goal

pub returns-then-is_done : goal.returns-then-is_done
returns-then-is_done g c = record {
  coordinator = c.halt.ensures.coordinator;
  finished = c.halt.ensures.finished;
  course = c.halt.ensures.course;
  kept = c.halt.ensures.kept;
  taken = refl;
  shut = λ never. absurd (never (done_is c.args.parting (sym c.is_done.ensures ∙ c.if-is_done.true)));
}

pub returns : goal.returns
returns g c = record {
  coordinator = c.halt.ensures.coordinator;
  finished = c.halt.ensures.finished;
  course = c.halt.ensures.course;
  kept = c.halt.ensures.kept;
  taken = ap (λ n. n.taken) c.close.ensures.state;
  shut = λ never. ap (λ n. n.listens) c.close.ensures.state;
}
