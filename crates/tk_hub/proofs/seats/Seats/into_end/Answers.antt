use Rattle.std.proofs.Common.{◌∙◌, ap, sym, subst}
use Rattle.tk_hub.proofs.LeavingLemmas.{odd_up, standing_of}
use Rattle.tk_hub.specs.End.{AreCounted, AreShut, LeavesOdd, wires_of}
use Rattle.tk_hub.specs.Leaving.{IsLeftOn}
use Rattle.tk_hub.proofs.seats.Seats.into_end.Goals as goal

pub leave-odd-requires-clause-standing : goal.leave-odd-requires-clause-standing
leave-odd-requires-clause-standing g c =
    let s = c.self.inside in
    standing_of c.args.course (record { run = s.run; coordinator = s.desk.coordinator; links = s.links.items }) (subst (λ v. IsLeftOn c.args.course v) (sym c.self.view_is) c.requires.course)

pub new-requires : goal.new-requires
new-requires g c =
    let s = c.self.inside in
    odd_up c.args.course (record { run = s.run; coordinator = s.desk.coordinator; links = s.links.items }) c.leave-odd.result.0 c.self.invariant (subst (λ v. IsLeftOn c.args.course v) (sym c.self.view_is) c.requires.course) c.leave-odd.ensures.odd

pub returns-clause-counted : goal.returns-clause-counted
returns-clause-counted g c = subst (λ v. AreCounted g.W.Wire.counts v.links) c.self.view_is c.leave-odd.ensures.counted

pub returns-clause-shut : goal.returns-clause-shut
returns-clause-shut g c = subst (λ v. AreShut g.W.Wire.is_shut v.links) c.self.view_is c.leave-odd.ensures.shut

pub returns-clause-odd : goal.returns-clause-odd
returns-clause-odd g c =
    subst (λ v. LeavesOdd c.args.course v.links c.new.result.odd) c.self.view_is
    (subst (λ odd. LeavesOdd c.args.course c.self.inside.links.items odd) (sym c.new.ensures.odd) c.leave-odd.ensures.odd)

pub returns-clause-wires : goal.returns-clause-wires
returns-clause-wires g c = c.leave-odd.ensures.wires ∙ ap (λ v. wires_of v.links) c.self.view_is

pub returns-clause-coordinator : goal.returns-clause-coordinator
returns-clause-coordinator g c = c.new.ensures.coordinator ∙ ap (λ v. v.coordinator) c.self.view_is
