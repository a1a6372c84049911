use Rattle.std.proofs.Common.{◌∙◌, ap, subst}
use Rattle.tk_hub.proofs.LeavingLemmas.{covered_of, lost_of}
use Rattle.tk_hub.specs.End.{AreCounted, AreShut, EachCovers}
use Rattle.tk_hub.proofs.hub.Hub.into_end.Goals as goal

pub returns-clause-counted : goal.returns-clause-counted
returns-clause-counted g c = subst (λ v. AreCounted g.W.Wire.counts v.links) c.self.view_is c.into_end.ensures.counted

pub returns-clause-shut : goal.returns-clause-shut
returns-clause-shut g c = subst (λ v. AreShut g.W.Wire.is_shut v.links) c.self.view_is c.into_end.ensures.shut

pub returns-clause-covered : goal.returns-clause-covered
returns-clause-covered g c =
    let h = c.self.inside in
    let covered = covered_of g.W.Wire.counts (record { run = h.seats.run; coordinator = h.seats.coordinator; links = h.seats.links }) c.self.invariant.seats c.into_end.ensures.counted in
    subst (EachCovers g.W.Wire.counts) c.self.view_is covered

pub returns-clause-lost : goal.returns-clause-lost
returns-clause-lost g c = λ failed.
    let h = c.self.inside in
    lost_of g.W.Wire.counts h.seats.coordinator h.seats.links h.lobby.held h.course c.into_end.result.1.items c.into_end.ensures.counted c.into_end.ensures.wires c.self.invariant.course (ap (λ v. v.course) c.self.view_is ∙ failed)
