use Rattle.std.proofs.Common.{◌≡◌, sym, subst}
use Rattle.tk_hub.specs.Door.{GreetsHeld, door}
use Rattle.tk_hub.specs.Hub.{HubView, door_of, seats_of}
use Rattle.tk_hub.specs.Seats.{monitors_of}
use Rattle.tk_hub.specs.declared.course.Course.TheVariants as cs
use Rattle.tk_hub.proofs.HubLemmas.{open_hub}
use Rattle.tk_hub.proofs.KeptLemmas.{hub_greeted}
use Rattle.tk_hub.proofs.hub.Hub.greet.Goals as goal

pub invariant_of-self : goal.invariant_of-self
invariant_of-self g c =
    let s = c.self.inside in
    let going = subst (λ v. v.course ≡ cs.Open) (sym c.self.view_is) c.requires in
    let each = open_hub s.seats.coordinator s.seats.links s.lobby.held s.course going c.self.invariant.course in
    hub_greeted s.seats c.greet.new.seats s.lobby c.greet.new.self s.lines s.course going c.self.invariant c.greet.ensures.rest (c.greet.ensures.kept c.self.invariant.seats) (c.greet.ensures.going each) c.greet.ensures.few

pub returns-clause-kept : goal.returns-clause-kept
returns-clause-kept g c =
    let s = c.self.inside in
    let going = subst (λ v. v.course ≡ cs.Open) (sym c.self.view_is) c.requires in
    let each = open_hub s.seats.coordinator s.seats.links s.lobby.held s.course going c.self.invariant.course in
    hub_greeted s.seats c.greet.new.seats s.lobby c.greet.new.self s.lines s.course going c.self.invariant c.greet.ensures.rest (c.greet.ensures.kept c.self.invariant.seats) (c.greet.ensures.going each) c.greet.ensures.few

pub returns-clause-greets : goal.returns-clause-greets
returns-clause-greets g c =
    subst (λ (v : HubView g.row.W.Denot). GreetsHeld g.W.Wire.counts v.run (monitors_of (seats_of v)) c.greet.result (door_of v) (door c.greet.new.self c.greet.new.seats)) c.self.view_is c.greet.ensures.greets
