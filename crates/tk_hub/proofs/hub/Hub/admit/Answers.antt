use Rattle.std.proofs.Common.{◌≡◌, refl, sym, subst}
use Rattle.tk_hub.specs.declared.course.Course.TheVariants as cs
use Rattle.tk_hub.proofs.HubLemmas.{open_hub}
use Rattle.tk_hub.proofs.KeptLemmas.{hub_greeted}
use Rattle.tk_hub.proofs.hub.Hub.admit.Goals as goal

pub invariant_of-self : goal.invariant_of-self
invariant_of-self g c =
    let s = c.self.inside in
    let going = subst (λ v. v.course ≡ cs.Open) (sym c.self.view_is) c.requires.going in
    let each = open_hub s.seats.coordinator s.seats.links s.lobby.held s.course going c.self.invariant.course in
    hub_greeted s.seats s.seats s.lobby c.admit.new.self s.lines s.course going c.self.invariant refl c.self.invariant.seats each c.admit.ensures.few

pub returns-clause-hub : goal.returns-clause-hub
returns-clause-hub g c =
    let s = c.self.inside in
    let going = subst (λ v. v.course ≡ cs.Open) (sym c.self.view_is) c.requires.going in
    let each = open_hub s.seats.coordinator s.seats.links s.lobby.held s.course going c.self.invariant.course in
    hub_greeted s.seats s.seats s.lobby c.admit.new.self s.lines s.course going c.self.invariant refl c.self.invariant.seats each c.admit.ensures.few
