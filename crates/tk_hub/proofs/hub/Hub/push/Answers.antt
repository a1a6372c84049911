use Rattle.std.proofs.Common.{◌≡◌, true, sym, subst}
use Rattle.tk_hub.specs.Seats.{admits}
use Rattle.tk_hub.specs.declared.course.Course.TheVariants as cs
use Rattle.tk_hub.proofs.AdmittedLemmas.{admitted_monitor}
use Rattle.tk_hub.proofs.KeptLemmas.{hub_pushed}
use Rattle.tk_hub.proofs.hub.Hub.push.Goals as goal

pub say_at-requires : goal.say_at-requires
say_at-requires g c = admitted_monitor c.self.inside.seats c.args.mon.0 c.self.invariant.seats (subst (λ v. admits v.links c.args.mon.0 ≡ true) (sym c.self.view_is) c.requires.admitted)

pub invariant_of-self : goal.invariant_of-self
invariant_of-self g c =
    let s = c.self.inside in
    let is = admitted_monitor s.seats c.args.mon.0 c.self.invariant.seats (subst (λ v. admits v.links c.args.mon.0 ≡ true) (sym c.self.view_is) c.requires.admitted) in
    let going = subst (λ v. v.course ≡ cs.Open) (sym c.self.view_is) c.requires.going in
    hub_pushed c.args.mon.0 s.seats c.say_at.new.self s.lobby s.lines s.course c.say_at.result going is c.self.invariant c.say_at.ensures.says c.say_at.ensures.rest c.say_at.ensures.kept

pub returns-clause-kept : goal.returns-clause-kept
returns-clause-kept g c =
    let s = c.self.inside in
    let is = admitted_monitor s.seats c.args.mon.0 c.self.invariant.seats (subst (λ v. admits v.links c.args.mon.0 ≡ true) (sym c.self.view_is) c.requires.admitted) in
    let going = subst (λ v. v.course ≡ cs.Open) (sym c.self.view_is) c.requires.going in
    hub_pushed c.args.mon.0 s.seats c.say_at.new.self s.lobby s.lines s.course c.say_at.result going is c.self.invariant c.say_at.ensures.says c.say_at.ensures.rest c.say_at.ensures.kept
