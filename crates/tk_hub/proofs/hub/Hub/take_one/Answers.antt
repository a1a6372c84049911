use Rattle.std.proofs.Common.{◌≡◌, ◌∙◌, true, sym, subst, ap}
use Rattle.tk_base.specs.History.{IsFront}
use Rattle.tk_hub.specs.Hub.{HubView, TurnsOne}
use Rattle.tk_hub.specs.Seats.{admits, link_of}
use Rattle.tk_hub.specs.Slot.{desk_of}
use Rattle.tk_hub.specs.declared.course.Course.TheVariants as cs
use Rattle.tk_hub.proofs.AdmittedLemmas.{admitted_link, admitted_monitor}
use Rattle.tk_hub.proofs.KeptLemmas.{hub_taken, taken_concluded}
use Rattle.tk_hub.proofs.SeatsLemmas.{reaches_taking, taken_by_one}
use Rattle.tk_hub.proofs.TakenLemmas.{reaches_settings}
use Rattle.tk_hub.proofs.TurnLemmas.{reaches_grown}
use Rattle.tk_hub.proofs.hub.Hub.take_one.Goals as goal

pub hear_one-turn-requires : goal.hear_one-turn-requires
hear_one-turn-requires g c = admitted_monitor c.self.inside.seats c.args.mon.0 c.self.invariant.seats (subst (λ v. admits v.links c.args.mon.0 ≡ true) (sym c.self.view_is) c.requires.admitted)

pub conclude-self-inside-requires : goal.conclude-self-inside-requires
conclude-self-inside-requires g c = c.self.invariant.few

pub invariant_of-self : goal.invariant_of-self
invariant_of-self g c =
    let s = c.self.inside in
    let admitted = subst (λ v. admits v.links c.args.mon.0 ≡ true) (sym c.self.view_is) c.requires.admitted in
    let is = admitted_monitor s.seats c.args.mon.0 c.self.invariant.seats admitted in
    let going = subst (λ v. v.course ≡ cs.Open) (sym c.self.view_is) c.requires.going in
    let there = admitted_link s.seats.links c.args.mon.0 admitted in
    hub_taken c.args.mon.0 c.hear_one-turn.result s.seats c.hear_one-turn.new.self c.conclude-self-inside.new.seats s.lobby c.conclude-self-inside.new.lobby s.lines s.course c.conclude-self-inside.result going is c.self.invariant there
    c.hear_one-turn.ensures.hears c.hear_one-turn.ensures.rest c.conclude-self-inside.ensures.closes c.conclude-self-inside.ensures.rest (c.conclude-self-inside.ensures.kept c.hear_one-turn.ensures.kept) c.conclude-self-inside.ensures.few c.conclude-self-inside.ensures.course

pub returns-clause-kept : goal.returns-clause-kept
returns-clause-kept g c =
    let s = c.self.inside in
    let admitted = subst (λ v. admits v.links c.args.mon.0 ≡ true) (sym c.self.view_is) c.requires.admitted in
    let is = admitted_monitor s.seats c.args.mon.0 c.self.invariant.seats admitted in
    let going = subst (λ v. v.course ≡ cs.Open) (sym c.self.view_is) c.requires.going in
    let there = admitted_link s.seats.links c.args.mon.0 admitted in
    hub_taken c.args.mon.0 c.hear_one-turn.result s.seats c.hear_one-turn.new.self c.conclude-self-inside.new.seats s.lobby c.conclude-self-inside.new.lobby s.lines s.course c.conclude-self-inside.result going is c.self.invariant there
    c.hear_one-turn.ensures.hears c.hear_one-turn.ensures.rest c.conclude-self-inside.ensures.closes c.conclude-self-inside.ensures.rest (c.conclude-self-inside.ensures.kept c.hear_one-turn.ensures.kept) c.conclude-self-inside.ensures.few c.conclude-self-inside.ensures.course

pub returns-clause-turns : goal.returns-clause-turns
returns-clause-turns g c =
    let s = c.self.inside in
    let mid = c.hear_one-turn.new.self in
    let last = c.conclude-self-inside.new.seats in
    let after = c.conclude-self-inside.new.lobby in
    let mon = c.args.mon.0 in
    let turn = c.hear_one-turn.result in
    let admitted = subst (λ v. admits v.links mon ≡ true) (sym c.self.view_is) c.requires.admitted in
    let is = admitted_monitor s.seats mon c.self.invariant.seats admitted in
    let there = admitted_link s.seats.links mon admitted in
    let old : HubView g.row.W.Denot = record { run = s.seats.run; coordinator = s.seats.coordinator; links = s.seats.links; held = s.lobby.held; strangers = s.lobby.strangers; lines = s.lines; course = s.course } in
    let New : HubView g.row.W.Denot = record { run = last.run; coordinator = last.coordinator; links = last.links; held = after.held; strangers = after.strangers; lines = s.lines; course = c.conclude-self-inside.result } in
    subst (λ v. TurnsOne mon turn v New) c.self.view_is
    (taken_concluded mon turn old mid last after c.conclude-self-inside.result is c.self.invariant.seats there
    c.hear_one-turn.ensures.hears c.hear_one-turn.ensures.rest c.conclude-self-inside.ensures.closes c.conclude-self-inside.ensures.rest c.conclude-self-inside.ensures.course)

pub returns-clause-run : goal.returns-clause-run
returns-clause-run g c = ap (λ v. v.run) c.conclude-self-inside.ensures.rest ∙ ap (λ v. v.run) c.hear_one-turn.ensures.rest ∙ ap (λ v. v.run) c.self.view_is

pub returns-clause-settings : goal.returns-clause-settings
returns-clause-settings g c =
    let s = c.self.inside in
    let mid = c.hear_one-turn.new.self in
    let mon = c.args.mon.0 in
    let is = admitted_monitor s.seats mon c.self.invariant.seats (subst (λ v. admits v.links mon ≡ true) (sym c.self.view_is) c.requires.admitted) in
    let reaches = reaches_taking mon (link_of s.seats.links mon) (link_of mid.links mon) (desk_of s.seats) (desk_of mid) is (taken_by_one mon c.hear_one-turn.result (link_of s.seats.links mon) (link_of mid.links mon) (desk_of s.seats) (desk_of mid) c.hear_one-turn.ensures.hears) in
    ap (λ v. v.coordinator.settings) c.conclude-self-inside.ensures.rest ∙ reaches_settings s.seats.coordinator mid.coordinator reaches ∙ ap (λ v. v.coordinator.settings) c.self.view_is

pub returns-clause-grows : goal.returns-clause-grows
returns-clause-grows g c =
    let s = c.self.inside in
    let mid = c.hear_one-turn.new.self in
    let mon = c.args.mon.0 in
    let is = admitted_monitor s.seats mon c.self.invariant.seats (subst (λ v. admits v.links mon ≡ true) (sym c.self.view_is) c.requires.admitted) in
    let reaches = reaches_taking mon (link_of s.seats.links mon) (link_of mid.links mon) (desk_of s.seats) (desk_of mid) is (taken_by_one mon c.hear_one-turn.result (link_of s.seats.links mon) (link_of mid.links mon) (desk_of s.seats) (desk_of mid) c.hear_one-turn.ensures.hears) in
    subst (λ v. IsFront v.coordinator.journal c.conclude-self-inside.new.seats.coordinator.journal) c.self.view_is
    (subst (λ v. IsFront s.seats.coordinator.journal v.coordinator.journal) (sym c.conclude-self-inside.ensures.rest) (reaches_grown s.seats.coordinator mid.coordinator reaches))
