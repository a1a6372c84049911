use Rattle.std.proofs.Common.{ap, ◌∙◌}
use Rattle.std.specs.Prelude.{pos}
use Rattle.tk_journal.specs.Legal.{turn_of}
use Rattle.tk_journal.specs.declared.noted.Noted.TheVariants.{Tuned}
use Rattle.tk_hub.proofs.RetuneLemmas.{hub_after_retune}
use Rattle.tk_hub.proofs.hub.Hub.retune.Goals as goal

pub invariant_of-self : goal.invariant_of-self
invariant_of-self g c =
    let h = c.self.inside in
    let r = c.retune.ensures in
    hub_after_retune (record { run = h.seats.run; coordinator = h.seats.coordinator; links = h.seats.links; held = h.lobby.held; strangers = h.lobby.strangers; lines = h.lines; course = h.course }) c.retune.new.self (turn_of h.seats.coordinator.settings h.seats.coordinator.journal (Tuned c.args.k (pos c.args.epsilon))) c.retune.result (ap (λ v. v.course) c.self.view_is ∙ c.requires) r.turn r.err r.rest r.kept c.self.invariant

pub returns-clause-kept : goal.returns-clause-kept
returns-clause-kept g c =
    let h = c.self.inside in
    let r = c.retune.ensures in
    hub_after_retune (record { run = h.seats.run; coordinator = h.seats.coordinator; links = h.seats.links; held = h.lobby.held; strangers = h.lobby.strangers; lines = h.lines; course = h.course }) c.retune.new.self (turn_of h.seats.coordinator.settings h.seats.coordinator.journal (Tuned c.args.k (pos c.args.epsilon))) c.retune.result (ap (λ v. v.course) c.self.view_is ∙ c.requires) r.turn r.err r.rest r.kept c.self.invariant
