use Rattle.std.proofs.Common.{refl}
use Rattle.tk_hub.specs.declared.visitor.Greeting.TheVariants as v
use Rattle.tk_hub.proofs.LobbyLemmas.{greets_here, stays_held, taken_out, turned_away}
use Rattle.tk_hub.proofs.lobby.Lobby.greet_at.Goals as goal

pub returns-in-Nothing-clause-greets : goal.returns-in-Nothing-clause-greets
returns-in-Nothing-clause-greets g c =
    let s = c.args.seats.now in
    let was = c.in-Some.ensures in
    greets_here g.W.Wire.counts s.run _ s.coordinator.settings.monitors c.args.key c.self.inside.strangers _ v.Nothing _ _ c.self.inside.held c.args.self.now s.links _ c.self.view_is was.value c.run.ensures c.in-Nothing.ensures.answer c.greet.ensures.gathers c.greet.ensures.told
    (stays_held c.args.key c.self.inside.strangers _ c.self.inside.held _ c.args.self.now c.hold.new.self s.links c.self.view_is was.updates was.len was.key_is_next c.hold.ensures.updates c.hold.ensures.count c.hold.ensures.strangers)
    (λ e. absurd (cc), λ e. absurd (cc))

pub returns-in-NoMemory-clause-greets : goal.returns-in-NoMemory-clause-greets
returns-in-NoMemory-clause-greets g c =
    let s = c.args.seats.now in
    let was = c.in-Some.ensures in
    let hold = c.hold-in-NoMemory in
    greets_here g.W.Wire.counts s.run _ s.coordinator.settings.monitors c.args.key c.self.inside.strangers _ v.NoMemory _ _ c.self.inside.held c.args.self.now s.links _ c.self.view_is was.value c.run.ensures c.in-NoMemory.ensures.answer c.greet.ensures.gathers c.greet.ensures.told
    (stays_held c.args.key c.self.inside.strangers _ c.self.inside.held _ c.args.self.now hold.new.self s.links c.self.view_is was.updates was.len was.key_is_next hold.ensures.updates hold.ensures.count hold.ensures.strangers)
    (λ _. refl, λ _. refl)

pub returns-in-Strange-clause-greets : goal.returns-in-Strange-clause-greets
returns-in-Strange-clause-greets g c =
    let s = c.args.seats.now in
    let was = c.in-Some.ensures in
    greets_here g.W.Wire.counts s.run _ s.coordinator.settings.monitors c.args.key c.self.inside.strangers _ v.Strange _ _ c.self.inside.held c.args.self.now s.links _ c.self.view_is was.value c.run.ensures c.in-Strange.ensures.answer c.greet.ensures.gathers c.greet.ensures.told
    (turned_away c.args.key c.self.inside.strangers c.self.inside.held _ c.args.self.now c.turn_away.new.self s.links c.self.view_is was.updates was.len c.turn_away.ensures.counts)
    (λ e. absurd (cc), λ e. absurd (cc))

pub returns-in-Hello-clause-greets : goal.returns-in-Hello-clause-greets
returns-in-Hello-clause-greets g c =
    let s = c.args.seats.now in
    let was = c.in-Some.ensures in
    let guest = c.in-Hello.guest in
    greets_here g.W.Wire.counts s.run _ s.coordinator.settings.monitors c.args.key c.self.inside.strangers _ (v.Hello guest) _ _ c.self.inside.held c.args.self.now s.links _ c.self.view_is was.value c.run.ensures c.in-Hello.ensures.answer c.greet.ensures.gathers c.greet.ensures.told
    (taken_out s.run s.coordinator.settings.monitors c.args.key c.self.inside.strangers guest.mon _ c.self.inside.held _ c.args.self.now c.welcome.new.self s.links c.welcome.new.seats.links c.self.view_is was.updates was.len c.welcome.ensures.held c.welcome.ensures.answer)
    (λ e. absurd (cc), λ e. absurd (cc))
