use Rattle.std.proofs.Common.{◌≡◌, ◌==◌, ◌&&◌, ◌||◌, ◌<◌, ◌∷◌, ◌++◌, [], ◌∙◌, ℕ, ◌-◌, List, sym, ap, subst}
use Rattle.tk_input.specs.declared.event.Event.{Event}
use Rattle.tk_input.specs.declared.event.Event.TheVariants.{Raise}
use Rattle.tk_story.specs.Kept.{KeptStory}
use Rattle.tk_story.specs.Story.{IsStory}
use Rattle.tk_world.specs.Diary.{DiaryView}
use Rattle.tk_world.specs.Events.{next_of}
use Rattle.tk_world.specs.Seats.{HoldsWith, story_with}
use Rattle.tk_monitor.specs.declared.outcome.Raised.{Raised}
use Rattle.tk_world.specs.Nodes.{NodesView, RaisesAt, fresh_seat}
use Rattle.tk_world.specs.Work.{has}
use Rattle.tk_world.specs.World.{IsFeeder}
use Rattle.tk_world.proofs.NodesLemmas.{feeder_there, has_seat, has_still, raise_none, raise_with, seat_of}
use Rattle.tk_world.proofs.WorldLemmas.{Leaves}
use Rattle.tk_world.proofs.world.World.raise.Goals as goal
use Rattle.tk_world.proofs.world.World.raise.Goals.{then-broken, else-broken}

pub raise-requires-clause-seat : goal.raise-requires-clause-seat
raise-requires-clause-seat g c =
    let w = c.self.inside in
    let is = subst (λ (k : KeptStory). IsFeeder k.story c.args.mon.0 c.args.f.0) (sym c.self.view_is) (c.has_feeder.ensures.yes c.if-not-has_feeder.false) in
    has_seat (g.N.Nodes.seen w.nodes) w.logs w.from c.args.mon.0 c.self.invariant.story is.monitor

pub raise-requires-clause-feeder : goal.raise-requires-clause-feeder
raise-requires-clause-feeder g c =
    let w = c.self.inside in
    let is = subst (λ (k : KeptStory). IsFeeder k.story c.args.mon.0 c.args.f.0) (sym c.self.view_is) (c.has_feeder.ensures.yes c.if-not-has_feeder.false) in
    feeder_there (g.N.Nodes.seen w.nodes) w.logs w.from w.diary.raises w.work c.args.mon.0 c.args.f.0 c.self.invariant is

pub monitor-requires : goal.monitor-requires
monitor-requires g c =
    let w = c.self.inside in
    let is = subst (λ (k : KeptStory). IsFeeder k.story c.args.mon.0 c.args.f.0) (sym c.self.view_is) (c.has_feeder.ensures.yes c.if-not-has_feeder.false) in
    let v = g.N.Nodes.seen w.nodes in
    let raised = c.raise.ensures (fresh_seat v.coordinator.settings w.logs w.from 1) in
    has_still v (g.N.Nodes.seen c.raise.new.self) c.args.mon.0 (record (seat_of v w.logs w.from c.args.mon.0) { monitor = raised.monitor })
    (has_seat v w.logs w.from c.args.mon.0 c.self.invariant.story is.monitor) raised.is

pub raised-requires : goal.raised-requires
raised-requires g c =
    let leaves : (0 < c.self.inside.diary.raises) × Leaves (story_with (g.N.Nodes.seen c.self.inside.nodes) c.self.inside.logs c.self.inside.from) (Raise c.args.mon c.args.f)
    (g.N.Nodes.seen c.raise.new.self).coordinator.settings c.self.inside.logs c.self.inside.from (g.N.Nodes.seen c.raise.new.self).coordinator.journal (g.N.Nodes.seen c.raise.new.self).seats
    (c.self.inside.diary.raises - 1) c.insert_if.new.self =
    let is = subst (λ (k : KeptStory). IsFeeder k.story c.args.mon.0 c.args.f.0) (sym c.self.view_is) (c.has_feeder.ensures.yes c.if-not-has_feeder.false) in
    let w = c.self.inside in
    let v = g.N.Nodes.seen w.nodes in
    let v' = g.N.Nodes.seen c.raise.new.self in
    let seat = seat_of v w.logs w.from c.args.mon.0 in
    let due : c.if-broken.insert_if ≡ (c.in-Done.broken || c.ended-ended.result) = elim c.if-broken.branch [
      | then-broken w ↦ w.insert_if-is ∙ w.if-broken.true ∙ ap (λ b. b || c.ended-ended.result) (sym w.if-broken.true)
      | else-broken w ↦ w.insert_if-is ∙ ap (λ b. b || c.ended-ended.result) (sym w.if-broken.false)
    ] in
    raise_with v v' w.logs w.from w.diary.raises w.work c.insert_if.new.self c.args.mon c.args.f c.in-Done.broken c.ended-ended.result c.monitor.result.now
    c.self.invariant is.monitor
    (subst (λ (r : Raised). RaisesAt c.args.mon.0 c.args.f r v v' seat) c.in-Done.is (c.raise.ensures (fresh_seat v.coordinator.settings w.logs w.from 1)))
    c.monitor.ensures c.ended-ended.ensures
    (λ q. c.insert_if.ensures q ∙ ap (λ b. b && q == c.args.mon.0 || has w.work q) due) in
    leaves.0

leaves : (g : _) (c : goal.After-raised g) → Leaves (story_with (g.N.Nodes.seen c.self.inside.nodes) c.self.inside.logs c.self.inside.from) (Raise c.args.mon c.args.f)
    (g.N.Nodes.seen c.raise.new.self).coordinator.settings c.self.inside.logs c.self.inside.from (g.N.Nodes.seen c.raise.new.self).coordinator.journal (g.N.Nodes.seen c.raise.new.self).seats
    (c.self.inside.diary.raises - 1) c.insert_if.new.self
leaves g c =
    (let is = subst (λ (k : KeptStory). IsFeeder k.story c.args.mon.0 c.args.f.0) (sym c.self.view_is) (c.has_feeder.ensures.yes c.if-not-has_feeder.false) in
    let w = c.self.inside in
    let v = g.N.Nodes.seen w.nodes in
    let v' = g.N.Nodes.seen c.raise.new.self in
    let seat = seat_of v w.logs w.from c.args.mon.0 in
    let due : c.if-broken.insert_if ≡ (c.in-Done.broken || c.ended-ended.result) = elim c.if-broken.branch [
      | then-broken w ↦ w.insert_if-is ∙ w.if-broken.true ∙ ap (λ b. b || c.ended-ended.result) (sym w.if-broken.true)
      | else-broken w ↦ w.insert_if-is ∙ ap (λ b. b || c.ended-ended.result) (sym w.if-broken.false)
    ] in
    raise_with v v' w.logs w.from w.diary.raises w.work c.insert_if.new.self c.args.mon c.args.f c.in-Done.broken c.ended-ended.result c.monitor.result.now
    c.self.invariant is.monitor
    (subst (λ (r : Raised). RaisesAt c.args.mon.0 c.args.f r v v' seat) c.in-Done.is (c.raise.ensures (fresh_seat v.coordinator.settings w.logs w.from 1)))
    c.monitor.ensures c.ended-ended.ensures
    (λ q. c.insert_if.ensures q ∙ ap (λ b. b && q == c.args.mon.0 || has w.work q) due)).1

pub invariant_of-self-in-Done : goal.invariant_of-self-in-Done
invariant_of-self-in-Done g c =
    let w = c.self.inside in
    subst (λ (r : ℕ). HoldsWith (g.N.Nodes.seen c.raise.new.self) w.logs w.from r c.insert_if.new.self) (sym (ap (λ (d : DiaryView). d.raises) c.raised.ensures)) (leaves g c).holds

pub returns-after-broken-clause-moves : goal.returns-after-broken-clause-moves
returns-after-broken-clause-moves g c = (
  ap (λ (k : KeptStory). next_of k.story (Raise c.args.mon c.args.f)) (sym c.self.view_is) ∙ (leaves g c).next,
  ap (λ (d : DiaryView). d.events) c.raised.ensures ∙ ap (λ (es : List Event). es ++ Raise c.args.mon c.args.f ∷ []) (ap (λ (k : KeptStory). k.events) c.self.view_is),
)

pub returns-after-broken-clause-legal : goal.returns-after-broken-clause-legal
returns-after-broken-clause-legal g c = (leaves g c).holds.story

-- the part is at its end, and nothing changes
pub invariant_of-self : goal.invariant_of-self
invariant_of-self g c =
    let w = c.self.inside in
    let is = subst (λ (k : KeptStory). IsFeeder k.story c.args.mon.0 c.args.f.0) (sym c.self.view_is) (c.has_feeder.ensures.yes c.if-not-has_feeder.false) in
    let v = g.N.Nodes.seen w.nodes in
    let v' = g.N.Nodes.seen c.raise.new.self in
    let none = raise_none v v' w.logs w.from w.diary.raises w.work c.args.mon c.args.f c.self.invariant is.monitor
    (subst (λ (r : Raised). RaisesAt c.args.mon.0 c.args.f r v v' (seat_of v w.logs w.from c.args.mon.0)) c.in-Ended.is (c.raise.ensures (fresh_seat v.coordinator.settings w.logs w.from 1))) in
    subst (λ (z : NodesView). HoldsWith z w.logs w.from w.diary.raises w.work) (sym none.1) c.self.invariant

pub returns-in-Ended-clause-moves : goal.returns-in-Ended-clause-moves
returns-in-Ended-clause-moves g c =
    let w = c.self.inside in
    let is = subst (λ (k : KeptStory). IsFeeder k.story c.args.mon.0 c.args.f.0) (sym c.self.view_is) (c.has_feeder.ensures.yes c.if-not-has_feeder.false) in
    let v = g.N.Nodes.seen w.nodes in
    let v' = g.N.Nodes.seen c.raise.new.self in
    let none = raise_none v v' w.logs w.from w.diary.raises w.work c.args.mon c.args.f c.self.invariant is.monitor
    (subst (λ (r : Raised). RaisesAt c.args.mon.0 c.args.f r v v' (seat_of v w.logs w.from c.args.mon.0)) c.in-Ended.is (c.raise.ensures (fresh_seat v.coordinator.settings w.logs w.from 1))) in (
      ap (λ (k : KeptStory). next_of k.story (Raise c.args.mon c.args.f)) (sym c.self.view_is) ∙ none.0,
      ap (λ (z : NodesView). record { story = story_with z w.logs w.from; events = w.diary.events }) none.1 ∙ c.self.view_is,
    )

pub returns-in-Ended-clause-legal : goal.returns-in-Ended-clause-legal
returns-in-Ended-clause-legal g c =
    let w = c.self.inside in
    let is = subst (λ (k : KeptStory). IsFeeder k.story c.args.mon.0 c.args.f.0) (sym c.self.view_is) (c.has_feeder.ensures.yes c.if-not-has_feeder.false) in
    let v = g.N.Nodes.seen w.nodes in
    let v' = g.N.Nodes.seen c.raise.new.self in
    let none = raise_none v v' w.logs w.from w.diary.raises w.work c.args.mon c.args.f c.self.invariant is.monitor
    (subst (λ (r : Raised). RaisesAt c.args.mon.0 c.args.f r v v' (seat_of v w.logs w.from c.args.mon.0)) c.in-Ended.is (c.raise.ensures (fresh_seat v.coordinator.settings w.logs w.from 1))) in
    subst (λ (z : NodesView). IsStory (story_with z w.logs w.from)) (sym none.1) c.self.invariant.story
