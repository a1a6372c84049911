use Rattle.std.proofs.Common.{All, List, refl, ap, ap₂, subst, ◌∙◌}
use Rattle.tk_coord.specs.Coordinator.{CoordinatorView, IsJournal}
use Rattle.tk_input.specs.declared.event.Event.{Event}
use Rattle.tk_journal.specs.Entries.{IsEntryOf}
use Rattle.tk_story.specs.Story.{StoryView}
use Rattle.tk_world.specs.Diary.{DiaryView}
use Rattle.tk_world.proofs.BeginLemmas.{begin_few, begin_leaves, begun}
use Rattle.tk_world.proofs.world.World.over.Goals as goal

pub insert_sent-requires : goal.insert_sent-requires
insert_sent-requires g c =
    begin_few c.coordinator.result.now.settings c.coordinator.result.now.journal c.journal.result.now c.journal.ensures.value c.journal.ensures.legal c.journal.ensures.entries

pub invariant_of-result : goal.invariant_of-result
invariant_of-result g c =
    let v = g.N.Nodes.seen c.args.nodes in
    let same = c.coordinator.ensures in
    begin_leaves v.coordinator.settings v.coordinator.settings c.args.logs c.args.from v.seats v.coordinator.journal c.journal.result.now c.in-Ok.diary.raises c.none-work.result c.insert_sent.new.self
    refl (c.journal.ensures.value ∙ ap (λ (x : CoordinatorView). x.journal) same)
    (subst (λ (x : CoordinatorView). IsJournal x.settings x.journal) same c.journal.ensures.legal) c.monitors.ensures.limits
    c.requires.run c.requires.fresh.seats c.requires.fresh.journal
    (subst (λ (x : CoordinatorView). All (IsEntryOf x.settings.monitors x.settings.objects) x.journal) same c.journal.ensures.entries)
    (ap (λ (d : DiaryView). d.raises) c.in-Ok.ensures ∙ c.left_after.ensures.value)
    c.none-work.ensures c.insert_sent.ensures

pub returns : goal.returns
returns g c =
    let v = g.N.Nodes.seen c.args.nodes in
    ap₂ (λ (s : StoryView) (es : List Event). record { story = s; events = es })
    (begun v.coordinator.settings c.args.logs c.args.from v.seats v.coordinator.journal c.requires.fresh.seats c.requires.fresh.journal)
    (ap (λ (d : DiaryView). d.events) c.in-Ok.ensures)
