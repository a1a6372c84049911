use Rattle.std.proofs.Common.{◌≡◌, ◌⊎◌, map, sym, ◌∙◌, subst}
use Rattle.tk_monitor.specs.Monitored.{MonitorView}
use Rattle.tk_story.specs.Ends.{AreOrdered, KeptEnds, TellsDifference, kept_by}
use Rattle.tk_story.proofs.JoiningLemmas.{ordered_is_story}
use Rattle.tk_verify.specs.Recorded.{Finds, links_of, recorded_from}
use Rattle.tk_verify.specs.declared.finding.Finding.TheVariants as f
use Rattle.tk_verify.proofs.RunLemmas.{histories, joined_is, kept_is, one_run, unordered}
use Rattle.tk_verify.proofs.verifying.join.Goals as goal

pub join-requires : goal.join-requires
join-requires c =
    one_run c.args.settings c.args.logs c.args.from c.args.coordinator c.args.monitors.items c.new-coordinator.result c.in-Ok.ends.items c.requires c.new-coordinator.ensures.coordinator c.in-Ok.ensures.monitors

pub returns-in-Ok-join-clause-story : goal.returns-in-Ok-join-clause-story
returns-in-Ok-join-clause-story c =
    let ends = c.in-Ok.ends.items in
    let kept = kept_is c.args.settings c.args.logs c.args.from c.args.coordinator c.args.monitors.items c.new-coordinator.result ends c.requires.settings_is c.new-coordinator.ensures.coordinator c.new-coordinator.ensures.odd c.in-Ok.ensures.monitors c.in-Ok.ensures.odds in
    c.in-Ok-join.ensures.story ∙ joined_is c.args.settings c.args.logs c.args.from c.args.coordinator c.args.monitors.items (kept_by c.new-coordinator.result ends) kept

pub returns-in-Ok-join-clause-legal : goal.returns-in-Ok-join-clause-legal
returns-in-Ok-join-clause-legal c =
    let ends = c.in-Ok.ends.items in
    let s = recorded_from c.args.from c.args.settings c.args.logs c.args.coordinator.journal (map (λ (m : MonitorView). m.trail) c.args.monitors.items) in
    let kept = kept_is c.args.settings c.args.logs c.args.from c.args.coordinator c.args.monitors.items c.new-coordinator.result ends c.requires.settings_is c.new-coordinator.ensures.coordinator c.new-coordinator.ensures.odd c.in-Ok.ensures.monitors c.in-Ok.ensures.odds in
    let are = histories c.args.settings c.args.logs c.args.from c.args.coordinator c.args.monitors.items c.requires c.monitors.ensures.limits c.monitors-2.ensures.limits in
    ordered_is_story (links_of s) c.args.logs c.args.from are (subst AreOrdered kept c.in-Ok-join.ensures.ordered)

pub returns-in-Err-clause-found : goal.returns-in-Err-clause-found
returns-in-Err-clause-found c =
    let ends = c.in-Ok.ends.items in
    let s = recorded_from c.args.from c.args.settings c.args.logs c.args.coordinator.journal (map (λ (m : MonitorView). m.trail) c.args.monitors.items) in
    let kept = kept_is c.args.settings c.args.logs c.args.from c.args.coordinator c.args.monitors.items c.new-coordinator.result ends c.requires.settings_is c.new-coordinator.ensures.coordinator c.new-coordinator.ensures.odd c.in-Ok.ensures.monitors c.in-Ok.ensures.odds in
    let are = histories c.args.settings c.args.logs c.args.from c.args.coordinator c.args.monitors.items c.requires c.monitors.ensures.limits c.monitors-2.ensures.limits in
    subst (λ found. (found ≡ f.NoMemory) ⊎ Finds s found) (sym c.unjoined-finding.ensures)
    (unordered s c.in-Err.fault are (subst (λ (k : KeptEnds). TellsDifference k c.in-Err.fault) kept c.in-Err.ensures.differs))
