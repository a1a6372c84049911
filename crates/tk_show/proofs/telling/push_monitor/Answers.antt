use Rattle.std.proofs.Common.{◌≡◌, ◌-◌, ◌<◌, Some, arith, length, refl, rules}
use Rattle.std.specs.Prelude.{slice_get}
use Rattle.std.proofs.lemmas.Option.{slice_get_read}
use Rattle.tk_show.proofs.TellingLemmas.{monitor_is, monitors_are, of_logs}
use Rattle.tk_show.proofs.telling.push_monitor.Goals as goal

pub push_next-requires : goal.push_next-requires
push_next-requires c = (c.requires.monitor.from_one, of_logs c.args.story.now.story c.logs.result.now c.args.mon.0 c.requires.story c.logs.ensures c.requires.monitor)

pub advance-requires : goal.advance-requires
advance-requires c = (c.requires.monitor.from_one, of_logs c.args.story.now.story c.logs-2.result.now c.args.mon.0 c.requires.story c.logs-2.ensures c.requires.monitor)

pub returns-clause-text : goal.returns-clause-text
returns-clause-text c =
    let monitors = c.args.monitors.now.items in
    let told = c.index.result.now in
    let within : c.args.mon.0 - 1 < length monitors = (search rules) in
    let here : slice_get monitors (c.args.mon.0 - 1) ≡ Some told = slice_get_read monitors (length monitors) (c.args.mon.0 - 1) told refl within c.index.ensures in
    monitor_is c.args.story.now.story c.args.mon.0 told monitors c.logs.result.now c.trail.result.now here c.logs.ensures c.trail.ensures c.args.names.now _ _ c.in_ok-push_next.ensures

pub returns-clause-further : goal.returns-clause-further
returns-clause-further c =
    let monitors = c.args.monitors.now.items in
    let told = c.index_mut.result.now in
    let within : c.args.mon.0 - 1 < length monitors = (search rules) in
    let here : slice_get monitors (c.args.mon.0 - 1) ≡ Some told = slice_get_read monitors (length monitors) (c.args.mon.0 - 1) told refl within c.index_mut.ensures.value in
    monitors_are c.args.story.now.story c.args.mon.0 told monitors c.logs-2.result.now c.trail-2.result.now here c.logs-2.ensures c.trail-2.ensures c.advance.new.self c.advance.ensures
