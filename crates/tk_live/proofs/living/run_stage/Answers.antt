use Rattle.std.proofs.Common.{◌≡◌, ◌≤◌, ◌+◌, ◌-◌, ◌^◌, List, All, None, length, map, min, sum_by, sym, ap, ◌∙◌, subst, arith}
use Rattle.std.specs.List.{concat}
use Rattle.std.proofs.lemmas.List.{length-map}
use Rattle.std.proofs.lemmas.List.Elements.{All-map}
use Rattle.std.proofs.lemmas.List.FromFn.{length-map-range_with_len}
use Rattle.tk_base.specs.History.{IsFront}
use Rattle.tk_base.specs.Settings.{Setup}
use Rattle.tk_coord.specs.Coordinator.{CoordinatorView}
use Rattle.tk_input.specs.Sink.{GrowsByFront}
use Rattle.tk_journal.specs.Legal.{opened, start}
use Rattle.tk_journal.specs.Readings.{monitors as numbers}
use Rattle.tk_journal.specs.declared.noted.Noted.{Noted}
use Rattle.tk_ledger.specs.Text.{lines_of}
use Rattle.tk_story.specs.Ends.{AreOfOneRun, as_made, made_for}
use Rattle.tk_story.specs.declared.ends.mon_end.MonEnd.{MonEnd}
use Rattle.tk_live.specs.Complete.{IsComplete}
use Rattle.tk_live.specs.Crew.{made_in}
use Rattle.tk_live.specs.Hosting.{Hosts}
use Rattle.tk_live.specs.Made.{made_of}
use Rattle.tk_live.specs.Traffic.{traffic_of}
use Rattle.tk_live.proofs.ToldLemmas.{odd_none}
use Rattle.tk_live.proofs.CompleteLemmas.{complete_ends, complete_hub, ends_made, made_run, trails_stopped, trails_sum, writes_front}
use Rattle.tk_live.proofs.living.run_stage.Goals as goal

pub part-monitors-requires-clause-room : goal.part-monitors-requires-clause-room
part-monitors-requires-clause-room g c κs within =
    let workers = c.play-hub.result.2.items in
    let berths = c.args.stage.crew.berths.items in
    let same = ap (λ xs. length xs) c.play-hub.ensures.made in
    omega (arith, same, length-map workers (λ w. made_in w.served.end.monitor w.version), length-map berths (λ b. made_in b.port.monitor b.version), c.requires.room)

-- the ends are those of the nodes that were made
pub conclude-requires-clause-run : goal.conclude-requires-clause-run
conclude-requires-clause-run g c κs within =
    let input = c.args.plan.input in
    let whole = c.play-hub.ensures.made ∙ c.requires.made in
    let hosts = c.play-hub.ensures.hosts in
    let coordinator = c.into_end-coordinator.result.0 in
    let monitors = c.part-monitors.result.0.items in
    let same = c.into_end-coordinator.ensures.coordinator in
    let settings = ap (λ (k : CoordinatorView). k.settings) same ∙ hosts.settings ∙ c.requires.settings in
    let begins = subst (λ (k : CoordinatorView). IsFront (opened (start input.settings)) k.journal) (sym same) (subst (λ (j : List Noted). IsFront j c.play-hub.result.0.coordinator.journal) c.requires.begins hosts.grows) in
    let made = ap (λ xs. map (λ (e : MonEnd). as_made e.monitor) xs) c.part-monitors.ensures.ends
    ∙ ends_made (λ w. w.served.end) (λ w. w.version) c.args.plan.version (made_for input.settings input.logs c.args.plan.from) (numbers input.settings) c.play-hub.result.2.items whole in
    subst (λ f. AreOfOneRun coordinator monitors input.logs input.settings f) c.args.plan.from_is (made_run input c.args.plan.from coordinator monitors c.args.plan.agreed c.args.plan.cut settings begins made)

-- what is odd was refused by the hub, or left by a worker
pub conclude-requires-clause-odd : goal.conclude-requires-clause-odd
conclude-requires-clause-odd g c κs within =
    let hub = c.play-hub.result.0 in
    let p = c.part-monitors.ensures in record {
      hub = λ never. odd_none hub.course hub.links c.into_end-coordinator.result.0.odd (c.play-hub.ensures.hosts.unrefused never) c.into_end-coordinator.ensures.odd;
      workers = λ calm. subst (λ ms. All (λ (end : MonEnd). end.odd ≡ None) ms) (sym p.ends) (All-map (λ (end : MonEnd). end.odd ≡ None) (λ w. w.served.end) c.play-hub.result.2.items (p.calm calm));
    }

pub returns-clause-counted : goal.returns-clause-counted
returns-clause-counted g c = c.conclude.ensures.counted (g.O.Sink.fault_count c.args.out.now) c.play-hub.ensures.counted

pub returns-clause-ends : goal.returns-clause-ends
returns-clause-ends g c =
    let input = c.args.plan.input in
    let whole = c.play-hub.ensures.made ∙ c.requires.made in
    let hosts = c.play-hub.ensures.hosts in
    let hub = c.play-hub.result.0 in
    let workers = c.play-hub.result.2.items in
    let coordinator = c.into_end-coordinator.result.0 in
    let monitors = c.part-monitors.result.0.items in
    let e = c.into_end-coordinator.ensures in
    let p = c.part-monitors.ensures in
    let counts = g.N.Link.Wire.counts in
    let was = g.O.Sink.written c.args.out.now in
    let now = g.O.Sink.written c.play-hub.new.out in
    let net = g.N.Net.state c.args.net.now in
    let net1 = g.N.Net.state c.play-hub.new.net in
    let second = (g.N.Net.state c.give_back.new.net).taken in
    let third = (g.N.Net.state c.part-monitors.new.net).taken in
    let of_ = made_for input.settings input.logs c.args.plan.from in
    let ends = map (λ w. w.served.end) workers in
    let trails = map (λ (end : MonEnd). end.monitor.trail) ends in
    let front = subst (λ (k : CoordinatorView). GrowsByFront was now (concat (lines_of input.names k.journal))) (sym e.coordinator) (writes_front c.play-hub.result.1 input.names hub was now hosts.writes) in
    let wires = subst (λ ws. min (net1.taken + sum_by (λ wire. (counts wire).taken) ws) (2 ^ 64 - 1) ≤ second) e.wires c.give_back.ensures in
    let sum = trails_sum (λ w. w.served.end) (λ w. w.version) c.args.plan.version of_ (numbers input.settings) workers whole in
    let count : length trails ≡ hub.coordinator.settings.monitors =
    length-map ends (λ (end : MonEnd). end.monitor.trail)
    ∙ (length-map workers (λ w. w.served.end)
    ∙ (sym (length-map workers (λ w. made_in w.served.end.monitor w.version))
    ∙ (ap (λ xs. length xs) whole
    ∙ (length-map-range_with_len (made_of input c.args.plan.from c.args.plan.version) 1 input.settings.monitors ∙ ap (λ (s : Setup). s.monitors) (sym (hosts.settings ∙ c.requires.settings)))))) in
    c.conclude.ensures.concludes c.args.plan.version was net.taken third front (λ finished stopped.
    let done = subst (λ q. Hosts q input.names c.args.stage.hub hub net net1 was now) finished hosts in
    let all = trails_stopped (λ w. w.served.end) (λ w. w.version) c.args.plan.version of_ (numbers input.settings) workers whole (p.stopped stopped) in
    let complete = complete_hub counts input.names c.args.plan.version c.args.stage.hub hub net net1 second third was now input.logs c.args.plan.from trails done e.covered wires (omega (arith, p.taken, sum)) count all in
    complete_ends input.names c.args.plan.version was now input.logs c.args.plan.from net.taken third coordinator monitors hub.coordinator e.coordinator
    (subst (λ (ms : List MonEnd). IsComplete input.names c.args.plan.version (record {
      settings = hub.coordinator.settings;
      logs = input.logs;
      from = c.args.plan.from;
      journal = hub.coordinator.journal;
      trails = map (λ (end : MonEnd). end.monitor.trail) ms;
    }) (traffic_of was now net.taken third)) (sym p.ends) complete))
