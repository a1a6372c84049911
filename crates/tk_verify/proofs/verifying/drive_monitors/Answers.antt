use Rattle.std.proofs.Common.{◌≡◌, ◌⊎◌, ◌+◌, length, refl, sym, ◌∙◌, subst, arith}
use Rattle.std.proofs.lemmas.Option.{slice_get_read}
use Rattle.tk_trail.specs.Legal.{IsLegal}
use Rattle.tk_story.specs.Story.{setup_of}
use Rattle.tk_verify.specs.Driving.{Halts}
use Rattle.tk_verify.specs.Recorded.{Finds, recorded_from, trails_in}
use Rattle.tk_verify.specs.declared.finding.Finding.TheVariants as f
use Rattle.tk_verify.proofs.RunLemmas.{halts_trail, legal_all, legal_more, made_more, one_longer, trail_is, trails_more}
use Rattle.tk_verify.proofs.verifying.drive_monitors.Goals as goal

pub returns-in-Err-clause-found : goal.returns-in-Err-clause-found
returns-in-Err-clause-found c = λ journal.
    let settings = c.args.settings.now in
    let trails = c.args.trails.now in
    let s = recorded_from c.args.from.now settings c.args.logs.now journal (trails_in trails) in
    let j = c.loop-j.j in
    let test = c.loop-j-test.true in
    let count = c.monitors-j-end.ensures.value in
    let size = c.requires.trails in
    let at = slice_get_read trails (length trails) j c.index-trails-j.result refl (omega (arith, test, count, size)) c.index-trails-j.is in
    let same = c.as_slice-trail.ensures.value ∙ sym (trail_is trails j c.index-trails-j.result at) in
    let fault = subst (λ trail. Halts (IsLegal (setup_of s (j + 1))) trail c.in-Err.halt) same c.in-Err.ensures.halts in
    subst (λ found. (found ≡ f.NoMemory) ⊎ Finds s found) (sym c.found.ensures) (halts_trail s j c.in-Err.halt (omega (arith, test, count)) (c.loop-j.invariant.legal journal) fault)

pub loop-j-preserved : goal.loop-j-preserved
loop-j-preserved c =
    let settings = c.args.settings.now in
    let trails = c.args.trails.now in
    let j = c.loop-j.j in
    let test = c.loop-j-test.true in
    let count = c.monitors-j-end.ensures.value in
    let size = c.requires.trails in
    let trail = c.index-trails-j.result in
    let at = slice_get_read trails (length trails) j trail refl (omega (arith, test, count, size)) c.index-trails-j.is in
    let same = c.as_slice-trail.ensures.value ∙ sym (trail_is trails j trail at) in
    record {
      made = made_more settings c.args.logs.now c.args.from.now j c.loop-j.monitors.items c.in-Ok-drive_monitor.monitor c.push_reserved.new.self.items c.push_reserved.ensures.items c.loop-j.invariant.made c.in-Ok-drive_monitor.ensures.made;
      trails = trails_more trails j trail c.loop-j.monitors.items c.in-Ok-drive_monitor.monitor c.push_reserved.new.self.items c.push_reserved.ensures.items c.loop-j.invariant.trails at (c.in-Ok-drive_monitor.ensures.trail ∙ c.as_slice-trail.ensures.value);
      count = omega (arith, c.loop-j.invariant.count, one_longer c.loop-j.monitors.items c.in-Ok-drive_monitor.monitor c.push_reserved.new.self.items c.push_reserved.ensures.items);
      room = omega (arith, c.loop-j.invariant.room, c.push_reserved.ensures.capacity);
      legal = λ journal.
          let s = recorded_from c.args.from.now settings c.args.logs.now journal (trails_in trails) in
          legal_more s j (c.loop-j.invariant.legal journal) (subst (λ t. IsLegal (setup_of s (j + 1)) t) same c.in-Ok-drive_monitor.ensures.legal);
    }

pub returns-clause-legal : goal.returns-clause-legal
returns-clause-legal c = λ journal.
    let past = c.loop-j-test.false in
    let count = c.monitors-j-end.ensures.value in
    legal_all (recorded_from c.args.from.now c.args.settings.now c.args.logs.now journal (trails_in c.args.trails.now)) c.loop-j.j (omega (arith, past, count)) (c.loop-j.invariant.legal journal)

pub push_reserved-requires : goal.push_reserved-requires
push_reserved-requires c =
    let test = c.loop-j-test.true in
    let count = c.monitors-j-end.ensures.value in
    omega (arith, test, count, c.loop-j.invariant.count, c.loop-j.invariant.room)
