use Rattle.std.proofs.Common.{◌≡◌, ◌∷◌, ◌++◌, [], ◌+◌, ◌-◌, ◌<◌, ℕ, ℤ, List, All, length, get_or, take, sym, subst, ap, ◌∙◌, arith}
use Rattle.std.specs.List.{AllZip}
use Rattle.std.proofs.lemmas.List.{take_more}
use Rattle.tk_input.specs.Logs.{parts_of}
use Rattle.tk_journal.specs.Laws.{IsMonitor}
use Rattle.tk_trail.specs.declared.entry.Entry.{Entry}
use Rattle.tk_trace.specs.Spelling.{IsEntry, IsTrail, trail}
use Rattle.tk_trace.proofs.StoryLemmas.{trail_given}
use Rattle.tk_trace.proofs.WritingLemmas.{got_at, more, zip_push}
use Rattle.tk_trace.proofs.writing.trails.put_trails.Goals as goal

pub put_trail-requires-clause-entries : goal.put_trail-requires-clause-entries
put_trail-requires-clause-entries c =
    let s = c.args.story.now.story in
    let i = c.loop-i.i in
    let few : i < s.settings.monitors = omega (arith, c.loop-i-test.true, c.monitors-i-end.ensures.value, ap (λ t. t.monitors) c.settings.ensures) in
    let there : IsMonitor s.settings (i + 1) = record { from_one = omega arith; within = omega (arith, few) } in
    let count : c.feeders.result ≡ length (parts_of s.logs.logs (i + 1)) = c.feeders.ensures.value ∙ ap (λ l. length (parts_of l.logs (i + 1))) c.logs.ensures in
    trail_given s (i + 1) c.feeders.result c.trail.result.now c.requires there count c.trail.ensures

pub loop-i-preserved : goal.loop-i-preserved
loop-i-preserved c =
    let s = c.args.story.now.story in
    let i = c.loop-i.i in
    let x = c.trail.result.now in
    let few : i < s.settings.monitors = omega (arith, c.loop-i-test.true, c.monitors-i-end.ensures.value, ap (λ t. t.monitors) c.settings.ensures) in
    let within : i < length s.trails = omega (arith, few, c.requires.count) in
    let inside : i < length s.logs.logs = omega (arith, few, c.requires.monitors) in
    let place : i + 1 - 1 ≡ i = omega arith in
    let is = got_at s.trails i (i + 1 - 1) x place c.trail.ensures in
    let parts = get_or s.logs.logs i [] in
    let count : c.feeders.result ≡ length parts = c.feeders.ensures.value ∙ ap (λ l. length (parts_of l.logs (i + 1))) c.logs.ensures ∙ ap (λ (k : ℕ). length (get_or s.logs.logs k [])) place in
    let entries : All (IsEntry (length parts)) x = subst (λ (n : ℕ). All (IsEntry n) x) count c.in_ok-put_trail.ensures.within in
    let one : IsTrail parts x = (c.put_trail.ensures.few, entries) in
    let here : take (i + 1) s.trails ≡ take i s.trails ++ x ∷ [] = take_more s.trails i x within ∙ ap (λ (y : List Entry). take i s.trails ++ y ∷ []) (sym is) in
    let row : take (i + 1) s.logs.logs ≡ take i s.logs.logs ++ parts ∷ [] = take_more s.logs.logs i [] inside in
    record {
      told = more trail s.trails i x c.args.out.now.items c.loop-i.out.items c.put_trail.new.out.items within is c.loop-i.invariant.told c.in_ok-put_trail.ensures.bytes;
      within = subst (λ (ts : List (List Entry)). AllZip IsTrail (take (i + 1) s.logs.logs) ts) (sym here)
          (subst (λ (rows : List (List (List (ℕ × ℤ)))). AllZip IsTrail rows (take i s.trails ++ x ∷ [])) (sym row)
          (zip_push IsTrail (take i s.logs.logs) (take i s.trails) parts x c.loop-i.invariant.within one));
    }
