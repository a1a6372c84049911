use Rattle.std.proofs.Common.{◌≡◌, ◌+◌, ℕ, ◌++◌, ◌∷◌, [], List, map, All, sym, subst, ◌∙◌, ap, ap₂, arith, rules}
use Rattle.std.specs.List.{range_with_len}
use Rattle.std.proofs.lemmas.List.{map-append}
use Rattle.std.proofs.lemmas.List.Elements.{All-push}
use Rattle.tk_border.proofs.RisingLemmas.{counted_more}
use Rattle.tk_monitor.specs.Monitored.{MonitorView}
use Rattle.tk_live.specs.Made.{planned}
use Rattle.tk_live.specs.Slots.{berth_made}
use Rattle.tk_live.proofs.HostLemmas.{gone_on}
use Rattle.tk_live.proofs.stage.make_berths.Goals as goal

pub returns-in_err-make_berth-clause-gone : goal.returns-in_err-make_berth-clause-gone
returns-in_err-make_berth-clause-gone g c = gone_on _ _ _ c.loop-j.invariant.gone c.make_berth.ensures.gone

pub loop-j-preserved : goal.loop-j-preserved
loop-j-preserved g c =
    let before = c.loop-j.invariant in
    let made = c.in_ok-make_berth.ensures in
    let plan = c.args.plan.now in record {
      made =
          ap (map berth_made) c.push_reserved.ensures.items
          ∙ map-append berth_made c.loop-j.berths.items (c.in_ok-make_berth.field-0 ∷ [])
          ∙ ap₂ (λ (xs : List (MonitorView × ℕ)) (x : MonitorView × ℕ). xs ++ x ∷ []) before.made made.made
          ∙ sym (counted_more (planned plan) c.loop-j.j);
      runs = subst (λ bs. All (λ b. b.port.run ≡ plan.run) bs) (sym c.push_reserved.ensures.items) (All-push (λ b. b.port.run ≡ plan.run) c.loop-j.berths.items c.in_ok-make_berth.field-0 before.runs made.run);
      gone = gone_on _ _ _ before.gone c.make_berth.ensures.gone;
      count = search rules;
      room = search rules;
      links = made.links ∙ ap (λ n. n + 1) before.links;
    }

pub returns-clause-made : goal.returns-clause-made
returns-clause-made g c =
    let last : c.loop-j.j ≡ c.args.plan.now.input.settings.monitors = omega (arith, c.monitors-count.ensures.value, c.loop-j-test.false) in
    c.loop-j.invariant.made ∙ ap (λ n. map (planned c.args.plan.now) (range_with_len 1 n)) last
