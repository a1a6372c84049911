use Rattle.std.proofs.Common.{◌≡◌, ◌-◌, ◌<◌, ◌≤◌, true, Some, length, set, sym, subst, ap, ◌∙◌, arith}
use Rattle.std.specs.Prelude.{IfOk, OnErr, is_some}
use Rattle.std.proofs.lemmas.Option.{slice_get-get_or}
use Rattle.std.proofs.lemmas.Result.{IfOk-weaker, on_err_weaker}
use Rattle.tk_story.specs.Kept.{KeptStory}
use Rattle.tk_world.specs.World.{Moves}
use Rattle.tk_world.specs.declared.moved.Moved.{Moved}
use Rattle.tk_multi.specs.Multi.{Leaves, MultiView, next_in}
use Rattle.tk_multi.specs.Queries.{entry_at}
use Rattle.tk_multi.proofs.MultiLemmas.{enabled_in, leaves_by}
use Rattle.tk_multi.proofs.PassLemmas.{entry_is}
use Rattle.tk_multi.proofs.multi.Multi.step_in.Goals as goal

pub returns-clause-ok : goal.returns-clause-ok
returns-clause-ok g c =
    let m : MultiView = record { logs = c.self.inside.logs; places = c.self.inside.front; watches = c.self.inside.watches.items; worlds = c.self.inside.worlds.items } in
    let view : m ≡ c.args.self.now = c.self.view_is in
    let q = c.args.q in
    let kept = c.index_mut.result.now in
    let low : 1 ≤ q = omega arith in
    let within : q - 1 < length m.worlds = omega arith in
    let is : entry_at m.worlds q ≡ Some kept = entry_is m.worlds q low ∙ slice_get-get_or m.worlds (q - 1) kept within ∙ ap (λ (k : KeptStory). Some k) (sym c.index_mut.ensures.value) in
    let new : MultiView = record m { worlds = set m.worlds (q - 1) c.step.new.self } in
    subst (λ (v : MultiView). IfOk c.step.result (λ (moved : Moved). Leaves (next_in v q c.args.event) v moved new)) view
    (IfOk-weaker c.step.result (λ (moved : Moved). Moves kept c.args.event moved c.step.new.self) (λ (moved : Moved). Leaves (next_in m q c.args.event) m moved new)
    (λ moved moves. leaves_by m q c.args.event kept c.step.new.self moved is (sym c.index_mut.ensures.value) moves) c.step.ensures.ok)

pub returns-clause-enabled : goal.returns-clause-enabled
returns-clause-enabled g c =
    let m : MultiView = record { logs = c.self.inside.logs; places = c.self.inside.front; watches = c.self.inside.watches.items; worlds = c.self.inside.worlds.items } in
    let view : m ≡ c.args.self.now = c.self.view_is in
    let q = c.args.q in
    let kept = c.index_mut.result.now in
    let low : 1 ≤ q = omega arith in
    let within : q - 1 < length m.worlds = omega arith in
    let is : entry_at m.worlds q ≡ Some kept = entry_is m.worlds q low ∙ slice_get-get_or m.worlds (q - 1) kept within ∙ ap (λ (k : KeptStory). Some k) (sym c.index_mut.ensures.value) in
    subst (λ (v : MultiView). OnErr c.step.result (is_some (next_in v q c.args.event) ≡ true)) view
    (on_err_weaker c.step.result (enabled_in m q c.args.event kept is) c.step.ensures.enabled)
