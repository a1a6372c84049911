use Rattle.std.proofs.Common.{◌≡◌, ℕ, List, subst}
use Rattle.std.specs.Prelude.{IfOk}
use Rattle.tk_multi.specs.Multi.{MultiView}
use Rattle.tk_multi.proofs.BeginningLemmas.{as_begun, as_many}
use Rattle.tk_multi.proofs.playing.begin.Goals as goal

pub begun_with-requires : goal.begun_with-requires
begun_with-requires c = as_many c.args.alones.items c.begin_each.new.lists c.in-Ok-begin_each.ensures

pub returns-in-Ok-begin_each-clause-multi : goal.returns-in-Ok-begin_each-clause-multi
returns-in-Ok-begin_each-clause-multi c =
    let same = as_begun c.args.logs c.args.alones.items c.begin_each.new.lists c.in-Ok-begin_each.ensures in
    subst (λ (m : MultiView). IfOk c.begun_with.result (λ b. b.multi ≡ m)) same c.begun_with.ensures.multi

pub returns-in-Ok-begin_each-clause-names : goal.returns-in-Ok-begin_each-clause-names
returns-in-Ok-begin_each-clause-names c =
    subst (λ (names : List (List (List ℕ))). IfOk c.begun_with.result (λ b. b.names.items ≡ names)) c.in-Ok-begin_each.ensures.names c.begun_with.ensures.names
