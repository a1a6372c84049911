use Rattle.std.proofs.Common.{◌≡◌, ◌+◌, Some, length, refl, rules}
use Rattle.std.specs.Prelude.{slice_get}
use Rattle.std.proofs.lemmas.Option.{slice_get_read}
use Rattle.tk_show.proofs.ListLemmas.{three}
use Rattle.tk_show.proofs.TurnLemmas.{further_is, turned_is}
use Rattle.tk_show.proofs.turned.push_turn.Goals as goal

pub returns-clause-text : goal.returns-clause-text
returns-clause-text c =
    let journal = c.args.journal.now in
    let at = c.args.turned.now.entries in
    let there : slice_get journal at ≡ Some c.in-Some.input.now = slice_get_read journal (length journal) at c.in-Some.input.now refl (search rules) c.in-Some.ensures.lookup.1 in
    turned_is c.args.names.now journal c.args.turns.now c.args.turned.now c.in-Some.input.now _ _ there
    (three _ _ _ _ _ _ _ c.in_ok-push_input.ensures c.in_ok-turned.ensures.text c.in_ok-turned-2.ensures.text)

pub returns-clause-further : goal.returns-clause-further
returns-clause-further c =
    let journal = c.args.journal.now in
    let at = c.args.turned.now.entries in
    let there : slice_get journal at ≡ Some c.in-Some.input.now = slice_get_read journal (length journal) at c.in-Some.input.now refl (search rules) c.in-Some.ensures.lookup.1 in
    further_is journal c.args.turns.now c.args.turned.now c.in-Some.input.now _ _ there c.in_ok-turned-2.ensures.end c.in_ok-turned.ensures.next
