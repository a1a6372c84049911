use Rattle.std.proofs.Common.{◌≡◌, ◌<◌, ◌≤◌, List, None, Some, length, refl, rules, subst}
use Rattle.std.specs.Prelude.{slice_get}
use Rattle.std.proofs.lemmas.Option.{slice_get_past, slice_get_read}
use Rattle.tk_journal.specs.declared.noted.Noted.{Noted}
use Rattle.tk_verify.proofs.FrontLemmas.{did_none, did_some}
use Rattle.tk_verify.proofs.journals.did.Goals as goal

pub returns-in-Some : goal.returns-in-Some
returns-in-Some c =
    let all = c.journal.result.now in
    let done = c.in-Some.done.now in
    let less : c.args.place < length c.journal.result.now = (search rules) in
    let at = slice_get_read all (length all) c.args.place done refl less c.in-Some.ensures.lookup.1 in
    did_some (slice_get c.args.coordinator.now.journal c.args.place) done c.args.noted.now c.is_same_noted.result (subst (λ (xs : List Noted). slice_get xs c.args.place ≡ Some done) c.journal.ensures.value at) c.is_same_noted.ensures

pub returns-in-None : goal.returns-in-None
returns-in-None c =
    let past : length c.journal.result.now ≤ c.args.place = (search rules) in
    let none = slice_get_past c.journal.result.now c.args.place past in
    did_none (slice_get c.args.coordinator.now.journal c.args.place) c.args.noted.now (subst (λ (xs : List Noted). slice_get xs c.args.place ≡ None) c.journal.ensures.value none)
