use Rattle.std.proofs.Common.{◌≡◌, ◌+◌, [], ◌∷◌, List, arith, sym, subst}
use Rattle.std.specs.Prelude.{drop}
use Rattle.std.proofs.lemmas.List.{at_drop_all}
use Rattle.tk_input.specs.declared.event.Event.{Event}
use Rattle.tk_journal.specs.Legal.{inputs_of}
use Rattle.tk_journal.specs.declared.noted.Noted.{Noted}
use Rattle.tk_world.specs.Serializing.{IsAt, IsWalking}
use Rattle.tk_world.proofs.SerializingLemmas.{begins_walking, left_at}
use Rattle.tk_world.proofs.serializing.walk_journal.Goals as goal

pub loop-noted-init : goal.loop-noted-init
loop-noted-init c =
    let s = c.args.story.now.story in
    let at_start = subst (λ ps. IsWalking s ps [] (inputs_of s.journal) 0) (sym c.requires.places) (begins_walking s c.journal-journal.ensures.legal) in
    let there : IsAt s c.args.walk.now (inputs_of s.journal) 0 = subst (λ (es : List Event). IsWalking s c.args.walk.now.places.items es (inputs_of s.journal) 0) (sym c.requires.events) at_start in
    subst (λ (j : List Noted). IsAt s c.args.walk.now (inputs_of j) 0) (sym c.journal-journal.ensures.value) there

pub walk_noted-requires : goal.walk_noted-requires
walk_noted-requires c =
    let journal = c.journal-journal.result.now in
    let i = c.loop-noted.noted-index in
    let next : drop i journal ≡ c.noted-item.result ∷ drop (i + 1) journal = left_at journal i c.noted-item.result c.loop-noted-test.true c.noted-item.is in
    (drop (i + 1) journal, subst (λ (xs : List Noted). IsAt c.args.story.now.story c.loop-noted.walk (inputs_of xs) 0) next c.loop-noted.invariant)

pub loop-noted-preserved : goal.loop-noted-preserved
loop-noted-preserved c =
    let journal = c.journal-journal.result.now in
    let i = c.loop-noted.noted-index in
    let next : drop i journal ≡ c.noted-item.result ∷ drop (i + 1) journal = left_at journal i c.noted-item.result c.loop-noted-test.true c.noted-item.is in
    c.in_ok-walk_noted.ensures (drop (i + 1) journal) (subst (λ (xs : List Noted). IsAt c.args.story.now.story c.loop-noted.walk (inputs_of xs) 0) next c.loop-noted.invariant)

pub returns : goal.returns
returns c =
    let none = at_drop_all inputs_of c.journal-journal.result.now c.loop-noted.noted-index (let end = c.loop-noted-test.false in omega (arith, end)) in
    subst (λ (left : List Noted). IsAt c.args.story.now.story c.loop-noted.walk left 0) none c.loop-noted.invariant
