use Rattle.std.proofs.Common.{◌≡◌, List, [], ◌∷◌, ◌++◌, arith, sym, ap, ◌∙◌, subst}
use Rattle.std.specs.Prelude.{FitsSigned, unsigned_abs}
use Rattle.std.specs.Int.{w128}
use Rattle.std.proofs.lemmas.Int.{ints, to_z-of_z}
use Rattle.tk_input.specs.declared.event.Event.{Event}
use Rattle.tk_journal.specs.Legal.{inputs_of}
use Rattle.tk_journal.specs.declared.noted.Noted.{Noted}
use Rattle.tk_world.specs.Events.{retune_at}
use Rattle.tk_world.specs.Serializing.{IsAt, IsWalking}
use Rattle.tk_world.proofs.SerializingLemmas.{on_ok, tuned_walking}
use Rattle.tk_world.proofs.serializing.walk_noted.Goals as goal

pub go_to_frame-requires : goal.go_to_frame-requires
go_to_frame-requires c = (
  c.in-Got.field-1,
  inputs_of c.requires.0,
  subst (λ (q : Noted). IsAt c.args.story.now.story c.args.walk.now (inputs_of (q ∷ c.requires.0)) 0) c.in-Got.is c.requires.1,
)

pub returns-in-Got : goal.returns-in-Got
returns-in-Got c = on_ok c.go_to_frame.result
    (λ gets. λ left w. gets c.in-Got.field-1 (inputs_of left) (subst (λ (q : Noted). IsAt c.args.story.now.story c.args.walk.now (inputs_of (q ∷ left)) 0) c.in-Got.is w)) c.go_to_frame.ensures

pub returns-in_ok-push-in-Tuned : goal.returns-in_ok-push-in-Tuned
returns-in_ok-push-in-Tuned c = λ left w.
    let s = c.args.story.now.story in
    let places = c.args.walk.now.places.items in
    let events = c.args.walk.now.events.items in
    let k = c.in-Tuned.k in
    let epsilon = c.in-Tuned.epsilon in
    let fits : FitsSigned w128 c.get.result = omega (arith, ints) in
    let size : c.unsigned_abs-epsilon.result ≡ unsigned_abs epsilon = c.unsigned_abs-epsilon.ensures.value ∙ ap unsigned_abs (to_z-of_z w128 c.get.result fits ∙ c.get.ensures) in
    let event : c.in_ok-retune-in-Tuned.field-0 ≡ retune_at k (unsigned_abs epsilon) = c.in_ok-retune-in-Tuned.ensures ∙ ap (retune_at k) size in
    let all : c.push.new.self.items ≡ events ++ retune_at k (unsigned_abs epsilon) ∷ [] = c.in_ok-push-in-Tuned.ensures.items ∙ ap (λ (e : Event). events ++ e ∷ []) event in
    subst (λ (es : List Event). IsWalking s places es (inputs_of left) 0) (sym all)
    (tuned_walking s places events (inputs_of left) k epsilon (subst (λ (q : Noted). IsWalking s places events (inputs_of (q ∷ left)) 0) c.in-Tuned.is w))

pub returns-in-Sent : goal.returns-in-Sent
returns-in-Sent c = λ left w. subst (λ (q : Noted). IsAt c.args.story.now.story c.args.walk.now (inputs_of (q ∷ left)) 0) c.in-Sent.is w

pub returns-in-Published : goal.returns-in-Published
returns-in-Published c = λ left w. subst (λ (q : Noted). IsAt c.args.story.now.story c.args.walk.now (inputs_of (q ∷ left)) 0) c.in-Published.is w
