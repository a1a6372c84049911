-- What is left of the room for the frames of a trail, as it grows.
use Rattle.std.proofs.Common.{◌≡◌, List, [], ◌∷◌, ◌++◌, Option, Some, None, refl, sym, ap, ◌∙◌, subst, arith, append_assoc, append-nil, length-append}
use Rattle.std.proofs.lemmas.List.{take-append-le}
use Rattle.tk_frames.specs.declared.frame.Frame.{Frame}
use Rattle.tk_monitor.specs.Monitored.{MonitorView}
use Rattle.tk_monitor.specs.Stepped.{checking, taking}
use Rattle.tk_port.specs.Turn.{Checks, Reaches, Stays, Takes}
use Rattle.tk_trail.specs.Frames.{answer_to, due_at}
use Rattle.tk_trail.specs.Legal.{with_answer}
use Rattle.tk_trail.specs.declared.entry.Entry.{Entry}
use Rattle.tk_trail.specs.declared.entry.Entry.TheVariants.{Sent, Took}
use Rattle.tk_watch.specs.Tally.{IsTally, left_behind}
use Rattle.tk_watch.specs.declared.tally.Tally.{Tally}

-- what goes behind a trail
record GoesBehind (old new : List Entry) : Type 0 where
  more : List Entry
  is : new ≡ old ++ more

answered : (trail : List Entry) (answer : Option Frame) → GoesBehind trail (with_answer trail answer)
answered trail None = record { more = []; is = sym (append-nil trail) }
answered trail (Some frame) = record { more = Sent frame ∷ []; is = refl }

behind_both : (a b c : List Entry) → GoesBehind a b → GoesBehind b c → GoesBehind a c
behind_both a b c p q = record { more = p.more ++ q.more; is = q.is ∙ ap (λ (t : List Entry). t ++ q.more) p.is ∙ append_assoc a p.more q.more }

reaches_behind : (a b : MonitorView) → Reaches a b → GoesBehind a.trail b.trail
reaches_behind a b (Stays from to is) = record { more = []; is = ap (λ (m : MonitorView). m.trail) is ∙ sym (append-nil a.trail) }
reaches_behind a b (Takes from to frame none q) =
    let took : GoesBehind a.trail (a.trail ++ Took frame ∷ []) = record { more = Took frame ∷ []; is = refl } in
    behind_both a.trail (taking a frame).trail b.trail
    (behind_both a.trail (a.trail ++ Took frame ∷ []) (taking a frame).trail took (answered (a.trail ++ Took frame ∷ []) (answer_to a.setup (a.trail ++ Took frame ∷ []) frame)))
    (reaches_behind (taking a frame) b q)
reaches_behind a b (Checks from to q) =
    behind_both a.trail (checking a).trail b.trail (answered a.trail (due_at a.setup a.trail)) (reaches_behind (checking a) b q)

-- what was looked at stays
tally_more : (tally : Tally) (trail more : List Entry) → IsTally tally trail → IsTally tally (trail ++ more)
tally_more tally trail more is = record {
  seen = omega (arith, is.seen, length-append trail more);
  left = is.left ∙ ap left_behind (sym (take-append-le tally.seen trail more is.seen));
}

pub tally_reached : (tally : Tally) (a b : MonitorView) → Reaches a b → IsTally tally a.trail → IsTally tally b.trail
tally_reached tally a b reaches is =
    let behind = reaches_behind a b reaches in
    subst (λ (t : List Entry). IsTally tally t) (sym behind.is) (tally_more tally a.trail behind.more is)
