use Rattle.std.proofs.Common.{◌≡◌, Option, ap, ◌∙◌}
use Rattle.tk_frames.specs.declared.frame.Frame.{Frame}
use Rattle.tk_journal.specs.Refusal.{Known, Shown, refusal_of, refusal_over}
use Rattle.tk_journal.specs.declared.refusal.CoordRefusal.{CoordRefusal}
use Rattle.tk_coord.proofs.coordinator.Coordinator.refusal.Goals as goal

-- what refuses a frame over what is shown and known refuses it over what is the same
by_same : (frame : Frame) {shown seen : Shown} {known over : Known} {r : Option CoordRefusal} → r ≡ refusal_over shown known frame → shown ≡ seen → known ≡ over → r ≡ refusal_over seen over frame
by_same frame {shown} {seen} {known} {over} is see by = is ∙ ap (λ (x : Shown). refusal_over x known frame) see ∙ ap (λ (x : Known). refusal_over seen x frame) by

pub returns : goal.returns
unfolding refusal_of
returns c = by_same c.args.frame.now c.refusal_of.ensures c.shown.ensures c.known.ensures.value
