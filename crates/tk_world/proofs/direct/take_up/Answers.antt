use Rattle.std.proofs.Common.{Some, ap, refl, sym, ◌∙◌}
use Rattle.tk_frames.specs.declared.frame.Frame.{Frame}
use Rattle.tk_journal.specs.Refusal.{refusal_of}
use Rattle.tk_world.proofs.DirectLemmas.{same_frame}
use Rattle.tk_world.proofs.direct.take_up.Goals as goal

pub hand_up-requires-clause-accepted : goal.hand_up-requires-clause-accepted
hand_up-requires-clause-accepted c =
    let can = c.requires.can in
    let k = c.args.coordinator.now in
    ap (λ (f : Frame). refusal_of k.settings k.journal c.args.mon.0 f) (same_frame c.sent_at.result.now c.in_ok-frame.frame can.frame c.in_ok-frame.ensures (sym c.sent_at.ensures ∙ can.next)) ∙ can.accepted

pub returns-clause-ok : goal.returns-clause-ok
returns-clause-ok c = record {
  frame = c.in_ok-frame.frame;
  next = c.sent_at.ensures ∙ ap (λ (f : Frame). Some f) (sym c.in_ok-frame.ensures);
  coordinator = c.in_ok-hand_up.ensures.ok;
  seat = refl;
}
