use Rattle.std.proofs.Common.{Some, ap, sym, ◌+◌, ◌∙◌}
use Rattle.tk_frames.specs.declared.frame.Frame.{Frame}
use Rattle.tk_monitor.specs.Monitored.{MonitorView}
use Rattle.tk_trail.specs.Refusal.{refusal_of}
use Rattle.tk_world.proofs.DirectLemmas.{same_frame}
use Rattle.tk_world.proofs.direct.take_down.Goals as goal

pub hand_down-requires : goal.hand_down-requires
hand_down-requires c =
    let can = c.requires.can in
    let m = c.args.seat.now.monitor in
    ap (λ (f : Frame). refusal_of m.setup m.trail f) (same_frame c.sent_at.result.now c.in_ok-frame.frame can.frame c.in_ok-frame.ensures (sym c.sent_at.ensures ∙ can.next)) ∙ can.accepted

pub returns-clause-ok : goal.returns-clause-ok
returns-clause-ok c = record {
  frame = c.in_ok-frame.frame;
  next = c.sent_at.ensures ∙ ap (λ (f : Frame). Some f) (sym c.in_ok-frame.ensures);
  seat = ap (λ (m : MonitorView). record c.args.seat.now { monitor = m; taken = c.args.seat.now.taken + 1 }) c.in_ok-hand_down.ensures.ok;
}
