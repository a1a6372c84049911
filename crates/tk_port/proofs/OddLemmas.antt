-- What a port was given next and did not take.
use Rattle.std.proofs.Common.{◌≡◌, ℕ, List, refl, sym, ap, ◌∙◌, subst, Option, Some, None, is_some, inl, inr}
use Rattle.std.specs.Option.{ForSome, option_map}
use Rattle.std.specs.Prelude.{IfSome}
use Rattle.tk_frames.specs.declared.answer.BadFrame.{BadFrame}
use Rattle.tk_frames.specs.declared.answer.BadFrame.TheVariants.{BadLength, BadKind, BadFields}
use Rattle.tk_frames.specs.declared.frame.Frame.{Frame}
use Rattle.tk_frames.specs.Spelling.{IsVersion}
use Rattle.tk_monitor.specs.Monitored.{MonitorView}
use Rattle.tk_story.specs.Odd.{IsNoFrame, IsOddDown}
use Rattle.tk_story.specs.declared.ends.received.Received.{Received}
use Rattle.tk_story.specs.declared.ends.received.Received.TheVariants as r
use Rattle.tk_trail.specs.Refusal.{refusal_of}
use Rattle.tk_end.specs.Inbox.{IsOdd, IsOddPayload}
use Rattle.tk_end.specs.Link.{LinkView}
use Rattle.tk_port.specs.Port.{IsOddBytes, IsOnCourse, LeavesOdd}
use Rattle.tk_port.specs.declared.course.Course.{Course}
use Rattle.tk_port.specs.declared.course.Course.TheVariants as c

no_payload : (version : ℕ) (unread odd : List ℕ) → IsVersion version → IsOddPayload version unread odd → IsNoFrame odd
no_payload version unread odd is p = inl (record { size = p.stands.size; version = version; is_version = is; no_frame = p.no_frame })

no_frame : (version : ℕ) (fault : BadFrame) (unread odd : List ℕ) → IsVersion version → IsOdd version fault unread odd → IsNoFrame odd
no_frame version (BadLength size) unread odd is p = inr (record { whole = p.1; size = size; no_length = p.0 })
no_frame version (BadKind code) unread odd is p = no_payload version unread odd is p
no_frame version (BadFields kind) unread odd is p = no_payload version unread odd is p

bytes_left : (version : ℕ) (fault : BadFrame) (unread : List ℕ) (m : MonitorView) (x : Received) → IsVersion version → IsOddBytes version fault unread x → IsOddDown m.setup m.trail x
bytes_left version fault unread m (r.Frame frame) is p = absurd p
bytes_left version fault unread m (r.Bytes bytes) is p = no_frame version fault unread bytes is p

if_some : {X : Type 0} (o : Option X) (x : X) (P : X → Type 0) → o ≡ Some x → IfSome o P → P x
if_some None x P is p = absurd (cc)
if_some (Some y) x P is p = subst P (cc) p

frame_left : (m : MonitorView) (frame : Frame) (why : Rattle.tk_trail.specs.declared.refusal.MonitorRefusal.MonitorRefusal) (front : Option Frame) (x : Received) → front ≡ Some frame → refusal_of m.setup m.trail frame ≡ Some why → option_map r.Frame front ≡ Some x → IsOddDown m.setup m.trail x
frame_left m frame why front x read refused is =
    let same : r.Frame frame ≡ x = if_some (Some (r.Frame frame)) x (λ y. r.Frame frame ≡ y) (sym (ap (option_map r.Frame) read) ∙ is) refl in
    subst (IsOddDown m.setup m.trail) same (ap is_some refused)

-- it is one that the monitor refuses, or no frame
pub left_odd : {W : Type 0} (link : LinkView W) (m : MonitorView) (course : Course) (odd : Option Received) → IsVersion link.version → IsOnCourse link m course → LeavesOdd course link odd → ForSome odd (IsOddDown m.setup m.trail)
left_odd link m c.Open odd version on left x is = absurd (cc)
left_odd link m c.Halted odd version on left x is = absurd (cc)
left_odd link m c.Failed odd version on left x is = absurd (cc)
left_odd link m (c.Refused why) odd version on left x is = frame_left m on.1.frame why link.front x on.1.read on.1.refused (sym left ∙ is)
left_odd link m (c.Bad fault) odd version on left x is = bytes_left link.version fault link.unread m x version (if_some odd x (IsOddBytes link.version fault link.unread) is left.0)
