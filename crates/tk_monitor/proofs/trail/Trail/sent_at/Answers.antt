use Rattle.std.proofs.Common.{◌≡◌, ◌<◌, List, length, get_or, Some, arith, ap, sym, ◌∙◌}
use Rattle.std.specs.Prelude.{slice_get}
use Rattle.std.proofs.lemmas.List.{get_or_default}
use Rattle.tk_monitor.specs.Trail.{TrailView}
use Rattle.tk_trail.specs.Readings.{sent_by}
use Rattle.tk_trail.specs.declared.entry.Entry.{Entry}
use Rattle.tk_trail.specs.declared.entry.Entry.TheVariants.{Sent}
use Rattle.tk_monitor.proofs.TrailLemmas.{sent_place, got_within, got_is}
use Rattle.tk_monitor.proofs.trail.Trail.sent_at.Goals as goal

pub index-requires-2 : goal.index-requires-2
index-requires-2 c =
    let inside = c.self.inside in
    let number : c.args.i < length (sent_by inside.entries.items) = rw (ap (λ (l : TrailView). l.entries) c.self.view_is) c.requires in
    let at = sent_place inside.entries.items inside.sent_places.items (sent_by inside.entries.items) c.args.i c.self.invariant.2 number in
    let place : c.index.result.now ≡ get_or inside.sent_places.items c.args.i 0 = c.index.ensures ∙ get_or_default inside.sent_places.items c.args.i c.index.result.now 0 at.within in
    let within : get_or inside.sent_places.items c.args.i 0 < length inside.entries.items = got_within inside.entries.items (get_or inside.sent_places.items c.args.i 0) (Sent at.frame) at.place in
    omega (arith, place, within)

pub unreachable-requires : goal.unreachable-requires
unreachable-requires c =
    let inside = c.self.inside in
    let number : c.args.i < length (sent_by inside.entries.items) = rw (ap (λ (l : TrailView). l.entries) c.self.view_is) c.requires in
    let at = sent_place inside.entries.items inside.sent_places.items (sent_by inside.entries.items) c.args.i c.self.invariant.2 number in
    let place : c.index.result.now ≡ get_or inside.sent_places.items c.args.i 0 = c.index.ensures ∙ get_or_default inside.sent_places.items c.args.i c.index.result.now 0 at.within in
    let here : slice_get inside.entries.items c.index.result.now ≡ Some (Sent at.frame) = ap (slice_get inside.entries.items) place ∙ at.place in
    c.in_default.not-Sent at.frame (c.index-2.ensures ∙ got_is inside.entries.items c.index.result.now (Sent at.frame) c.index-2.result.now here)

pub returns : goal.returns
returns c =
    let inside = c.self.inside in
    let same : inside.entries.items ≡ c.args.self.now.entries = ap (λ (l : TrailView). l.entries) c.self.view_is in
    let number : c.args.i < length (sent_by inside.entries.items) = rw same c.requires in
    let at = sent_place inside.entries.items inside.sent_places.items (sent_by inside.entries.items) c.args.i c.self.invariant.2 number in
    let place : c.index.result.now ≡ get_or inside.sent_places.items c.args.i 0 = c.index.ensures ∙ get_or_default inside.sent_places.items c.args.i c.index.result.now 0 at.within in
    let here : slice_get inside.entries.items c.index.result.now ≡ Some (Sent at.frame) = ap (slice_get inside.entries.items) place ∙ at.place in
    let entry : c.index-2.result.now ≡ Sent at.frame = c.index-2.ensures ∙ got_is inside.entries.items c.index.result.now (Sent at.frame) c.index-2.result.now here in
    let frame : at.frame ≡ c.get.result.now = let is = c.in-Sent.is in let given = c.get.ensures in cc in
    ap (λ (es : List Entry). slice_get (sent_by es) c.args.i) (sym same) ∙ at.number ∙ ap Some frame
