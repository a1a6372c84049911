use Rattle.std.proofs.Common.{◌≡◌, ◌-◌, ◌<◌, ◌≤◌, ℕ, suc, Bool, true, false, cond, List, length, get_or, Some, None, refl, sym, subst, arith, ap, ◌∙◌, eqb}
use Rattle.std.specs.Prelude.{slice_get, slice_index}
use Rattle.std.specs.Global.{Vec}
use Rattle.std.proofs.lemmas.List.{get_or_default}
use Rattle.std.proofs.lemmas.Option.{slice_get_within, slice_get_read, get_or_from_slice_get}
use Rattle.tk_base.specs.declared.ids.Mon.{Mon}
use Rattle.tk_frames.specs.declared.frame.Frame.{Frame}
use Rattle.tk_journal.specs.declared.noted.Noted.{Noted}
use Rattle.tk_journal.specs.declared.noted.Noted.TheVariants as n
use Rattle.tk_journal.specs.Links.{sent_to, frames_to}
use Rattle.tk_coord.specs.Journal.{AreIndexed, IsIndex, JournalView}
use Rattle.tk_coord.proofs.PlaceLemmas.{index_reads}
use Rattle.tk_coord.proofs.journal.Journal.sent_at.Goals as goal

chosen : (b : Bool) (f g : Frame) → cond b (Some f) None ≡ Some g → f ≡ g
chosen true f g is = cc
chosen false f g is = cc

-- an entry that reads as a frame to a monitor sends that frame
is_sent : (j : ℕ) (e : Noted) (g : Frame) → sent_to j e ≡ Some g → (m : Mon) × (e ≡ n.Sent m g)
is_sent j (n.Got from frame) g is = cc
is_sent j (n.Sent to frame) g is = (to, ap (λ (f : Frame). n.Sent to f) (chosen (eqb to.0 j) frame g is))
is_sent j (n.Published q) g is = cc
is_sent j (n.Tuned k epsilon) g is = cc

-- the entry at the place that the index gives
read_at : (journal : List Noted) (sent : List (Vec ℕ)) (mon i place : ℕ) (v : Vec ℕ) → 0 < mon → mon ≤ length sent → AreIndexed journal sent → i < length (frames_to mon journal)
    → v ≡ get_or sent (mon - 1) v → place ≡ get_or v.items i place
    → (e : Noted) × (g : Frame) × (m : Mon) × (slice_get journal place ≡ Some e) × (e ≡ n.Sent m g) × (slice_get (frames_to mon journal) i ≡ Some g)
read_at journal sent mon i place v some high at within list here =
    let number : suc (mon - 1) ≡ mon = omega arith in
    let index : IsIndex (sent_to mon) journal v.items =
    subst (λ (k : ℕ). IsIndex (sent_to k) journal v.items) number (at (mon - 1) v (slice_get_read sent (length sent) (mon - 1) v refl (omega arith) list)) in
    let (e, g, there, reads, found) = index_reads (sent_to mon) journal v.items i index within in
    let (m, is) = is_sent mon e g reads in
    let same : place ≡ slice_index v.items i = here ∙ get_or_default v.items i place 0 (omega (arith, index.count)) in
    (e, g, m, ap (λ (k : ℕ). slice_get journal k) same ∙ there, is, found)

pub index-requires-3 : goal.index-requires-3
index-requires-3 c =
    let f = c.self.inside in
    let high : c.args.mon.0 ≤ length f.sent.items = subst (λ (k : JournalView). c.args.mon.0 ≤ k.monitors) (sym c.self.view_is) c.requires.monitor in
    let inside : c.args.i < length (frames_to c.args.mon.0 f.entries.items) = subst (λ (k : JournalView). c.args.i < length (frames_to c.args.mon.0 k.entries)) (sym c.self.view_is) c.requires.within in
    let (e, g, m, there, is, found) =
    read_at f.entries.items f.sent.items c.args.mon.0 c.args.i c.index-2.result.now c.index.result.now
    c.requires.some_monitor high c.self.invariant.3 inside c.index.ensures c.index-2.ensures in
    omega (arith, slice_get_within f.entries.items c.index-2.result.now e there)

pub unreachable-requires : goal.unreachable-requires
unreachable-requires c =
    let f = c.self.inside in
    let high : c.args.mon.0 ≤ length f.sent.items = subst (λ (k : JournalView). c.args.mon.0 ≤ k.monitors) (sym c.self.view_is) c.requires.monitor in
    let inside : c.args.i < length (frames_to c.args.mon.0 f.entries.items) = subst (λ (k : JournalView). c.args.i < length (frames_to c.args.mon.0 k.entries)) (sym c.self.view_is) c.requires.within in
    let (e, g, m, there, is, found) =
    read_at f.entries.items f.sent.items c.args.mon.0 c.args.i c.index-2.result.now c.index.result.now
    c.requires.some_monitor high c.self.invariant.3 inside c.index.ensures c.index-2.ensures in
    c.in_default.not-Sent m g (c.index-3.ensures ∙ get_or_from_slice_get f.entries.items c.index-2.result.now e c.index-3.result.now there ∙ is)

pub returns : goal.returns
returns c =
    let f = c.self.inside in
    let high : c.args.mon.0 ≤ length f.sent.items = subst (λ (k : JournalView). c.args.mon.0 ≤ k.monitors) (sym c.self.view_is) c.requires.monitor in
    let inside : c.args.i < length (frames_to c.args.mon.0 f.entries.items) = subst (λ (k : JournalView). c.args.i < length (frames_to c.args.mon.0 k.entries)) (sym c.self.view_is) c.requires.within in
    let (e, g, m, there, is, found) =
    read_at f.entries.items f.sent.items c.args.mon.0 c.args.i c.index-2.result.now c.index.result.now
    c.requires.some_monitor high c.self.invariant.3 inside c.index.ensures c.index-2.ensures in
    let same : n.Sent c.in-Sent.field-0 c.in-Sent.frame ≡ n.Sent m g =
    sym c.in-Sent.is ∙ c.index-3.ensures ∙ get_or_from_slice_get f.entries.items c.index-2.result.now e c.index-3.result.now there ∙ is in
    let frame : c.in-Sent.frame ≡ g = cc in
    rw (← c.self.view_is) (found ∙ ap Some (sym frame ∙ sym c.get.ensures))
