use Rattle.std.proofs.Common.{◌≤◌, ◌+◌, ◌∙◌, ap, drop, length, subst, List, ℕ}
use Rattle.std.specs.List.{slice_range}
use Rattle.tk_net.specs.Chunks.{held_in}
use Rattle.tk_net.proofs.CableLemmas.{behind_pulse, left_behind, none_between, opened, opens_pulse}
use Rattle.tk_net.proofs.inlet.Inlet.open_next.Goals as goal

pub returns-in-Pulse-clause-opens : goal.returns-in-Pulse-clause-opens
returns-in-Pulse-clause-opens c =
    let i = c.self.inside in
    let came : 2 ≤ length (slice_range c.deref.result.now i.middle i.end) = c.in-Pulse.ensures.whole in
    let whole : 2 ≤ length (slice_range i.bytes.items i.middle i.end) = subst (λ (xs : List ℕ). 2 ≤ length (slice_range xs i.middle i.end)) c.deref.ensures.value came in
    opens_pulse c.front_of-front.result c.args.self.now _ c.in-Pulse.is (none_between (i.middle + 2) i.bytes.items) (behind_pulse i.middle i.end i.bytes.items whole ∙ ap (drop 2) (ap (λ v. v.unread) c.self.view_is))

pub returns-in-Chunk-clause-opens : goal.returns-in-Chunk-clause-opens
returns-in-Chunk-clause-opens c =
    let i = c.self.inside in
    let n = c.in-Chunk.size in
    let unread = ap (λ v. v.unread) c.self.view_is in
    let came : 6 + n ≤ length (slice_range c.deref.result.now i.middle i.end) = c.in-Chunk.ensures.whole.1 in
    let whole : 6 + n ≤ length (slice_range i.bytes.items i.middle i.end) = subst (λ (xs : List ℕ). 6 + n ≤ length (slice_range xs i.middle i.end)) c.deref.ensures.value came in
    (opened i.middle i.end n i.bytes.items whole ∙ ap (held_in n) unread, left_behind i.middle i.end n i.bytes.items whole ∙ ap (drop (6 + n)) unread)
