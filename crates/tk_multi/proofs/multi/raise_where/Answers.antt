use Rattle.std.proofs.Common.{◌≡◌, ◌<◌, List, length, map, get_or, set, ap, sym, ◌∙◌, arith}
use Rattle.std.specs.List.{zip}
use Rattle.std.proofs.lemmas.List.{get_or-map, length-map}
use Rattle.tk_input.specs.declared.event.Event.TheVariants.{Raise}
use Rattle.tk_story.specs.Kept.{KeptStory}
use Rattle.tk_multi.specs.Multi.{moved_at}
use Rattle.tk_multi.proofs.ListLemmas.{get_or_zip, length_zip, unwritten, written_all, written_more}
use Rattle.tk_multi.proofs.multi.raise_where.Goals as goal

pub loop-i-preserved : goal.loop-i-preserved
loop-i-preserved g c =
    let old = c.args.worlds.now in
    let pairs = zip c.args.watches.now old in
    let move = moved_at (Raise c.args.mon c.args.f) c.args.obj.0 in
    let made = map move pairs in
    let i = c.loop-i.i in
    let within : i < length old = c.loop-i-test.true in
    let count : length pairs ≡ length old = length_zip c.args.watches.now old c.requires in
    let same : length made ≡ length old = length-map pairs move ∙ count in
    let kept = c.index-worlds-i.result in
    let watch = c.index-watches-i.result in
    let here : kept ≡ get_or old i kept = c.index-worlds-i.is ∙ ap (λ (l : List KeptStory). get_or l i kept) c.loop-i.invariant ∙ unwritten made old i kept same within in
    let pair : get_or pairs i (watch, kept) ≡ (watch, kept) = get_or_zip c.args.watches.now old i watch kept (watch, kept) (let e = c.requires in omega (arith, e, within)) c.requires c.index-watches-i.is here in
    let is : c.raise_if.new.world ≡ get_or made i kept =
    c.raise_if.ensures ∙ ap (λ (k : KeptStory). move (watch, k)) (sym c.index-worlds-i.is) ∙ ap move (sym pair) ∙ sym (get_or-map move pairs i (watch, kept) kept (omega (arith, count, within))) in
    ap (λ (l : List KeptStory). set l i c.raise_if.new.world) c.loop-i.invariant ∙ written_more made old i c.raise_if.new.world kept same within is

pub returns : goal.returns
returns g c =
    let old = c.args.worlds.now in
    let pairs = zip c.args.watches.now old in
    let made = map (moved_at (Raise c.args.mon c.args.f) c.args.obj.0) pairs in
    let same : length made ≡ length old = length-map pairs (moved_at (Raise c.args.mon c.args.f) c.args.obj.0) ∙ length_zip c.args.watches.now old c.requires in
    c.loop-i.invariant ∙ written_all made old c.loop-i.i same c.loop-i-test.false
