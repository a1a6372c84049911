use Rattle.std.proofs.Common.{All, length, sym, subst}
use Rattle.std.specs.Prelude.{List}
use Rattle.std.proofs.lemmas.List.Elements.{All-push}
use Rattle.tk_stream.specs.declared.item.Item.{Item}
use Rattle.tk_watch.specs.Feeding.{Adds, Gathers, Gives}
use Rattle.tk_watch.specs.Windows.{IsItemIn}
use Rattle.tk_watch.proofs.FeedingLemmas.{gathers_on, gives_more, item_in}
use Rattle.tk_watch.proofs.feeding.gather.Goals as goal

pub loop-preserved : goal.loop-preserved
loop-preserved g c =
    let a : Adds c.args.ticks c.args.names.now c.loop.records c.loop.batch.items c.gather_one.new.batch.items c.gather_one.new.records = c.in_default.ensures.none in (
      subst (λ (items : List Item). Gives c.args.ticks c.args.names.now c.args.records.now items c.gather_one.new.records) (sym a.added) (gives_more _ _ _ _ _ _ _ c.loop.invariant.0 a.finds),
      subst (λ (items : List Item). All (IsItemIn (length c.args.names.now)) items) (sym a.added) (All-push (IsItemIn (length c.args.names.now)) _ _ c.loop.invariant.1 (item_in _ _ a.item a.object)),
    )

pub returns-then-is_whole-clause-gathers : goal.returns-then-is_whole-clause-gathers
returns-then-is_whole-clause-gathers g c =
    let a : Adds c.args.ticks c.args.names.now c.loop.records c.loop.batch.items c.gather_one.new.batch.items c.gather_one.new.records = c.in_default.ensures.none in
    subst (λ (items : List Item). Gathers c.args.ticks c.args.names.now c.args.f c.args.records.now items _ c.gather_one.new.records) (sym a.added) (gathers_on _ _ _ _ _ _ (gives_more _ _ _ _ _ _ _ c.loop.invariant.0 a.finds))
