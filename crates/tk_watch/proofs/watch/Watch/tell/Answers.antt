use Rattle.std.proofs.Common.{ℕ, ◌+◌, ◌<◌, ◌≤◌, ◌^◌, ◌∙◌, true, inl, refl, sym, subst}
use Rattle.std.specs.Prelude.{ℤ, unsigned_abs}
use Rattle.std.proofs.lemmas.Bool.{ltb-false, ltb-true}
use Rattle.tk_input.specs.Logs.{IsObject}
use Rattle.tk_trail.specs.Legal.{HasNext}
use Rattle.tk_compact.specs.Anew.{size_of_values}
use Rattle.tk_compact.specs.Room.{HasRoomFor}
use Rattle.tk_watch.specs.Told.{CountsUnlessMemory}
use Rattle.tk_watch.specs.Watch.{WatchView}
use Rattle.tk_watch.proofs.BegunLemmas.{begun_next}
use Rattle.tk_watch.proofs.RoomLemmas.{fits_room, fresh_room, tells_counted, tells_fresh}
use Rattle.tk_watch.proofs.watch.Watch.tell.Goals as goal

pub returns-then-is_closed : goal.returns-then-is_closed
returns-then-is_closed g c = (c.is_closed.ensures.closed c.if-is_closed.true, refl)

pub count-requires-clause-next : goal.count-requires-clause-next
count-requires-clause-next g c = c.is_closed.ensures.opened c.if-is_closed.false

pub count-requires-clause-room : goal.count-requires-clause-room
count-requires-clause-room g c = fits_room c.args.self.now c.args.f (c.args.change.obj.0, c.args.change.by) (sym c.fits.ensures ∙ c.if-fits.true)

pub returns-then-fits : goal.returns-then-fits
returns-then-fits g c = tells_counted c.args.self.now c.count.new.self c.args.f (c.args.change.obj.0, c.args.change.by) c.count.result (sym c.fits.ensures ∙ c.if-fits.true) c.count.ensures

pub returns-then-is_too_great : goal.returns-then-is_too_great
returns-then-is_too_great g c =
    let now = c.args.self.now in
    let great : 2 ^ 100 < size_of_values now.monitor.setup now.monitor.trail + unsigned_abs c.args.change.by = ltb-true _ _ (sym c.is_too_great.ensures ∙ c.if-is_too_great.true) in
    (sym c.fits.ensures ∙ c.if-fits.false, (great, refl))

pub count-requires-in-Ok-clause-next : goal.count-requires-in-Ok-clause-next
count-requires-in-Ok-clause-next g c =
    let kept = c.is_closed.ensures.kept in
    subst (λ (v : WatchView _). HasNext v.monitor.setup v.monitor.trail c.args.f.0) (sym c.in-Ok.ensures.ok) (begun_next c.args.self.now.monitor c.args.f.0 kept.within kept.legal (c.is_closed.ensures.opened c.if-is_closed.false))

pub count-requires-in-Ok-clause-object : goal.count-requires-in-Ok-clause-object
count-requires-in-Ok-clause-object g c = subst (λ (v : WatchView _). IsObject v.monitor.setup.objects c.args.change.obj.0) (sym c.in-Ok.ensures.ok) c.requires.object

pub count-requires-in-Ok-clause-room : goal.count-requires-in-Ok-clause-room
count-requires-in-Ok-clause-room g c =
    let now = c.args.self.now in
    let change : ℕ × ℤ = (c.args.change.obj.0, c.args.change.by) in
    let light : size_of_values now.monitor.setup now.monitor.trail + unsigned_abs c.args.change.by ≤ 2 ^ 100 = ltb-false _ _ (sym c.is_too_great.ensures ∙ c.if-is_too_great.false) in
    subst (λ (v : WatchView _). HasRoomFor v.monitor.setup v.weight c.args.f.0 change) (sym c.in-Ok.ensures.ok)
    (fresh_room now c.args.f change c.is_closed.ensures.kept (c.is_closed.ensures.opened c.if-is_closed.false) light)

pub returns-in-Ok : goal.returns-in-Ok
returns-in-Ok g c =
    let change : ℕ × ℤ = (c.args.change.obj.0, c.args.change.by) in
    tells_fresh c.args.self.now c.count-in-Ok.new.self c.args.f change c.count-in-Ok.result (sym c.fits.ensures ∙ c.if-fits.false)
    (subst (λ (v : WatchView _). CountsUnlessMemory v c.args.f change true c.count-in-Ok.result c.count-in-Ok.new.self) c.in-Ok.ensures.ok c.count-in-Ok.ensures)

pub returns-in-Err : goal.returns-in-Err
returns-in-Err g c = inl c.in-Err.ensures.err
