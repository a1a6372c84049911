-- Changes that were told in order, and what they come to.
use Rattle.std.proofs.Common.{◌≡◌, ◌≢◌, ℕ, ◌-◌, ◌<◌, Bool, true, false, List, [], ◌∷◌, ◌++◌, length, get_or, None, refl, ap, ◌∙◌, subst, arith}
use Rattle.std.specs.Prelude.{ℤ}
use Rattle.std.proofs.lemmas.Int.{ints}
use Rattle.std.proofs.lemmas.List.{get_or-set_same, get_or-set_other}
use Rattle.tk_base.specs.declared.ids.Feeder.{Feeder}
use Rattle.tk_base.specs.declared.ids.Obj.{Obj}
use Rattle.tk_trail.specs.Readings.{value_of_object}
use Rattle.tk_trail.proofs.ValuesLemmas.{sum_for-cons}
use Rattle.tk_compact.proofs.AsBeforeLemmas.{begins_as_before}
use Rattle.tk_wire.specs.Meanings.{raised_by}
use Rattle.tk_watch.specs.Each.{CountsOnce, Rises, TellsEach, risen}
use Rattle.tk_watch.specs.Told.{Counts, Tells, made_room}
use Rattle.tk_watch.specs.Untold.{untold_by}
use Rattle.tk_watch.specs.Watch.{IsWatch, WatchView}
use Rattle.tk_watch.specs.declared.told.Told.{Told}
use Rattle.tk_watch.specs.declared.told.Told.TheVariants as t
use Rattle.tk_watch.proofs.BegunLemmas.{refilled_keeps}

-- ---- one more

pub counted_once : {W : Type 0} (old new : WatchView W) (f : Feeder) (c : ℕ × ℤ) (told : Told) (obj : Obj) → untold_by told obj ≡ None → Tells old f c told new → IsWatch new → CountsOnce old f c new
counted_once old new f c (t.Done broken fresh) obj is tells kept = record { broken = broken; fresh = fresh; tells = tells; kept = kept }
counted_once old new f c t.Closed obj is tells kept = absurd (cc)
counted_once old new f c t.TooGreat obj is tells kept = absurd (cc)
counted_once old new f c t.NoMemory obj is tells kept = absurd (cc)

pub each_more : {W : Type 0} (old now new : WatchView W) (f : Feeder) (cs : List (ℕ × ℤ)) (c : ℕ × ℤ) → TellsEach old f cs now → CountsOnce now f c new → TellsEach old f (cs ++ c ∷ []) new
each_more old now new f [] c each once = (new, (subst (λ (w : WatchView _). CountsOnce w f c new) each once, refl))
each_more old now new f (b ∷ cs) c each once = (each.0, (each.1.0, each_more each.0 now new f cs c each.1.1 once))

-- some behind others
pub each_behind : {W : Type 0} (old now new : WatchView W) (f : Feeder) (cs more : List (ℕ × ℤ)) → TellsEach old f cs now → TellsEach now f more new → TellsEach old f (cs ++ more) new
each_behind old now new f [] more each rest = subst (λ (w : WatchView _). TellsEach w f more new) each rest
each_behind old now new f (c ∷ cs) more each rest = (each.0, (each.1.0, each_behind each.0 now new f cs more each.1.1 rest))

-- ---- what they come to

pub room_values : {W : Type 0} (w : WatchView W) (b : Bool) (o : ℕ) → IsWatch w → value_of_object (made_room b w).monitor.setup (made_room b w).monitor.trail o ≡ value_of_object w.monitor.setup w.monitor.trail o
room_values w true o is = (begins_as_before w.monitor.setup w.monitor.trail is.within is.legal).1 o
room_values w false o is = refl

room_counts : {W : Type 0} (w : WatchView W) (b : Bool) → (made_room b w).counts ≡ w.counts
room_counts w true = refl
room_counts w false = refl

room_keeps : {W : Type 0} (w : WatchView W) (b : Bool) → IsWatch w → IsWatch (made_room b w)
room_keeps w true is = refilled_keeps w is
room_keeps w false is = is

-- the count of the stream rises by one
count_next : {W : Type 0} (w now : WatchView W) (f : Feeder) (c : ℕ × ℤ) (broken : Bool) → IsWatch w → Counts w f c broken now → get_or now.counts (f.0 - 1) 0 ≡ raised_by 1 (get_or w.counts (f.0 - 1) 0)
count_next w now f c broken is counts =
    let i = f.0 - 1 in
    let within : i < length w.counts = omega (arith, counts.opened.from_one, counts.opened.one_of, is.counts) in
    ap (λ (v : WatchView _). get_or v.counts i 0) counts.told ∙ get_or-set_same w.counts i (raised_by 1 (get_or w.counts i 0)) 0 within

-- and no other
others_next : {W : Type 0} (w now : WatchView W) (f : Feeder) (c : ℕ × ℤ) (broken : Bool) → Counts w f c broken now → (i : ℕ) → i ≢ f.0 - 1 → get_or now.counts i 0 ≡ get_or w.counts i 0
others_next w now f c broken counts i apart =
    ap (λ (v : WatchView _). get_or v.counts i 0) counts.told ∙ get_or-set_other w.counts (f.0 - 1) i (raised_by 1 (get_or w.counts (f.0 - 1) 0)) 0 apart

-- what changes come to that were told in order
pub rises_each : {W : Type 0} (old new : WatchView W) (f : Feeder) (cs : List (ℕ × ℤ)) → IsWatch old → TellsEach old f cs new → Rises old f cs new
rises_each old new f [] is each = record {
  count = ap (λ (w : WatchView _). get_or w.counts (f.0 - 1) 0) each;
  others = λ i apart. ap (λ (w : WatchView _). get_or w.counts i 0) each;
  values = λ o. (let same = ap (λ (w : WatchView _). value_of_object w.monitor.setup w.monitor.trail o) each in omega (arith, ints, same));
}
rises_each old new f (c ∷ cs) is each =
    let now = each.0 in
    let once = each.1.0 in
    let counts = once.tells.1 in
    let w = made_room once.fresh old in
    let more = rises_each now new f cs once.kept each.1.1 in
    let same = room_counts old once.fresh in
    record {
      count = more.count ∙ ap (risen (length cs)) (count_next w now f c once.broken (room_keeps old once.fresh is) counts ∙ ap (λ (ns : List ℕ). raised_by 1 (get_or ns (f.0 - 1) 0)) same);
      others = λ i apart. more.others i apart ∙ others_next w now f c once.broken counts i apart ∙ ap (λ (ns : List ℕ). get_or ns i 0) same;
      values = λ o. (
          let a = more.values o in
          let b = counts.values o in
          let d = room_values old once.fresh o is in
          let e = sum_for-cons o c cs in
          omega (arith, ints, a, b, d, e));
    }
