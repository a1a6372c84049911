-- Whether there is room for a record, and what is behind a fresh base.
use Rattle.std.proofs.Common.{◌≡◌, ℕ, suc, zero, ◌+◌, ◌-◌, ◌<◌, ◌≤◌, ◌^◌, Bool, true, false, not, ◌&&◌, List, [], ◌∷◌, length, get_or, inl, inr, refl, sym, ap, ◌∙◌, subst, arith}
use Rattle.std.specs.Prelude.{ℤ, nat_lt, unsigned_abs}
use Rattle.std.proofs.lemmas.Bool.{ltb-true, ltb-false}
use Rattle.tk_base.specs.declared.ids.Feeder.{Feeder}
use Rattle.tk_trail.proofs.PlacesLemmas.{places_at-start}
use Rattle.tk_trail.specs.Legal.{HasNext, part_length, place_of}
use Rattle.tk_compact.specs.Anew.{base_of, size_of_values}
use Rattle.tk_compact.specs.Begun.{begun}
use Rattle.tk_compact.specs.Room.{HasRoomFor}
use Rattle.tk_compact.specs.Standing.{ends_of}
use Rattle.tk_compact.proofs.BeginLemmas.{base_few}
use Rattle.tk_watch.specs.Told.{Counts, CountsUnlessMemory, Tells, fits_in, made_room}
use Rattle.tk_watch.specs.Watch.{IsWatch, WatchView, refilled}
use Rattle.tk_watch.specs.declared.told.Told.{Told}
use Rattle.tk_watch.specs.declared.told.Told.TheVariants as t
use Rattle.tk_watch.proofs.BegunLemmas.{begun_next, refilled_keeps}

-- ---- what a test of room says

no_more : (b : Bool) (n m : ℕ) → nat_lt n m ≡ b → not b ≡ true → m ≤ n
no_more true n m below is = absurd (cc)
no_more false n m below is = ltb-false n m below

both : (a b : Bool) → (a && b) ≡ true → (a ≡ true) × (b ≡ true)
both true b is = (refl, is)
both false b is = absurd (cc)

pub fits_room : {W : Type 0} (w : WatchView W) (f : Feeder) (c : ℕ × ℤ) → fits_in w f c ≡ true → HasRoomFor w.monitor.setup w.weight f.0 c
fits_room w f c fits =
    let each = both (nat_lt (part_length w.monitor.setup f.0) 1000000) (not (nat_lt (2 ^ 100) (w.weight + unsigned_abs c.1))) fits in
    record {
      part = ltb-true (part_length w.monitor.setup f.0) 1000000 each.0;
      weight_fits = no_more (nat_lt (2 ^ 100) (w.weight + unsigned_abs c.1)) (2 ^ 100) (w.weight + unsigned_abs c.1) refl each.1;
    }

-- ---- behind a fresh base

ends_at : (xs : List (List (ℕ × ℤ))) (i : ℕ) → get_or (ends_of xs) i 0 ≡ length (get_or xs i [])
ends_at [] i = refl
ends_at (x ∷ xs) zero = refl
ends_at (x ∷ xs) (suc i) = ends_at xs i

-- there is room there for what is light enough
pub fresh_room : {W : Type 0} (w : WatchView W) (f : Feeder) (c : ℕ × ℤ) → IsWatch w → HasNext w.monitor.setup w.monitor.trail f.0 → size_of_values w.monitor.setup w.monitor.trail + unsigned_abs c.1 ≤ 2 ^ 100
    → HasRoomFor (refilled w).monitor.setup (refilled w).weight f.0 c
fresh_room w f c is next light =
    let m = begun w.monitor in
    let goes = begun_next w.monitor f.0 is.within is.legal next in
    let kept = refilled_keeps w is in
    let place : place_of m.setup [] f.0 ≡ length (get_or (base_of w.monitor.setup w.monitor.trail) (f.0 - 1) []) =
    ap (λ (ps : List ℕ). get_or ps (f.0 - 1) 0) (places_at-start m.setup) ∙ ends_at (base_of w.monitor.setup w.monitor.trail) (f.0 - 1) in
    let few = base_few w.monitor.setup w.monitor.trail (f.0 - 1) is.within in
    let long : part_length m.setup f.0 < 1000000 =
    elim (kept.waits f.0 goes.from_one goes.one_of) [
      | inl opened ↦ (let one = opened.one_left in omega (arith, one, place, few))
      | inr closed ↦ (let all = closed in omega (arith, all, place, few))
    ] in
    record { part = long; weight_fits = light }

-- ---- what becomes of a record

pub tells_counted : {W : Type 0} (old new : WatchView W) (f : Feeder) (c : ℕ × ℤ) (told : Told) → fits_in old f c ≡ true → CountsUnlessMemory old f c false told new → Tells old f c told new
tells_counted old new f c (t.Done broken anew) fits counts =
    (counts.0 ∙ ap (λ (b : Bool). not b) (sym fits), subst (λ (b : Bool). Counts (made_room b old) f c broken new) (sym counts.0) counts.1)
tells_counted old new f c t.Closed fits counts = absurd counts
tells_counted old new f c t.TooGreat fits counts = absurd counts
tells_counted old new f c t.NoMemory fits counts = inl counts

pub tells_fresh : {W : Type 0} (old new : WatchView W) (f : Feeder) (c : ℕ × ℤ) (told : Told) → fits_in old f c ≡ false → CountsUnlessMemory (refilled old) f c true told new → Tells old f c told new
tells_fresh old new f c (t.Done broken anew) fits counts =
    (counts.0 ∙ ap (λ (b : Bool). not b) (sym fits), subst (λ (b : Bool). Counts (made_room b old) f c broken new) (sym counts.0) counts.1)
tells_fresh old new f c t.Closed fits counts = absurd counts
tells_fresh old new f c t.TooGreat fits counts = absurd counts
tells_fresh old new f c t.NoMemory fits counts = inr counts
