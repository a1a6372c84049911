-- `==` tells equal frames from others.
use Rattle.std.proofs.Common.{◌≡◌, ◌==◌, refl, Bool, true, ◌&&◌, sym, subst}
use Rattle.std.specs.Bool.{Decides}
use Rattle.std.specs.Ordering.{int_eq}
use Rattle.std.specs.Cmp.Lexicographic.{pointwise}
use Rattle.tk_base.specs.Equal.{pair_eq}
use Rattle.std.specs.Prelude.{nat_eq}
use Rattle.std.specs.Cmp.{unsigned_Decides, signed_Decides, booleans_Decides}
use Rattle.std.specs.Bool.{beq}
use Rattle.std.proofs.lemmas.Bool.{true≢false, and_parts, and_from}
use Rattle.tk_base.proofs.EqualLemmas.{numbers_tell, pairs_tell}
use Rattle.tk_frames.specs.declared.frame.Frame.{Frame}
use Rattle.tk_frames.specs.declared.frame.Frame.TheVariants as f
use Rattle.tk_frames.specs.contracts.frame.FramePartialEq.TheImpl.{ghosts}

abbrev pub derived : Frame → Frame → Bool
derived a b = ghosts.eq a b

tells : (a b : Frame) → derived a b ≡ true → a ≡ b
tells (f.Hello r v m) (f.Hello r' v' m') h =
    let h0 = and_parts ((r == r')) ((v == v') && (m.0 == m'.0)) h in
    let h1 = and_parts ((v == v')) ((m.0 == m'.0)) h0.1 in
    let r-is = (unsigned_Decides r r').0 h0.0 in
    let v-is = (unsigned_Decides v v').0 h1.0 in
    let m-is = (unsigned_Decides m.0 m'.0).0 h1.1 in
    λ i. f.Hello (r-is i) (v-is i) (record { 0 = m-is i })
tells (f.Hello r v m) (f.Report s' b' x' y') h = absurd (true≢false (sym h))
tells (f.Hello r v m) (f.Collect r' x') h = absurd (true≢false (sym h))
tells (f.Hello r v m) (f.Values r' s' b' y') h = absurd (true≢false (sym h))
tells (f.Hello r v m) (f.Assign s' x' y') h = absurd (true≢false (sym h))
tells (f.Hello r v m) (f.Settled s' l' x') h = absurd (true≢false (sym h))
tells (f.Hello r v m) f.Stop h = absurd (true≢false (sym h))
tells (f.Report s b x y) (f.Hello r' v' m') h = absurd (true≢false (sym h))
tells (f.Report s b x y) (f.Report s' b' x' y') h =
    let h0 = and_parts ((s == s')) (int_eq b b' && (pointwise nat_eq x x' && pointwise pair_eq y y')) h in
    let h1 = and_parts (int_eq b b') (pointwise nat_eq x x' && pointwise pair_eq y y') h0.1 in
    let h2 = and_parts (pointwise nat_eq x x') (pointwise pair_eq y y') h1.1 in
    let s-is = (unsigned_Decides s s').0 h0.0 in
    let b-is = (signed_Decides b b').0 h1.0 in
    let x-is = (numbers_tell x x').0 h2.0 in
    let y-is = (pairs_tell y y').0 h2.1 in
    λ i. f.Report (s-is i) (b-is i) (x-is i) (y-is i)
tells (f.Report s b x y) (f.Collect r' x') h = absurd (true≢false (sym h))
tells (f.Report s b x y) (f.Values r' s' b' y') h = absurd (true≢false (sym h))
tells (f.Report s b x y) (f.Assign s' x' y') h = absurd (true≢false (sym h))
tells (f.Report s b x y) (f.Settled s' l' x') h = absurd (true≢false (sym h))
tells (f.Report s b x y) f.Stop h = absurd (true≢false (sym h))
tells (f.Collect r x) (f.Hello r' v' m') h = absurd (true≢false (sym h))
tells (f.Collect r x) (f.Report s' b' x' y') h = absurd (true≢false (sym h))
tells (f.Collect r x) (f.Collect r' x') h =
    let h0 = and_parts ((r == r')) (pointwise nat_eq x x') h in
    let r-is = (unsigned_Decides r r').0 h0.0 in
    let x-is = (numbers_tell x x').0 h0.1 in
    λ i. f.Collect (r-is i) (x-is i)
tells (f.Collect r x) (f.Values r' s' b' y') h = absurd (true≢false (sym h))
tells (f.Collect r x) (f.Assign s' x' y') h = absurd (true≢false (sym h))
tells (f.Collect r x) (f.Settled s' l' x') h = absurd (true≢false (sym h))
tells (f.Collect r x) f.Stop h = absurd (true≢false (sym h))
tells (f.Values r s b y) (f.Hello r' v' m') h = absurd (true≢false (sym h))
tells (f.Values r s b y) (f.Report s' b' x' y') h = absurd (true≢false (sym h))
tells (f.Values r s b y) (f.Collect r' x') h = absurd (true≢false (sym h))
tells (f.Values r s b y) (f.Values r' s' b' y') h =
    let h0 = and_parts ((r == r')) ((s == s') && (int_eq b b' && pointwise pair_eq y y')) h in
    let h1 = and_parts ((s == s')) (int_eq b b' && pointwise pair_eq y y') h0.1 in
    let h2 = and_parts (int_eq b b') (pointwise pair_eq y y') h1.1 in
    let r-is = (unsigned_Decides r r').0 h0.0 in
    let s-is = (unsigned_Decides s s').0 h1.0 in
    let b-is = (signed_Decides b b').0 h2.0 in
    let y-is = (pairs_tell y y').0 h2.1 in
    λ i. f.Values (r-is i) (s-is i) (b-is i) (y-is i)
tells (f.Values r s b y) (f.Assign s' x' y') h = absurd (true≢false (sym h))
tells (f.Values r s b y) (f.Settled s' l' x') h = absurd (true≢false (sym h))
tells (f.Values r s b y) f.Stop h = absurd (true≢false (sym h))
tells (f.Assign s x y) (f.Hello r' v' m') h = absurd (true≢false (sym h))
tells (f.Assign s x y) (f.Report s' b' x' y') h = absurd (true≢false (sym h))
tells (f.Assign s x y) (f.Collect r' x') h = absurd (true≢false (sym h))
tells (f.Assign s x y) (f.Values r' s' b' y') h = absurd (true≢false (sym h))
tells (f.Assign s x y) (f.Assign s' x' y') h =
    let h0 = and_parts ((s == s')) (pointwise nat_eq x x' && pointwise pair_eq y y') h in
    let h1 = and_parts (pointwise nat_eq x x') (pointwise pair_eq y y') h0.1 in
    let s-is = (unsigned_Decides s s').0 h0.0 in
    let x-is = (numbers_tell x x').0 h1.0 in
    let y-is = (pairs_tell y y').0 h1.1 in
    λ i. f.Assign (s-is i) (x-is i) (y-is i)
tells (f.Assign s x y) (f.Settled s' l' x') h = absurd (true≢false (sym h))
tells (f.Assign s x y) f.Stop h = absurd (true≢false (sym h))
tells (f.Settled s l x) (f.Hello r' v' m') h = absurd (true≢false (sym h))
tells (f.Settled s l x) (f.Report s' b' x' y') h = absurd (true≢false (sym h))
tells (f.Settled s l x) (f.Collect r' x') h = absurd (true≢false (sym h))
tells (f.Settled s l x) (f.Values r' s' b' y') h = absurd (true≢false (sym h))
tells (f.Settled s l x) (f.Assign s' x' y') h = absurd (true≢false (sym h))
tells (f.Settled s l x) (f.Settled s' l' x') h =
    let h0 = and_parts ((s == s')) (beq l l' && pointwise nat_eq x x') h in
    let h1 = and_parts (beq l l') (pointwise nat_eq x x') h0.1 in
    let s-is = (unsigned_Decides s s').0 h0.0 in
    let l-is = (booleans_Decides l l').0 h1.0 in
    let x-is = (numbers_tell x x').0 h1.1 in
    λ i. f.Settled (s-is i) (l-is i) (x-is i)
tells (f.Settled s l x) f.Stop h = absurd (true≢false (sym h))
tells f.Stop (f.Hello r' v' m') h = absurd (true≢false (sym h))
tells f.Stop (f.Report s' b' x' y') h = absurd (true≢false (sym h))
tells f.Stop (f.Collect r' x') h = absurd (true≢false (sym h))
tells f.Stop (f.Values r' s' b' y') h = absurd (true≢false (sym h))
tells f.Stop (f.Assign s' x' y') h = absurd (true≢false (sym h))
tells f.Stop (f.Settled s' l' x') h = absurd (true≢false (sym h))
tells f.Stop f.Stop h = refl

self_equal : (a : Frame) → derived a a ≡ true
self_equal (f.Hello r v m) = and_from ((r == r)) ((v == v) && (m.0 == m.0)) ((unsigned_Decides r r).1 refl) (and_from ((v == v)) ((m.0 == m.0)) ((unsigned_Decides v v).1 refl) (((unsigned_Decides m.0 m.0).1 refl)))
self_equal (f.Report s b x y) = and_from ((s == s)) (int_eq b b && (pointwise nat_eq x x && pointwise pair_eq y y)) ((unsigned_Decides s s).1 refl) (and_from (int_eq b b) (pointwise nat_eq x x && pointwise pair_eq y y) ((signed_Decides b b).1 refl) (and_from (pointwise nat_eq x x) (pointwise pair_eq y y) ((numbers_tell x x).1 refl) (((pairs_tell y y).1 refl))))
self_equal (f.Collect r x) = and_from ((r == r)) (pointwise nat_eq x x) ((unsigned_Decides r r).1 refl) (((numbers_tell x x).1 refl))
self_equal (f.Values r s b y) = and_from ((r == r)) ((s == s) && (int_eq b b && pointwise pair_eq y y)) ((unsigned_Decides r r).1 refl) (and_from ((s == s)) (int_eq b b && pointwise pair_eq y y) ((unsigned_Decides s s).1 refl) (and_from (int_eq b b) (pointwise pair_eq y y) ((signed_Decides b b).1 refl) (((pairs_tell y y).1 refl))))
self_equal (f.Assign s x y) = and_from ((s == s)) (pointwise nat_eq x x && pointwise pair_eq y y) ((unsigned_Decides s s).1 refl) (and_from (pointwise nat_eq x x) (pointwise pair_eq y y) ((numbers_tell x x).1 refl) (((pairs_tell y y).1 refl)))
self_equal (f.Settled s l x) = and_from ((s == s)) (beq l l && pointwise nat_eq x x) ((unsigned_Decides s s).1 refl) (and_from (beq l l) (pointwise nat_eq x x) ((booleans_Decides l l).1 refl) (((numbers_tell x x).1 refl)))
self_equal f.Stop = refl

pub frames_tell : (a b : Frame) → Decides (derived a b) (a ≡ b)
frames_tell a b = (tells a b, λ e. subst (λ x. derived a x ≡ true) e (self_equal a))
