-- What each step at one end leaves of a connection.
use Rattle.std.proofs.Common.{◌≡◌, ◌≤◌, ◌<◌, ℕ, min, ◌++◌, List, [], ◌∷◌, length, take, drop, refl, ap, ap₂, sym, ◌∙◌, append_assoc, arith, subst, inl, inr, ◌⊎◌}
use Rattle.std.proofs.lemmas.List.{append-nil, take-append-drop, length-take}
use Rattle.tk_frames.specs.declared.frame.Frame.{Frame}
use Rattle.tk_wire.specs.Buffered.{IsFull}
use Rattle.tk_wire.specs.Meanings.{Traffic}
use Rattle.tk_wire.specs.Pipe.{Queue, free, with_more, without}
use Rattle.tk_wire.specs.PipeWire.{drained, filled, left_in}
use Rattle.tk_wire.proofs.JointLemmas.{joins-drained, joins-filled, joins-given}
use Rattle.tk_end.specs.Link.{LinkView, Moves, Says, over}
use Rattle.tk_bytes.specs.Way.{AreJoined, IsSure, under_way}

pub turned : {W : Type 0} (x y : LinkView W) (up down : Queue) → AreJoined x y up down → AreJoined y x down up
turned x y up down j = record {
  version = sym j.version;
  tells_here = j.tells_there;
  tells_there = j.tells_here;
  goes_up = j.goes_down;
  goes_down = j.goes_up;
  sure_here = j.sure_there;
  sure_there = j.sure_here;
  room_here = j.room_there;
  room_there = j.room_here;
  room_up = j.room_down;
  room_down = j.room_up;
}

-- ---- what is written and given

pub joined_said : {W : Type 0} (said : List Frame) (x x' y : LinkView W) (up down : Queue) → AreJoined x y up down → Says said x x' → IsSure x'.counts → AreJoined x' y up down
joined_said said x x' y up down j says sure =
    let d = says.departed j.tells_here in
    record {
      version = j.version ∙ sym says.version;
      tells_here = says.tells ∙ j.tells_here;
      tells_there = j.tells_there;
      goes_up = joins-given x.traffic y.traffic x'.traffic up.bytes says.given j.goes_up d;
      goes_down = record { bytes = j.goes_down.bytes ∙ ap₂ (λ (a b : List ℕ). a ++ b ++ down.bytes ++ y.traffic.held) (sym d.came) (sym d.waiting) };
      sure_here = sure;
      sure_there = j.sure_there;
      room_here = subst (λ k. 0 < k) (sym d.room) j.room_here;
      room_there = j.room_there;
      room_up = j.room_up;
      room_down = j.room_down;
    }

-- ---- bytes that go through the pipe

pub joined_drained : {W : Type 0} (bearing : Traffic → W → W) (n : ℕ) (x x' y : LinkView W) (up up' down : Queue) → AreJoined x y up down → x' ≡ over bearing (drained n x.traffic) x → up' ≡ with_more (take n x.traffic.held) up → AreJoined x' y up' down
joined_drained {W} bearing n x x' y up up' down j is moved =
    subst (λ (z : LinkView W). AreJoined z y up' down) (sym is) (subst (λ (q : Queue). AreJoined (over bearing (drained n x.traffic) x) y q down) (sym moved) (record {
      version = j.version;
      tells_here = j.tells_here;
      tells_there = j.tells_there;
      goes_up = joins-drained x.traffic y.traffic up.bytes n j.goes_up;
      goes_down = record { bytes = j.goes_down.bytes };
      sure_here = j.sure_here;
      sure_there = j.sure_there;
      room_here = j.room_here;
      room_there = j.room_there;
      room_up = j.room_up;
      room_down = j.room_down;
    }))

pub joined_filled : {W : Type 0} (bearing : Traffic → W → W) (n : ℕ) (x y y' : LinkView W) (up up' down : Queue) → AreJoined x y up down → y' ≡ over bearing (filled (take n up.bytes) y.traffic) y → up' ≡ without n up → AreJoined x y' up' down
joined_filled {W} bearing n x y y' up up' down j is moved =
    subst (λ (z : LinkView W). AreJoined x z up' down) (sym is) (subst (λ (q : Queue). AreJoined x (over bearing (filled (take n up.bytes) y.traffic) y) q down) (sym moved) (record {
      version = j.version;
      tells_here = j.tells_here;
      tells_there = j.tells_there;
      goes_up = joins-filled x.traffic y.traffic up.bytes n j.goes_up;
      goes_down = record { bytes = j.goes_down.bytes };
      sure_here = j.sure_here;
      sure_there = j.sure_there;
      room_here = j.room_here;
      room_there = j.room_there;
      room_up = j.room_up;
      room_down = j.room_down;
    }))

-- ---- what is taken

pub joined_took : {W : Type 0} (x y y' : LinkView W) (up down : Queue) (came : List ℕ) → AreJoined x y up down → y'.version ≡ y.version → y'.tells ≡ y.tells → Moves came [] y.traffic y'.traffic → IsSure y'.counts → AreJoined x y' up down
joined_took x y y' up down came j version tells m sure = record {
  version = version ∙ j.version;
  tells_here = j.tells_here;
  tells_there = tells ∙ j.tells_there;
  goes_up = record {
    bytes = j.goes_up.bytes
        ∙ ap (λ (xs : List ℕ). xs ++ up.bytes ++ x.traffic.held) (ap (λ (ws : List ℕ). y.traffic.came ++ ws) m.waiting ∙ sym (append_assoc y.traffic.came came y'.traffic.waiting) ∙ ap (λ (cs : List ℕ). cs ++ y'.traffic.waiting) (sym m.came_on));
  };
  goes_down = record {
    bytes = m.went_on ∙ append-nil y.traffic.went ∙ j.goes_down.bytes
        ∙ ap (λ (hs : List ℕ). x.traffic.came ++ x.traffic.waiting ++ down.bytes ++ hs) (sym (m.held ∙ append-nil y.traffic.held));
  };
  sure_here = j.sure_here;
  sure_there = sure;
  room_here = j.room_here;
  room_there = subst (λ k. 0 < k) (sym m.room) j.room_there;
  room_up = j.room_up;
  room_down = j.room_down;
}

-- ---- what is under way

pub way_drained : {W : Type 0} (bearing : Traffic → W → W) (n : ℕ) (x x' y : LinkView W) (up up' : Queue) → x' ≡ over bearing (drained n x.traffic) x → up' ≡ with_more (take n x.traffic.held) up → under_way x' y up'.bytes ≡ under_way x y up.bytes
way_drained {W} bearing n x x' y up up' is moved =
    ap₂ (λ (z : LinkView W) (q : Queue). under_way z y q.bytes) is moved
    ∙ ap (λ (xs : List ℕ). y.traffic.waiting ++ xs)
    (append_assoc up.bytes (take n x.traffic.held) (drop n x.traffic.held ++ x.output)
    ∙ ap (λ (xs : List ℕ). up.bytes ++ xs) (sym (append_assoc (take n x.traffic.held) (drop n x.traffic.held) x.output) ∙ ap (λ (xs : List ℕ). xs ++ x.output) (take-append-drop n x.traffic.held)))

pub way_filled : {W : Type 0} (bearing : Traffic → W → W) (n : ℕ) (x y y' : LinkView W) (up up' : Queue) → y' ≡ over bearing (filled (take n up.bytes) y.traffic) y → up' ≡ without n up → under_way x y' up'.bytes ≡ under_way x y up.bytes
way_filled {W} bearing n x y y' up up' is moved =
    let rest = x.traffic.held ++ x.output in
    ap₂ (λ (z : LinkView W) (q : Queue). under_way x z q.bytes) is moved
    ∙ append_assoc y.traffic.waiting (take n up.bytes) (drop n up.bytes ++ rest)
    ∙ ap (λ (xs : List ℕ). y.traffic.waiting ++ xs) (sym (append_assoc (take n up.bytes) (drop n up.bytes) rest) ∙ ap (λ (xs : List ℕ). xs ++ rest) (take-append-drop n up.bytes))

pub way_took : {W : Type 0} (x y y' : LinkView W) (between came : List ℕ) → Moves came [] y.traffic y'.traffic → under_way x y between ≡ came ++ under_way x y' between
way_took x y y' between came m =
    ap (λ (ws : List ℕ). ws ++ (between ++ (x.traffic.held ++ x.output))) m.waiting ∙ append_assoc came y'.traffic.waiting (between ++ (x.traffic.held ++ x.output))

-- ---- that bytes get on

pub none_of : (xs : List ℕ) → length xs ≤ 0 → xs ≡ []
none_of [] short = refl
none_of (x ∷ xs) short = absurd (omega (arith, short))

both_none : (xs ys : List ℕ) → xs ++ ys ≡ [] → (xs ≡ []) × (ys ≡ [])
both_none [] ys none = (refl, none)
both_none (x ∷ xs) ys none = absurd (cc)

-- where none of so many moved, none were there
none_there : (n most room : ℕ) (xs : List ℕ) → n ≡ min most (min (length xs) room) → 0 < most → 0 < room → take n xs ≡ [] → xs ≡ []
none_there n most room [] is some place none = refl
none_there n most room (x ∷ xs) is some place none =
    let l = length-take n (x ∷ xs) in
    let z = ap (λ (ys : List ℕ). length ys) none in
    absurd (omega (arith, l, z, is, some, place))

-- where nothing waits although bytes went from end to end, nothing is under way
pub all_came : {W : Type 0} (bearing : Traffic → W → W) (n m most : ℕ) (x x' y y' : LinkView W) (up between up' : Queue) → 0 < most → 0 < x.traffic.room → 0 < y.traffic.room → 0 < up.room → (x.output ≡ []) ⊎ IsFull x.traffic
    → n ≡ min most (min (length x.traffic.held) (free up)) → x' ≡ over bearing (drained n x.traffic) x → between ≡ with_more (take n x.traffic.held) up
    → m ≡ min most (min (length between.bytes) (left_in y.traffic)) → y' ≡ over bearing (filled (take m between.bytes) y.traffic) y → up' ≡ without m between
    → y'.traffic.waiting ≡ [] → under_way x' y' up'.bytes ≡ []
all_came bearing n m most x x' y y' up between up' some here there pipe given n_is x_is between_is m_is y_is up_is none =
    let waits = both_none y.traffic.waiting (take m between.bytes) (sym (ap (λ (l : LinkView _). l.traffic.waiting) y_is) ∙ none) in
    let room : 0 < left_in y.traffic = let w = ap (λ (ys : List ℕ). length ys) waits.0 in omega (arith, w, there) in
    let empty : between.bytes ≡ [] = none_there m most (left_in y.traffic) between.bytes m_is some room waits.1 in
    let parts = both_none up.bytes (take n x.traffic.held) (sym (ap (λ (q : Queue). q.bytes) between_is) ∙ empty) in
    let space : 0 < free up = let w = ap (λ (ys : List ℕ). length ys) parts.0 in omega (arith, w, pipe) in
    let held : x.traffic.held ≡ [] = none_there n most (free up) x.traffic.held n_is some space parts.1 in
    let output : x.output ≡ [] = elim given [
      | inl out ↦ out
      | inr full ↦ let w = ap (λ (ys : List ℕ). length ys) held in absurd (omega (arith, w, full, here))
    ] in
    way_filled bearing m x' y y' between up' y_is up_is
    ∙ way_drained bearing n x x' y up between x_is between_is
    ∙ ap₂ (λ (a b : List ℕ). a ++ b) waits.0 (ap₂ (λ (a b : List ℕ). a ++ b) parts.0 (ap₂ (λ (a b : List ℕ). a ++ b) held output))
