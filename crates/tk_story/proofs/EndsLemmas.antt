-- Walks over what one end received, beside what the other sent.
use Rattle.std.proofs.Common.{◌≡◌, ℕ, zero, suc, ◌+◌, ◌≤◌, List, [], ◌∷◌, ◌++◌, length, take, drop, map, Option, Some, None, refl, sym, ap, ◌∙◌, subst, arith}
use Rattle.std.specs.Prelude.{◌≢◌, filter_map, slice_get}
use Rattle.std.specs.Option.{option_map}
use Rattle.std.proofs.lemmas.Option.{slice_get-map}
use Rattle.std.proofs.lemmas.List.{append-nil, length-append, length-map, take-map}
use Rattle.std.proofs.lemmas.List.Elements.{filter_map-append}
use Rattle.tk_base.specs.History.{IsFront}
use Rattle.tk_frames.specs.declared.frame.Frame.{Frame}
use Rattle.tk_story.specs.declared.ends.received.Received.{Received}
use Rattle.tk_story.specs.declared.ends.received.Received.TheVariants as r
use Rattle.std.specs.Prelude.{Result, Ok, Err, IsErr, IfErr}
use Rattle.std.proofs.lemmas.Bool.{true≢false}
use Rattle.std.proofs.Math.Seq.{take-append_seam}
use Rattle.tk_base.specs.declared.ids.Mon.{Mon}
use Rattle.tk_base.proofs.ListLemmas.{one_none, one_some, get_behind, take_next}
use Rattle.tk_story.specs.Comparing.{AreTaken, Finds, IsDifference}
use Rattle.tk_story.specs.declared.ends.difference.Difference.{Difference}
use Rattle.tk_story.specs.declared.ends.difference.Direction.{Direction}
use Rattle.tk_story.specs.declared.ends.join_fault.JoinFault.{JoinFault}
use Rattle.tk_story.specs.declared.ends.join_fault.JoinFault.TheVariants.{Differs, NoMemory}
use Rattle.tk_story.specs.Ends.{IsFirstDifference, IsOrdered, KeptLink, with_odd}

-- ---- lists

-- a list is its front, the one at a place, and what is behind
pub parted : {A : Type 0} (xs : List A) (n : ℕ) (x : A) → slice_get xs n ≡ Some x → xs ≡ take n xs ++ x ∷ drop (suc n) xs
parted [] n x e = absurd cc
parted (y ∷ xs) zero x e = (let s : y ≡ x = cc in ap (λ z. z ∷ xs) s)
parted (y ∷ xs) (suc n) x e = ap (λ zs. y ∷ zs) (parted xs n x e)

-- a front with one more
pub front_grows : {A : Type 0} (xs ys : List A) (x : A) → IsFront xs ys → slice_get ys (length xs) ≡ Some x → IsFront (xs ++ x ∷ []) ys
front_grows xs ys x h e = record {
  is =
      let l = length-append xs (x ∷ []) in
      let n : length (xs ++ x ∷ []) ≡ suc (length xs) = omega (arith, l) in
      sym (ap (λ k. take k ys) n ∙ take_next ys (length xs) x e ∙ ap (λ zs. zs ++ x ∷ []) (sym h.is));
}

-- a front of a list, each read as something else
pub front_maps : {A B : Type 0} (f : A → B) (xs ys : List A) → IsFront xs ys → IsFront (map f xs) (map f ys)
front_maps f xs ys h = record { is = ap (map f) h.is ∙ sym (take-map f (length xs) ys) ∙ ap (λ k. take k (map f ys)) (sym (length-map xs f)) }

-- ---- what is read of a list, one entry more

pub passes_over : {E : Type 0} (read : E → Option Frame) (xs : List E) (n : ℕ) (e : E) → slice_get xs n ≡ Some e → read e ≡ None → filter_map read (take (suc n) xs) ≡ filter_map read (take n xs)
passes_over read xs n e at none =
    ap (filter_map read) (take_next xs n e at) ∙ filter_map-append read (take n xs) (e ∷ []) ∙ ap (λ (gs : List Frame). filter_map read (take n xs) ++ gs) (one_none read e none) ∙ append-nil (filter_map read (take n xs))

pub reads_on : {E : Type 0} (read : E → Option Frame) (xs : List E) (n : ℕ) (e : E) (g : Frame) → slice_get xs n ≡ Some e → read e ≡ Some g → filter_map read (take (suc n) xs) ≡ filter_map read (take n xs) ++ g ∷ []
reads_on read xs n e g at some =
    ap (filter_map read) (take_next xs n e at) ∙ filter_map-append read (take n xs) (e ∷ []) ∙ ap (λ (gs : List Frame). filter_map read (take n xs) ++ gs) (one_some read e g some)

pub read_parted : {E : Type 0} (read : E → Option Frame) (xs : List E) (n : ℕ) (e : E) (g : Frame) → slice_get xs n ≡ Some e → read e ≡ Some g → filter_map read xs ≡ filter_map read (take n xs) ++ g ∷ filter_map read (drop (suc n) xs)
read_parted {E} read xs n e g at some =
    let behind = drop (suc n) xs in
    ap (filter_map read) (parted xs n e at) ∙ filter_map-append read (take n xs) (e ∷ behind)
    ∙ ap (λ (gs : List Frame). filter_map read (take n xs) ++ gs) (filter_map-append read (e ∷ []) behind ∙ ap (λ (gs : List Frame). gs ++ filter_map read behind) (one_some read e g some))

-- ---- what was received so far is what was sent

-- so many frames were received in so many entries, as they were sent
pub record Agrees (sent passed : List Frame) (place entries : ℕ) : Type 0 where
  pub count : place ≡ length passed
  pub few : place ≤ entries
  pub front : IsFront passed sent

pub agrees_over : {E : Type 0} (read : E → Option Frame) (xs : List E) (sent : List Frame) (place n : ℕ) (e : E) → slice_get xs n ≡ Some e → read e ≡ None
    → Agrees sent (filter_map read (take n xs)) place n → Agrees sent (filter_map read (take (n + 1) xs)) place (n + 1)
agrees_over read xs sent place n e at none h =
    let same : filter_map read (take (n + 1) xs) ≡ filter_map read (take n xs) = ap (λ k. filter_map read (take k xs)) (let k : n + 1 ≡ suc n = omega arith in k) ∙ passes_over read xs n e at none in
    record {
      count = h.count ∙ ap length (sym same);
      few = let few = h.few in omega (arith, few);
      front = subst (λ passed. IsFront passed sent) (sym same) h.front;
    }

pub agrees_on : {E : Type 0} (read : E → Option Frame) (xs : List E) (sent : List Frame) (place n : ℕ) (e : E) (g : Frame) → slice_get xs n ≡ Some e → read e ≡ Some g → slice_get sent place ≡ Some g
    → Agrees sent (filter_map read (take n xs)) place n → Agrees sent (filter_map read (take (n + 1) xs)) (place + 1) (n + 1)
agrees_on read xs sent place n e g at some there h =
    let passed = filter_map read (take n xs) in
    let same : filter_map read (take (n + 1) xs) ≡ passed ++ g ∷ [] = ap (λ k. filter_map read (take k xs)) (let k : n + 1 ≡ suc n = omega arith in k) ∙ reads_on read xs n e g at some in
    record {
      count = (let l = length-append passed (g ∷ []) in let c = h.count in let m = ap length same in omega (arith, l, c, m));
      few = let few = h.few in omega (arith, few);
      front = subst (λ xs. IsFront xs sent) (sym same) (front_grows passed sent g h.front (subst (λ k. slice_get sent k ≡ Some g) h.count there));
    }

-- ---- the end of a walk

differs_behind : (frames : List Frame) (rest : List Received) (sent : List Frame) (received : Received) (link : KeptLink) → link.sent ≡ sent → link.received ≡ map r.Frame frames ++ received ∷ rest
    → IsFront frames sent → option_map r.Frame (slice_get sent (length frames)) ≢ Some received → IsFirstDifference link (length frames) (slice_get sent (length frames)) received
differs_behind frames rest sent received link sent_is received_is front other =
    let n : length frames ≡ length (map r.Frame frames) = sym (length-map frames r.Frame) in
    record {
      same =
          ap (take (length frames)) received_is ∙ ap (λ k. take k (map r.Frame frames ++ received ∷ rest)) n ∙ take-append_seam (map r.Frame frames) (received ∷ rest)
          ∙ ap (map r.Frame) (front.is ∙ ap (take (length frames)) (sym sent_is));
      sent_is = ap (λ gs. slice_get gs (length frames)) sent_is;
      received_is = ap (λ gs. slice_get gs (length frames)) received_is ∙ ap (slice_get (map r.Frame frames ++ received ∷ rest)) n ∙ get_behind (map r.Frame frames) received rest;
      other = other;
    }

with_odd_first : (g : Frame) (gs : List Frame) (odd : Option Received) → with_odd (g ∷ gs) odd ≡ r.Frame g ∷ with_odd gs odd
with_odd_first g gs None = refl
with_odd_first g gs (Some odd) = refl

with_odd_parted : (xs ys : List Frame) (odd : Option Received) → with_odd (xs ++ ys) odd ≡ map r.Frame xs ++ with_odd ys odd
with_odd_parted [] ys odd = refl
with_odd_parted (x ∷ xs) ys odd = with_odd_first x (xs ++ ys) odd ∙ ap (λ zs. r.Frame x ∷ zs) (with_odd_parted xs ys odd)

pub frame_of : (o : Option Frame) (g : Frame) → option_map r.Frame o ≡ Some (r.Frame g) → o ≡ Some g
frame_of None g e = absurd cc
frame_of (Some x) g e = (let s : x ≡ g = cc in ap Some s)

-- a received frame is not the one that was sent
pub differs_here : {E : Type 0} (read : E → Option Frame) (xs : List E) (sent : List Frame) (odd : Option Received) (place n : ℕ) (e : E) (g : Frame) → slice_get xs n ≡ Some e → read e ≡ Some g
    → (slice_get sent place ≡ Some g → ⊥) → Agrees sent (filter_map read (take n xs)) place n
    → IsFirstDifference (record { sent = sent; received = with_odd (filter_map read xs) odd }) place (slice_get sent place) (r.Frame g)
differs_here read xs sent odd place n e g at some other h =
    let passed = filter_map read (take n xs) in
    let behind = filter_map read (drop (suc n) xs) in
    let link : KeptLink = record { sent = sent; received = with_odd (filter_map read xs) odd } in
    let is : with_odd (filter_map read xs) odd ≡ map r.Frame passed ++ r.Frame g ∷ with_odd behind odd =
    ap (λ gs. with_odd gs odd) (read_parted read xs n e g at some) ∙ with_odd_parted passed (g ∷ behind) odd ∙ ap (λ gs. map r.Frame passed ++ gs) (with_odd_first g behind odd) in
    let none : option_map r.Frame (slice_get sent (length passed)) ≢ Some (r.Frame g) = λ same. other (ap (slice_get sent) h.count ∙ frame_of (slice_get sent (length passed)) g same) in
    subst (λ k. IsFirstDifference link k (slice_get sent k) (r.Frame g)) (sym h.count) (differs_behind passed (with_odd behind odd) sent (r.Frame g) link refl is h.front none)

-- all was received as it was sent, and nothing is odd
pub found_none : (link : KeptLink) (frames : List Frame) (odd : Option Received) (place : ℕ) (next : Option Frame) → odd ≡ None → AreTaken link frames odd place next → IsOrdered link
found_none link frames odd place next is h =
    subst (λ xs. IsFront xs (map r.Frame link.sent)) (sym (h.received_is ∙ ap (with_odd frames) is)) (front_maps r.Frame frames link.sent h.front)

at_place : (link : KeptLink) (frames : List Frame) (odd : Option Received) (place : ℕ) (next : Option Frame) → AreTaken link frames odd place next → slice_get link.sent (length frames) ≡ next
at_place link frames odd place next h = ap (slice_get link.sent) (sym h.count) ∙ h.next_is

-- what is odd was sent next
pub found_sent : (link : KeptLink) (frames : List Frame) (odd : Option Received) (place : ℕ) (next : Option Frame) (o : Received) → odd ≡ Some o → option_map r.Frame next ≡ Some o → AreTaken link frames odd place next → IsOrdered link
found_sent link frames odd place next o is same h =
    let there : slice_get (map r.Frame link.sent) (length (map r.Frame frames)) ≡ Some o =
    ap (slice_get (map r.Frame link.sent)) (length-map frames r.Frame) ∙ slice_get-map r.Frame link.sent (length frames) ∙ ap (option_map r.Frame) (at_place link frames odd place next h) ∙ same in
    subst (λ xs. IsFront xs (map r.Frame link.sent)) (sym (h.received_is ∙ ap (with_odd frames) is)) (front_grows (map r.Frame frames) (map r.Frame link.sent) o (front_maps r.Frame frames link.sent h.front) there)

-- what is odd was not sent next
pub found_other : (link : KeptLink) (frames : List Frame) (odd : Option Received) (place : ℕ) (next : Option Frame) (o : Received) → odd ≡ Some o → (option_map r.Frame next ≡ Some o → ⊥) → AreTaken link frames odd place next
    → IsFirstDifference link place next o
found_other link frames odd place next o is other h =
    let next_is = at_place link frames odd place next h in
    let d = differs_behind frames [] link.sent o link refl (h.received_is ∙ ap (with_odd frames) is) h.front (λ e. other (ap (option_map r.Frame) (sym next_is) ∙ e)) in
    subst (λ x. IsFirstDifference link place x o) next_is (subst (λ k. IsFirstDifference link k (slice_get link.sent (length frames)) o) (sym h.count) d)

-- ---- what a look at a link answers

pub finds_difference : (mon : Mon) (direction : Direction) (place : ℕ) (next : Option Frame) (received : Received) (link : KeptLink) (result : Result (Unit {0}) JoinFault) → IsErr result
    → IfErr result (IsDifference mon direction place next received) → IsFirstDifference link place next received → Finds mon direction link result
finds_difference mon direction place next received link (Ok done) never fault d = absurd (true≢false (sym never))
finds_difference mon direction place next received link (Err NoMemory) never fault d = tt
finds_difference mon direction place next received link (Err (Differs found)) never fault d = (
  ap (λ (f : Difference). f.mon) fault,
  ap (λ (f : Difference). f.direction) fault,
  subst (λ (f : Difference). IsFirstDifference link f.place f.sent f.received) (sym fault) d,
)
