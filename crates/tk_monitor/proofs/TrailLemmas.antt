-- The places of the frames sent, when a trail grows.
use Rattle.std.proofs.Common.{◌≡◌, ℕ, suc, zero, ◌<◌, List, [], ◌∷◌, ◌++◌, length, map, get_or, Some, refl, sym, ap, ◌∙◌, arith}
use Rattle.std.specs.Prelude.{slice_get}
use Rattle.std.proofs.lemmas.List.{map-append}
use Rattle.tk_base.specs.declared.ids.Feeder.{Feeder}
use Rattle.tk_frames.specs.declared.frame.Frame.{Frame}
use Rattle.tk_trail.specs.Readings.{sent_by}
use Rattle.tk_trail.specs.declared.entry.Entry.{Entry}
use Rattle.tk_trail.specs.declared.entry.Entry.TheVariants.{Raised, Took, Sent}
use Rattle.tk_trail.proofs.ReadingsLemmas.{sent_by-raised, sent_by-took, sent_by-sent}
use Rattle.tk_monitor.specs.Trail.{ArePlacesSent}

got_front : (xs ys : List Entry) (i : ℕ) (e : Entry) → slice_get xs i ≡ Some e → slice_get (xs ++ ys) i ≡ Some e
got_front [] ys i e got = cc
got_front (x ∷ xs) ys zero e got = got
got_front (x ∷ xs) ys (suc i) e got = got_front xs ys i e got

got_last : (xs : List Entry) (e : Entry) → slice_get (xs ++ e ∷ []) (length xs) ≡ Some e
got_last [] e = refl
got_last (x ∷ xs) e = got_last xs e

-- what stood at a place still stands there
kept : (entries more : List Entry) (places : List ℕ) (frames : List Frame) → map (slice_get entries) places ≡ map (λ (frame : Frame). Some (Sent frame)) frames → map (slice_get (entries ++ more)) places ≡ map (λ (frame : Frame). Some (Sent frame)) frames
kept entries more [] frames same = same
kept entries more (p ∷ ps) [] same = cc
kept entries more (p ∷ ps) (frame ∷ frames) same =
    let here : slice_get entries p ≡ Some (Sent frame) = cc in
    let first : slice_get (entries ++ more) p ≡ Some (Sent frame) = got_front entries more p (Sent frame) here in
    let rest : map (slice_get (entries ++ more)) ps ≡ map (λ (f : Frame). Some (Sent f)) frames = kept entries more ps frames (cc) in
    cc

pub places-raised : (entries : List Entry) (places : List ℕ) (feeder : Feeder) → ArePlacesSent entries places → ArePlacesSent (entries ++ Raised feeder ∷ []) places
places-raised entries places feeder same =
    kept entries (Raised feeder ∷ []) places (sent_by entries) same ∙ sym (ap (λ frames. map (λ (f : Frame). Some (Sent f)) frames) (sent_by-raised entries feeder))

pub places-took : (entries : List Entry) (places : List ℕ) (frame : Frame) → ArePlacesSent entries places → ArePlacesSent (entries ++ Took frame ∷ []) places
places-took entries places frame same =
    kept entries (Took frame ∷ []) places (sent_by entries) same ∙ sym (ap (λ frames. map (λ (f : Frame). Some (Sent f)) frames) (sent_by-took entries frame))

pub places-sent : (entries : List Entry) (places : List ℕ) (frame : Frame) → ArePlacesSent entries places → ArePlacesSent (entries ++ Sent frame ∷ []) (places ++ length entries ∷ [])
places-sent entries places frame same =
    let now = entries ++ Sent frame ∷ [] in
    let old : map (slice_get now) places ≡ map (λ (f : Frame). Some (Sent f)) (sent_by entries) = kept entries (Sent frame ∷ []) places (sent_by entries) same in
    let last : slice_get now (length entries) ≡ Some (Sent frame) = got_last entries (Sent frame) in
    map-append (slice_get now) places (length entries ∷ [])
    ∙ ap (λ front. front ++ slice_get now (length entries) ∷ []) old
    ∙ ap (λ e. map (λ (f : Frame). Some (Sent f)) (sent_by entries) ++ e ∷ []) last
    ∙ sym (map-append (λ (f : Frame). Some (Sent f)) (sent_by entries) (frame ∷ []))
    ∙ sym (ap (λ frames. map (λ (f : Frame). Some (Sent f)) frames) (sent_by-sent entries frame))

-- a frame sent, by its number and by its place
pub record SentAt (entries : List Entry) (places : List ℕ) (frames : List Frame) (i : ℕ) : Type 0 where
  pub frame : Frame
  pub within : i < length places
  pub number : slice_get frames i ≡ Some frame
  pub place : slice_get entries (get_or places i 0) ≡ Some (Sent frame)

pub sent_place : (entries : List Entry) (places : List ℕ) (frames : List Frame) (i : ℕ) → map (slice_get entries) places ≡ map (λ (f : Frame). Some (Sent f)) frames → i < length frames → SentAt entries places frames i
sent_place entries places [] i same within = absurd (omega arith)
sent_place entries [] (f ∷ frames) i same within = cc
sent_place entries (p ∷ ps) (f ∷ frames) zero same within = record { frame = f; within = omega arith; number = refl; place = cc }
sent_place entries (p ∷ ps) (f ∷ frames) (suc i) same within =
    let there = sent_place entries ps frames i (cc) (omega arith) in
    record { frame = there.frame; within = omega (arith, there.within); number = there.number; place = there.place }

-- what stands at a place
pub got_within : (xs : List Entry) (i : ℕ) (e : Entry) → slice_get xs i ≡ Some e → i < length xs
got_within [] i e got = cc
got_within (x ∷ xs) zero e got = omega arith
got_within (x ∷ xs) (suc i) e got = omega (arith, got_within xs i e got)

pub got_is : (xs : List Entry) (i : ℕ) (e d : Entry) → slice_get xs i ≡ Some e → get_or xs i d ≡ e
got_is [] i e d got = cc
got_is (x ∷ xs) zero e d got = cc
got_is (x ∷ xs) (suc i) e d got = got_is xs i e d got
