-- What is heard of an ordered stream of bytes is a front of what was said.
use Rattle.std.proofs.Common.{◌≡◌, ◌≤◌, ◌<◌, ℕ, ◌++◌, List, [], ◌∷◌, length, take, refl, ap, sym, ◌∙◌, append_assoc, arith, length-append, append-nil}
use Rattle.std.proofs.lemmas.List.{length-take, take-take}
use Rattle.byteorder.specs.Endian.{big_bytes}
use Rattle.byteorder.specs.Numbers.{length-bytes_high_first}
use Rattle.tk_base.specs.History.{IsFront}
use Rattle.tk_frames.specs.declared.frame.Frame.{Frame}
use Rattle.tk_frames.specs.Spelling.{framed, payload, spelling}
use Rattle.tk_wire.specs.Parse.{HaveSpellings, spellings}
use Rattle.tk_end.specs.Link.{LinkView}
use Rattle.tk_journal.specs.declared.noted.Noted.{Noted}
use Rattle.tk_trail.specs.declared.entry.Entry.{Entry}
use Rattle.tk_wire.proofs.ParseLemmas.{first_alike}
use Rattle.tk_apart.specs.Carried.{IsCarried}
use Rattle.tk_apart.specs.Connected.{AreEnds, IsConnection}

-- a frame has bytes
some_bytes : (text : List ℕ) → 0 < length (framed text)
some_bytes text = let a = length-append (big_bytes 4 (length text)) text in let b = length-bytes_high_first 4 (length text) in omega (arith, a, b)

none_left : (version : ℕ) (f : Frame) (rest : List ℕ) → spelling version f ++ rest ≡ [] → ⊥
none_left version f rest is =
    let long = ap (λ (xs : List ℕ). length xs) is in
    omega (arith, long, length-append (spelling version f) rest, some_bytes (payload version f))

-- what begins a stream of frames is a front of them
front_of_stream : (version : ℕ) (hs ss : List Frame) (r : List ℕ) → HaveSpellings version hs → HaveSpellings version ss → spellings version hs ++ r ≡ spellings version ss → hs ≡ take (length hs) ss
front_of_stream version [] ss r heard said is = refl
front_of_stream version (h ∷ hs) [] r heard said is =
    absurd (none_left version h (spellings version hs ++ r) (sym (append_assoc (spelling version h) (spellings version hs) r) ∙ is))
front_of_stream version (h ∷ hs) (s ∷ ss) r heard said is =
    let one = first_alike version h s hs ss r [] heard said (is ∙ sym (append-nil (spellings version (s ∷ ss)))) in
    ap (λ x. x ∷ hs) one.0 ∙ ap (λ xs. s ∷ xs) (front_of_stream version hs ss r heard.1 said.1 (one.1 ∙ append-nil (spellings version ss)))

pub carried_front : (version : ℕ) (said heard : List Frame) → IsCarried version said heard → IsFront heard said
carried_front version said heard c = record {
  is = front_of_stream version heard said (c.unread ++ (c.ordered.rest ++ c.left)) c.took.each c.gave.each
      (sym (append_assoc (spellings version heard) c.unread (c.ordered.rest ++ c.left))
      ∙ ap (λ (xs : List ℕ). xs ++ (c.ordered.rest ++ c.left)) (sym c.took.parts)
      ∙ sym (append_assoc c.came c.ordered.rest c.left)
      ∙ ap (λ (xs : List ℕ). xs ++ c.left) (sym c.ordered.parts)
      ∙ c.gave.parts);
}

tails : {A : Type 0} (x y : A) (xs ys : List A) → x ∷ xs ≡ y ∷ ys → xs ≡ ys
tails x y xs ys e = cc

-- fronts without their first, and of fronts
pub front_behind : {A : Type 0} (x y : A) (xs ys : List A) → IsFront (x ∷ xs) (y ∷ ys) → IsFront xs ys
front_behind x y xs ys h = record { is = tails x y xs (take (length xs) ys) h.is }

pub front_of_front : {A : Type 0} (n : ℕ) (xs ys : List A) → IsFront xs (take n ys) → IsFront xs ys
front_of_front n xs ys h =
    let a = ap (λ zs. length zs) h.is in
    let short : length xs ≤ n = omega (arith, a, length-take (length xs) (take n ys), length-take n ys) in
    record { is = h.is ∙ take-take (length xs) n ys short }

pub connected : {V W : Type 0} (run : ℕ) (journal : List Noted) (mon : ℕ) (trail : List Entry) (port : LinkView V) (seat : LinkView W) → AreEnds run journal mon trail port seat → IsConnection run journal mon trail
connected run journal mon trail port seat h =
    let v = port.version in
    record {
      version = v;
      written_up = port.written;
      written_down = seat.written;
      up = record {
        went = port.traffic.went;
        left = port.output;
        came = seat.traffic.came;
        unread = seat.unread;
        gave = h.at_port.went h.tells_port;
        took = rw (sym h.version) (h.at_seat.came h.tells_seat);
        ordered = h.up;
      };
      down = record {
        went = seat.traffic.went;
        left = seat.output;
        came = port.traffic.came;
        unread = port.unread;
        gave = rw (sym h.version) (h.at_seat.went h.tells_seat);
        took = h.at_port.came h.tells_port;
        ordered = h.down;
      };
    }
