-- Frames that are taken one after the other.
use Rattle.std.proofs.Common.{◌≡◌, min, ℕ, List, [], ◌∷◌, ◌++◌, length, take, ap, sym, ◌∙◌, refl, subst, append_assoc, arith, Option, Some}
use Rattle.std.proofs.lemmas.List.{append-nil, length-take, take-take, take_all}
use Rattle.std.proofs.lemmas.Grind.{flat_map-append}
use Rattle.tk_base.specs.History.{IsFront}
use Rattle.tk_frames.specs.declared.frame.Frame.{Frame}
use Rattle.tk_frames.specs.Spelling.{spelling}
use Rattle.tk_wire.specs.Parse.{HaveSpellings, IsParse, spellings}
use Rattle.tk_end.specs.Actor.{TakesAll}
use Rattle.tk_end.specs.Inbox.{Leaves}
use Rattle.tk_end.specs.Hearing.{IsRefused, Takes}

pub HaveSpellings-append : (version : ℕ) (fs gs : List Frame) → HaveSpellings version fs → HaveSpellings version gs → HaveSpellings version (fs ++ gs)
HaveSpellings-append version [] gs left right = right
HaveSpellings-append version (f ∷ fs) gs left right = (left.0, HaveSpellings-append version fs gs left.1 right)

-- one parse behind another
pub parse_on : (version : ℕ) (fs gs : List Frame) (a b c : List ℕ) → IsParse version fs a b → IsParse version gs b c → IsParse version (fs ++ gs) a c
parse_on version fs gs a b c p q = record {
  each = HaveSpellings-append version fs gs p.each q.each;
  parts = p.parts ∙ ap (λ xs. spellings version fs ++ xs) q.parts ∙ sym (append_assoc (spellings version fs) (spellings version gs) c) ∙ ap (λ xs. xs ++ c) (sym (flat_map-append (spelling version) fs gs));
}

pub TakesAll-append : {A R : Type 0} (refusal : ℕ → Frame → A → Option R) (after : ℕ → Frame → A → A) (peer : ℕ) (a b c : A) (fs gs : List Frame) → TakesAll refusal after peer a fs b → TakesAll refusal after peer b gs c → TakesAll refusal after peer a (fs ++ gs) c
TakesAll-append refusal after peer a b c [] gs left right = subst (λ x. TakesAll refusal after peer x gs c) left right
TakesAll-append refusal after peer a b c (f ∷ fs) gs left right = (left.0, TakesAll-append refusal after peer (after peer f a) b c fs gs left.1 right)

pub front_refl : {X : Type 0} (xs : List X) → IsFront xs xs
front_refl xs = record { is = sym (take_all (length xs) xs (omega arith)) }

pub front_trans : {X : Type 0} (xs ys zs : List X) → IsFront xs ys → IsFront ys zs → IsFront xs zs
front_trans xs ys zs p q =
    let size : length xs ≡ min (length xs) (length ys) = ap length p.is ∙ length-take (length xs) ys in
    record { is = p.is ∙ ap (take (length xs)) q.is ∙ take-take (length xs) (length ys) zs (omega arith) }

-- nothing was taken
pub takes_nothing : {A R : Type 0} (refusal : ℕ → Frame → A → Option R) (after : ℕ → Frame → A → A) (heard said : ℕ → A → List Frame) (peer version : ℕ) (bytes : List ℕ) (a : A) → Takes refusal after heard said peer version bytes bytes a a
takes_nothing refusal after heard said peer version bytes a = record {
  frames = [];
  parse = record { each = tt; parts = refl };
  takes = refl;
  more = sym (append-nil (heard peer a));
  grown = front_refl (said peer a);
}

-- frames were taken, and more behind them
pub takes_on : {A R : Type 0} (refusal : ℕ → Frame → A → Option R) (after : ℕ → Frame → A → A) (heard said : ℕ → A → List Frame) (peer version : ℕ) (x y z : List ℕ) (a b c : A)
    → Takes refusal after heard said peer version x y a b → Takes refusal after heard said peer version y z b c → Takes refusal after heard said peer version x z a c
takes_on refusal after heard said peer version x y z a b c p q = record {
  frames = p.frames ++ q.frames;
  parse = parse_on version p.frames q.frames x y z p.parse q.parse;
  takes = TakesAll-append refusal after peer a b c p.frames q.frames p.takes q.takes;
  more = q.more ∙ ap (λ xs. xs ++ q.frames) p.more ∙ append_assoc (heard peer a) p.frames q.frames;
  grown = front_trans (said peer a) (said peer b) (said peer c) p.grown q.grown;
}

-- the front is as it was, and so is the actor who refuses it
pub stops_refused : {A R : Type 0} (refusal : ℕ → Frame → A → Option R) (peer v w : ℕ) (frame : Frame) (rest bytes same : List ℕ) (front : Option Frame) (a b : A) (why : R) → front ≡ Some frame → Leaves v frame bytes rest → refusal peer frame a ≡ Some why → w ≡ v → same ≡ bytes → b ≡ a → IsRefused refusal peer w same front b why
stops_refused refusal peer v w frame rest bytes same front a b why read leaves refused vs bs as_ = record {
  frame = frame;
  read = read;
  rest = rest;
  leaves = subst (λ x. Leaves x frame same rest) (sym vs) (subst (λ xs. Leaves v frame xs rest) (sym bs) leaves);
  refused = ap (refusal peer frame) as_ ∙ refused;
}
