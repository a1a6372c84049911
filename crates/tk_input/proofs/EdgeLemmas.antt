-- What is read up to a limit, of bytes that are known.
use Rattle.std.proofs.Common.{◌≡◌, ℕ, ◌<◌, List, [], ◌∷◌, ◌++◌, length, take, drop, Option, Some, None, option_map, refl, subst, ap, sym, ◌∙◌, arith}
use Rattle.std.specs.Io.{appended_bytes}
use Rattle.std.specs.Io.KnownBytes.{Consumes}
use Rattle.std.specs.Prelude.{IfSome}
use Rattle.std.proofs.Math.Seq.{take-append_seam}
use Rattle.std.proofs.lemmas.List.{append_assoc, length-take, take-append-drop, take_all}
use Rattle.tk_base.specs.History.{IsFront}

nothing_before : (old new xs : List ℕ) → length old ≡ 0 → new ≡ old ++ xs → new ≡ xs
nothing_before [] new xs none is = is
nothing_before (x ∷ old) new xs none is = absurd (omega (arith, none))

-- a reader that is limited gives a front of what the reader has
pub known_front : (at limit : ℕ) (inner known : Option (List ℕ)) (P : List ℕ → Type 0) → at ≡ limit → inner ≡ known → IfSome (option_map (take at) inner) P → IfSome (option_map (take limit) known) P
known_front at limit inner known P same whole found = subst (λ (o : Option (List ℕ)). IfSome o P) (ap (λ (n : ℕ). option_map (take n) inner) same ∙ ap (λ (o : Option (List ℕ)). option_map (take limit) o) whole) found

-- fewer bytes than the limit are all that there are
pub read_whole : (known : Option (List ℕ)) (limit : ℕ) (old new : List ℕ) → length old ≡ 0 → IfSome (option_map (take limit) known) (λ xs. new ≡ old ++ xs) → length new < limit → IfSome known (λ told. new ≡ told)
read_whole None limit old new none is short = tt
read_whole (Some told) limit old new none is short =
    let some : new ≡ take limit told = nothing_before old new (take limit told) none is in
    some ∙ take_all limit told (omega (arith, ap (λ (xs : List ℕ). length xs) some, length-take limit told, short))

-- what was appended to nothing
appended_all : (old new : List ℕ) → length old ≡ 0 → appended_bytes old new ≡ new
appended_all [] new none = refl
appended_all (x ∷ old) new none = absurd (omega (arith, none))

-- a list that begins with some bytes has them as its front
front_of : (told bytes rest : List ℕ) → told ≡ bytes ++ rest → IsFront bytes told
front_of told bytes rest is = record { is = sym (take-append_seam bytes rest) ∙ ap (λ (xs : List ℕ). take (length bytes) xs) (sym is) }

-- bytes that were consumed of a reader with a limit are a front of what the reader has
pub consumed_front : (at : ℕ) (inner known left : Option (List ℕ)) (old new : List ℕ) → length old ≡ 0 → inner ≡ known → Consumes (option_map (take at) inner) left (appended_bytes old new) → IfSome known (λ told. IsFront new told)
consumed_front at inner None left old new none is gone = tt
consumed_front at None (Some told) left old new none is gone = absurd (cc)
consumed_front at (Some held) (Some told) None old new none is gone = absurd gone
consumed_front at (Some held) (Some told) (Some rest) old new none is gone =
    let same : held ≡ told = cc in
    front_of told new (rest ++ drop at held)
    (sym same ∙ sym (take-append-drop at held) ∙ ap (λ (xs : List ℕ). xs ++ drop at held) (gone ∙ ap (λ (xs : List ℕ). xs ++ rest) (appended_all old new none)) ∙ append_assoc new rest (drop at held))
