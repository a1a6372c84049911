-- What clap finds, or that it refuses.
use Rattle.std.proofs.Common.{◌≡◌, ◌≢◌, ℕ, Bool, true, false, List, [], ◌∷◌, Option, Some, None, refl, sym, ap, ◌∙◌, inl, inr}
use Rattle.std.specs.Prelude.{◌&&◌, option_and_then}
use Rattle.clap.specs.Words.{App, HasKind, Kinds, Row, fault_of, is_simple_and_free, kind_of, matches_of}
use Rattle.clap.specs.declared.error.Error.{Error}
use Rattle.clap.specs.declared.error.kind.ErrorKind.TheVariants as kind
use Rattle.tk_words.specs.Clap.{app_named, found_in, unless_any}
use Rattle.tk_words.specs.Words.{Asked, asked_under, verb_of, words_of}
use Rattle.tk_words.specs.declared.verb.Verb.{Verb}
use Rattle.tk_words.specs.declared.verb.Verb.TheVariants.{Replay, Generate, Live, Window, Multi, Sessions, Trace, Check, Show, Coordinate, Monitor, Help, Version}

-- the first of two tests that both hold
pub first_holds : (a b : Bool) → (a && b) ≡ true → a ≡ true
first_holds true b is = refl
first_holds false b is = is

-- nothing is at fault
pub found : (a : App) (words : List (List ℕ)) (rows : List Row) → fault_of a words ≡ [] → rows ≡ matches_of a words → found_in a words ≡ Some rows
found a words rows none is = ap (λ (faults : Kinds). unless_any faults (matches_of a words)) none ∙ ap (λ (r : List Row). Some r) (sym is)

refused_by : (kinds : Kinds) (rows : List Row) (e : Error) → kind_of e ≢ kind.OutOfMemory → HasKind kinds e → unless_any kinds rows ≡ None
refused_by [] rows e other (inl memory) = absurd (other memory)
refused_by [] rows e other (inr none) = elim none [ ]
refused_by (k ∷ kinds) rows e other has = refl

-- something other than memory is
pub refused : (a : App) (words : List (List ℕ)) (e : Error) → kind_of e ≢ kind.OutOfMemory → HasKind (fault_of a words) e → found_in a words ≡ None
refused a words e other has = refused_by (fault_of a words) (matches_of a words) e other has

-- what a form makes of it
pub formed : {A : Type 0} (form : List Row → Option A) (a b : App) (words : List (List ℕ)) (rows : List Row) (value : Option A)
    → a ≡ b → found_in a words ≡ Some rows → form rows ≡ value → option_and_then form (found_in b words) ≡ value
formed form a b words rows value same found is = ap (λ (x : App). option_and_then form (found_in x words)) (sym same) ∙ ap (λ (r : Option (List Row)). option_and_then form r) found ∙ is

-- clap takes the rules of each command
pub each_is_free : (verb : Verb) → is_simple_and_free (app_named verb) ≡ true
each_is_free Replay = refl
each_is_free Generate = refl
each_is_free Live = refl
each_is_free Window = refl
each_is_free Multi = refl
each_is_free Sessions = refl
each_is_free Trace = refl
each_is_free Check = refl
each_is_free Show = refl
each_is_free Coordinate = refl
each_is_free Monitor = refl
each_is_free Help = refl
each_is_free Version = refl

-- what words ask for is what their command does
pub under : (words : List (List ℕ)) (verb : Verb) (value : Option Asked) → verb_of words ≡ Some verb → asked_under verb words ≡ value → words_of words ≡ value
under words verb value named is = ap (λ (o : Option Verb). option_and_then (λ v. asked_under v words) o) named ∙ is
