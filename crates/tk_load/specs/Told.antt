-- The input over files that tell what they hold.
use Rattle.std.specs.Prelude.{ℕ, ◌≡◌, ◌≤◌, List, [], ◌∷◌, ◌++◌, length, map, Option, Some, None, option_map, All, Contains}
use Rattle.tk_words.specs.Words.{SourceWords}
use Rattle.tk_load.specs.Input.{File, ReadWords}
use Rattle.tk_load.specs.Reads.{FileReads, HasFailed}
use Rattle.tk_load.specs.declared.status.Status.{Status}
use Rattle.tk_load.specs.declared.status.Status.TheVariants as s

-- a file with what stands under its name
abbrev pub file_by : (List ℕ → List ℕ) → List ℕ → File
file_by contents name = record { name = name; content = Some (contents name) }

-- some words with what stands under the names of their files
abbrev pub read_by : (List ℕ → List ℕ) → SourceWords → ReadWords
read_by contents words = record {
  k = words.k;
  epsilon = words.epsilon;
  own_weight = words.own_weight;
  objects = file_by contents words.objects;
  order = option_map (file_by contents) words.order;
  width = words.width;
  logs = map (λ log. (log.0, file_by contents log.1)) words.logs;
}

-- the file of an order, where there is one
abbrev pub only : Option (List ℕ) → List (List ℕ)
only None = []
only (Some name) = name ∷ []

-- the files of some words, in the order of work
abbrev pub files_of : SourceWords → List (List ℕ)
files_of words = words.objects ∷ (map (λ log. log.1) words.logs ++ only words.order)

-- each of these files tells what stands under its name, and no read of it failed
pub record AreTold (reads : FileReads) (contents : List ℕ → List ℕ) (files : List (List ℕ)) : Type 0 where
  pub content : All (λ name. reads.told name ≡ Some (contents name)) files
  pub unfailed : All (λ name. HasFailed reads name → ⊥) files

-- a file tells these bytes, at most 64 MiB, and no read of it failed
pub record IsTold (reads : FileReads) (name bytes : List ℕ) : Type 0 where
  pub content : reads.told name ≡ Some bytes
  pub unfailed : HasFailed reads name → ⊥
  pub fits : length bytes ≤ 67108864

-- a file that is told to be unreadable is one of the words, and its faults rose
abbrev pub IsCounted : FileReads → SourceWords → Status → Type 0
IsCounted reads words (s.ReadFault file) = Contains (files_of words) file.items × HasFailed reads file.items
IsCounted reads words s.Done = Unit
IsCounted reads words s.Usage = Unit
IsCounted reads words (s.BadInput file line kind) = Unit
IsCounted reads words (s.TooGreat mon obj) = Unit
IsCounted reads words s.WriteFault = Unit
IsCounted reads words s.NoMemory = Unit
IsCounted reads words s.LinkFault = Unit
IsCounted reads words (s.LinkDiffers difference) = Unit
IsCounted reads words (s.BadTrace file fault) = Unit
