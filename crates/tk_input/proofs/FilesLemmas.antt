-- Looking a file up by its name.
use Rattle.std.proofs.Common.{◌≡◌, ℕ, ◌<◌, List, [], ◌∷◌, length, map, get_or, Option, Some, None, Bool, true, false, cond, refl, sym, ap, ◌∙◌, bytes_eq, string_bytes, option_map, Vec, String}
use Rattle.std.specs.Prelude.{find, position, ◌==◌}
use Rattle.std.specs.List.{list_any}
use Rattle.tk_input.specs.Files.{one_more}
use Rattle.tk_input.specs.MapFiles.{MapFilesView, content_of, files_of, given, read_of}
use Rattle.tk_input.proofs.CountLemmas.{position_found, find-found, find-missing}

find-map-cons : {X Y : Type 0} (b : Bool) (f : X → Y) (x : X) (rest : Option X) (mapped : Option Y) → mapped ≡ option_map f rest → cond b (Some (f x)) mapped ≡ option_map f (cond b (Some x) rest)
find-map-cons true f x rest mapped e = refl
find-map-cons false f x rest mapped e = e

-- a search among values is one among what they come from
pub find-map : {X Y : Type 0} (f : X → Y) (p : Y → Bool) (xs : List X) → find p (map f xs) ≡ option_map f (find (λ x. p (f x)) xs)
find-map f p [] = refl
find-map f p (x ∷ xs) = find-map-cons (p (f x)) f x (find (λ y. p (f y)) xs) (find p (map f xs)) (find-map f p xs)

content_of-files_of : {A B : Type 0} (files : List (String A × Vec ℕ B)) (name : List ℕ) → content_of (files_of files) name ≡ option_map (λ f. f.1.items) (find (λ f. bytes_eq (string_bytes f.0) name) files)
content_of-files_of {A} {B} files name =
    ap (λ (o : Option (List ℕ × List ℕ)). option_map (λ f. f.1) o) (find-map (λ (f : String A × Vec ℕ B). (string_bytes f.0, f.1.items)) (λ f. bytes_eq f.0 name) files)
    ∙ twice (find (λ f. bytes_eq (string_bytes f.0) name) files)
  where
    twice : (o : Option (String A × Vec ℕ B)) → option_map (λ (f : List ℕ × List ℕ). f.1) (option_map (λ (f : String A × Vec ℕ B). (string_bytes f.0, f.1.items)) o) ≡ option_map (λ f. f.1.items) o
    twice None = refl
    twice (Some f) = refl

-- the content at the place of a name
pub content_found : {A B : Type 0} (files : List (String A × Vec ℕ B)) (name : List ℕ) (place : Option ℕ) (i : ℕ) (d : String A × Vec ℕ B) → place ≡ position (λ f. bytes_eq (string_bytes f.0) name) files → place ≡ Some i → content_of (files_of files) name ≡ Some (get_or files i d).1.items
content_found {A} {B} files name place i d told is =
    content_of-files_of files name
    ∙ ap (λ (o : Option (String A × Vec ℕ B)). option_map (λ f. f.1.items) o) (find-found (λ f. bytes_eq (string_bytes f.0) name) files i d (position_found (λ f. bytes_eq (string_bytes f.0) name) files i (sym told ∙ is)))

pub content_within : {A B : Type 0} (files : List (String A × Vec ℕ B)) (name : List ℕ) (place : Option ℕ) (i : ℕ) → place ≡ position (λ f. bytes_eq (string_bytes f.0) name) files → place ≡ Some i → i < length files
content_within files name place i told is = (position_found (λ f. bytes_eq (string_bytes f.0) name) files i (sym told ∙ is)).within

pub content_missing : {A B : Type 0} (files : List (String A × Vec ℕ B)) (name : List ℕ) (place : Option ℕ) → place ≡ position (λ f. bytes_eq (string_bytes f.0) name) files → place ≡ None → content_of (files_of files) name ≡ None
content_missing {A} {B} files name place told is =
    content_of-files_of files name
    ∙ ap (λ (o : Option (String A × Vec ℕ B)). option_map (λ f. f.1.items) o) (find-missing (λ f. bytes_eq (string_bytes f.0) name) files (sym told ∙ is))

-- what is given under the number of a read and the file of its name is what the read gives
pub given_is : (m : MapFilesView) (name : List ℕ) (fails : Bool) (number : ℕ) (numbers : List ℕ) (file : Option (List ℕ)) → fails ≡ list_any (λ i. i == number) numbers → number ≡ one_more m.reads → numbers ≡ m.fails → file ≡ content_of m.files name → given fails file ≡ read_of m name
given_is m name fails number numbers file tested at all found =
    ap (λ (b : Bool). given b file) tested
    ∙ ap (λ (n : ℕ). given (list_any (λ i. i == n) numbers) file) at
    ∙ ap (λ (ns : List ℕ). given (list_any (λ i. i == one_more m.reads) ns) file) all
    ∙ ap (λ (o : Option (List ℕ)). given (list_any (λ i. i == one_more m.reads) m.fails) o) found
