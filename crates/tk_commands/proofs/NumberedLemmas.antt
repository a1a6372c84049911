-- The catalogue of the names o1, o2, .., one a line, is those names.
use Rattle.std.proofs.Common.{◌≡◌, ℕ, zero, suc, ◌+◌, ◌^◌, ◌<◌, ◌≤◌, Bool, true, false, ◌&&◌, List, [], ◌∷◌, ◌++◌, length, map, Some, None, Ok, add-zero, zero-add, codes, decimal, refl, ap, sym, subst, ◌∙◌, arith}
use Rattle.std.specs.Prelude.{bytes_eq, flat_map, nat_le}
use Rattle.std.specs.List.{list_all, list_any, range_with_len}
use Rattle.std.specs.Int.Digits.{AllBelowBase, digits_of}
use Rattle.std.proofs.lemmas.Bool.{le-leb, lt-leb, lt-ltb, ne_eqb, false_from_ne_true}
use Rattle.std.proofs.lemmas.Fmt.{decimal-digits_of, decimal_injective, length-decimal-le}
use Rattle.std.proofs.lemmas.Int.Digits.{all_below_base_digits_of}
use Rattle.std.proofs.lemmas.List.{append-nil, append_assoc, length-append, length-map}
use Rattle.std.proofs.lemmas.List.Elements.{All-map}
use Rattle.std.proofs.lemmas.List.Folds.{list_any_none}
use Rattle.std.proofs.lemmas.List.FromFn.{get_or-range_with_len, length-range_with_len, map-range_with_len_more}
use Rattle.std.proofs.lemmas.Slice.Eq.{bytes_eq-Decides}
use Rattle.csv.specs.Machine.{next_record}
use Rattle.csv.specs.Reading.{default_config, records_from, records_next, strip_bom}
use Rattle.csv.specs.Writing.{default_writer, needs_byte}
use Rattle.csv.specs.declared.parser.State.TheVariants as st
use Rattle.csv.proofs.RoundTrip.{plain-run, record-same, start-same}
use Rattle.tk_input.specs.Catalog.{catalog_of, is_name, name_added, some_names}
use Rattle.tk_input.specs.Records.{and_then, records_in, through}
use Rattle.tk_input.proofs.ThroughLemmas.{through-none, through-some}
use Rattle.tk_commands.specs.Generated.{name_of, names_made, names_text}

-- a byte that is no mark of the format, and is visible
plain_byte : (b : ℕ) → 48 ≤ b → needs_byte default_writer b ≡ false
plain_byte b low = rw (ne_eqb b 44 (λ e. omega (arith, e)), ne_eqb b 34 (λ e. omega (arith, e)), ne_eqb b 13 (λ e. omega (arith, e)), ne_eqb b 10 (λ e. omega (arith, e))) refl

abbrev visible : ℕ → Bool
visible b = nat_le 0x21 b && nat_le b 0x7e

visible_byte : (b : ℕ) → 48 ≤ b → b ≤ 111 → visible b ≡ true
visible_byte b low high = rw (le-leb 0x21 b (omega arith), le-leb b 0x7e (omega arith)) refl

plain_digits : (ds : List ℕ) → AllBelowBase 10 ds → list_any (needs_byte default_writer) (map (λ d. 48 + d) ds) ≡ false
plain_digits [] below = refl
plain_digits (d ∷ ds) below = rw (plain_byte (48 + d) (omega arith), plain_digits ds below.1) refl

visible_digits : (ds : List ℕ) → AllBelowBase 10 ds → list_all visible (map (λ d. 48 + d) ds) ≡ true
visible_digits [] below = refl
visible_digits (d ∷ ds) below = let low = below.0 in rw (visible_byte (48 + d) (omega arith) (omega arith), visible_digits ds below.1) refl

module _ (o : ℕ) (some : 0 < o) (few : o < 2 ^ 20) where
  digits : decimal o ≡ map (λ d. 48 + d) (digits_of 10 o)
  digits = decimal-digits_of o some (omega arith)

  pub plain_name : list_any (needs_byte default_writer) (name_of o) ≡ false
  plain_name = subst (λ (ds : List ℕ). list_any (needs_byte default_writer) (111 ∷ ds) ≡ false) (sym digits) (plain_digits (digits_of 10 o) (all_below_base_digits_of 10 o (omega arith)))

  visible_name : list_all visible (name_of o) ≡ true
  visible_name = subst (λ (ds : List ℕ). list_all visible (111 ∷ ds) ≡ true) (sym digits) (visible_digits (digits_of 10 o) (all_below_base_digits_of 10 o (omega arith)))

  short_name : length (name_of o) ≤ 255
  short_name = let most = length-decimal-le 7 o (omega arith) (omega arith) (omega arith) in omega (arith, most)

  -- it is a name
  pub name_is : is_name (name_of o) ≡ true
  name_is = rw (lt-ltb 0 (length (name_of o)) (omega arith), le-leb (length (name_of o)) 255 short_name, visible_name) refl

-- ---- the records

-- a line is a record of one field
next_name : (ds tail : List ℕ) → list_any (needs_byte default_writer) (111 ∷ ds) ≡ false → next_record default_config st.StartRecord [] [] (111 ∷ (ds ++ (10 ∷ tail))) ≡ Some ((111 ∷ ds) ∷ [], st.StartRecord, tail)
unfolding next_record
next_name ds tail plain = record-same [] [] 111 (ds ++ (10 ∷ tail)) refl refl ∙ start-same [] [] 111 (ds ++ (10 ∷ tail)) refl ∙ plain-run [] [] (111 ∷ ds) (10 ∷ tail) plain

abbrev line : ℕ → List ℕ
line o = name_of o ++ codes "\n"

abbrev row : ℕ → List (List ℕ)
row o = name_of o ∷ []

lines_more : (a n : ℕ) → flat_map line (range_with_len a (suc n)) ≡ 111 ∷ (decimal a ++ (10 ∷ flat_map line (range_with_len (a + 1) n)))
lines_more a n = append_assoc (name_of a) (10 ∷ []) (flat_map line (range_with_len (a + 1) n))

no_record : next_record default_config st.StartRecord [] [] [] ≡ None
unfolding next_record
no_record = refl

rows_read : (fuel a n : ℕ) → n < fuel → 0 < a → a + n ≤ 65537 → records_from default_config fuel st.StartRecord (flat_map line (range_with_len a n)) ≡ map row (range_with_len a n)
unfolding records_from
rows_read zero a n fueled some few = absurd (omega arith)
rows_read (suc fuel) a zero fueled some few = ap (records_next (records_from default_config fuel)) no_record
rows_read (suc fuel) a (suc n) fueled some few =
    ap (λ (t : List ℕ). records_next (records_from default_config fuel) (next_record default_config st.StartRecord [] [] t)) (lines_more a n)
    ∙ ap (records_next (records_from default_config fuel)) (next_name (decimal a) (flat_map line (range_with_len (a + 1) n)) (plain_name a some (omega arith)))
    ∙ ap (λ (rows : List (List (List ℕ))). row a ∷ rows) (rows_read fuel (a + 1) n (omega arith) (omega arith) (omega arith))

long_text : (a n : ℕ) → n ≤ length (flat_map line (range_with_len a n))
long_text a zero = omega arith
long_text a (suc n) =
    let more = long_text (a + 1) n in
    let text = ap (λ (t : List ℕ). length t) (lines_more a n) in
    let rest = length-append (decimal a) (10 ∷ flat_map line (range_with_len (a + 1) n)) in
    omega (arith, more, text, rest)

strip_plain : (rest : List ℕ) → strip_bom (111 ∷ rest) ≡ 111 ∷ rest
unfolding strip_bom
strip_plain [] = refl
strip_plain (b ∷ []) = refl
strip_plain (b ∷ c ∷ rest) = refl

strip_none : strip_bom [] ≡ []
unfolding strip_bom
strip_none = refl

strip_text : (n : ℕ) → strip_bom (names_text n) ≡ names_text n
strip_text zero = strip_none
strip_text (suc n) = ap (λ (t : List ℕ). strip_bom t) (lines_more 1 n) ∙ strip_plain (decimal 1 ++ (10 ∷ flat_map line (range_with_len 2 n))) ∙ sym (lines_more 1 n)

records_named : (n : ℕ) → n ≤ 65536 → records_in (names_text n) ≡ map row (range_with_len 1 n)
records_named n few =
    ap (λ (t : List ℕ). records_from default_config (length t + 1) st.StartRecord t) (strip_text n)
    ∙ rows_read (length (names_text n) + 1) 1 n (let long = long_text 1 n in omega (arith, long)) (omega arith) (omega arith)

text_more : (n a : ℕ) → flat_map line (range_with_len a (n + 1)) ≡ flat_map line (range_with_len a n) ++ line (a + n)
text_more zero a = append-nil (line a) ∙ ap (λ (o : ℕ). line o) (sym (add-zero a))
text_more (suc n) a =
    let count : suc n + 1 ≡ suc (n + 1) = omega arith in
    let last : (a + 1) + n ≡ a + suc n = omega arith in
    ap (λ (k : ℕ). flat_map line (range_with_len a k)) count
    ∙ ap (λ (t : List ℕ). line a ++ t) (text_more n (a + 1) ∙ ap (λ (o : ℕ). flat_map line (range_with_len (a + 1) n) ++ line o) last)
    ∙ sym (append_assoc (line a) (flat_map line (range_with_len (a + 1) n)) (line (a + suc n)))

-- one more name
pub names_more : (text : List ℕ) (n : ℕ) → text ≡ names_text n → text ++ (codes "o" ++ (decimal (n + 1) ++ codes "\n")) ≡ names_text (n + 1)
names_more text n is =
    let last : n + 1 ≡ 1 + n = omega arith in
    ap (λ (t : List ℕ). t ++ line (n + 1)) is ∙ ap (λ (o : ℕ). names_text n ++ line o) last ∙ sym (text_more n 1)

-- ---- the names

-- two names differ
name_other : (o m : ℕ) → m < o → o ≤ 65536 → bytes_eq (name_of o) (name_of m) ≡ false
name_other o m less few = false_from_ne_true (bytes_eq (name_of o) (name_of m)) (λ same.
    let texts : 111 ∷ decimal o ≡ 111 ∷ decimal m = (bytes_eq-Decides (name_of o) (name_of m)).0 same in
    let numbers = decimal_injective o m (omega arith) (omega arith) (cc texts) in omega (arith, numbers))

new_name : (o i : ℕ) → i < o → o ≤ 65536 → list_any (λ n. bytes_eq (name_of o) n) (map name_of (range_with_len 1 i)) ≡ false
new_name o i less few =
    list_any_none (λ n. bytes_eq (name_of o) n) (map name_of (range_with_len 1 i))
    (All-map (λ (n : List ℕ). bytes_eq (name_of o) n ≡ false) name_of (range_with_len 1 i)
    (λ k d within.
    let inside : k < i = omega (arith, length-range_with_len 1 i) in
    subst (λ (m : ℕ). bytes_eq (name_of o) (name_of m) ≡ false) (sym (get_or-range_with_len 1 i k d inside)) (name_other o (1 + k) (omega arith) few)))

abbrev named : ℕ → List (List ℕ)
named i = map name_of (range_with_len 1 i)

name_taken : (i : ℕ) → i < 65536 → name_added (named i) (row (1 + i)) ≡ Ok (named (i + 1))
name_taken i few =
    let long : length (named i) ≡ i = length-map (range_with_len 1 i) name_of ∙ length-range_with_len 1 i in
    rw (long, lt-leb 65536 i few, name_is (1 + i) (omega arith) (omega arith), new_name (1 + i) i (omega arith) (omega arith))
    (ap (λ (names : List (List ℕ)). Ok names) (sym (map-range_with_len_more name_of 1 i (1 + i) refl)))

names_taken : (n i a : ℕ) → a ≡ 1 + i → i + n ≤ 65536 → through name_added (named i) (map row (range_with_len a n)) ≡ Ok (named (i + n))
names_taken zero i a at few = through-none name_added (named i) [] refl ∙ ap (λ (m : ℕ). Ok (named m)) (sym (add-zero i))
names_taken (suc n) i a at few =
    through-some name_added (named i) (named (i + 1)) (row a) (map row (range_with_len (a + 1) n)) (map row (range_with_len a (suc n))) refl
    (ap (λ (o : ℕ). name_added (named i) (row o)) at ∙ name_taken i (omega arith))
    ∙ names_taken n (i + 1) (a + 1) (omega arith) (omega arith)
    ∙ ap (λ (m : ℕ). Ok (named m)) (omega arith)

-- the catalogue of the text
pub catalog_numbered : (n : ℕ) → 0 < n → n ≤ 65536 → catalog_of (names_text n) ≡ Ok (names_made n)
catalog_numbered zero some few = absurd (omega arith)
catalog_numbered (suc n) some few =
    ap (λ (rows : List (List (List ℕ))). and_then some_names (through name_added [] rows)) (records_named (suc n) few)
    ∙ ap (and_then some_names) (names_taken (suc n) 0 1 (omega arith) (omega arith) ∙ ap (λ (m : ℕ). Ok (named m)) (zero-add (suc n)))
