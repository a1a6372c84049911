-- Logs that were read and parsed, one more or one less.
use Rattle.std.proofs.Common.{◌≡◌, ℕ, suc, ◌+◌, ◌<◌, List, [], ◌∷◌, ◌++◌, Bor, Option, Result, Ok, Err, get_or, length, drop, refl, ap, sym, subst, ◌∙◌, arith, inl, inr}
use Rattle.std.specs.Global.{Vec}
use Rattle.std.proofs.lemmas.Bool.{cases_lt}
use Rattle.std.proofs.lemmas.List.{get_or-drop, get_or_append_left, get_or_default, get_or_push, length-append}
use Rattle.tk_base.specs.declared.ids.Mon.{Mon}
use Rattle.tk_input.specs.declared.files.Files.{Ghosts as FilesOf}
use Rattle.tk_window.specs.Expanded.{expansion_of}
use Rattle.tk_window.specs.declared.expanded.Expanded.{Expanded}
use Rattle.tk_load.specs.Batch.{EachAt, IsLogOf, IsParsed, IsReadAs, Parses}
use Rattle.tk_load.specs.Input.{File, bytes_in, changes_in, log_from}
use Rattle.tk_load.specs.Reads.{AreKept, FileReads, Reads, reads_by}
use Rattle.tk_load.specs.declared.batch.Unparsed.{Unparsed}
use Rattle.tk_load.specs.declared.status.Status.{Status}
use Rattle.tk_load.proofs.ReadLemmas.{reads_after, reads_before, reads_further, reads_refused}

module _ {X Y : Type 0} (R : X → Y → Type 0) (xs : List X) where
  -- the same, of those so many places further
  abbrev pub EachFrom : ℕ → List Y → Type 0
  EachFrom n ys = (i : ℕ) (d : X) (e : Y) → i < length ys → R (get_or xs (n + i) d) (get_or ys i e)

  pub each_none : (ys : List Y) → ys ≡ [] → EachAt R xs ys
  each_none ys none = λ i d e within. absurd (omega (arith, within, ap (λ (l : List Y). length l) none))

  pub each_push : (ys : List Y) (y : Y) → EachAt R xs ys → ((d : X) → R (get_or xs (length ys) d) y) → EachAt R xs (ys ++ y ∷ [])
  each_push ys y each at = λ i d e within. elim (cases_lt i (length ys)) [
    | inl lt ↦ subst (R (get_or xs i d)) (sym (get_or_append_left ys (y ∷ []) e i lt)) (each i d e lt)
    | inr ge ↦
        let last : length ys ≡ i = let long = length-append ys (y ∷ []) in omega (arith, ge, within, long) in
        subst (λ (k : ℕ). R (get_or xs k d) (get_or (ys ++ y ∷ []) k e)) last (subst (R (get_or xs (length ys) d)) (sym (get_or_push ys y e (length ys) refl)) (at d))
  ]

  pub each_from_drop : (n : ℕ) (ys : List Y) → EachAt R (drop n xs) ys → EachFrom n ys
  each_from_drop n ys each = λ i d e within. subst (λ (x : X). R x (get_or ys i e)) (get_or-drop n xs i d) (each i d e within)

  -- the first of them, and the others
  pub each_first : (n : ℕ) (y : Y) (ys : List Y) (d : X) → EachFrom n (y ∷ ys) → R (get_or xs n d) y
  each_first n y ys d each = subst (λ (k : ℕ). R (get_or xs k d) y) (omega arith) (each 0 d y (omega arith))

  pub each_rest : (n : ℕ) (y : Y) (ys : List Y) → EachFrom n (y ∷ ys) → EachFrom (n + 1) ys
  each_rest n y ys each = λ i d e within.
      subst (λ (k : ℕ). R (get_or xs k d) (get_or ys i e)) (omega arith) (each (suc i) d e (omega (arith, within)))

-- one more of both
pub each_both : {X Y : Type 0} (R : X → Y → Type 0) (xs : List X) (ys : List Y) (x : X) (y : Y) → length ys ≡ length xs → EachAt R xs ys → R x y → EachAt R (xs ++ x ∷ []) (ys ++ y ∷ [])
each_both R xs ys x y same each one = λ i d e within. elim (cases_lt i (length ys)) [
  | inl lt ↦
      subst (λ (z : _). R z (get_or (ys ++ y ∷ []) i e)) (sym (get_or_append_left xs (x ∷ []) d i (omega (arith, lt, same))))
      (subst (λ (z : _). R (get_or xs i d) z) (sym (get_or_append_left ys (y ∷ []) e i lt)) (each i d e lt))
  | inr ge ↦
      let last : length ys ≡ i = let long = length-append ys (y ∷ []) in omega (arith, ge, within, long) in
      subst (λ (z : _). R z (get_or (ys ++ y ∷ []) i e)) (sym (get_or_push xs x d i (sym same ∙ last)))
      (subst (λ (z : _). R x z) (sym (get_or_push ys y e i last)) one)
]

-- what belongs to what belongs to it
pub each_through : {X Y Z : Type 0} (R : X → Y → Type 0) (S : Y → Z → Type 0) (T : X → Z → Type 0) (xs : List X) (ys : List Y) (zs : List Z) → length zs ≡ length ys
    → ((x : X) (y : Y) (z : Z) → R x y → S y z → T x z) → EachAt R xs ys → EachAt S ys zs → EachAt T xs zs
each_through R S T xs [] zs same through each next = λ i d e within. absurd (omega (arith, within, same))
each_through R S T xs (y ∷ ys) zs same through each next = λ i d e within.
    through (get_or xs i d) (get_or (y ∷ ys) i y) (get_or zs i e) (each i d y (omega (arith, within, same))) (next i y e within)

-- a read file that is parsed
parsed_content : (reads : FileReads) (width : Option ℕ) (names : List (List ℕ)) (name : List ℕ) (content : Result (Vec ℕ) Status) (log : Result Expanded Status)
    → Reads reads name (λ v. v.items) bytes_in content → Parses width names name content log → Reads reads name expansion_of (changes_in width names) log
parsed_content reads width names name (Ok bytes) log read parses =
    reads_further (λ (v : Vec ℕ). v.items) expansion_of bytes_in (λ (file : File). log_from width names file.name) reads name bytes log read (λ content. parses)
parsed_content reads width names name (Err status) log read parses =
    subst (λ (l : Result Expanded Status). Reads reads name expansion_of (changes_in width names) l) (sym parses)
    (reads_refused (λ (v : Vec ℕ). v.items) expansion_of bytes_in (λ (file : File). log_from width names file.name) reads name status read)

pub read_and_parsed : (reads : FileReads) (width : Option ℕ) (names : List (List ℕ)) (word : Mon × Bor (List ℕ)) (from : Unparsed) (log : Result Expanded Status)
    → IsReadAs reads word from → IsParsed width names from log → IsLogOf reads width names word log
read_and_parsed reads width names word from log read parsed = record {
  read = parsed_content reads width names word.1.now from.content log read.read (subst (λ (name : List ℕ). Parses width names name from.content log) read.named parsed.parses);
  over = parsed.over;
}

-- reads that were made between others
module _ {F : Type 0} (files : FilesOf F) (a b c : F) where
  pub each_read_before : (words : List (Mon × Bor (List ℕ))) (logs : List Unparsed) → AreKept files b c → EachAt (IsReadAs (reads_by files a b)) words logs → EachAt (IsReadAs (reads_by files a c)) words logs
  each_read_before words logs next each = λ i d e within. let one = each i d e within in record { named = one.named; read = reads_before files a b c _ _ _ _ next one.read }

  pub each_log_after : (width : Option ℕ) (names : List (List ℕ)) (words : List (Mon × Bor (List ℕ))) (logs : List (Result Expanded Status)) → AreKept files a b → AreKept files b c
      → EachAt (IsLogOf (reads_by files b c) width names) words logs → EachAt (IsLogOf (reads_by files a c) width names) words logs
  each_log_after width names words logs first next each = λ i d e within. let one = each i d e within in record { read = reads_after files a b c _ _ _ _ first next one.read; over = one.over }

  -- the file of one more word was read
  pub one_more_read : (words : List (Mon × Bor (List ℕ))) (logs logs_new : List Unparsed) (i : ℕ) (d : Mon × Bor (List ℕ)) (content : Result (Vec ℕ) Status) → AreKept files a b → AreKept files b c
      → i < length words → length logs ≡ i → EachAt (IsReadAs (reads_by files a b)) words logs → Reads (reads_by files b c) (get_or words i d).1.now (λ v. v.items) bytes_in content
      → logs_new ≡ logs ++ record { file = (get_or words i d).1; content = content } ∷ [] → EachAt (IsReadAs (reads_by files a c)) words logs_new
  one_more_read words logs logs_new i d content first next inside count each read pushed =
      let name = (get_or words i d).1.now in
      let log : Unparsed = record { file = (get_or words i d).1; content = content } in
      let named : (e : Mon × Bor (List ℕ)) → name ≡ (get_or words (length logs) e).1.now
      = λ e. ap (λ (w : Mon × Bor (List ℕ)). w.1.now) (get_or_default words i d e inside ∙ ap (λ (k : ℕ). get_or words k e) (sym count)) in
      let whole : Reads (reads_by files a c) name (λ v. v.items) bytes_in content = reads_after files a b c _ _ _ _ first next read in
      subst (EachAt (IsReadAs (reads_by files a c)) words) (sym pushed)
      (each_push (IsReadAs (reads_by files a c)) words logs log (each_read_before words logs next each) (λ e. record {
        named = named e;
        read = subst (λ (n : List ℕ). Reads (reads_by files a c) n (λ v. v.items) bytes_in content) (named e) whole;
      }))
