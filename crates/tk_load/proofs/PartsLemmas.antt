-- The parts of the first of some words, and one more.
use Rattle.std.proofs.Common.{◌≡◌, ℕ, ◌+◌, ◌-◌, ◌<◌, ◌≤◌, List, [], ◌∷◌, ◌++◌, All, Bor, Option, Result, Ok, Err, IfOk, get_or, length, take, drop, refl, ap, sym, subst, ◌∙◌, arith}
use Rattle.std.proofs.lemmas.List.{get_or-drop, length-append, length-drop, take_all}
use Rattle.std.proofs.lemmas.List.Elements.{All-push}
use Rattle.tk_base.specs.declared.ids.Mon.{Mon}
use Rattle.tk_input.specs.declared.files.Files.{Ghosts as FilesOf}
use Rattle.tk_window.specs.Expanded.{expansion_of, sources_of}
use Rattle.tk_window.specs.TickEnds.{Sources, last_source}
use Rattle.tk_window.specs.Window.{Expansion}
use Rattle.tk_window.specs.declared.expanded.Expanded.{Expanded}
use Rattle.tk_words.specs.Asked.{AreOfMonitors, asked_logs}
use Rattle.tk_load.specs.Batch.{EachAt, IsLogOf, IsOver}
use Rattle.tk_load.specs.Faults.{Fault, after}
use Rattle.tk_load.specs.Input.{changes_after, changes_in, count_of, counted, greatest_monitor, logs_in}
use Rattle.tk_load.specs.Reads.{AreKept, FileReads, Meets, Reads, ReadsLogs, reads_by}
use Rattle.tk_load.specs.declared.status.Status.{Status}
use Rattle.tk_load.proofs.LogsLemmas.{SoFar, all_words, count_one, last_one, logs_refused, named_at, none_so_far, one_word, so_far_later, so_far_next, sources_one}

-- the parts so far are those that the words before give, of monitors, of objects of the catalogue, and not too long
pub record PartsSoFar (reads : FileReads) (width : Option ℕ) (names : List (List ℕ)) (words : List (Mon × Bor (List ℕ))) (parts : List (Mon × Expanded)) (count : ℕ) : Type 0 where
  pub within : length parts ≤ length words
  pub so_far : SoFar reads width names (asked_logs (take (length parts) words)) (sources_of parts)
  pub counted : count ≡ count_of (sources_of parts)
  pub few : count ≤ 4000000
  pub last : last_source (sources_of parts) ≡ greatest_monitor (asked_logs (take (length parts) words))
  pub monitors : All (λ p. (1 ≤ p.0.0) × (p.0.0 ≤ 64)) parts
  pub over : All (λ p. IsOver (length names) p.1) parts

-- what a counted log means
abbrev pub CountsAs : ℕ → List ℕ → Result Expanded Status → Result Expanded Status → Type 0
CountsAs before name log answer = (meant : Result Expansion Fault) → Meets expansion_of meant log → Meets expansion_of (after meant (counted before name)) answer

counted_reads : (reads : FileReads) (width : Option ℕ) (names : List (List ℕ)) (before : ℕ) (name : List ℕ) (log answer : Result Expanded Status)
    → Reads reads name expansion_of (changes_in width names) log → CountsAs before name log answer → Reads reads name expansion_of (changes_after before width names) answer
counted_reads reads width names before name log answer given counts = record {
  content = given.content;
  read = given.read;
  meets = counts (changes_in width names (record { name = name; content = given.content })) given.meets;
}

-- the words behind some
slice_rest : (words : List (Mon × Bor (List ℕ))) (m : ℕ) → take (length words - m) (drop m words) ≡ drop m words
slice_rest words m = take_all (length words - m) (drop m words) (omega (arith, length-drop m words))

pub place_inside : (words : List (Mon × Bor (List ℕ))) (m i k n : ℕ) → i < n → n ≤ length (take (length words - m) (drop m words)) → k ≡ m + i → k < length words
place_inside words m i k n inside few at =
    let long = ap (λ (l : List (Mon × Bor (List ℕ))). length l) (slice_rest words m) in
    let rest = length-drop m words in omega (arith, inside, few, at, long, rest)

module _ (reads : FileReads) (width : Option ℕ) (names : List (List ℕ)) (words : List (Mon × Bor (List ℕ))) where
  -- a log of a batch that begins at some word
  pub log_at : (logs : List (Result Expanded Status)) (log : Result Expanded Status) (m i k : ℕ) (d : Mon × Bor (List ℕ)) → EachAt (IsLogOf reads width names) (take (length words - m) (drop m words)) logs
      → i < length logs → log ≡ get_or logs i log → k ≡ m + i → IsLogOf reads width names (get_or words k d) log
  log_at logs log m i k d each inside is at =
      let word : get_or (take (length words - m) (drop m words)) i d ≡ get_or words k d
      = ap (λ (l : List (Mon × Bor (List ℕ))). get_or l i d) (slice_rest words m) ∙ get_or-drop m words i d ∙ ap (λ (n : ℕ). get_or words n d) (sym at) in
      subst (λ (l : Result Expanded Status). IsLogOf reads width names (get_or words k d) l) (sym is)
      (subst (λ (w : Mon × Bor (List ℕ)). IsLogOf reads width names w (get_or logs i log)) word (each i d log inside))

  pub no_parts : (parts : List (Mon × Expanded)) → parts ≡ [] → PartsSoFar reads width names words parts 0
  no_parts [] none = record {
    within = omega arith;
    so_far = none_so_far reads width names;
    counted = refl;
    few = omega arith;
    last = refl;
    monitors = λ i d within. absurd (omega (arith, within));
    over = λ i d within. absurd (omega (arith, within));
  }
  no_parts (p ∷ parts) none = absurd (cc)

  module _ (parts : List (Mon × Expanded)) (count : ℕ) (so_far : PartsSoFar reads width names words parts count) (k : ℕ) (d : Mon × Bor (List ℕ)) (at : k ≡ length parts) (inside : k < length words) where
    -- the word that is next
    abbrev word : Mon × Bor (List ℕ)
    word = get_or words k d

    abbrev before : List (ℕ × List ℕ)
    before = asked_logs (take (length parts) words)

    pub one_more_part : AreOfMonitors words → (log : Result Expanded Status) (part : Expanded) (parts_new : List (Mon × Expanded)) (more : ℕ) → IsLogOf reads width names word log → CountsAs count word.1.now log (Ok part)
        → log ≡ Ok part → count + length part.part ≤ 4000000 → parts_new ≡ parts ++ (word.0, part) ∷ [] → more ≡ length part.part → PartsSoFar reads width names words parts_new (count + more)
    one_more_part monitors log part parts_new more read counts same few pushed added =
        let log_read = expansion_of part in
        let sources = sources_of parts in
        let shown : sources_of parts_new ≡ sources ++ (word.0, log_read) ∷ [] = ap sources_of pushed ∙ sources_one parts word.0 part in
        let longer : length parts_new ≡ length parts + 1 = ap (λ (l : List (Mon × Expanded)). length l) pushed ∙ length-append parts ((word.0, part) ∷ []) in
        let place : length parts_new ≡ k + 1 = omega (arith, longer, at) in
        let front : asked_logs (take (length parts_new) words) ≡ before ++ named_at words k d ∷ []
        = ap (λ (n : ℕ). asked_logs (take n words)) place ∙ one_word words k d inside ∙ ap (λ (n : ℕ). asked_logs (take n words) ++ named_at words k d ∷ []) at in
        let next = so_far_next reads width names before sources word.0.0 word.1.now count so_far.counted so_far.so_far expansion_of part
        (counted_reads reads width names count word.1.now log (Ok part) read.read counts) in record {
          within = omega (arith, inside, place);
          so_far = subst (λ (p : Sources). SoFar reads width names (asked_logs (take (length parts_new) words)) p) (sym shown)
              (subst (λ (w : List (ℕ × List ℕ)). SoFar reads width names w (sources ++ (word.0, log_read) ∷ [])) (sym front) next);
          counted = let first = so_far.counted in let one = count_one sources log_read word.0 in let all = ap (λ (p : Sources). count_of p) shown in omega (arith, first, one, all, added);
          few = omega (arith, few, added);
          last = ap (λ (p : Sources). last_source p) shown ∙ last_one sources log_read before word.0 word.1.now so_far.last ∙ sym (ap (λ (w : List (ℕ × List ℕ)). greatest_monitor w) front);
          monitors = subst (All (λ (p : Mon × Expanded). (1 ≤ p.0.0) × (p.0.0 ≤ 64))) (sym pushed) (All-push (λ (p : Mon × Expanded). (1 ≤ p.0.0) × (p.0.0 ≤ 64)) parts (word.0, part) so_far.monitors (monitors k d inside));
          over = subst (All (λ (p : Mon × Expanded). IsOver (length names) p.1)) (sym pushed) (All-push (λ (p : Mon × Expanded). IsOver (length names) p.1) parts (word.0, part) so_far.over (subst (λ (l : Result Expanded Status). IfOk l (IsOver (length names))) same read.over));
        }

    pub part_refused : {A : Type 0} (view : A → Sources) (log : Result Expanded Status) (status : Status) → IsLogOf reads width names word log → CountsAs count word.1.now log (Err status)
        → ReadsLogs reads (asked_logs words) view (logs_in width names) (Err status)
    part_refused view log status read counts =
        let all : asked_logs words ≡ (before ++ named_at words k d ∷ []) ++ asked_logs (drop (k + 1) words)
        = all_words words k d inside ∙ ap (λ (n : ℕ). (asked_logs (take n words) ++ named_at words k d ∷ []) ++ asked_logs (drop (k + 1) words)) at in
        logs_refused reads width names before (sources_of parts) word.0.0 word.1.now count so_far.counted so_far.so_far view expansion_of status (asked_logs (drop (k + 1) words)) (asked_logs words) all
        (counted_reads reads width names count word.1.now log (Err status) read.read counts)

-- later reads do not undo it
pub parts_later : {F : Type 0} (files : FilesOf F) (a b c : F) (width : Option ℕ) (names : List (List ℕ)) (words : List (Mon × Bor (List ℕ))) (parts : List (Mon × Expanded)) (updates : ℕ) → AreKept files b c
    → PartsSoFar (reads_by files a b) width names words parts updates → PartsSoFar (reads_by files a c) width names words parts updates
parts_later files a b c width names words parts updates next so_far = record {
  within = so_far.within;
  so_far = so_far_later files a b c width names (asked_logs (take (length parts) words)) (sources_of parts) next so_far.so_far;
  counted = so_far.counted;
  few = so_far.few;
  last = so_far.last;
  monitors = so_far.monitors;
  over = so_far.over;
}
