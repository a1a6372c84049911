-- Files that tell what they hold are read as they tell.
use Rattle.std.proofs.Common.{◌≡◌, ℕ, suc, List, [], ◌∷◌, ◌++◌, All, Option, Some, None, IfSome, option_map, Result, map, refl, ap, sym, subst, ◌∙◌, arith}
use Rattle.std.proofs.lemmas.List.Elements.{All-head}
use Rattle.tk_input.specs.Files.{HasRisen}
use Rattle.tk_words.specs.Words.{SourceWords}
use Rattle.tk_load.specs.Faults.{Fault}
use Rattle.tk_load.specs.Input.{File, ReadWords}
use Rattle.tk_load.specs.Reads.{AreRead, AreTaken, FileReads, Gave, IsRead, LoadsBy, Meets, log_of, words_of}
use Rattle.tk_load.specs.Told.{AreTold, file_by, files_of, only, read_by}
use Rattle.tk_load.specs.declared.status.Status.{Status}

-- a read that did not fail gave what is told
pub gave_all : (told : Option (List ℕ)) (old new longest : ℕ) (bytes : List ℕ) (content : Option (List ℕ)) → told ≡ Some bytes → (HasRisen old new → ⊥) → Gave told old new longest content → content ≡ Some bytes
gave_all told old new longest bytes None is stood gave = absurd (stood gave)
gave_all told old new longest bytes (Some found) is stood gave = ap (λ (b : List ℕ). Some b) (subst (λ (t : Option (List ℕ)). AreTaken t longest found) is gave)

module _ (reads : FileReads) (contents : List ℕ → List ℕ) where
  -- a file with what it tells
  pub file_told : (file : File) → reads.told file.name ≡ Some (contents file.name) → (HasRisen (reads.failed file.name) (reads.failed_then file.name) → ⊥) → IsRead reads file → file ≡ file_by contents file.name
  file_told file is stood read = ap (λ (c : Option (List ℕ)). record { name = file.name; content = c }) (gave_all (reads.told file.name) (reads.failed file.name) (reads.failed_then file.name) (reads.longest file.name) (contents file.name) file.content is stood read)

  -- what a file tells
  abbrev pub Told : List ℕ → Type 0
  Told name = reads.told name ≡ Some (contents name)

  -- no read of a file failed
  abbrev pub Stands : List ℕ → Type 0
  Stands name = HasRisen (reads.failed name) (reads.failed_then name) → ⊥

  -- what holds of all holds behind the first
  pub tail_of : (P : List ℕ → Type 0) (name : List ℕ) (rest : List (List ℕ)) → All P (name ∷ rest) → All P rest
  tail_of P name rest all = λ k d within. all (suc k) d (omega arith)

  abbrev by : List (ℕ × List ℕ) → List (ℕ × File)
  by logs = map (λ log. (log.0, file_by contents log.1)) logs

  -- each log, and what comes behind them
  pub logs_told : (logs : List (ℕ × File)) (rest : List (List ℕ)) → All Told (map (λ log. log.1) (map log_of logs) ++ rest) → All Stands (map (λ log. log.1) (map log_of logs) ++ rest)
      → All (λ (log : ℕ × File). IsRead reads log.1) logs → (logs ≡ by (map log_of logs)) × All Told rest × All Stands rest
  logs_told [] rest is stand read = (refl, is, stand)
  logs_told (log ∷ logs) rest is stand read =
      let names = map (λ (l : ℕ × List ℕ). l.1) (map log_of logs) ++ rest in
      let file = file_told log.1 (All-head Told log.1.name names is) (All-head Stands log.1.name names stand) (All-head (λ (l : ℕ × File). IsRead reads l.1) log logs read) in
      let more = logs_told logs rest (tail_of Told log.1.name names is) (tail_of Stands log.1.name names stand) (λ k d within. read (suc k) d (omega arith)) in
      (ap (λ (f : File). (log.0, f) ∷ logs) file ∙ ap (λ (l : List (ℕ × File)). (log.0, file_by contents log.1.name) ∷ l) more.0, more.1, more.2)

  -- the order, where there is one
  pub order_told : (order : Option File) → All Told (only (option_map (λ f. f.name) order)) → All Stands (only (option_map (λ f. f.name) order)) → IfSome order (IsRead reads)
      → order ≡ option_map (file_by contents) (option_map (λ f. f.name) order)
  order_told None is stand read = refl
  order_told (Some file) is stand read = ap (λ (f : File). Some f) (file_told file (All-head Told file.name [] is) (All-head Stands file.name [] stand) read)

  abbrev with : ReadWords → File → Option File → List (ℕ × File) → ReadWords
  with read objects order logs = record { k = read.k; epsilon = read.epsilon; own_weight = read.own_weight; objects = objects; order = order; width = read.width; logs = logs }

  -- so the words with their files are those with what is told
  all_told : (read : ReadWords) → AreTold reads contents (files_of (words_of read)) → AreRead reads (words_of read) read → read ≡ read_by contents (words_of read)
  all_told read are given =
      let names = map (λ (l : ℕ × List ℕ). l.1) (map log_of read.logs) ++ only (option_map (λ (f : File). f.name) read.order) in
      let objects = file_told read.objects (All-head Told read.objects.name names are.content) (All-head Stands read.objects.name names are.unfailed) given.objects in
      let logs = logs_told read.logs (only (option_map (λ (f : File). f.name) read.order)) (tail_of Told read.objects.name names are.content) (tail_of Stands read.objects.name names are.unfailed) given.logs in
      let order = order_told read.order logs.1 logs.2 given.order in
      ap (λ (f : File). with read f read.order read.logs) objects
      ∙ ap (λ (o : Option File). with read (file_by contents read.objects.name) o read.logs) order
      ∙ ap (λ (l : List (ℕ × File)). with read (file_by contents read.objects.name) (option_map (file_by contents) (option_map (λ (f : File). f.name) read.order)) l) logs.0

  of_words : (words : SourceWords) (read : ReadWords) → words_of read ≡ words → AreTold reads contents (files_of words) → AreRead reads words read → read ≡ read_by contents words
  of_words words read same are given =
      subst (λ (w : SourceWords). read ≡ read_by contents w) same
      (all_told read (subst (λ (w : SourceWords). AreTold reads contents (files_of w)) (sym same) are)
      (record { same = refl; objects = given.objects; logs = given.logs; order = given.order }))

  pub meant_as_told : {A : Type 0} (meant : ReadWords → Result A Fault) (words : SourceWords) (answer : Result A Status) → AreTold reads contents (files_of words) → LoadsBy meant reads words answer
      → Meets (λ (input : A). input) (meant (read_by contents words)) answer
  meant_as_told {A} meant words answer are loads = subst (λ (r : ReadWords). Meets (λ (input : A). input) (meant r) answer) (of_words words loads.read loads.are_read.same are loads.are_read) loads.meets
