-- Files of several queries that tell what they hold are read as they tell.
use Rattle.std.proofs.Common.{◌≡◌, ℕ, List, [], ◌∷◌, ◌++◌, Option, Some, option_map, Result, map, refl, ap, sym, subst, ◌∙◌}
use Rattle.std.proofs.lemmas.List.Elements.{All-head}
use Rattle.tk_words.specs.Words.{MultiWords}
use Rattle.tk_load.specs.Input.{File}
use Rattle.tk_load.specs.Reads.{FileReads, Meets, log_of}
use Rattle.tk_load.specs.Told.{AreTold, file_by, only}
use Rattle.tk_load.specs.declared.status.Status.{Status}
use Rattle.tk_load.proofs.ToldLemmas.{Stands, Told, file_told, logs_told, order_told, tail_of}
use Rattle.tk_commands.specs.MultiInput.{AreMultiRead, LoadsMulti, ReadMulti, given_by, multi_input_of, multi_words_of}
use Rattle.tk_commands.specs.Told.{multi_files_of, multi_read_by}
use Rattle.tk_commands.specs.declared.multi.MultiInput.{MultiInput}

module _ (reads : FileReads) (contents : List ℕ → List ℕ) where
  abbrev multi_with : File → File → Option File → List (ℕ × File) → ReadMulti
  multi_with objects queries order logs = record { objects = objects; queries = queries; order = order; logs = logs }

  all_queries_told : (read : ReadMulti) → AreTold reads contents (multi_files_of (multi_words_of read)) → AreMultiRead reads (multi_words_of read) read → read ≡ multi_read_by contents (multi_words_of read)
  all_queries_told read are given =
      let last = only (option_map (λ (f : File). f.name) read.order) in
      let names = map (λ (l : ℕ × List ℕ). l.1) (map log_of read.logs) ++ last in
      let behind = read.queries.name ∷ names in
      let told = tail_of reads contents (Told reads contents) read.objects.name behind are.content in
      let stand = tail_of reads contents (Stands reads contents) read.objects.name behind are.unfailed in
      let objects = file_told reads contents read.objects (All-head (Told reads contents) read.objects.name behind are.content) (All-head (Stands reads contents) read.objects.name behind are.unfailed) given.objects in
      let queries = file_told reads contents read.queries (All-head (Told reads contents) read.queries.name names told) (All-head (Stands reads contents) read.queries.name names stand) given.queries in
      let logs = logs_told reads contents read.logs last (tail_of reads contents (Told reads contents) read.queries.name names told) (tail_of reads contents (Stands reads contents) read.queries.name names stand) given.logs in
      let order = order_told reads contents read.order logs.1 logs.2 given.order in
      ap (λ (f : File). multi_with f read.queries read.order read.logs) objects
      ∙ ap (λ (f : File). multi_with (file_by contents read.objects.name) f read.order read.logs) queries
      ∙ ap (λ (o : Option File). multi_with (file_by contents read.objects.name) (file_by contents read.queries.name) o read.logs) order
      ∙ ap (λ (l : List (ℕ × File)). multi_with (file_by contents read.objects.name) (file_by contents read.queries.name) (option_map (file_by contents) (option_map (λ (f : File). f.name) read.order)) l) logs.0

  of_queries : (words : MultiWords) (read : ReadMulti) → multi_words_of read ≡ words → AreTold reads contents (multi_files_of words) → AreMultiRead reads words read → read ≡ multi_read_by contents words
  of_queries words read same are given =
      subst (λ (w : MultiWords). read ≡ multi_read_by contents w) same
      (all_queries_told read (subst (λ (w : MultiWords). AreTold reads contents (multi_files_of w)) (sym same) are)
      (record { same = refl; objects = given.objects; queries = given.queries; logs = given.logs; order = given.order }))

  pub queries_as_told : (words : MultiWords) (answer : Result MultiInput Status) → AreTold reads contents (multi_files_of words) → LoadsMulti reads words answer
      → Meets given_by (multi_input_of (multi_read_by contents words)) answer
  queries_as_told words answer are loads = subst (λ (r : ReadMulti). Meets given_by (multi_input_of r) answer) (of_queries words loads.read loads.are_read.same are loads.are_read) loads.meets
