-- The words of several queries over files that tell what they hold.
use Rattle.std.specs.Prelude.{List, ℕ, ◌∷◌, ◌++◌, map, option_map}
use Rattle.tk_words.specs.Words.{MultiWords}
use Rattle.tk_load.specs.Told.{file_by, only}
use Rattle.tk_commands.specs.MultiInput.{ReadMulti}

-- the words of several queries with what stands under the names of their files
abbrev pub multi_read_by : (List ℕ → List ℕ) → MultiWords → ReadMulti
multi_read_by contents words = record {
  objects = file_by contents words.objects;
  queries = file_by contents words.queries;
  order = option_map (file_by contents) words.order;
  logs = map (λ log. (log.0, file_by contents log.1)) words.logs;
}

-- the files of these words, in the order of work
abbrev pub multi_files_of : MultiWords → List (List ℕ)
multi_files_of words = words.objects ∷ words.queries ∷ (map (λ log. log.1) words.logs ++ only words.order)
