-- A run of several queries: what it tells of its input, its text, and what its sets are over the common logs.
use Rattle.std.specs.Prelude.{ℕ, ◌≡◌, List, ◌∷◌, ◌++◌, codes, flat_map, map, Some, Ok}
use Rattle.std.specs.List.{zip}
use Rattle.tk_input.specs.Catalog.{AreDifferent}
use Rattle.tk_input.specs.Logs.{AreLogs, LogSet}
use Rattle.tk_journal.specs.declared.noted.Noted.{Noted}
use Rattle.tk_journal.specs.declared.noted.Noted.TheVariants as n
use Rattle.tk_journal.specs.declared.publication.Publication.{Publication}
use Rattle.tk_ledger.specs.Text.{text_of}
use Rattle.tk_commands.specs.declared.multi.MultiInput.{MultiInput}
use Rattle.tk_multi.specs.Alone.{AreOfOneSize, alones_of}
use Rattle.tk_multi.specs.Answers.{AreAnswers, IsAnswer, events_in}
use Rattle.tk_multi.specs.Projection.{watch_of}
use Rattle.tk_multi.specs.Queries.{QueryView, entry_at}
use Rattle.tk_multi.specs.Watched.{HoldsOverTheLogs}
use Rattle.tk_multi.specs.declared.alone.Alone.{Alone}
use Rattle.tk_multi.specs.declared.event.MultiEvent.{MultiEvent}
use Rattle.tk_story.specs.Kept.{KeptStory}
use Rattle.tk_story.specs.Headline.{IsSound}

-- the stories of an input: one answer for each query, in order, and for each all of the headline holds
pub record AreAnswersOf (input : MultiInput) (stories : List KeptStory) : Type 0 where
  pub answers : AreAnswers input.logs (events_in input.order) input.alones.items stories
  pub sound : (q : ℕ) (alone : Alone) (kept : KeptStory) → entry_at input.alones.items q ≡ Some alone → entry_at stories q ≡ Some kept → IsSound kept.story

-- the line above the text of a query
abbrev pub query_title : List ℕ → List ℕ
query_title name = codes "query " ++ name ++ codes "\n"

-- a query's title, and the text of its story over the names of its objects
abbrev pub query_text : (List ℕ × List (List ℕ)) × KeptStory → List ℕ
query_text told = query_title told.0.0 ++ text_of told.0.1 told.1.story

-- the texts of queries of these names, over these names of their objects
abbrev pub queries_text : List QueryView → List (List (List ℕ)) → List KeptStory → List ℕ
queries_text queries names stories = flat_map query_text (zip (zip (map (λ query. query.name) queries) names) stories)

-- the texts of the stories of an input
abbrev pub multi_text : MultiInput → List KeptStory → List ℕ
multi_text input stories = queries_text input.queries (map (λ alone. alone.names) input.alones.items) stories

-- where queries run over the logs of a catalogue, a set that the sound story of one of them published holds over fronts of these
-- logs: each watched object of the set has a total there that, with epsilon, is at least that of each watched one outside
abbrev pub PublishedHoldsOverTheLogs : Type 0
PublishedHoldsOverTheLogs =
    (names : List (List ℕ)) (all : LogSet) (queries : List QueryView) (alones : List Alone) (events : List MultiEvent)
    (q : ℕ) (query : QueryView) (alone : Alone) (kept : KeptStory) (before after : List Noted) (p : Publication)
    → AreDifferent names → AreLogs all → alones_of names all queries ≡ Ok alones
    → entry_at queries q ≡ Some query → entry_at alones q ≡ Some alone → AreOfOneSize alone
    → IsAnswer all events q alone kept → IsSound kept.story → kept.story.journal ≡ before ++ n.Published p ∷ after
    → HoldsOverTheLogs (watch_of query.prefix names) all p.epsilon p.cut p.members
