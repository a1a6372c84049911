-- The sessions of an input, and their text.
use Rattle.std.specs.Prelude.{ℕ, ◌≡◌, ◌++◌, List, [], ◌∷◌, All, flat_map, Option, Some, None, codes, decimal}
use Rattle.std.specs.List.{enumerate_from}
use Rattle.tk_session.specs.Chain.{IsChainOf}
use Rattle.tk_session.specs.Order.{lines_of}
use Rattle.tk_session.specs.declared.session_line.SessionLine.{SessionLine}
use Rattle.tk_story.specs.Kept.{KeptStory}
use Rattle.tk_ledger.specs.Text.{text_of}
use Rattle.tk_story.specs.Headline.{IsSound, IsSoundSoFar}
use Rattle.tk_commands.specs.declared.sessions.SessionInput.{SessionInput}

-- the events and restarts of an order, where there is one
abbrev pub lines_in : Option (List (ℕ × SessionLine)) → List SessionLine
lines_in None = []
lines_in (Some order) = lines_of order

-- each session is sound as far as it went, and the last one is finished
pub record AreSound (stories : List KeptStory) : Type 0 where
  pub each : All (λ kept. IsSoundSoFar kept.story) stories
  pub last : (front : List KeptStory) (last : KeptStory) → stories ≡ front ++ last ∷ [] → IsSound last.story

-- the stories of an input: the chain of its order over its settings and logs, of which all of the headline holds
pub record AreStoriesOf (input : SessionInput) (stories : List KeptStory) : Type 0 where
  pub chain : IsChainOf input.settings input.logs (lines_in input.order) stories
  pub sound : AreSound stories

-- the line in front of a session
abbrev pub session_title : ℕ → List ℕ
session_title number = codes "session " ++ decimal number ++ codes "\n"

-- both, of a numbered session
abbrev pub numbered_text : List (List ℕ) → ℕ × KeptStory → List ℕ
numbered_text names session = session_title session.0 ++ text_of names session.1.story

-- all sessions, numbered from 1
abbrev pub stories_text : List (List ℕ) → List KeptStory → List ℕ
stories_text names stories = flat_map (numbered_text names) (enumerate_from 1 stories)

-- the text of the stories of an input
abbrev pub sessions_text : SessionInput → List KeptStory → List ℕ
sessions_text input stories = stories_text input.names stories
