-- What holds of sessions and their chains.
use Rattle.std.specs.Prelude.{ℕ, List, All, ◌∷◌, ◌++◌, ◌≡◌, length, []}
use Rattle.tk_base.specs.Settings.{Setup}
use Rattle.tk_drain.specs.Drive.{IsReached}
use Rattle.tk_input.specs.Logs.{LogSet, beginnings}
use Rattle.tk_input.specs.declared.event.Event.{Event}
use Rattle.tk_session.specs.Chain.{IsSession, begun, IsChainFrom, NoPlaceFalls, KeepStretches, IsChainOf}
use Rattle.tk_session.specs.Sessions.{AreFinished, played}
use Rattle.tk_session.specs.declared.session_line.SessionLine.{SessionLine}
use Rattle.tk_story.specs.Kept.{KeptStory}
use Rattle.tk_story.specs.Moments.{cut_of}
use Rattle.tk_story.specs.Story.{IsStory}

-- an opening that is a story is a session
abbrev pub BeginningIsASession : Type 0
BeginningIsASession =
    (settings : Setup) (logs : LogSet) (from : List (List ℕ))
    → IsStory (begun settings logs from).story → IsSession settings logs from (begun settings logs from)

-- what some events lead to from a session is one, from the same places
abbrev pub SessionGoesOn : Type 0
SessionGoesOn =
    (settings : Setup) (logs : LogSet) (from : List (List ℕ)) (old new : KeptStory)
    → IsSession settings logs from old → IsReached old new → IsSession settings logs from new

-- each session of a chain is a legal story
abbrev pub EachSessionIsLegal : Type 0
EachSessionIsLegal =
    (settings : Setup) (logs : LogSet) (from : List (List ℕ)) (stories : List KeptStory)
    → IsChainFrom settings logs from stories → All (λ kept. IsStory kept.story) stories

-- no place falls from the end of a session to the beginning of a later one
abbrev pub NoPlaceFallsBetween : Type 0
NoPlaceFallsBetween =
    (settings : Setup) (logs : LogSet) (from : List (List ℕ)) (before between after : List KeptStory)
    (one other : KeptStory)
    → IsChainFrom settings logs from (before ++ one ∷ (between ++ other ∷ after))
    → NoPlaceFalls (cut_of one.story) other.story.from

-- there is one story for each stretch
abbrev pub OneStoryForEachStretch : Type 0
OneStoryForEachStretch =
    (stretches : List (List Event)) (stories : List KeptStory)
    → KeepStretches stretches stories → length stories ≡ length stretches

-- what an order leads to from the beginning, once it is finished, is the chain of the order
abbrev pub ChainKeepsItsStretches : Type 0
ChainKeepsItsStretches =
    (settings : Setup) (logs : LogSet) (lines : List SessionLine) (stories : List KeptStory)
    → IsStory (begun settings logs (beginnings logs)).story
    → AreFinished (played (record { past = []; present = begun settings logs (beginnings logs) }) lines) stories
    → IsChainOf settings logs lines stories
