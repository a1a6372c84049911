-- What holds of every parse and every encoding.
use Rattle.std.specs.Prelude.{ℕ, ◌≡◌, ◌≤◌, List, [], ◌∷◌, ◌++◌, length, take, drop}
use Rattle.tk_frames.specs.Answer.{Answers}
use Rattle.tk_frames.specs.Encoding.{Appends}
use Rattle.tk_frames.specs.declared.answer.Next.TheVariants.{Whole}
use Rattle.tk_frames.specs.declared.frame.Frame.{Frame}
use Rattle.tk_wire.specs.declared.greeting.Greeting.{Greeting}
use Rattle.tk_wire.specs.Greeting.{GreetingIn, IsGreeting, SaysTheSame, greeting_bytes}
use Rattle.tk_wire.specs.Parse.{HasNoFrame, IsEncoding, IsParse}

-- what is pulled is appended to what came and to what is left
abbrev pub PieceLeavesTheParse : Type 0
PieceLeavesTheParse =
    (version : ℕ) (frames : List Frame) (came left piece : List ℕ)
    → IsParse version frames came left → IsParse version frames (came ++ piece) (left ++ piece)

-- a frame that was read and removed goes to the end of the parse
abbrev pub FrameExtendsTheParse : Type 0
FrameExtendsTheParse =
    (version : ℕ) (frames : List Frame) (came left : List ℕ) (frame : Frame) (size : ℕ)
    → IsParse version frames came left → Answers version left (Whole frame size)
    → IsParse version (frames ++ frame ∷ []) came (drop size left)

-- in whatever pieces bytes came, they are the same frames and then the same rest
abbrev pub EachStreamHasOneParse : Type 0
EachStreamHasOneParse =
    (version : ℕ) (fs gs : List Frame) (came r s : List ℕ)
    → IsParse version fs came r → HasNoFrame version r → IsParse version gs came s → HasNoFrame version s
    → (fs ≡ gs) × (r ≡ s)

-- who has read fewer frames of the same bytes has read the first of them
abbrev pub AllParsesAreFrontsOfOne : Type 0
AllParsesAreFrontsOfOne =
    (version : ℕ) (fs gs : List Frame) (came r s : List ℕ)
    → IsParse version fs came r → IsParse version gs came s → length fs ≤ length gs → fs ≡ take (length fs) gs

-- a frame that was added goes to the end of what is given and left
abbrev pub FrameExtendsTheEncoding : Type 0
FrameExtendsTheEncoding =
    (version : ℕ) (frames : List Frame) (given old new : List ℕ) (frame : Frame)
    → IsEncoding version frames given old → Appends version frame old new
    → IsEncoding version (frames ++ frame ∷ []) given new

-- a piece that was given changes nothing of what given and left are together
abbrev pub PieceLeavesTheEncoding : Type 0
PieceLeavesTheEncoding =
    (version : ℕ) (frames : List Frame) (given piece left : List ℕ)
    → IsEncoding version frames given (piece ++ left) → IsEncoding version frames (given ++ piece) left

-- greetings with the same bytes say the same
abbrev pub BytesAreOfOneGreeting : Type 0
BytesAreOfOneGreeting = (bytes : List ℕ) (g h : Greeting) → GreetingIn bytes g → GreetingIn bytes h → SaysTheSame g h

-- a greeting has 113 bytes
abbrev pub GreetingsHaveOneSize : Type 0
GreetingsHaveOneSize = (g : Greeting) → IsGreeting g → length (greeting_bytes g) ≡ 113
