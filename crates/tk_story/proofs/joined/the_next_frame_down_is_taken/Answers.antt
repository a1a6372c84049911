use Rattle.std.specs.Prelude.{refl}
use Rattle.tk_journal.specs.Legal.{start}
use Rattle.tk_story.specs.Story.{setup_of, trail_of}
use Rattle.tk_story.proofs.DownLemmas.{down_is_taken}
use Rattle.tk_story.proofs.QuietLemmas.{joined}
use Rattle.tk_story.proofs.joined.the_next_frame_down_is_taken.Goals as goal

pub returns : goal.returns
returns c = λ s mon frame rest h m is. down_is_taken (start s.settings) s.journal mon (setup_of s mon) (trail_of s mon) frame rest (joined s h mon m) refl is
