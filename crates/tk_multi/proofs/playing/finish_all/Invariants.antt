use Rattle.std.proofs.Common.{◌≤◌, ◌+◌, length, vec_capacity}
use Rattle.tk_multi.specs.Answers.{AreFinished}
use Rattle.tk_multi.proofs.playing.finish_all.Given as goal

-- the worlds so far are finished, and there is room for the others
abbrev pub invariant-loop-world : goal.invariant-loop-world
invariant-loop-world l = record {
  finished : AreFinished l.yielded l.stories.items;
  room : length l.stories.items + length l.world-iterator.rest.items ≤ vec_capacity l.stories;
}
