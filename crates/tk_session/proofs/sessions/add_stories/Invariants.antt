use Rattle.std.proofs.Common.{◌≡◌, ◌++◌}
use Rattle.tk_session.proofs.sessions.add_stories.Given as goal

-- the stories of the worlds so far stand behind those that were there
abbrev pub invariant-loop-world : goal.invariant-loop-world
invariant-loop-world l = l.stories.items ≡ l.initial.stories.items ++ l.yielded
