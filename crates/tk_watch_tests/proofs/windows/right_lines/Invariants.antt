use Rattle.tk_watch.specs.Watch.{named_of}
use Rattle.tk_watch_tests.proofs.windows.right_lines.Given as goal

-- the name of the watch that is made
abbrev pub ghosts-front_as : goal.ghosts-front_as
ghosts-front_as a = record { named = named_of a.watch }
