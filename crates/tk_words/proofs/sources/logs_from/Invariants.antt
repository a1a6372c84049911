use Rattle.std.proofs.Common.{◌≡◌, Some, map, take}
use Rattle.tk_words.specs.Asked.{AreOfMonitors, asked_logs}
use Rattle.tk_words.specs.Forms.{logs_in}
use Rattle.tk_words.proofs.sources.logs_from.Given as goal

-- the words before were read
abbrev pub invariant-loop-word : goal.invariant-loop-word
invariant-loop-word l = record {
  read : logs_in (map (λ s. s.now) (take l.word-index l.words)) ≡ Some (asked_logs l.logs.items);
  monitors : AreOfMonitors l.logs.items;
}
