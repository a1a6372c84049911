use Rattle.std.proofs.Common.{subst}
use Rattle.tk_verify.specs.Recorded.{Finds}
use Rattle.tk_trace.specs.Recorded.{recorded_of}
use Rattle.tk_trace.proofs.CheckLemmas.{final_is, nothing_wrong, told_again}
use Rattle.tk_trace.proofs.laws.nothing_is_wrong_with_a_finished_run.Goals as goal

pub returns : goal.returns
returns c = λ bytes names s fault is from legal finished wrong.
    nothing_wrong bytes (recorded_of names s) fault is
    (λ finding found. c.nothing_is_found_of_a_finished_story.ensures s finding (subst (λ told. Finds told finding) (told_again names s from) found) legal (final_is s finished)) wrong
