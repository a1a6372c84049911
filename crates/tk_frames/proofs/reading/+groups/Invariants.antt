use Rattle.tk_frames.proofs.reading.+groups.Given as goal

abbrev pub decreases-groups : goal.decreases-groups
decreases-groups l = l.limit
