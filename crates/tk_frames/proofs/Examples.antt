-- The spellings of some frames, as docs/formats.md gives them: the definitions compute to these bytes.
use Rattle.std.proofs.Common.{◌≡◌, pos, negsuc, false, [], ◌∷◌, refl}
use Rattle.tk_frames.specs.declared.frame.Frame.TheVariants as f
use Rattle.tk_frames.specs.Spelling.{groups_within, number, signed, object, in_turn, counted, spelling}

hello : spelling 2 (f.Hello 5 1 (record { 0 = 2 })) ≡ 0 ∷ 0 ∷ 0 ∷ 14 ∷ 1 ∷ 0 ∷ 0 ∷ 0 ∷ 0 ∷ 0 ∷ 0 ∷ 0 ∷ 5 ∷ 1 ∷ 0 ∷ 0 ∷ 0 ∷ 2 ∷ []
unfolding groups_within number signed object in_turn counted
hello = refl

collect : spelling 1 (f.Collect 1 (1 ∷ 2 ∷ [])) ≡ 0 ∷ 0 ∷ 0 ∷ 21 ∷ 3 ∷ 0 ∷ 0 ∷ 0 ∷ 0 ∷ 0 ∷ 0 ∷ 0 ∷ 1 ∷ 0 ∷ 0 ∷ 0 ∷ 2 ∷ 0 ∷ 0 ∷ 0 ∷ 1 ∷ 0 ∷ 0 ∷ 0 ∷ 2 ∷ []
unfolding groups_within number signed object in_turn counted
collect = refl

collect_short : spelling 2 (f.Collect 300 (1 ∷ 2 ∷ [])) ≡ 0 ∷ 0 ∷ 0 ∷ 6 ∷ 3 ∷ 172 ∷ 2 ∷ 2 ∷ 1 ∷ 1 ∷ []
unfolding groups_within number signed object in_turn counted
collect_short = refl

assign_short : spelling 2 (f.Assign 2 (1 ∷ []) ((1, pos 0) ∷ (2, negsuc 3) ∷ [])) ≡ 0 ∷ 0 ∷ 0 ∷ 9 ∷ 5 ∷ 2 ∷ 1 ∷ 1 ∷ 2 ∷ 1 ∷ 0 ∷ 1 ∷ 7 ∷ []
unfolding groups_within number signed object in_turn counted
assign_short = refl

report_short : spelling 2 (f.Report 1 (pos 0) (2 ∷ []) ((1, pos 0) ∷ (2, pos 3) ∷ [])) ≡ 0 ∷ 0 ∷ 0 ∷ 10 ∷ 2 ∷ 1 ∷ 0 ∷ 1 ∷ 2 ∷ 2 ∷ 1 ∷ 0 ∷ 1 ∷ 6 ∷ []
unfolding groups_within number signed object in_turn counted
report_short = refl

settled : spelling 1 (f.Settled 1 false (0 ∷ [])) ≡ 0 ∷ 0 ∷ 0 ∷ 18 ∷ 6 ∷ 0 ∷ 0 ∷ 0 ∷ 0 ∷ 0 ∷ 0 ∷ 0 ∷ 1 ∷ 0 ∷ 0 ∷ 0 ∷ 0 ∷ 1 ∷ 0 ∷ 0 ∷ 0 ∷ 0 ∷ []
unfolding groups_within number signed object in_turn counted
settled = refl
