-- One trail worked out: two objects, one part `b,1`, `b,2`, `b,1`, and an Assign with member a and factor -3 of b.
use Rattle.std.proofs.Common.{◌≡◌, false, List, [], ◌∷◌, ◌++◌, Some, None, refl, arith}
use Rattle.std.specs.Prelude.{pos, negsuc}
use Rattle.tk_base.specs.Objects.{objects}
use Rattle.tk_border.specs.Levels.{least_of, greatest_of}
use Rattle.tk_frames.specs.declared.frame.Frame.{Frame}
use Rattle.tk_frames.specs.declared.frame.Frame.TheVariants as f
use Rattle.tk_trail.specs.Setup.{MonitorSetup}
use Rattle.tk_trail.specs.Readings.{places_at, at_ends, value_of_object, level_of, levels_of, broken_at}
use Rattle.tk_trail.specs.Frames.{report_at, settled_at, owed_at, report_is_due, end_is_due, due_at}
use Rattle.tk_trail.specs.Refusal.{refusal_of}
use Rattle.tk_trail.specs.Legal.{IsLegal}
use Rattle.tk_trail.specs.Slack.{slack_of, moved_between}
use Rattle.tk_trail.specs.declared.entry.Entry.{Entry}
use Rattle.tk_trail.specs.declared.entry.Entry.TheVariants.{Raised, Took, Sent}
use Rattle.tk_trail.specs.declared.refusal.MonitorRefusal.TheVariants.{WrongSequence, BadMembers, BadChange, BadCollect, EarlyStop}

abbrev setup : MonitorSetup
setup = record { number = 1; objects = 2; parts = ((2, pos 1) ∷ (2, pos 2) ∷ (2, pos 1) ∷ []) ∷ []; from = 0 ∷ [] }

abbrev raise : Entry
raise = Raised (record { 0 = 1 })

-- the Assign and its answer, then three raises, then the Report
abbrev assigned : List Entry
assigned = Took (f.Assign 1 (1 ∷ []) ((2, negsuc 2) ∷ [])) ∷ Sent (f.Settled 1 false (0 ∷ [])) ∷ []

abbrev calm : List Entry
calm = assigned ++ raise ∷ raise ∷ []

abbrev past : List Entry
past = calm ++ raise ∷ []

abbrev report : Frame
report = f.Report 1 (pos 0) (2 ∷ []) ((1, pos 0) ∷ (2, pos 4) ∷ [])

slack-assigned : slack_of setup assigned ≡ Some (pos 3)
unfolding slack_of levels_of level_of value_of_object places_at least_of greatest_of objects
slack-assigned = refl

moved-calm : moved_between setup assigned calm ≡ 3
unfolding moved_between places_at
moved-calm = refl

due-calm : due_at setup calm ≡ None
unfolding due_at report_is_due end_is_due at_ends broken_at levels_of level_of value_of_object places_at least_of greatest_of objects
due-calm = refl

due-past : due_at setup past ≡ Some report
unfolding due_at report_is_due end_is_due report_at at_ends broken_at levels_of level_of value_of_object places_at least_of greatest_of objects
due-past = refl

-- once the Report is sent nothing is due
due-reported : due_at setup (past ++ Sent report ∷ []) ≡ None
unfolding due_at report_is_due end_is_due at_ends broken_at levels_of level_of value_of_object places_at least_of greatest_of objects
due-reported = refl

refused-number : refusal_of setup [] (f.Assign 2 (1 ∷ []) []) ≡ Some (WrongSequence 0 2)
unfolding refusal_of
refused-number = refl

refused-members : refusal_of setup [] (f.Assign 1 (3 ∷ []) []) ≡ Some BadMembers
unfolding refusal_of
refused-members = refl

refused-change : refusal_of setup [] (f.Assign 1 (1 ∷ []) ((3, pos 0) ∷ [])) ≡ Some (BadChange (record { 0 = 3 }))
unfolding refusal_of
refused-change = refl

refused-collect : refusal_of setup [] (f.Collect 1 (1 ∷ [])) ≡ Some BadCollect
unfolding refusal_of
refused-collect = refl

refused-stop : refusal_of setup past f.Stop ≡ Some EarlyStop
unfolding refusal_of
refused-stop = refl

-- the whole trail is legal
legal-past : IsLegal setup (past ++ Sent report ∷ [])
unfolding refusal_of owed_at settled_at due_at report_is_due end_is_due report_at at_ends broken_at levels_of level_of value_of_object places_at least_of greatest_of objects
legal-past = record {
  each = (
    (refl, refl),
    (
      (refl, refl),
      (
        (refl, refl, record { from_one = omega arith; one_of = omega arith; not_ended = omega arith }),
        (
          (refl, refl, record { from_one = omega arith; one_of = omega arith; not_ended = omega arith }),
          (
            (refl, refl, record { from_one = omega arith; one_of = omega arith; not_ended = omega arith }),
            ((refl, refl), tt),
          ),
        ),
      ),
    ),
  );
  answered = refl;
}
