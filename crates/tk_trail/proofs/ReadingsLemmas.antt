-- Readings of a trail, and what one more entry does to them.
use Rattle.std.proofs.Common.{◌≡◌, ℕ, ◌+◌, ℤ, Bool, true, false, ◌||◌, List, [], ◌∷◌, ◌++◌, length, Option, Some, None, refl, ap, ◌∙◌, append-nil, ◌-◌}
use Rattle.std.specs.Prelude.{filter_map}
use Rattle.std.specs.List.{list_any}
use Rattle.std.proofs.lemmas.List.Sums.{fold_push}
use Rattle.std.proofs.lemmas.List.Elements.{filter_map-append}
use Rattle.std.proofs.lemmas.List.Folds.{list_any-append}
use Rattle.std.proofs.lemmas.List.{length-append}
use Rattle.std.proofs.Math.Bool.{or-false, or-true}
use Rattle.tk_frames.specs.declared.frame.Frame.{Frame}
use Rattle.tk_frames.specs.declared.frame.Frame.TheVariants as f
use Rattle.tk_base.specs.declared.ids.Feeder.{Feeder}
use Rattle.tk_trail.specs.Setup.{MonitorSetup}
use Rattle.tk_frames.specs.Assigns.{Assign, assign_in}
use Rattle.tk_trail.specs.Readings.{taken_in, sent_in, taken_by, sent_by, assigns_of, since_assign, goes_on, is_stop, is_stopped, is_report, is_reported, is_end, is_end_told, seq_of}
use Rattle.tk_trail.specs.Frames.{owed_at, owed_after}
use Rattle.tk_trail.specs.declared.entry.Entry.{Entry}
use Rattle.tk_trail.specs.declared.entry.Entry.TheVariants.{Raised, Took, Sent}
use Rattle.tk_trail.specs.Legal.{with_answer}

-- an entry more
pub taken_by-raised : (trail : List Entry) (feeder : Feeder) → taken_by (trail ++ Raised feeder ∷ []) ≡ taken_by trail
taken_by-raised trail feeder = filter_map-append taken_in trail (Raised feeder ∷ []) ∙ append-nil (taken_by trail)

pub taken_by-took : (trail : List Entry) (frame : Frame) → taken_by (trail ++ Took frame ∷ []) ≡ taken_by trail ++ frame ∷ []
taken_by-took trail frame = filter_map-append taken_in trail (Took frame ∷ [])

pub taken_by-sent : (trail : List Entry) (frame : Frame) → taken_by (trail ++ Sent frame ∷ []) ≡ taken_by trail
taken_by-sent trail frame = filter_map-append taken_in trail (Sent frame ∷ []) ∙ append-nil (taken_by trail)

pub sent_by-raised : (trail : List Entry) (feeder : Feeder) → sent_by (trail ++ Raised feeder ∷ []) ≡ sent_by trail
sent_by-raised trail feeder = filter_map-append sent_in trail (Raised feeder ∷ []) ∙ append-nil (sent_by trail)

pub sent_by-took : (trail : List Entry) (frame : Frame) → sent_by (trail ++ Took frame ∷ []) ≡ sent_by trail
sent_by-took trail frame = filter_map-append sent_in trail (Took frame ∷ []) ∙ append-nil (sent_by trail)

pub sent_by-sent : (trail : List Entry) (frame : Frame) → sent_by (trail ++ Sent frame ∷ []) ≡ sent_by trail ++ frame ∷ []
sent_by-sent trail frame = filter_map-append sent_in trail (Sent frame ∷ [])

pub assigns_of-raised : (trail : List Entry) (feeder : Feeder) → assigns_of (trail ++ Raised feeder ∷ []) ≡ assigns_of trail
assigns_of-raised trail feeder = ap (λ frames. filter_map assign_in frames) (taken_by-raised trail feeder)

pub assigns_of-sent : (trail : List Entry) (frame : Frame) → assigns_of (trail ++ Sent frame ∷ []) ≡ assigns_of trail
assigns_of-sent trail frame = ap (λ frames. filter_map assign_in frames) (taken_by-sent trail frame)

pub assigns_of-assign : (trail : List Entry) (seq : ℕ) (members : List ℕ) (changes : List (ℕ × ℤ)) → assigns_of (trail ++ Took (f.Assign seq members changes) ∷ []) ≡ assigns_of trail ++ record { members = members; changes = changes } ∷ []
assigns_of-assign trail seq members changes =
    ap (λ frames. filter_map assign_in frames) (taken_by-took trail (f.Assign seq members changes))
    ∙ filter_map-append assign_in (taken_by trail) (f.Assign seq members changes ∷ [])

pub assigns_of-other : (trail : List Entry) (frame : Frame) → assign_in frame ≡ None → assigns_of (trail ++ Took frame ∷ []) ≡ assigns_of trail
assigns_of-other trail frame none =
    ap (λ frames. filter_map assign_in frames) (taken_by-took trail frame)
    ∙ filter_map-append assign_in (taken_by trail) (frame ∷ [])
    ∙ rw none (append-nil (assigns_of trail))

-- Assigns taken, as a number
pub seq_of-raised : (trail : List Entry) (feeder : Feeder) → seq_of (trail ++ Raised feeder ∷ []) ≡ seq_of trail
seq_of-raised trail feeder = ap (λ (assigns : List Assign). length assigns) (assigns_of-raised trail feeder)

pub seq_of-sent : (trail : List Entry) (frame : Frame) → seq_of (trail ++ Sent frame ∷ []) ≡ seq_of trail
seq_of-sent trail frame = ap (λ (assigns : List Assign). length assigns) (assigns_of-sent trail frame)

pub seq_of-other : (trail : List Entry) (frame : Frame) → assign_in frame ≡ None → seq_of (trail ++ Took frame ∷ []) ≡ seq_of trail
seq_of-other trail frame none = ap (λ (assigns : List Assign). length assigns) (assigns_of-other trail frame none)

pub seq_of-assign : (trail : List Entry) (seq : ℕ) (members : List ℕ) (changes : List (ℕ × ℤ)) → seq_of (trail ++ Took (f.Assign seq members changes) ∷ []) ≡ seq_of trail + 1
seq_of-assign trail seq members changes =
    ap (λ (assigns : List Assign). length assigns) (assigns_of-assign trail seq members changes)
    ∙ length-append (assigns_of trail) _

-- whether some entry passes a test
pub any_push : (p : Entry → Bool) (xs : List Entry) (e : Entry) → list_any p (xs ++ e ∷ []) ≡ (list_any p xs || p e)
any_push p xs e = list_any-append p xs (e ∷ []) ∙ ap (λ b. list_any p xs || b) (or-false (p e))

any_same : (p : Entry → Bool) (xs : List Entry) (e : Entry) → p e ≡ false → list_any p (xs ++ e ∷ []) ≡ list_any p xs
any_same p xs e none = any_push p xs e ∙ ap (λ b. list_any p xs || b) none ∙ or-false (list_any p xs)

-- the entries since the last Assign
pub since-raised : (trail : List Entry) (feeder : Feeder) → since_assign (trail ++ Raised feeder ∷ []) ≡ since_assign trail ++ Raised feeder ∷ []
since-raised trail feeder = fold_push goes_on [] trail (Raised feeder)

pub since-sent : (trail : List Entry) (frame : Frame) → since_assign (trail ++ Sent frame ∷ []) ≡ since_assign trail ++ Sent frame ∷ []
since-sent trail frame = fold_push goes_on [] trail (Sent frame)

pub since-assign : (trail : List Entry) (seq : ℕ) (members : List ℕ) (changes : List (ℕ × ℤ)) → since_assign (trail ++ Took (f.Assign seq members changes) ∷ []) ≡ []
since-assign trail seq members changes = fold_push goes_on [] trail (Took (f.Assign seq members changes))

pub since-collect : (trail : List Entry) (round : ℕ) (asked : List ℕ) → since_assign (trail ++ Took (f.Collect round asked) ∷ []) ≡ since_assign trail ++ Took (f.Collect round asked) ∷ []
since-collect trail round asked = fold_push goes_on [] trail (Took (f.Collect round asked))

pub since-stop : (trail : List Entry) → since_assign (trail ++ Took f.Stop ∷ []) ≡ since_assign trail ++ Took f.Stop ∷ []
since-stop trail = fold_push goes_on [] trail (Took f.Stop)

-- whether a Report was sent since
pub reported-raised : (trail : List Entry) (feeder : Feeder) → is_reported (trail ++ Raised feeder ∷ []) ≡ is_reported trail
reported-raised trail feeder = ap (λ es. list_any is_report es) (since-raised trail feeder) ∙ any_same is_report (since_assign trail) (Raised feeder) refl

pub reported-sent : (trail : List Entry) (frame : Frame) → is_reported (trail ++ Sent frame ∷ []) ≡ (is_reported trail || is_report (Sent frame))
reported-sent trail frame = ap (λ es. list_any is_report es) (since-sent trail frame) ∙ any_push is_report (since_assign trail) (Sent frame)

pub reported-assign : (trail : List Entry) (seq : ℕ) (members : List ℕ) (changes : List (ℕ × ℤ)) → is_reported (trail ++ Took (f.Assign seq members changes) ∷ []) ≡ false
reported-assign trail seq members changes = ap (λ es. list_any is_report es) (since-assign trail seq members changes)

pub reported-collect : (trail : List Entry) (round : ℕ) (asked : List ℕ) → is_reported (trail ++ Took (f.Collect round asked) ∷ []) ≡ is_reported trail
reported-collect trail round asked = ap (λ es. list_any is_report es) (since-collect trail round asked) ∙ any_same is_report (since_assign trail) (Took (f.Collect round asked)) refl

pub reported-stop : (trail : List Entry) → is_reported (trail ++ Took f.Stop ∷ []) ≡ is_reported trail
reported-stop trail = ap (λ es. list_any is_report es) (since-stop trail) ∙ any_same is_report (since_assign trail) (Took f.Stop) refl

-- whether the end was told since
pub told-raised : (trail : List Entry) (feeder : Feeder) → is_end_told (trail ++ Raised feeder ∷ []) ≡ is_end_told trail
told-raised trail feeder = ap (λ es. list_any is_end es) (since-raised trail feeder) ∙ any_same is_end (since_assign trail) (Raised feeder) refl

pub told-sent : (trail : List Entry) (frame : Frame) → is_end_told (trail ++ Sent frame ∷ []) ≡ (is_end_told trail || is_end (Sent frame))
told-sent trail frame = ap (λ es. list_any is_end es) (since-sent trail frame) ∙ any_push is_end (since_assign trail) (Sent frame)

pub told-assign : (trail : List Entry) (seq : ℕ) (members : List ℕ) (changes : List (ℕ × ℤ)) → is_end_told (trail ++ Took (f.Assign seq members changes) ∷ []) ≡ false
told-assign trail seq members changes = ap (λ es. list_any is_end es) (since-assign trail seq members changes)

pub told-collect : (trail : List Entry) (round : ℕ) (asked : List ℕ) → is_end_told (trail ++ Took (f.Collect round asked) ∷ []) ≡ is_end_told trail
told-collect trail round asked = ap (λ es. list_any is_end es) (since-collect trail round asked) ∙ any_same is_end (since_assign trail) (Took (f.Collect round asked)) refl

pub told-stop : (trail : List Entry) → is_end_told (trail ++ Took f.Stop ∷ []) ≡ is_end_told trail
told-stop trail = ap (λ es. list_any is_end es) (since-stop trail) ∙ any_same is_end (since_assign trail) (Took f.Stop) refl

-- whether Stop was taken
pub stopped-raised : (trail : List Entry) (feeder : Feeder) → is_stopped (trail ++ Raised feeder ∷ []) ≡ is_stopped trail
stopped-raised trail feeder = any_same is_stop trail (Raised feeder) refl

pub stopped-sent : (trail : List Entry) (frame : Frame) → is_stopped (trail ++ Sent frame ∷ []) ≡ is_stopped trail
stopped-sent trail frame = any_same is_stop trail (Sent frame) refl

pub stopped-took : (trail : List Entry) (frame : Frame) → is_stop (Took frame) ≡ false → is_stopped (trail ++ Took frame ∷ []) ≡ is_stopped trail
stopped-took trail frame none = any_same is_stop trail (Took frame) none

pub stopped-stop : (trail : List Entry) → is_stopped (trail ++ Took f.Stop ∷ []) ≡ true
stopped-stop trail = any_push is_stop trail (Took f.Stop) ∙ or-true (is_stopped trail)

-- the answer that is owed
pub owed-push : (setup : MonitorSetup) (trail : List Entry) (e : Entry) → owed_at setup (trail ++ e ∷ []) ≡ owed_after setup (trail ++ e ∷ []) (Some e)
unfolding owed_at
owed-push setup trail e = ap (λ last. owed_after setup (trail ++ e ∷ []) last) (fold_push (λ (_ : Option Entry) (x : Entry). Some x) None trail e)

-- an answer that is sent takes nothing
pub answer_taken : (trail : List Entry) (answer : Option Frame) → taken_by (with_answer trail answer) ≡ taken_by trail
answer_taken trail None = refl
answer_taken trail (Some g) = taken_by-sent trail g
