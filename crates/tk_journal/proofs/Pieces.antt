-- The readings over the pieces of which turns are made: a taken frame, a batch of sent frames, a publication.
use Rattle.std.proofs.Common.{◌≡◌, ℕ, Bool, true, false, ◌==◌, List, [], ◌∷◌, ◌++◌, length, map, Option, Some, None, refl, ap, ◌∙◌}
use Rattle.std.specs.Prelude.{filter, if◌then◌else◌}
use Rattle.std.specs.List.{filter_map, cons_option}
use Rattle.std.proofs.lemmas.List.{append-nil}
use Rattle.std.proofs.Math.Bool.{or-false}
use Rattle.tk_frames.specs.Assigns.{assign_in}
use Rattle.tk_frames.specs.declared.frame.Frame.{Frame}
use Rattle.tk_base.specs.declared.ids.Mon.{Mon}
use Rattle.tk_base.specs.History.{last_of}
use Rattle.tk_frames.specs.Carried.{is_numbered}
use Rattle.tk_journal.specs.Walks.{walk}
use Rattle.tk_journal.specs.Links.{Passed, frames_to, frames_from, link_of}
use Rattle.tk_journal.specs.Links.Passed.{Up, Down}
use Rattle.tk_journal.specs.Readings.{Progress, assigns_to, assigns_sent, assigns_on, assign_down, members_at, answer_of, answered, progress_of, told, last_round, asked_of, values_of, values_for, is_stopped}
use Rattle.tk_journal.specs.declared.noted.Noted.{Noted}
use Rattle.tk_journal.specs.declared.noted.Noted.TheVariants as n
use Rattle.tk_journal.proofs.Appends.{later, assigns_to-append, members_at-append, last_round-append, asked_of-append, values_of-append, answer_of-append, progress_of-append, is_stopped-append}

some_one : {A : Type 0} (x : Option A) → last_of (cons_option x []) ≡ x
some_one None = refl
some_one (Some x) = refl

-- ---- the Assigns on a link are those sent

up_link : (b : Bool) (frame : Frame) (link : List Passed) → filter_map assign_down (cons_option (if b then Some (Up frame) else None) link) ≡ filter_map assign_down link
up_link true frame link = refl
up_link false frame link = refl

down_link : (b : Bool) (frame : Frame) (link : List Passed) (frames : List Frame) → filter_map assign_down link ≡ filter_map assign_in frames
    → filter_map assign_down (cons_option (if b then Some (Down frame) else None) link) ≡ filter_map assign_in (cons_option (if b then Some frame else None) frames)
down_link true frame link frames e = ap (cons_option (assign_in frame)) e
down_link false frame link frames e = e

pub assigns_on-link : (mon : ℕ) (j : List Noted) → filter_map assign_down (link_of mon j) ≡ assigns_to mon j
assigns_on-link mon [] = refl
assigns_on-link mon (n.Got from frame ∷ j) = up_link (from.0 == mon) frame (link_of mon j) ∙ assigns_on-link mon j
assigns_on-link mon (n.Sent to frame ∷ j) = down_link (to.0 == mon) frame (link_of mon j) (frames_to mon j) (assigns_on-link mon j)
assigns_on-link mon (n.Published publication ∷ j) = assigns_on-link mon j
assigns_on-link mon (n.Tuned k epsilon ∷ j) = assigns_on-link mon j

pub assigns_on-sent : (mon : ℕ) (j : List Noted) → assigns_on (link_of mon j) ≡ assigns_sent mon j
unfolding assigns_sent
assigns_on-sent mon j = ap length (assigns_on-link mon j)

-- ---- a taken frame

pub got_assigns : (mon : ℕ) (b : List Noted) (from : Mon) (frame : Frame) → assigns_to mon (b ++ n.Got from frame ∷ []) ≡ assigns_to mon b
got_assigns mon b from frame = assigns_to-append mon b (n.Got from frame ∷ []) ∙ append-nil (assigns_to mon b)

pub got_sent : (mon : ℕ) (b : List Noted) (from : Mon) (frame : Frame) → assigns_sent mon (b ++ n.Got from frame ∷ []) ≡ assigns_sent mon b
unfolding assigns_sent
got_sent mon b from frame = ap length (got_assigns mon b from frame)

pub got_members : (b : List Noted) (from : Mon) (frame : Frame) → members_at (b ++ n.Got from frame ∷ []) ≡ members_at b
got_members b from frame = members_at-append b (n.Got from frame ∷ [])

pub got_round : (b : List Noted) (from : Mon) (frame : Frame) → last_round (b ++ n.Got from frame ∷ []) ≡ last_round b
got_round b from frame = last_round-append b (n.Got from frame ∷ [])

pub got_asked : (round mon : ℕ) (b : List Noted) (from : Mon) (frame : Frame) → asked_of round mon (b ++ n.Got from frame ∷ []) ≡ asked_of round mon b
unfolding asked_of
got_asked round mon b from frame = asked_of-append round mon b (n.Got from frame ∷ [])

values_one : (b : Bool) (round mon : ℕ) (frame : Frame) → last_of (filter_map (values_for round mon) (cons_option (if b then Some frame else None) [])) ≡ (if b then values_for round mon frame else None)
values_one true round mon frame = some_one (values_for round mon frame)
values_one false round mon frame = refl

pub got_values : (round mon : ℕ) (b : List Noted) (from : Mon) (frame : Frame)
    → values_of round mon (b ++ n.Got from frame ∷ []) ≡ later (values_of round mon b) (if from.0 == mon then values_for round mon frame else None)
unfolding values_of
got_values round mon b from frame = values_of-append round mon b (n.Got from frame ∷ []) ∙ ap (later (values_of round mon b)) (values_one (from.0 == mon) round mon frame)

answer_one : (b : Bool) (front : List Passed) (answer : Option Frame) (frame : Frame)
    → walk answered front answer (cons_option (if b then Some (Up frame) else None) []) ≡ (if b then answered front answer (Up frame) else answer)
answer_one true front answer frame = refl
answer_one false front answer frame = refl

pub got_answer : (mon : ℕ) (b : List Noted) (from : Mon) (frame : Frame)
    → answer_of mon (b ++ n.Got from frame ∷ []) ≡ (if from.0 == mon then (if is_numbered (assigns_sent mon b) frame then Some frame else answer_of mon b) else answer_of mon b)
got_answer mon b from frame =
    answer_of-append mon b (n.Got from frame ∷ [])
    ∙ answer_one (from.0 == mon) (link_of mon b) (answer_of mon b) frame
    ∙ ap (λ s. if from.0 == mon then (if is_numbered s frame then Some frame else answer_of mon b) else answer_of mon b) (assigns_on-sent mon b)

progress_one : (b : Bool) (front : List Passed) (progress : Option Progress) (frame : Frame)
    → walk told front progress (cons_option (if b then Some (Up frame) else None) []) ≡ (if b then told front progress (Up frame) else progress)
progress_one true front progress frame = refl
progress_one false front progress frame = refl

pub got_progress : (mon : ℕ) (b : List Noted) (from : Mon) (frame : Frame)
    → progress_of mon (b ++ n.Got from frame ∷ []) ≡ (if from.0 == mon then told (link_of mon b) (progress_of mon b) (Up frame) else progress_of mon b)
got_progress mon b from frame = progress_of-append mon b (n.Got from frame ∷ []) ∙ progress_one (from.0 == mon) (link_of mon b) (progress_of mon b) frame

pub got_stopped : (b : List Noted) (from : Mon) (frame : Frame) → is_stopped (b ++ n.Got from frame ∷ []) ≡ is_stopped b
unfolding is_stopped
got_stopped b from frame = is_stopped-append b (n.Got from frame ∷ []) ∙ or-false (is_stopped b)

-- ---- a batch of frames, each to the node that its row names

abbrev pub batch : {A : Type 0} → (A → ℕ) → (A → Frame) → List A → List Noted
batch to frame rows = map (λ d. n.Sent (record { 0 = to d }) (frame d)) rows

batch_to_one : {A : Type 0} (b : Bool) (frame : A → Frame) (d : A) (rows : List A) (frames : List Frame) → frames ≡ map frame rows
    → cons_option (if b then Some (frame d) else None) frames ≡ map frame (if b then d ∷ rows else rows)
batch_to_one true frame d rows frames e = ap (λ xs. frame d ∷ xs) e
batch_to_one false frame d rows frames e = e

pub batch_to : {A : Type 0} (mon : ℕ) (to : A → ℕ) (frame : A → Frame) (rows : List A) → frames_to mon (batch to frame rows) ≡ map frame (filter (λ d. to d == mon) rows)
batch_to mon to frame [] = refl
batch_to mon to frame (d ∷ rows) = batch_to_one (to d == mon) frame d (filter (λ d. to d == mon) rows) (frames_to mon (batch to frame rows)) (batch_to mon to frame rows)

pub batch_from : {A : Type 0} (mon : ℕ) (to : A → ℕ) (frame : A → Frame) (rows : List A) → frames_from mon (batch to frame rows) ≡ []
batch_from mon to frame [] = refl
batch_from mon to frame (d ∷ rows) = batch_from mon to frame rows

batch_link_one : {A : Type 0} (b : Bool) (frame : A → Frame) (d : A) (rows : List A) (link : List Passed) → link ≡ map (λ d. Down (frame d)) rows
    → cons_option (if b then Some (Down (frame d)) else None) link ≡ map (λ d. Down (frame d)) (if b then d ∷ rows else rows)
batch_link_one true frame d rows link e = ap (λ xs. Down (frame d) ∷ xs) e
batch_link_one false frame d rows link e = e

pub batch_link : {A : Type 0} (mon : ℕ) (to : A → ℕ) (frame : A → Frame) (rows : List A) → link_of mon (batch to frame rows) ≡ map (λ d. Down (frame d)) (filter (λ d. to d == mon) rows)
batch_link mon to frame [] = refl
batch_link mon to frame (d ∷ rows) = batch_link_one (to d == mon) frame d (filter (λ d. to d == mon) rows) (link_of mon (batch to frame rows)) (batch_link mon to frame rows)

pub batch_values : {A : Type 0} (round mon : ℕ) (b : List Noted) (to : A → ℕ) (frame : A → Frame) (rows : List A) → values_of round mon (b ++ batch to frame rows) ≡ values_of round mon b
unfolding values_of
batch_values round mon b to frame rows =
    values_of-append round mon b (batch to frame rows) ∙ ap (λ (fs : List Frame). later (values_of round mon b) (last_of (filter_map (values_for round mon) fs))) (batch_from mon to frame rows)

told_downs : {A : Type 0} (front : List Passed) (progress : Option Progress) (frame : A → Frame) (rows : List A) → walk told front progress (map (λ d. Down (frame d)) rows) ≡ progress
told_downs front progress frame [] = refl
told_downs front progress frame (d ∷ rows) = told_downs (front ++ Down (frame d) ∷ []) progress frame rows

pub batch_progress : {A : Type 0} (mon : ℕ) (b : List Noted) (to : A → ℕ) (frame : A → Frame) (rows : List A) → progress_of mon (b ++ batch to frame rows) ≡ progress_of mon b
batch_progress mon b to frame rows =
    progress_of-append mon b (batch to frame rows)
    ∙ ap (walk told (link_of mon b) (progress_of mon b)) (batch_link mon to frame rows)
    ∙ told_downs (link_of mon b) (progress_of mon b) frame (filter (λ d. to d == mon) rows)
