-- The streak over a turn of a taken frame.
use Rattle.tk_journal.specs.declared.noted.Noted.TheVariants as n
use Rattle.std.proofs.Common.{◌≡◌, ℕ, ◌+◌, Bool, true, false, List, [], ◌∷◌, ◌++◌, refl, ap, ◌∙◌, arith}
use Rattle.std.specs.Prelude.{if◌then◌else◌}
use Rattle.tk_base.specs.Settings.{Setup}
use Rattle.tk_base.specs.declared.ids.Mon.{Mon}
use Rattle.tk_frames.specs.declared.frame.Frame.{Frame}
use Rattle.tk_journal.specs.Walks.{walk}
use Rattle.tk_journal.specs.Readings.{is_calm}
use Rattle.tk_journal.specs.Turns.{fails_at, failures_after, unless_calm, streak}
use Rattle.tk_journal.specs.Legal.{inputs_of}
use Rattle.tk_journal.specs.declared.noted.Noted.{Noted}
use Rattle.tk_journal.proofs.Appends.{walk-append}

-- what is sent and published leaves the count
pub kept : (s : Setup) (front : List Noted) (count : ℕ) (rest : List Noted) → inputs_of rest ≡ [] → walk (failures_after s) front count rest ≡ count
kept s front count [] none = refl
kept s front count (n.Got from frame ∷ rest) none = absurd (cc)
kept s front count (n.Sent to frame ∷ rest) none = kept s (front ++ n.Sent to frame ∷ []) count rest none
kept s front count (n.Published publication ∷ rest) none = kept s (front ++ n.Published publication ∷ []) count rest none
kept s front count (n.Tuned k epsilon ∷ rest) none = absurd (cc)

one_more : (fails : Bool) (count : ℕ) → (if fails then count + 1 else count) ≡ count + (if fails then 1 else 0)
one_more true count = refl
one_more false count = omega arith

pub streak_got : (s : Setup) (before : List Noted) (from : Mon) (frame : Frame) (rest : List Noted) → inputs_of rest ≡ []
    → streak s (before ++ n.Got from frame ∷ rest) ≡ (if is_calm s (before ++ n.Got from frame ∷ rest) then 0 else streak s before + (if fails_at s before from.0 frame then 1 else 0))
unfolding streak
streak_got s before from frame rest none =
    let count = walk (failures_after s) [] 0 before in
    let counted : walk (failures_after s) [] 0 (before ++ n.Got from frame ∷ rest) ≡ unless_calm s before count + (if fails_at s before from.0 frame then 1 else 0) =
    walk-append (failures_after s) [] 0 before (n.Got from frame ∷ rest)
    ∙ kept s (before ++ n.Got from frame ∷ []) (failures_after s before count (n.Got from frame)) rest none
    ∙ one_more (fails_at s before from.0 frame) (unless_calm s before count) in
    ap (λ c. unless_calm s (before ++ n.Got from frame ∷ rest) c) counted
