-- The shapes of turns: what a taken frame demands, with what is known where it does.
use Rattle.tk_frames.specs.declared.frame.Frame.TheVariants as f
use Rattle.tk_journal.specs.declared.noted.Noted.TheVariants as n
use Rattle.std.specs.Prelude.{ℕ, ◌+◌, ◌≡◌, ◌<◌, ℤ, true, false, not, ◌==◌, List, [], ◌∷◌, ◌++◌, filter, Some}
use Rattle.tk_base.specs.Pairs.{objects_of}
use Rattle.tk_base.specs.Settings.{Setup}
use Rattle.tk_base.specs.declared.ids.Mon.{Mon}
use Rattle.tk_frames.specs.declared.frame.Frame.{Frame}
use Rattle.tk_frames.specs.Carried.{is_numbered}
use Rattle.tk_journal.specs.Readings.{monitors, assigns_sent, is_open}
use Rattle.tk_journal.specs.Refusal.{is_report}
use Rattle.tk_journal.specs.Deciding.{reports_at, is_within_limit}
use Rattle.tk_journal.specs.Turns.{reported, passes_at, short_at, fails_at, streak, rounds, collects, wide_collects, assigns, full_at, wide_at, is_wide}
use Rattle.tk_journal.specs.declared.noted.Noted.{Noted}

-- a fresh Report that finds no open round
pub record IsFreshReport (s : Setup) (before : List Noted) (from : Mon) (frame : Frame) (border : ℤ) (failed : List ℕ) (values : List (ℕ × ℤ)) : Type 0 where
  pub is : frame ≡ f.Report (assigns_sent from.0 before) border failed values
  pub closed : is_open s before ≡ false

-- the last awaited Values
pub record IsLastValues (s : Setup) (before : List Noted) (from : Mon) (frame : Frame) : Type 0 where
  pub round : ℕ
  pub border : ℤ
  pub values : List (ℕ × ℤ)
  pub is : frame ≡ f.Values round (assigns_sent from.0 before) border values
  pub opened : is_open s before ≡ true
  pub closed : is_open s (before ++ n.Got from frame ∷ []) ≡ false

-- the shape of the turn of a taken frame: it demands nothing, or Assigns, or the Collects of a round
pub data Shape (s : Setup) (before : List Noted) (from : Mon) (frame : Frame) (demands : List Noted) : Type 0 where
  Plain : demands ≡ [] → fails_at s before from.0 frame ≡ false → is_open s (before ++ n.Got from frame ∷ []) ≡ is_open s before
      → (is_numbered (assigns_sent from.0 before) frame ≡ true → is_report (Some frame) ≡ true → is_open s before ≡ true) → Shape s before from frame demands
  Short : (border : ℤ) (failed : List ℕ) (values : List (ℕ × ℤ)) → IsFreshReport s before from frame border failed values → passes_at s before (reported from.0 border values) ≡ true
      → is_within_limit (short_at s before (reported from.0 border values)) ≡ true → demands ≡ assigns before (short_at s before (reported from.0 border values)) → Shape s before from frame demands
  Wide : (border : ℤ) (failed : List ℕ) (values : List (ℕ × ℤ)) → IsFreshReport s before from frame border failed values → demands ≡ wide_collects s (rounds s before + 1) → Shape s before from frame demands
  Full : (border : ℤ) (failed : List ℕ) (values : List (ℕ × ℤ)) → IsFreshReport s before from frame border failed values → fails_at s before from.0 frame ≡ true → streak s before < 8 → (s.monitors == 1) ≡ false
      → demands ≡ collects (rounds s before + 1) (objects_of values) (filter (λ mon. not (mon == from.0)) (monitors s)) → Shape s before from frame demands
  LoneEnd : (border : ℤ) (failed : List ℕ) (values : List (ℕ × ℤ)) → IsFreshReport s before from frame border failed values → fails_at s before from.0 frame ≡ true → streak s before < 8 → (s.monitors == 1) ≡ true
      → is_within_limit (full_at s before (reported from.0 border values ∷ [])) ≡ true → demands ≡ assigns before (full_at s before (reported from.0 border values ∷ [])) → Shape s before from frame demands
  LoneWide : (border : ℤ) (failed : List ℕ) (values : List (ℕ × ℤ)) → IsFreshReport s before from frame border failed values → fails_at s before from.0 frame ≡ true → streak s before < 8 → (s.monitors == 1) ≡ true
      → demands ≡ wide_collects s (rounds s before + 1 + 1) → Shape s before from frame demands
  EndFull : IsLastValues s before from frame → is_wide s (before ++ n.Got from frame ∷ []) ≡ false
      → is_within_limit (full_at s (before ++ n.Got from frame ∷ []) (reports_at s (before ++ n.Got from frame ∷ []))) ≡ true
      → demands ≡ assigns (before ++ n.Got from frame ∷ []) (full_at s (before ++ n.Got from frame ∷ []) (reports_at s (before ++ n.Got from frame ∷ []))) → Shape s before from frame demands
  EndOver : IsLastValues s before from frame → is_wide s (before ++ n.Got from frame ∷ []) ≡ false → demands ≡ wide_collects s (rounds s (before ++ n.Got from frame ∷ []) + 1) → Shape s before from frame demands
  EndWide : IsLastValues s before from frame → is_wide s (before ++ n.Got from frame ∷ []) ≡ true
      → demands ≡ assigns (before ++ n.Got from frame ∷ []) (wide_at s (before ++ n.Got from frame ∷ []) (reports_at s (before ++ n.Got from frame ∷ []))) → Shape s before from frame demands
