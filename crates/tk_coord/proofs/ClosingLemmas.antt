-- What ends a turn: when nothing is due.
use Rattle.std.proofs.Common.{◌≡◌, ℕ, false, not, ◌&&◌, ◌||◌, List, [], ◌∷◌, None, refl, ap, ◌∙◌, arith}
use Rattle.std.specs.Prelude.{is_some}
use Rattle.std.proofs.Math.Bool.{and-false}
use Rattle.tk_base.specs.Settings.{Setup}
use Rattle.tk_base.specs.declared.ids.Mon.{Mon}
use Rattle.tk_frames.specs.declared.frame.Frame.{Frame}
use Rattle.tk_base.specs.History.{last_of}
use Rattle.tk_journal.specs.Laws.{IsMonitor}
use Rattle.tk_journal.specs.Readings.{answer_of, settled_in, settled_of, is_open, is_calm, in_force, members_at}
use Rattle.tk_journal.specs.Publishing.{publications, differs, is_due, is_last, closing}
use Rattle.tk_journal.specs.declared.noted.Noted.{Noted}
use Rattle.tk_journal.specs.declared.noted.Noted.TheVariants as n
use Rattle.tk_journal.proofs.Same.{AreSame, calm_same, force_same}
use Rattle.tk_journal.proofs.Published.{none_more}
use Rattle.tk_journal.proofs.StandLemmas.{last_same, closing_none, not_calm_due}
use Rattle.tk_coord.specs.Steps.{with_got}
use Rattle.tk_coord.proofs.RangeLemmas.{one_fails}

-- ---- where it is not calm

-- a monitor whose answer is no Settled is no calm
pub uncalm_unsettled : (s : Setup) (j : List Noted) (q : ℕ) → IsMonitor s q → settled_of q j ≡ None → is_calm s j ≡ false
unfolding is_calm
uncalm_unsettled s j q m none =
    ap (λ b. not (is_open s j) && b) (one_fails (λ mon. is_some (settled_in (answer_of mon j))) 1 s.monitors q m.from_one (let w = m.within in omega (arith, w)) (ap is_some none))
    ∙ and-false (not (is_open s j))

-- without calm a turn ends with nothing
pub uncalm_closing : (s : Setup) (j : List Noted) → is_calm s j ≡ false → closing s j ≡ []
uncalm_closing s j not_calm = closing_none s j (not_calm_due s j not_calm)

-- ---- where two journals agree

-- the same is due where the same was published
due_same : (s : Setup) (a b : List Noted) → AreSame s a b → publications b ≡ publications a → is_due s b ≡ is_due s a
due_same s a b e published =
    ap (λ c. c && (differs (in_force s b) (members_at b) (last_of (publications b)) || is_last s b)) (calm_same s a b e)
    ∙ ap (λ (x : Setup). is_calm s a && (differs x (members_at b) (last_of (publications b)) || is_last s b)) (force_same s a b e)
    ∙ ap (λ ms. is_calm s a && (differs (in_force s a) ms (last_of (publications b)) || is_last s b)) e.members
    ∙ ap (λ ps. is_calm s a && (differs (in_force s a) (members_at a) (last_of ps) || is_last s b)) published
    ∙ ap (λ l. is_calm s a && (differs (in_force s a) (members_at a) (last_of (publications a)) || l)) (last_same s a b e)

-- a frame that changes no reading brings nothing at the end of its turn, where nothing was due before it
pub closing_unchanged : (s : Setup) (j : List Noted) (mon : Mon) (frame : Frame) → AreSame s j (with_got j mon frame) → is_due s j ≡ false → closing s (with_got j mon frame) ≡ []
closing_unchanged s j mon frame e not_due =
    closing_none s (with_got j mon frame) (due_same s j (with_got j mon frame) e (none_more j (n.Got mon frame ∷ []) refl) ∙ not_due)
