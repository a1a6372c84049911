-- What holds of rounds, and what they mend at the monitors.
use Rattle.std.specs.Prelude.{ℕ, ℤ, ◌≡◌, ◌<◌, ◌≤◌, ◌≤ℤ◌, false, List, length, Contains}
use Rattle.tk_alloc.specs.Limit.{AreSized, AreTotalsSized, CanDeal, CanWiden}
use Rattle.tk_alloc.specs.Resolving.{round_parts}
use Rattle.tk_alloc.specs.Rounds.{chosen, wide_parts}
use Rattle.tk_alloc.specs.Strain.{IsShortNow, IsWideNow, is_strained}
use Rattle.tk_alloc.specs.declared.reported.Reported.{Reported}
use Rattle.tk_base.specs.Objects.{objects}
use Rattle.tk_base.specs.Settings.{Setup}
use Rattle.tk_border.specs.Levels.{level_at}
use Rattle.tk_rows.specs.Factors.{Grid}

-- no number of a short or a full round leaves 128 bits
abbrev pub RoundsStaySmall : Type 0
RoundsStaySmall =
    (setup : Setup) (grid : Grid) (present members objects : List ℕ) (reports : List Reported)
    → CanDeal setup grid present objects reports
    → AreSized grid (round_parts setup grid present members objects reports) objects

-- no number of a wide round leaves 128 bits: no leeway, no new factor, no total
abbrev pub WideRoundsStaySmall : Type 0
WideRoundsStaySmall =
    (setup : Setup) (grid : Grid) (present : List ℕ) (reports : List Reported)
    → CanWiden setup grid reports
    → AreSized grid (wide_parts setup (chosen setup present reports (objects setup.objects)) reports) (objects setup.objects)
    × AreTotalsSized reports (objects setup.objects)

-- where no outsider is above a member, nothing is broken
abbrev pub OrderIsCalm : Type 0
OrderIsCalm =
    (levels : List ℤ) (members : List ℕ) → 0 < length members
    → ((t o : ℕ) → Contains members t → (Contains members o → ⊥) → 0 < o → o ≤ length levels
    → level_at levels o ≤ℤ level_at levels t)
    → is_strained levels members ≡ false

-- after a short round whose Report speaks of the present levels nothing is broken at the reporter
abbrev pub ShortRoundMends : Type 0
ShortRoundMends =
    (setup : Setup) (grid : Grid) (present : List ℕ) (report : Reported) (levels after : List ℤ)
    → IsShortNow setup grid present report levels after → is_strained after present ≡ false

-- after a wide round whose reports speak of the present values nothing is broken at any of the monitors
abbrev pub WideRoundMends : Type 0
WideRoundMends =
    (setup : Setup) (grid : Grid) (present : List ℕ) (reports : List Reported) (place : ℕ) (report : Reported)
    (after : List ℤ) → IsWideNow setup grid present reports place report after
    → is_strained after (chosen setup present reports (objects setup.objects)) ≡ false
