-- An input whose parts belong together.
use Rattle.std.specs.Prelude.{◌≡◌, ◌≤◌, ℕ, List, length, Option, Some, None}
use Rattle.tk_base.specs.Settings.{Setup}
use Rattle.tk_input.specs.Logs.{LogSet}

-- catalogue, settings and logs are of one size
pub record AreAgreed (catalogue : List (List ℕ)) (setup : Setup) (all : LogSet) : Type 0 where
  pub names : length catalogue ≡ setup.objects
  pub objects : setup.objects ≡ all.objects
  pub monitors : setup.monitors ≡ length all.logs

-- a window has 1 to 1,000,000 ticks
abbrev pub IsWidth : Option ℕ → Type 0
IsWidth None = Unit
IsWidth (Some width) = (1 ≤ width) × (width ≤ 1000000)
