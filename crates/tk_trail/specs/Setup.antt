-- What a monitor is made of, and the limits of that.
use Rattle.std.specs.Prelude.{ℕ, ℤ, ◌≤◌, List}
use Rattle.tk_input.specs.Logs.{AreParts, ArePlaces}

-- the number of a monitor, the size of its catalogue, its parts, and the place in each from which it starts
pub record MonitorSetup : Type 0 where
  pub number : ℕ
  pub objects : ℕ
  pub parts : List (List (ℕ × ℤ))
  pub from : List ℕ

-- the catalogue and the parts are within the limits, and each start is a place of its part
pub record IsSetup (setup : MonitorSetup) : Type 0 where
  pub some_object : 1 ≤ setup.objects
  pub objects : setup.objects ≤ 65536
  pub parts : AreParts setup.objects setup.parts
  pub from : ArePlaces setup.parts setup.from
