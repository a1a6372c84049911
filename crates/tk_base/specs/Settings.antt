-- The numbers that a run is set up with, and their limits.
use Rattle.std.specs.Prelude.{ℕ, ◌*◌, ◌^◌, ◌<◌, ◌≤◌, ℤ, pos, ◌≤ℤ◌, Bool, not, ◌&&◌, nat_lt, nat_le, Result, Ok, Err, if◌then◌else◌}
use Rattle.tk_base.specs.declared.settings.SettingFault.{SettingFault}
use Rattle.tk_base.specs.declared.settings.SettingFault.TheVariants.{BadCount, BadK, BadEpsilon, BadWeight}

-- what a run is set up with
pub record Setup : Type 0 where
  pub k : ℕ
  pub epsilon : ℤ
  pub own_weight : ℕ
  pub objects : ℕ
  pub monitors : ℕ

-- the limits of this system
pub record IsWithinLimits (s : Setup) : Type 0 where
  pub some_object : 0 < s.objects
  pub objects : s.objects ≤ 65536
  pub some_monitor : 0 < s.monitors
  pub monitors : s.monitors ≤ 64
  pub product : s.objects * s.monitors ≤ 1048576
  pub some_member : 0 < s.k
  pub k : s.k ≤ 1024
  pub members : s.k ≤ s.objects
  pub no_debt : pos 0 ≤ℤ s.epsilon
  pub epsilon : s.epsilon ≤ℤ pos (2 ^ 100)
  pub own_weight : s.own_weight ≤ 1000

-- there are 1 to 65,536 objects and 1 to 64 monitors, at most 1,048,576 of both together
abbrev pub are_counts : ℕ → ℕ → Bool
are_counts objects monitors =
    nat_lt 0 objects && nat_le objects 65536 && nat_lt 0 monitors && nat_le monitors 64 && nat_le (objects * monitors) 1048576

-- k is 1 to 1,024, and no greater than the number of objects
abbrev pub is_k : ℕ → ℕ → Bool
is_k k objects = nat_lt 0 k && nat_le k 1024 && nat_le k objects

-- the settings of these numbers, or the first of them that is past its limit
abbrev pub settings_of : ℕ → ℕ → ℕ → ℕ → ℕ → Result Setup SettingFault
settings_of k epsilon own_weight objects monitors =
    if not (are_counts objects monitors) then Err BadCount
    else (if not (is_k k objects) then Err BadK
    else (if not (nat_le epsilon (2 ^ 100)) then Err BadEpsilon
    else (if not (nat_le own_weight 1000) then Err BadWeight
    else Ok (record { k = k; epsilon = pos epsilon; own_weight = own_weight; objects = objects; monitors = monitors }))))
