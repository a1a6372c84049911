-- How great what a monitor sends can be.
use Rattle.std.specs.Prelude.{ℕ, ◌≤◌, ◌<◌, ◌^◌, ℤ, pos, neg_ℤ, ◌≤ℤ◌, unsigned_abs, List, length, Contains, All}
use Rattle.tk_trail.specs.Setup.{MonitorSetup}
use Rattle.tk_trail.specs.Readings.{level_of, members_at}
use Rattle.tk_trail.specs.declared.entry.Entry.{Entry}

-- one place for each of 1 to 8 parts, none over 1,000,000
pub record AreSomePlaces (places : List ℕ) : Type 0 where
  pub some : 1 ≤ length places
  pub few : length places ≤ 8
  pub within : All (λ place. place ≤ 1000000) places

-- some objects of the catalogue, none of them a member
pub record AreSomeOutsiders (setup : MonitorSetup) (before : List Entry) (failed : List ℕ) : Type 0 where
  pub some : 0 < length failed
  pub positive : (o : ℕ) → Contains failed o → 0 < o
  pub within : (o : ℕ) → Contains failed o → o ≤ setup.objects
  pub outside : (o : ℕ) → Contains failed o → Contains (members_at before) o → ⊥

-- each change is of an object of the catalogue, and a factor of at most 2^112 in size
abbrev pub AreWithinLimits : MonitorSetup → List (ℕ × ℤ) → Type 0
AreWithinLimits setup changes = (c : ℕ × ℤ) → Contains changes c → (c.0 ≤ setup.objects) × (unsigned_abs c.1 ≤ 2 ^ 112)

-- a border that is at most the level of each member, and at least -2^113
pub record IsBorderWithin (setup : MonitorSetup) (before : List Entry) (border : ℤ) : Type 0 where
  pub high : (t : ℕ) → Contains (members_at before) t → border ≤ℤ level_of setup before t
  pub low : neg_ℤ (pos (2 ^ 113)) ≤ℤ border
