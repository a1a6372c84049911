-- A rank as its levels and its members.
use Rattle.std.specs.Prelude.{ℕ, ℤ, List, length}
use Rattle.tk_base.specs.Ascending.{IsAscending}
use Rattle.tk_border.specs.Levels.{AreMembers, AreObjects, AreSmall}

-- the levels of all objects, and the members among them
pub record RankView : Type 0 where
  pub levels : List ℤ
  pub members : List ℕ

-- what holds of every rank
pub record IsRanked (r : RankView) : Type 0 where
  pub objects : AreObjects r.levels
  pub small : AreSmall r.levels
  pub ascends : IsAscending r.members
  pub members : AreMembers (length r.levels) r.members
