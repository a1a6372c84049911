-- Borders worked out: four objects of which the first two are members, and two objects at the coordinator.
use Rattle.std.proofs.Common.{◌≡◌, ℕ, ℤ, pos, List, [], ◌∷◌, refl}
use Rattle.tk_base.specs.Objects.{objects}
use Rattle.tk_border.specs.Levels.{border, broken, greatest_of, least_of, own_border, resolution}

abbrev levels : List ℤ
levels = pos 5 ∷ pos 4 ∷ pos 9 ∷ pos 1 ∷ []

abbrev members : List ℕ
members = 1 ∷ 2 ∷ []

-- the third object is above the second, a member
third_is_broken : broken levels members ≡ 3 ∷ []
unfolding objects least_of
third_is_broken = refl

-- so members and it are to be looked at
to_resolve : resolution 4 members (broken levels members) ≡ 1 ∷ 2 ∷ 3 ∷ []
unfolding objects least_of
to_resolve = refl

-- over these only the fourth object is outside
border_over_three : border levels members (1 ∷ 2 ∷ 3 ∷ []) ≡ pos 1
unfolding objects least_of greatest_of
border_over_three = refl

-- over the members the least member is below the greatest outside
border_over_members : border levels members members ≡ pos 4
unfolding objects least_of greatest_of
border_over_members = refl

-- equal levels break nothing
equal_is_not_broken : broken (pos 7 ∷ pos 7 ∷ []) (2 ∷ []) ≡ []
unfolding objects least_of
equal_is_not_broken = refl

-- at the coordinator, with own factors 0 and 4 and member 1: nothing is outside, and epsilon is 4
own_border_over_all : own_border (pos 0 ∷ pos 4 ∷ []) (1 ∷ []) (pos 4) (1 ∷ 2 ∷ []) ≡ pos 4
unfolding objects least_of greatest_of
own_border_over_all = refl

-- the second object is outside, and epsilon does not matter
own_border_over_one : own_border (pos 0 ∷ pos 4 ∷ []) (1 ∷ []) (pos 9) (1 ∷ []) ≡ pos 4
unfolding objects least_of greatest_of
own_border_over_one = refl
