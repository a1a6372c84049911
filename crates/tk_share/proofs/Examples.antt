-- Dealing worked out: the shares of a coordinator and two monitors.
use Rattle.std.proofs.Common.{◌≡◌, ℕ, pos, negsuc, List, [], ◌∷◌, refl}
use Rattle.tk_share.specs.Shares.{owned_units, share, shares, units}

-- weight 1 each: what does not go round falls to the first, a debt first to the last
abbrev even : List ℕ
even = 1 ∷ 1 ∷ 1 ∷ []

credit_of_three : shares even (pos 3) ≡ pos 1 ∷ pos 1 ∷ pos 1 ∷ []
unfolding shares share owned_units units
credit_of_three = refl

credit_of_two : shares even (pos 2) ≡ pos 1 ∷ pos 1 ∷ pos 0 ∷ []
unfolding shares share owned_units units
credit_of_two = refl

nothing_to_deal : shares even (pos 0) ≡ pos 0 ∷ pos 0 ∷ pos 0 ∷ []
unfolding shares share owned_units units
nothing_to_deal = refl

debt_of_two : shares even (negsuc 1) ≡ pos 0 ∷ negsuc 0 ∷ negsuc 0 ∷ []
unfolding shares share owned_units units
debt_of_two = refl

debt_of_four : shares even (negsuc 3) ≡ negsuc 0 ∷ negsuc 0 ∷ negsuc 1 ∷ []
unfolding shares share owned_units units
debt_of_four = refl

-- a coordinator of weight 0 is dealt nothing
credit_of_one : shares (0 ∷ 1 ∷ 1 ∷ []) (pos 1) ≡ pos 0 ∷ pos 1 ∷ pos 0 ∷ []
unfolding shares share owned_units units
credit_of_one = refl
