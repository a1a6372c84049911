-- Reallocation and the choice of members worked out: monitor 1 has 5 of the first object, the member, and
-- monitor 2 has 3 of the second.
use Rattle.std.proofs.Common.{◌≡◌, ℕ, ℤ, pos, negsuc, List, [], ◌∷◌, map, refl}
use Rattle.tk_base.specs.Objects.{objects}
use Rattle.tk_base.specs.Settings.{Setup}
use Rattle.tk_border.specs.Levels.{greatest_of, least_of}
use Rattle.tk_rows.specs.Factors.{Grid}
use Rattle.tk_share.specs.Shares.{owned_units, share, units}
use Rattle.tk_alloc.specs.declared.reported.Reported.{Reported}
use Rattle.tk_alloc.specs.Limit.{full_factors, short_factors}
use Rattle.tk_alloc.specs.Parts.{Part, leeway}
use Rattle.tk_alloc.specs.Pick.{picked}
use Rattle.tk_alloc.specs.Resolving.{round_border, round_parts}

abbrev setup : ℕ → Setup
setup epsilon = record { k = 1; epsilon = pos epsilon; own_weight = 1; objects = 2; monitors = 2 }

-- no factors yet
abbrev grid : Grid
grid = record { monitors = 2; rows = (pos 0 ∷ pos 0 ∷ pos 0 ∷ []) ∷ (pos 0 ∷ pos 0 ∷ pos 0 ∷ []) ∷ [] }

abbrev first : Reported
first = record { mon = record { 0 = 1 }; values = (1, pos 5) ∷ (2, pos 0) ∷ []; border = pos 5 }

abbrev second : Reported
second = record { mon = record { 0 = 2 }; values = (1, pos 0) ∷ (2, pos 3) ∷ []; border = pos 0 }

abbrev both : List Reported
both = first ∷ second ∷ []

-- ---- the full round of both monitors, with epsilon 0

abbrev all_parts : List Part
all_parts = round_parts (setup 0) grid (1 ∷ []) (1 ∷ []) (1 ∷ 2 ∷ []) both

full_borders : map (λ part. part.border) all_parts ≡ pos 0 ∷ pos 5 ∷ pos 0 ∷ []
unfolding objects round_border least_of greatest_of
full_borders = refl

full_leeways : map (leeway grid all_parts) (1 ∷ 2 ∷ []) ≡ pos 0 ∷ negsuc 1 ∷ []
unfolding objects round_border leeway least_of greatest_of
full_leeways = refl

-- the member stays: its factors stay 0, and 4 of the second object goes from monitor 2 to monitor 1
full_round_deals : full_factors (setup 0) grid (1 ∷ []) both ≡ (0, (1, pos 0) ∷ (2, pos 0) ∷ []) ∷ (1, (1, pos 0) ∷ (2, pos 4) ∷ []) ∷ (2, (1, pos 0) ∷ (2, negsuc 3) ∷ []) ∷ []
unfolding objects round_border leeway least_of greatest_of picked share units owned_units
full_round_deals = refl

-- ---- the short round of monitor 2, with epsilon 4

abbrev two_parts : List Part
two_parts = round_parts (setup 4) grid (1 ∷ []) (1 ∷ []) (1 ∷ 2 ∷ []) (second ∷ [])

short_borders : map (λ part. part.border) two_parts ≡ pos 4 ∷ pos 0 ∷ []
unfolding objects round_border least_of greatest_of
short_borders = refl

short_leeways : map (leeway grid two_parts) (1 ∷ 2 ∷ []) ≡ pos 0 ∷ negsuc 0 ∷ []
unfolding objects round_border leeway least_of greatest_of
short_leeways = refl

short_round_deals : short_factors (setup 4) grid (1 ∷ []) second ≡ (0, (1, pos 0) ∷ (2, pos 4) ∷ []) ∷ (2, (1, pos 0) ∷ (2, negsuc 3) ∷ []) ∷ []
unfolding objects round_border leeway least_of greatest_of share units owned_units
short_round_deals = refl

-- ---- the choice of members

abbrev equal_totals : List (ℕ × ℤ)
equal_totals = (1, pos 3) ∷ (2, pos 3) ∷ (3, pos 3) ∷ []

-- on a tie a present member goes first, then the lesser object
present_member_first : picked equal_totals (3 ∷ []) 1 ≡ 3 ∷ []
unfolding picked
present_member_first = refl

lesser_object_next : picked equal_totals (2 ∷ []) 2 ≡ 1 ∷ 2 ∷ []
unfolding picked
lesser_object_next = refl

-- a greater total goes before a present member
greater_total_first : picked ((1, pos 1) ∷ (2, pos 5) ∷ (3, pos 5) ∷ []) (1 ∷ []) 1 ≡ 2 ∷ []
unfolding picked
greater_total_first = refl
