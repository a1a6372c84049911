-- Assign lists: the members and the factors that a list of Assigns gives.
use Rattle.std.specs.Prelude.{ℕ, ℤ, pos, List, [], Option, Some, None, fold, unwrap_or}
use Rattle.tk_base.specs.Pairs.{value_at}
use Rattle.tk_frames.specs.declared.frame.Frame.{Frame}
use Rattle.tk_frames.specs.declared.frame.Frame.TheVariants as f

-- what one Assign says
pub record Assign : Type 0 where
  pub members : List ℕ
  pub changes : List (ℕ × ℤ)

-- the Assign that a frame is, if it is one
abbrev pub assign_in : Frame → Option Assign
assign_in (f.Assign seq members changes) = Some (record { members = members; changes = changes })
assign_in (f.Hello run version mon) = None
assign_in (f.Report seq border failed values) = None
assign_in (f.Collect round objects) = None
assign_in (f.Values round seq border values) = None
assign_in (f.Settled seq last places) = None
assign_in f.Stop = None

-- the factor of an object: what the last Assign that names it gives, and 0 where none names it
abbrev pub row : List Assign → ℕ → ℤ
row assigns o = fold (λ factor assign. unwrap_or (value_at assign.changes o) factor) (pos 0) assigns

-- the members that the last Assign names
abbrev pub members_of : List Assign → List ℕ
members_of assigns = fold (λ _ assign. assign.members) [] assigns
