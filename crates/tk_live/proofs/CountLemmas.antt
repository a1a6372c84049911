-- How many puts of the output failed, by how the loop, the printing and the run ended.
use Rattle.std.proofs.Common.{◌≡◌, ◌⊎◌, ℕ, Bool, Option, None, Result, Ok, Err, refl, sym, ap, subst, ◌∙◌, inl, inr}
use Rattle.std.specs.Prelude.{IsErrAnd, unwrap_or}
use Rattle.tk_hub.specs.Writing.{turn_faults}
use Rattle.tk_hub.specs.declared.course.HubTurn.{HubTurn}
use Rattle.tk_hub.specs.declared.course.HubTurn.TheVariants as t
use Rattle.tk_ledger.specs.Printing.{print_faults}
use Rattle.tk_ledger.specs.declared.printing.PrintFault.{PrintFault}
use Rattle.tk_ledger.specs.declared.printing.PrintFault.TheVariants as g
use Rattle.tk_story.specs.declared.ends.join_fault.JoinFault.{JoinFault}
use Rattle.tk_story.specs.declared.ends.join_fault.JoinFault.TheVariants as f
use Rattle.tk_live.specs.Hosting.{IsOfNet}
use Rattle.tk_live.specs.Joined.{joined_as}
use Rattle.tk_live.specs.Joining.{printed_as}
use Rattle.tk_live.specs.Parting.{faults_of, of_turn, round_faults}
use Rattle.tk_load.specs.Surroundings.{faults_told}
use Rattle.tk_live.specs.declared.parting.Parting.{Parting}
use Rattle.tk_live.specs.declared.parting.Parting.TheVariants as p
use Rattle.tk_live.specs.declared.outcome.LiveOutcome.{LiveOutcome}
use Rattle.tk_load.specs.declared.status.Status.{Status}
use Rattle.tk_load.specs.declared.status.Status.TheVariants as st

-- ---- the loop

-- the net writes nothing
pub faults_net : (parting : Parting) → IsOfNet parting → (faults : ℕ) → faults_of parting faults ≡ faults
faults_net p.NetFailed is faults = refl
faults_net p.NoMemory is faults = refl
faults_net p.Finished is faults = absurd is
faults_net p.Alarmed is faults = absurd is
faults_net p.Failed is faults = absurd is
faults_net p.Refused is faults = absurd is
faults_net p.WriteFailed is faults = absurd is

-- so where it ends a round
pub faults_parted : (parting : Parting) (result : Result Bool Parting) → IsErrAnd result (λ q. q ≡ parting) → IsOfNet parting → (faults : ℕ) → faults ≡ round_faults result faults
faults_parted parting (Ok idle) is net faults = absurd is
faults_parted parting (Err q) is net faults = sym (faults_net q (subst IsOfNet (sym is) net) faults)

turned_as : (turn : HubTurn) (faults : ℕ) → turn_faults turn faults ≡ faults_of (unwrap_or (of_turn turn) p.Finished) faults
turned_as t.Quiet faults = refl
turned_as t.More faults = refl
turned_as t.Finished faults = refl
turned_as t.Failed faults = refl
turned_as (t.Refused mon why) faults = refl
turned_as (t.Bad mon why) faults = refl
turned_as t.WriteFailed faults = refl
turned_as t.NoMemory faults = refl

-- a turn that ends the loop failed to write where that end tells it, and one that does not end it has written
pub faults_turned : (turn : HubTurn) (parting : Option Parting) → of_turn turn ≡ parting → (faults : ℕ) → turn_faults turn faults ≡ faults_of (unwrap_or parting p.Finished) faults
faults_turned turn parting is faults = turned_as turn faults ∙ ap (λ o. faults_of (unwrap_or o p.Finished) faults) is

pub same_count : (parting : Parting) (old now after : ℕ) → now ≡ faults_of parting old → after ≡ now → after ≡ faults_of parting old
same_count parting old now after is same = same ∙ is

-- ---- the status

-- a failed link, or want of memory
pub link_spared : (status : Status) → (status ≡ st.LinkFault) ⊎ (status ≡ st.NoMemory) → (faults : ℕ) → faults ≡ faults_told status faults
link_spared status (inl is) faults = ap (λ x. faults_told x faults) (sym is)
link_spared status (inr is) faults = ap (λ x. faults_told x faults) (sym is)

-- so where no worker was started
pub unstarted_spared : (status : Status) → (status ≡ st.LinkFault) ⊎ (status ≡ st.NoMemory) → (lived : LiveOutcome) → lived ≡ record { status = status; story = None; ends = None } → (faults : ℕ) → faults ≡ faults_told lived.status faults
unstarted_spared status which lived is faults = link_spared status which faults ∙ ap (λ (l : LiveOutcome). faults_told l.status faults) (sym is)

-- a difference, or want of memory
pub joined_spared : (why : JoinFault) (faults : ℕ) → faults ≡ faults_told (joined_as why) faults
joined_spared (f.Differs difference) faults = refl
joined_spared f.NoMemory faults = refl

-- the status on a ledger that was printed
pub printed_told : {A : Type 0} (printed : Result A PrintFault) (faults : ℕ) → print_faults printed faults ≡ faults_told (printed_as printed) faults
printed_told (Ok done) faults = refl
printed_told (Err g.WriteFailed) faults = refl
printed_told (Err g.NoMemory) faults = refl
