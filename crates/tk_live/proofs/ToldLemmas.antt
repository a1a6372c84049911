-- What is told before the ends are joined, and what it tells of how the hub and the workers ended.
use Rattle.std.proofs.Common.{◌≡◌, ◌-◌, ◌⊎◌, ℕ, List, length, map, Bool, true, false, Option, Some, None, IfSome, All, refl, subst, inl, inr}
use Rattle.std.proofs.Math.ListN.{get_or-eq_default}
use Rattle.std.proofs.lemmas.Bool.{cases_lt}
use Rattle.std.proofs.lemmas.List.Elements.{All-map}
use Rattle.tk_base.specs.declared.ids.Mon.{Mon}
use Rattle.tk_end.specs.Link.{LinkView}
use Rattle.tk_hub.specs.End.{LeavesOdd}
use Rattle.tk_hub.specs.declared.course.Course.{Course}
use Rattle.tk_hub.specs.declared.course.Course.TheVariants as cs
use Rattle.tk_load.specs.Surroundings.{faults_told}
use Rattle.tk_load.specs.declared.status.Status.{Status}
use Rattle.tk_load.specs.declared.status.Status.TheVariants as st
use Rattle.tk_serve.specs.declared.served.Why.{Why}
use Rattle.tk_serve.specs.declared.served.Why.TheVariants as w
use Rattle.tk_story.specs.Ends.{HaveNothingOdd, kept_by}
use Rattle.tk_story.specs.declared.ends.coord_end.CoordEnd.{CoordEnd}
use Rattle.tk_story.specs.declared.ends.mon_end.MonEnd.{MonEnd}
use Rattle.tk_story.specs.declared.ends.received.Received.{Received}
use Rattle.tk_wire.specs.declared.net.NetFault.{NetFault}
use Rattle.tk_wire.specs.declared.net.NetFault.TheVariants as fault
use Rattle.tk_live.specs.Crew.{IsCalm, graver}
use Rattle.tk_live.specs.Ending.{cause_told, causes_told, net_told, unjoined}
use Rattle.tk_live.specs.Hosting.{IsRefusedCourse}
use Rattle.tk_live.specs.Parting.{faults_of, hub_why}
use Rattle.tk_live.specs.declared.parting.Parting.{Parting}
use Rattle.tk_live.specs.declared.parting.Parting.TheVariants as p
use Rattle.tk_live.proofs.CauseLemmas.{calm_both, stopped_both}
use Rattle.tk_live.proofs.TellLemmas.{IsFault}

-- ---- before any worker was started

pub net_is : (fault : NetFault) (risen : Bool) → (net_told fault risen ≡ st.LinkFault) ⊎ (net_told fault risen ≡ st.NoMemory)
net_is fault.Failed true = inl refl
net_is fault.Failed false = inr refl
net_is fault.NoMemory risen = inr refl

-- a failed net is told where its faults rose
pub net_linked : (fault : NetFault) (risen : Bool) → net_told fault risen ≡ st.LinkFault → risen ≡ true
net_linked fault.Failed true is = refl
net_linked fault.Failed false is = absurd (cc)
net_linked fault.NoMemory risen is = absurd (cc)

-- ---- joining

cause_joined : (cause : Why) (odd risen : Bool) → cause_told cause odd risen ≡ None → (cause ≡ w.Stopped) ⊎ (odd ≡ true)
cause_joined w.Stopped odd risen is = inl refl
cause_joined w.Odd true risen is = inr refl
cause_joined w.Odd false risen is = absurd (cc)
cause_joined w.NoMemory odd risen is = absurd (cc)
cause_joined w.Failed odd risen is = absurd (cc)

both_joined : (why cause : Why) (odd risen : Bool) → cause_told (graver why cause) odd risen ≡ None → ((why ≡ w.Stopped) × (cause ≡ w.Stopped)) ⊎ (odd ≡ true)
both_joined why cause odd risen is = elim (cause_joined (graver why cause) odd risen is) [
  | inl stopped ↦ inl (stopped_both why cause stopped)
  | inr some ↦ inr some
]

-- the ends are joined where the hub was finished and every worker stopped, or where something is odd
pub join_means : (parting : Parting) (cause : Why) (odd risen : Bool) → unjoined parting cause odd risen ≡ None → ((parting ≡ p.Finished) × (cause ≡ w.Stopped)) ⊎ (odd ≡ true)
join_means p.Finished cause odd risen is = elim (both_joined w.Stopped cause odd risen is) [
  | inl both ↦ inl (refl, both.1)
  | inr some ↦ inr some
]
join_means p.WriteFailed cause odd risen is = absurd (cc)
join_means p.NoMemory cause odd risen is = absurd (cc)
join_means p.Refused cause true risen is = inr refl
join_means p.Refused cause false risen is = absurd (cc)
join_means p.Alarmed cause odd risen is = elim (both_joined w.Failed cause odd risen is) [
  | inl both ↦ absurd (cc (both.0))
  | inr some ↦ inr some
]
join_means p.Failed cause odd risen is = elim (both_joined w.Failed cause odd risen is) [
  | inl both ↦ absurd (cc (both.0))
  | inr some ↦ inr some
]
join_means p.NetFailed cause odd risen is = elim (both_joined w.Failed cause odd risen is) [
  | inl both ↦ absurd (cc (both.0))
  | inr some ↦ inr some
]

-- ---- a failed link

cause_linked : (cause : Why) (odd risen : Bool) → cause_told cause odd risen ≡ Some st.LinkFault → IsCalm cause × (risen ≡ true)
cause_linked w.Stopped odd risen is = absurd (cc)
cause_linked w.Odd true risen is = absurd (cc)
cause_linked w.Odd false risen is = absurd (cc)
cause_linked w.NoMemory odd risen is = absurd (cc)
cause_linked w.Failed odd true is = (tt, refl)
cause_linked w.Failed odd false is = absurd (cc)

both_linked : (why cause : Why) (odd risen : Bool) → cause_told (graver why cause) odd risen ≡ Some st.LinkFault → (IsCalm why × IsCalm cause) × (risen ≡ true)
both_linked why cause odd risen is =
    let linked = cause_linked (graver why cause) odd risen is in (calm_both why cause linked.0, linked.1)

-- a link is told to have failed where the hub refused nothing, each worker ended by Stop or a fault, and the net's faults rose
pub linked_means : (parting : Parting) (cause : Why) (odd risen : Bool) → unjoined parting cause odd risen ≡ Some st.LinkFault → (parting ≡ p.Refused → ⊥) × (IsCalm cause × (risen ≡ true))
linked_means p.WriteFailed cause odd risen is = absurd (cc)
linked_means p.NoMemory cause odd risen is = absurd ((both_linked w.NoMemory cause odd risen is).0.0)
linked_means p.Refused cause odd risen is = absurd ((both_linked w.Odd cause odd risen is).0.0)
linked_means p.Finished cause odd risen is = let linked = both_linked w.Stopped cause odd risen is in (λ e. absurd (cc), (linked.0.1, linked.1))
linked_means p.Alarmed cause odd risen is = let linked = both_linked w.Failed cause odd risen is in (λ e. absurd (cc), (linked.0.1, linked.1))
linked_means p.Failed cause odd risen is = let linked = both_linked w.Failed cause odd risen is in (λ e. absurd (cc), (linked.0.1, linked.1))
linked_means p.NetFailed cause odd risen is = let linked = both_linked w.Failed cause odd risen is in (λ e. absurd (cc), (linked.0.1, linked.1))

-- a hub that refused nothing has nothing odd
pub odd_none : {W : Type 0} (course : Course) (links : List (Option (LinkView W))) (odd : Option (Mon × Received)) → (IsRefusedCourse course → ⊥) → LeavesOdd course links odd → odd ≡ None
odd_none cs.Open links odd never leaves = leaves
odd_none cs.Halted links odd never leaves = leaves
odd_none cs.Failed links odd never leaves = leaves
odd_none cs.WriteFailed links odd never leaves = leaves
odd_none (cs.Refused mon why) links odd never leaves = absurd (never tt)
odd_none (cs.Bad mon fault) links odd never leaves = absurd (never tt)

-- ends of which none has something odd
pub nothing_odd : (coordinator : CoordEnd) (monitors : List MonEnd) → coordinator.odd ≡ None → All (λ (end : MonEnd). end.odd ≡ None) monitors → HaveNothingOdd (kept_by coordinator monitors)
nothing_odd coordinator monitors hub workers = record {
  coordinator = hub;
  monitors = λ mon m.
      let odds = map (λ (end : MonEnd). end.odd) monitors in
      elim (cases_lt (mon - 1) (length odds)) [
        | inl within ↦ All-map (λ (o : Option Received). o ≡ None) (λ (end : MonEnd). end.odd) monitors workers (mon - 1) None within
        | inr past ↦ get_or-eq_default odds None past
      ];
}

-- ---- a fault

cause_fault : (cause : Why) (odd risen : Bool) → IfSome (cause_told cause odd risen) IsFault
cause_fault w.Stopped odd risen = tt
cause_fault w.Odd true risen = tt
cause_fault w.Odd false risen = tt
cause_fault w.NoMemory odd risen = tt
cause_fault w.Failed odd true = tt
cause_fault w.Failed odd false = tt

causes_fault : (hub : Option Why) (cause : Why) (odd risen : Bool) → IfSome (causes_told hub cause odd risen) IsFault
causes_fault None cause odd risen = tt
causes_fault (Some why) cause odd risen = cause_fault (graver why cause) odd risen

-- what is told before the ends are joined is a fault
pub told_fault : (parting : Parting) (cause : Why) (odd risen : Bool) (status : Status) → unjoined parting cause odd risen ≡ Some status → IsFault status
told_fault parting cause odd risen status is = subst (λ told. IfSome told IsFault) is (causes_fault (hub_why parting) cause odd risen)

-- ---- a failed write

cause_spared : (cause : Why) (odd risen : Bool) (faults : ℕ) → IfSome (cause_told cause odd risen) (λ status. faults ≡ faults_told status faults)
cause_spared w.Stopped odd risen faults = tt
cause_spared w.Odd true risen faults = tt
cause_spared w.Odd false risen faults = refl
cause_spared w.NoMemory odd risen faults = refl
cause_spared w.Failed odd true faults = refl
cause_spared w.Failed odd false faults = refl

hub_counted : (parting : Parting) (cause : Why) (odd risen : Bool) (faults : ℕ) → IfSome (unjoined parting cause odd risen) (λ status. faults_of parting faults ≡ faults_told status faults)
hub_counted p.WriteFailed cause odd risen faults = refl
hub_counted p.NoMemory cause odd risen faults = cause_spared (graver w.NoMemory cause) odd risen faults
hub_counted p.Refused cause odd risen faults = cause_spared (graver w.Odd cause) odd risen faults
hub_counted p.Finished cause odd risen faults = cause_spared (graver w.Stopped cause) odd risen faults
hub_counted p.Alarmed cause odd risen faults = cause_spared (graver w.Failed cause) odd risen faults
hub_counted p.Failed cause odd risen faults = cause_spared (graver w.Failed cause) odd risen faults
hub_counted p.NetFailed cause odd risen faults = cause_spared (graver w.Failed cause) odd risen faults

-- a write is told to have failed just where the hub did not write
pub told_counted : (parting : Parting) (cause : Why) (odd risen : Bool) (status : Status) → unjoined parting cause odd risen ≡ Some status → (faults : ℕ) → faults_of parting faults ≡ faults_told status faults
told_counted parting cause odd risen status is faults = subst (λ told. IfSome told (λ s. faults_of parting faults ≡ faults_told s faults)) is (hub_counted parting cause odd risen faults)

-- and where the ends are joined no put of the hub failed
pub joined_counted : (parting : Parting) (cause : Why) (odd risen : Bool) → unjoined parting cause odd risen ≡ None → (faults : ℕ) → faults_of parting faults ≡ faults
joined_counted p.WriteFailed cause odd risen is faults = absurd (cc)
joined_counted p.NoMemory cause odd risen is faults = refl
joined_counted p.Refused cause odd risen is faults = refl
joined_counted p.Finished cause odd risen is faults = refl
joined_counted p.Alarmed cause odd risen is faults = refl
joined_counted p.Failed cause odd risen is faults = refl
joined_counted p.NetFailed cause odd risen is faults = refl
