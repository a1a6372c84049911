-- What contracts see of a net, and what its calls change.
use Rattle.std.specs.Prelude.{◌≡◌, ◌+◌, ℕ, [], Bool, true, false, Option, Some, None, Result, Ok, Err, if◌then◌else◌, nat_lt, ◌||◌}
use Rattle.tk_wire.specs.Meanings.{Traffic, Counts, raised_by}
use Rattle.tk_wire.specs.declared.net.NetFault.{NetFault}
use Rattle.tk_wire.specs.declared.net.NetFault.TheVariants.{Failed, NoMemory}

-- whether it listens, how many links connect gave, how many faults there were, and how many bytes were taken
-- from the links that came back
pub record NetState : Type 0 where
  pub listens : Bool
  pub links : ℕ
  pub faults : ℕ
  pub taken : ℕ

-- a count of faults after a call that may fail
abbrev pub faults_after : {A : Type 0} → Result A NetFault → ℕ → ℕ
faults_after (Ok x) faults = faults
faults_after (Err Failed) faults = raised_by 1 faults
faults_after (Err NoMemory) faults = faults

-- a net after a call that changes nothing but its faults
abbrev pub called : {A : Type 0} → Result A NetFault → NetState → NetState
called result net = record net { faults = faults_after result net.faults }

-- a net after listen
abbrev pub listened : {A : Type 0} → Result A NetFault → NetState → NetState
listened (Ok x) net = record net { listens = true }
listened (Err Failed) net = record net { faults = raised_by 1 net.faults }
listened (Err NoMemory) net = net

-- a net after close: nothing listens any more
abbrev pub closed : NetState → NetState
closed net = record net { listens = false }

-- a net after connect
abbrev pub connected : {A : Type 0} → Result A NetFault → NetState → NetState
connected (Ok x) net = record net { links = net.links + 1 }
connected (Err Failed) net = record net { faults = raised_by 1 net.faults }
connected (Err NoMemory) net = net

-- how many connections wait after connect
abbrev pub knocking_connected : {A : Type 0} → Result A NetFault → ℕ → ℕ
knocking_connected (Ok x) knocking = knocking + 1
knocking_connected (Err fault) knocking = knocking

-- accept gives a link for one connection that waits, and None only where none does
abbrev pub Accepts : {A : Type 0} → Result (Option A) NetFault → ℕ → ℕ → Type 0
Accepts (Ok (Some link)) old new = old ≡ new + 1
Accepts (Ok None) old new = (old ≡ 0) × (new ≡ 0)
Accepts (Err fault) old new = new ≡ old

-- a wire that nothing has passed yet
pub record IsNew (tells : Bool) (traffic : Traffic) (counts : Counts) : Type 0 where
  pub faults : counts.faults ≡ 0
  pub ends : counts.ends ≡ 0
  pub taken : counts.taken ≡ 0
  pub came : tells ≡ true → traffic.came ≡ []
  pub went : tells ≡ true → traffic.went ≡ []

-- a net after a link came back with these counts
abbrev pub given_back : Counts → NetState → NetState
given_back link net = record net {
  faults = if nat_lt 0 link.faults || nat_lt 0 link.ends then raised_by 1 net.faults else net.faults;
  taken = raised_by link.taken net.taken;
}

-- a net after a rest came back with this count of faults
abbrev pub rest_given_back : ℕ → NetState → NetState
rest_given_back faults net = record net { faults = if nat_lt 0 faults then raised_by 1 net.faults else net.faults }
