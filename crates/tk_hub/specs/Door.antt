-- Connections that have said no Hello yet, and what a greeting does with each.
use Rattle.std.specs.Prelude.{◌≡◌, ◌⊎◌, ℕ, ◌+◌, ◌-◌, ◌≤◌, zero, suc, Bool, List, [], length, set, Option, Some, None, Result, Ok, Err, IsErr, ◌↔◌}
use Rattle.slab.specs.Slab.{Slab, Updates, get, slab_len}
use Rattle.tk_base.specs.declared.ids.Mon.{Mon}
use Rattle.tk_base.specs.declared.memory.NoMemory.{NoMemory}
use Rattle.tk_wire.specs.Meanings.{Counts, Traffic, raised_by}
use Rattle.tk_end.specs.Link.{LinkView}
use Rattle.tk_hub.specs.Seats.{IsFree, SeatsView}
use Rattle.tk_hub.specs.Visitor.{Gathers, GoesOn, Greets, HasGreeted, VisitorView}
use Rattle.tk_hub.specs.declared.visitor.Greeting.{Greeting}
use Rattle.tk_hub.specs.declared.visitor.Greeting.TheVariants as g

-- the connections that are held, by key, and how many were closed as strangers
pub record LobbyView (W : Type 0) : Type 0 where
  pub held : Slab (VisitorView W)
  pub strangers : ℕ

-- the same with the links of those that were admitted
pub record DoorView (W : Type 0) : Type 0 where
  pub lobby : LobbyView W
  pub links : List (Option (LinkView W))

-- a lobby beside the seats
abbrev pub door : {W : Type 0} → LobbyView W → SeatsView W → DoorView W
door lobby seats = record { lobby = lobby; links = seats.links }

-- one more connection is held, of which nothing came yet
abbrev pub HoldsNew : {W : Type 0} → Bool → Traffic → Counts → W → Slab (VisitorView W) → Slab (VisitorView W) → Type 0
HoldsNew tells traffic counts wire old new = Updates old new old.vacant_key (Some (record {
  wire = wire;
  tells = tells;
  traffic = traffic;
  counts = counts;
  bytes = [];
  front = None;
}))

-- the connection is held on, with what came since
pub record StaysHeld {W : Type 0} (key : ℕ) (after : VisitorView W) (old new : DoorView W) : Type 0 where
  pub updates : Updates old.lobby.held new.lobby.held key (Some after)
  pub count : slab_len new.lobby.held ≡ slab_len old.lobby.held
  pub strangers : new.lobby.strangers ≡ old.lobby.strangers
  pub links : new.links ≡ old.links

-- the connection is held no more
pub record IsTakenOut {W : Type 0} (key : ℕ) (old new : DoorView W) : Type 0 where
  pub updates : Updates old.lobby.held new.lobby.held key None
  pub count : slab_len new.lobby.held + 1 ≡ slab_len old.lobby.held

-- a connection is closed and counted
pub record IsTurnedAway {W : Type 0} (old new : DoorView W) : Type 0 where
  pub strangers : new.lobby.strangers ≡ raised_by 1 old.lobby.strangers
  pub links : new.links ≡ old.links

-- a connection is admitted, as the link of its monitor
pub record IsAdmitted {W : Type 0} (run : ℕ) (mon : Mon) (after : VisitorView W) (old new : DoorView W) : Type 0 where
  pub strangers : new.lobby.strangers ≡ old.lobby.strangers
  pub link : LinkView W
  pub goes_on : GoesOn after link
  pub greeted : HasGreeted run mon link
  pub links : new.links ≡ set old.links (mon.0 - 1) (Some link)

-- a guest is admitted where there is such a monitor and it is not there yet, and else closed
abbrev pub IsWelcomed : {W : Type 0} → ℕ → ℕ → Mon → VisitorView W → DoorView W → DoorView W → Type 0
IsWelcomed run monitors mon after old new =
    (IsFree mon.0 monitors old.links × IsAdmitted run mon after old new) ⊎ ((IsFree mon.0 monitors old.links → ⊥) × IsTurnedAway old new)

-- what a greeting leaves
abbrev pub IsAnswered : {W : Type 0} → ℕ → ℕ → ℕ → Greeting → VisitorView W → DoorView W → DoorView W → Type 0
IsAnswered run monitors key g.Nothing after old new = StaysHeld key after old new
IsAnswered run monitors key g.NoMemory after old new = StaysHeld key after old new
IsAnswered run monitors key g.Strange after old new = IsTakenOut key old new × IsTurnedAway old new
IsAnswered run monitors key (g.Hello guest) after old new = IsTakenOut key old new × IsWelcomed run monitors guest.mon after old new

-- a held connection is greeted: bytes came, and it is answered by what they say; its counts are still those of its wire
pub record GreetsOne {W : Type 0} (counts : W → Counts) (run monitors key : ℕ) (result : Result (Unit {0}) NoMemory) (v : VisitorView W) (old new : DoorView W) : Type 0 where
  pub after : VisitorView W
  pub greeting : Greeting
  pub greets : Greets run greeting v after
  pub gathers : Gathers v after
  pub counted : counts after.wire ≡ after.counts
  pub answered : IsAnswered run monitors key greeting after old new
  pub memory : IsErr result ↔ (greeting ≡ g.NoMemory)

-- a connection is greeted, if there is one, and else nothing happens
abbrev pub GreetsSlot : {W : Type 0} → (W → Counts) → ℕ → ℕ → ℕ → Result (Unit {0}) NoMemory → Option (VisitorView W) → DoorView W → DoorView W → Type 0
GreetsSlot counts run monitors key result None old new = (new ≡ old) × (result ≡ Ok tt)
GreetsSlot counts run monitors key result (Some v) old new = GreetsOne counts run monitors key result v old new

-- at a key, where a connection may be held
abbrev pub GreetsAt : {W : Type 0} → (W → Counts) → ℕ → ℕ → ℕ → Result (Unit {0}) NoMemory → DoorView W → DoorView W → Type 0
GreetsAt counts run monitors key result old new = GreetsSlot counts run monitors key result (get old.lobby.held key) old new

-- at each of so many keys, ascending, where each greeting found the memory
abbrev pub GreetsUpTo : {W : Type 0} → (W → Counts) → ℕ → ℕ → ℕ → DoorView W → DoorView W → Type 0
GreetsUpTo counts run monitors zero old new = new ≡ old
GreetsUpTo {W} counts run monitors (suc key) old new =
    (mid : DoorView W) × GreetsUpTo counts run monitors key old mid × GreetsAt counts run monitors key (Ok tt) mid new

-- each connection that was held is greeted
pub record GreetsAll {W : Type 0} (counts : W → Counts) (run monitors : ℕ) (old new : DoorView W) : Type 0 where
  pub keys : ℕ
  pub greets : GreetsUpTo counts run monitors keys old new
  pub all : length old.lobby.held.slots ≤ keys

-- some of the first are, and the greeting behind them found no memory
pub record GreetsSome {W : Type 0} (counts : W → Counts) (run monitors : ℕ) (old new : DoorView W) : Type 0 where
  pub keys : ℕ
  pub mid : DoorView W
  pub greets : GreetsUpTo counts run monitors keys old mid
  pub last : Result (Unit {0}) NoMemory
  pub wants : IsErr last
  pub greeted : GreetsAt counts run monitors keys last mid new

-- each is greeted where there was the memory, and else some are
abbrev pub GreetsHeld : {W : Type 0} → (W → Counts) → ℕ → ℕ → Result (Unit {0}) NoMemory → DoorView W → DoorView W → Type 0
GreetsHeld counts run monitors (Ok done) old new = GreetsAll counts run monitors old new
GreetsHeld counts run monitors (Err e) old new = GreetsSome counts run monitors old new
