-- What each event of a settling changes of what is read. No public clause but the bounds cites this file.
use Rattle.std.specs.Prelude.{ℕ, ◌+◌, ◌-◌, ◌*◌, ◌≡◌, ◌≤◌, ◌<◌, ◌⊎◌, Bool, true, false, if◌then◌else◌}
use Rattle.std.specs.List.{range_with_len, list_all, list_any}
use Rattle.tk_drain.specs.Energy.{Local, Shared, energies}

-- what is read of the journal, and of each monitor
pub record Readings : Type 0 where
  pub waiting : Bool
  pub wide : Bool
  pub stopped : Bool
  pub streak : ℕ
  pub local : ℕ → Local

-- whether at none of m monitors a change was raised since the last Assign to it
abbrev pub all_present : ℕ → Readings → Bool
all_present m r = list_all (λ j. (r.local j).present) (range_with_len 1 m)

-- whether any of m monitors is strained
abbrev pub any_strained : ℕ → Readings → Bool
any_strained m r = list_any (λ j. (r.local j).strained) (range_with_len 1 m)

-- rounds left: whether a round is open, whether it is wide, whether all are present, whether someone is strained, the streak
abbrev pub left_of : Bool → Bool → Bool → Bool → ℕ → ℕ
left_of true true true strained streak = 0
left_of true true false strained streak = 9
left_of true false true strained streak = 1 + (8 - streak)
left_of true false false strained streak = 10
left_of false wide true true streak = 1 + (8 - streak)
left_of false wide true false streak = 0
left_of false wide false strained streak = 11

-- the rounds left by what is read of m monitors: at most so many can open while nothing is raised
abbrev pub rounds_left : ℕ → Readings → ℕ
rounds_left m r = left_of r.waiting r.wide (all_present m r) (any_strained m r) r.streak

-- what the energies of m monitors share, by what is read
abbrev pub shared_of : ℕ → Readings → Shared
shared_of m r = record { waiting = r.waiting; stopped = r.stopped; rounds = rounds_left m r }

-- the energy of all of m monitors, by what is read
abbrev pub energy_of_all : ℕ → Readings → ℕ
energy_of_all m r = energies m (shared_of m r) r.local

-- a check that sends
pub record Checks (m at : ℕ) (r r' : Readings) : Type 0 where
  pub from_one : 1 ≤ at
  pub within : at ≤ m
  pub waiting : r'.waiting ≡ r.waiting
  pub wide : r'.wide ≡ r.wide
  pub stopped : r'.stopped ≡ r.stopped
  pub streak : r'.streak ≡ r.streak
  pub others : (j : ℕ) → (j ≡ at → ⊥) → r'.local j ≡ r.local j
  pub up : (r'.local at).up ≡ (r.local at).up + 1
  pub down : (r'.local at).down ≡ (r.local at).down
  pub was_due : (r.local at).due ≡ true
  pub not_due : (r'.local at).due ≡ false
  pub present : (r'.local at).present ≡ (r.local at).present
  pub strained : (r'.local at).strained ≡ (r.local at).strained

-- a frame of the coordinator that is taken, with its answer
pub record Takes (m at : ℕ) (r r' : Readings) : Type 0 where
  pub from_one : 1 ≤ at
  pub within : at ≤ m
  pub waiting : r'.waiting ≡ r.waiting
  pub wide : r'.wide ≡ r.wide
  pub stopped : r'.stopped ≡ r.stopped
  pub streak : r'.streak ≡ r.streak
  pub others : (j : ℕ) → (j ≡ at → ⊥) → r'.local j ≡ r.local j
  pub up : (r'.local at).up ≤ (r.local at).up + 1
  pub down : (r.local at).down ≡ (r'.local at).down + 1
  pub due : (r'.local at).due ≡ true → (r.local at).due ≡ true
  pub present : (r'.local at).present ≡ (r.local at).present
  pub strained : (r'.local at).strained ≡ (r.local at).strained

-- what every turn of the coordinator keeps: it takes one frame of a monitor, sends some frames and perhaps a Stop to each
pub record Turns (m at : ℕ) (r r' : Readings) (sent : ℕ → ℕ) (stops : ℕ) : Type 0 where
  pub from_one : 1 ≤ at
  pub within : at ≤ m
  pub due : (j : ℕ) → (r'.local j).due ≡ (r.local j).due
  pub here : (r.local at).up ≡ (r'.local at).up + 1
  pub up : (j : ℕ) → (j ≡ at → ⊥) → (r'.local j).up ≡ (r.local j).up
  pub down : (j : ℕ) → (r'.local j).down ≤ (r.local j).down + sent j + stops
  pub present : (j : ℕ) → (r.local j).present ≡ true → (r'.local j).present ≡ true
  pub paid : (if r'.stopped then 0 else 2) + 2 * stops ≤ (if r.stopped then 0 else 2)

-- the streak goes on, or begins again at a calm turn; where all are present nobody is strained at a calm turn
pub record Goes (m fails : ℕ) (r r' : Readings) : Type 0 where
  pub calm : Bool
  pub streak : r'.streak ≡ (if calm then 0 else r.streak + fails)
  pub closed : calm ≡ true → r'.waiting ≡ false
  pub sound : calm ≡ true → all_present m r' ≡ true → any_strained m r' ≡ false

-- a turn that sends nothing, or Stop alone, and neither opens nor ends a round
pub record Plain (m at stops : ℕ) (r r' : Readings) : Type 0 where
  pub turn : Turns m at r r' (λ j. 0) stops
  pub goes : Goes m 0 r r'
  pub waiting : r'.waiting ≡ r.waiting
  pub wide : r'.wide ≡ r.wide
  pub strained : (j : ℕ) → (r'.local j).strained ≡ (r.local j).strained

-- a turn of a short round: one Assign, to the reporter, which is mended where its Report spoke of present values
pub record Short (m at stops : ℕ) (r r' : Readings) (sent : ℕ → ℕ) : Type 0 where
  pub turn : Turns m at r r' sent stops
  pub one : sent at ≡ 1
  pub none : (j : ℕ) → (j ≡ at → ⊥) → sent j ≡ 0
  pub goes : Goes m 0 r r'
  pub closed : r.waiting ≡ false
  pub waiting : r'.waiting ≡ r.waiting
  pub wide : r'.wide ≡ r.wide
  pub strained : (j : ℕ) → (j ≡ at → ⊥) → (r'.local j).strained ≡ (r.local j).strained
  pub renewed : (r'.local at).present ≡ true
  pub report : (r.local at).present ≡ true → (r.local at).strained ≡ true
  pub mended : (r.local at).present ≡ true → (r'.local at).strained ≡ false

-- a turn that opens a round: a wide one, or a full one while the streak is below 8
pub record Opens (m at stops : ℕ) (r r' : Readings) (sent : ℕ → ℕ) : Type 0 where
  pub turn : Turns m at r r' sent stops
  pub most : (j : ℕ) → sent j ≤ 1
  pub closed : r.waiting ≡ false
  pub opened : r'.waiting ≡ true
  pub kind : (r'.wide ≡ true) ⊎ ((r.streak < 8) × (r'.streak ≡ r.streak + 1))
  pub same : (j : ℕ) → (r'.local j).present ≡ (r.local j).present
  pub strained : (j : ℕ) → (r'.local j).strained ≡ (r.local j).strained
  pub report : (r.local at).present ≡ true → (r.local at).strained ≡ true

-- a turn that ends a round, with an Assign to each; where a wide one was told present values, nobody is strained
pub record Ends (m at stops : ℕ) (r r' : Readings) (sent : ℕ → ℕ) : Type 0 where
  pub turn : Turns m at r r' sent stops
  pub most : (j : ℕ) → sent j ≤ 1
  pub goes : Goes m 0 r r'
  pub opened : r.waiting ≡ true
  pub closed : r'.waiting ≡ false
  pub renewed : (j : ℕ) → (r'.local j).present ≡ true
  pub mended : r.wide ≡ true → all_present m r ≡ true → any_strained m r' ≡ false

-- a turn that ends a full round and opens a wide one in place of its Assigns
pub record OpensNext (m at stops : ℕ) (r r' : Readings) (sent : ℕ → ℕ) : Type 0 where
  pub turn : Turns m at r r' sent stops
  pub most : (j : ℕ) → sent j ≤ 1
  pub was : r.waiting ≡ true
  pub full : r.wide ≡ false
  pub opened : r'.waiting ≡ true
  pub wide : r'.wide ≡ true
  pub same : (j : ℕ) → (r'.local j).present ≡ (r.local j).present
  pub strained : (j : ℕ) → (r'.local j).strained ≡ (r.local j).strained

-- a turn of the one monitor there is: a full round opens, and ends at once
pub record Lone (m at stops : ℕ) (r r' : Readings) (sent : ℕ → ℕ) : Type 0 where
  pub turn : Turns m at r r' sent stops
  pub most : (j : ℕ) → sent j ≤ 1
  pub goes : Goes m 1 r r'
  pub was : r.waiting ≡ false
  pub closed : r'.waiting ≡ false
  pub few : r.streak < 8
  pub renewed : (j : ℕ) → (r'.local j).present ≡ true
  pub report : (r.local at).present ≡ true → (r.local at).strained ≡ true

-- the same where the end of that round opens a wide one in place of its Assigns
pub record LoneOpens (m at stops : ℕ) (r r' : Readings) (sent : ℕ → ℕ) : Type 0 where
  pub turn : Turns m at r r' sent stops
  pub most : (j : ℕ) → sent j ≤ 1
  pub closed : r.waiting ≡ false
  pub few : r.streak < 8
  pub opened : r'.waiting ≡ true
  pub wide : r'.wide ≡ true
  pub same : (j : ℕ) → (r'.local j).present ≡ (r.local j).present
  pub strained : (j : ℕ) → (r'.local j).strained ≡ (r.local j).strained
  pub report : (r.local at).present ≡ true → (r.local at).strained ≡ true

-- less energy, and no more rounds than those left are opened
pub record Lessens (m opened : ℕ) (r r' : Readings) : Type 0 where
  pub energy : energy_of_all m r' < energy_of_all m r
  pub rounds : rounds_left m r' + opened ≤ rounds_left m r
