-- What one connection comes to. No public clause cites it.
use Rattle.std.specs.Prelude.{◌≡◌, ℕ, List, length, flat_map, Option, Result, Ok, Err, ⊤}
use Rattle.std.specs.List.{AllByRecursion}
use Rattle.tk_input.specs.Sink.{Grows, GrowsByFront}
use Rattle.tk_watch.specs.Connections.{FitsLast, GrowsAs, HasBegun, IsSo, Left, Past, Said, begun_text, faults_told, number_after, pasts_text, said_of, said_text, tick_text}
use Rattle.tk_watch.specs.Ends.{HaveTicked, TickEndView}
use Rattle.tk_watch.specs.Watch.{Named}
use Rattle.tk_watch.specs.declared.cause.Cause.{Cause}
use Rattle.tk_watch.specs.declared.verdict.Verdict.{Verdict}
use Rattle.tk_watch.specs.declared.verdict.Verdict.TheVariants as v

-- it was left for this cause, and its lines were written
pub record PassesOn (W : Type 0) (named : Named) (number : ℕ) (cause : Cause) (before after : Option (List ℕ)) : Type 0 where
  pub counts : List ℕ
  pub ticks : List TickEndView
  pub is : IsSo W named (Left counts ticks cause)
  pub text : Grows before after (said_text number (Left counts ticks cause))

-- the process ended with it
pub record ClosesWith (W : Type 0) (named : Named) (number : ℕ) (verdict : Verdict) (before after : Option (List ℕ)) : Type 0 where
  pub last : Said
  pub is : IsSo W named last
  pub fits : FitsLast verdict last
  pub text : GrowsAs verdict before after (said_text number last)

-- what a connection comes to: the process goes on, or ends
abbrev pub Passes : (W : Type 0) → Named → ℕ → Result Cause Verdict → Option (List ℕ) → Option (List ℕ) → Type 0
Passes W named number (Ok cause) before after = PassesOn W named number cause before after
Passes W named number (Err verdict) before after = ClosesWith W named number verdict before after

-- how many puts failed by then
abbrev pub faults_passed : Result Cause Verdict → ℕ → ℕ
faults_passed (Ok cause) faults = faults
faults_passed (Err verdict) faults = faults_told verdict faults

-- nobody was reached, and nothing was said of it
abbrev pub IsUnreached : Verdict → Type 0
IsUnreached v.Done = ⊥
IsUnreached v.WriteFault = ⊥
IsUnreached v.LinkFault = ⊤
IsUnreached (v.Fed fault) = ⊤
IsUnreached v.NoMemory = ⊤

-- a line was not written whole: there was no memory for it, or a put failed
abbrev pub Stops : Verdict → Option (List ℕ) → Option (List ℕ) → List ℕ → Type 0
Stops v.Done before after text = ⊥
Stops v.WriteFault before after text = GrowsByFront before after text
Stops v.LinkFault before after text = ⊥
Stops (v.Fed fault) before after text = ⊥
Stops v.NoMemory before after text = after ≡ before

-- a line was not written, for want of memory or since a put failed
abbrev pub CannotTell : Verdict → Type 0
CannotTell v.Done = ⊥
CannotTell v.WriteFault = ⊤
CannotTell v.LinkFault = ⊥
CannotTell (v.Fed fault) = ⊥
CannotTell v.NoMemory = ⊤

-- how many puts failed once a line was written or not
abbrev pub faults_stopped : {A : Type 0} → Result A Verdict → ℕ → ℕ
faults_stopped (Ok done) faults = faults
faults_stopped (Err verdict) faults = faults_told verdict faults

-- what a connection comes to, behind the line that it was made with these counts, and those of some ends of ticks
abbrev pub PassesBehind : (W : Type 0) → Named → ℕ → Result Cause Verdict → Option (List ℕ) → Option (List ℕ) → Type 0
PassesBehind W named number result before after =
    (counts : List ℕ) (ticks : List TickEndView) (was : Option (List ℕ)) → HasBegun W named counts ticks
    → Grows was before (begun_text number counts ticks) → Passes W named number result was after

-- the lines of some ends of ticks were written
pub record HasTold (W : Type 0) (named : Named) (before after : Option (List ℕ)) : Type 0 where
  pub ticks : List TickEndView
  pub each : AllByRecursion (λ end. HaveTicked W named end) ticks
  pub text : Grows before after (flat_map tick_text ticks)

-- and then one was not written whole
pub record HasStopped (W : Type 0) (named : Named) (verdict : Verdict) (before after : Option (List ℕ)) : Type 0 where
  pub ticks : List TickEndView
  pub each : AllByRecursion (λ end. HaveTicked W named end) ticks
  pub stops : CannotTell verdict
  pub text : GrowsAs verdict before after (flat_map tick_text ticks)

-- so many connections were left, and their lines were written
pub record GoesOn (W : Type 0) (named : Named) (number : ℕ) (before after : Option (List ℕ)) : Type 0 where
  pub pasts : List Past
  pub each : AllByRecursion (λ p. IsSo W named (said_of p)) pasts
  pub numbered : number ≡ number_after 1 (length pasts)
  pub text : Grows before after (pasts_text 1 pasts)
