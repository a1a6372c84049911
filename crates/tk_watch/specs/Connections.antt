-- What is known of the connections of a monitor, and what its process writes of them.
use Rattle.std.specs.Prelude.{◌≡◌, ℕ, zero, suc, List, [], ◌∷◌, ◌++◌, length, flat_map, Option, IfSome, true, codes, decimal, ⊤}
use Rattle.std.specs.List.{AllByRecursion}
use Rattle.tk_input.specs.Files.{one_more}
use Rattle.tk_input.specs.Sink.{Grows, GrowsByFront}
use Rattle.tk_journal.specs.Line.{places_text}
use Rattle.tk_trail.specs.Readings.{at_ends, is_stopped}
use Rattle.tk_wire.specs.Meanings.{raised_by}
use Rattle.tk_watch.specs.Ends.{HaveTicked, TickEndView}
use Rattle.tk_watch.specs.Leaving.{word_of}
use Rattle.tk_watch.specs.Watch.{IsConnected, IsEndOf, IsWatch, Named, Shows, WatchView, named_of}
use Rattle.tk_watch.specs.declared.attended.Attended.{Attended}
use Rattle.tk_watch.specs.declared.attended.Attended.TheVariants as a
use Rattle.tk_watch.specs.declared.cause.Cause.{Cause}
use Rattle.tk_watch.specs.declared.verdict.Verdict.{Verdict}
use Rattle.tk_watch.specs.declared.verdict.Verdict.TheVariants as v

-- ---- what is known of a connection

-- a watch of this name began a connection, with these counts
pub record HasJoined (W : Type 0) (named : Named) (counts : List ℕ) : Type 0 where
  pub watch : WatchView W
  pub named_is : named_of watch ≡ named
  pub kept : IsWatch watch
  pub begins : watch.monitor.trail ≡ []
  pub counts_are : watch.counts ≡ counts

-- a watch of this name goes on, connected
pub record GoesOnAs (W : Type 0) (named : Named) : Type 0 where
  pub watch : WatchView W
  pub named_is : named_of watch ≡ named
  pub kept : IsWatch watch
  pub connected : IsConnected watch

-- a watch of this name shows that its connection is over for this cause
pub record IsLeft (W : Type 0) (named : Named) (cause : Cause) : Type 0 where
  pub watch : WatchView W
  pub named_is : named_of watch ≡ named
  pub kept : IsWatch watch
  pub shows : Shows cause watch.port
  pub end : IfSome watch.port (IsEndOf watch)

-- a watch of this name took Stop, with these counts: each of its streams is closed
pub record HasEnded (W : Type 0) (named : Named) (counts : List ℕ) : Type 0 where
  pub watch : WatchView W
  pub named_is : named_of watch ≡ named
  pub kept : IsWatch watch
  pub connected : IsConnected watch
  pub stopped : is_stopped watch.monitor.trail ≡ true
  pub ends : at_ends watch.monitor.setup watch.monitor.trail ≡ true
  pub counts_are : watch.counts ≡ counts

-- what a look at a connection came to is so
abbrev pub IsOver : (W : Type 0) → Named → Attended → Type 0
IsOver W named a.More = ⊤
IsOver W named a.Quiet = GoesOnAs W named
IsOver W named (a.Left cause) = IsLeft W named cause
IsOver W named (a.Stopped counts skipped) = HasEnded W named counts.items
IsOver W named (a.Fed fault) = ⊤

-- what the serving of a connection came to is so, which ends it
abbrev pub Ends : (W : Type 0) → Named → Attended → Type 0
Ends W named a.More = ⊥
Ends W named a.Quiet = ⊥
Ends W named (a.Left cause) = IsOver W named (a.Left cause)
Ends W named (a.Stopped counts skipped) = IsOver W named (a.Stopped counts skipped)
Ends W named (a.Fed fault) = ⊤

-- ---- what is said of a connection

-- the line of a connection that was made, of streams that gave so many records
abbrev pub joined_text : ℕ → List ℕ → List ℕ
joined_text number counts = codes "joined " ++ decimal number ++ codes " at " ++ places_text counts ++ codes "\n"

-- the line of the last ends of ticks: how many ticks each stream has ended, and its place where the last of them did
abbrev pub tick_text : TickEndView → List ℕ
tick_text end = codes "tick " ++ places_text end.ticks ++ codes " at " ++ places_text end.places ++ codes "\n"

-- the line of one that was made, and those of the ends of ticks behind it
abbrev pub begun_text : ℕ → List ℕ → List TickEndView → List ℕ
begun_text number counts ticks = joined_text number counts ++ flat_map tick_text ticks

-- the line of one that was left
abbrev pub left_text : ℕ → Cause → List ℕ
left_text number cause = codes "left " ++ decimal number ++ codes " " ++ word_of cause ++ codes "\n"

-- the last line: how many records each stream gave, and how many lines were passed over
abbrev pub ended_text : List ℕ → ℕ → List ℕ
ended_text counts skipped = codes "ended at " ++ places_text counts ++ codes " skipped " ++ decimal skipped ++ codes "\n"

-- what was said of a connection: nothing, or that it was made and which ticks ended then, with that it was left so, or that the monitor
-- took Stop by it
pub data Said : Type 0 where
  Nothing : Said
  Joined : List ℕ → List TickEndView → Said
  Left : List ℕ → List TickEndView → Cause → Said
  Ended : List ℕ → List TickEndView → List ℕ → ℕ → Said

-- its lines
abbrev pub said_text : ℕ → Said → List ℕ
said_text number Nothing = []
said_text number (Joined counts ticks) = begun_text number counts ticks
said_text number (Left counts ticks cause) = begun_text number counts ticks ++ left_text number cause
said_text number (Ended counts ticks ends skipped) = begun_text number counts ticks ++ ended_text ends skipped

-- it began so, and each end of ticks that was told is one
pub record HasBegun (W : Type 0) (named : Named) (counts : List ℕ) (ticks : List TickEndView) : Type 0 where
  pub joined : HasJoined W named counts
  pub ticked : AllByRecursion (λ end. HaveTicked W named end) ticks

-- what was said is so
abbrev pub IsSo : (W : Type 0) → Named → Said → Type 0
IsSo W named Nothing = ⊤
IsSo W named (Joined counts ticks) = HasBegun W named counts ticks
IsSo W named (Left counts ticks cause) = HasBegun W named counts ticks × IsLeft W named cause
IsSo W named (Ended counts ticks ends skipped) = HasBegun W named counts ticks × HasEnded W named ends

-- ---- what the process says

-- a connection that was left: with which counts it began, the ends of ticks told of it, and the cause
pub record Past : Type 0 where
  pub counts : List ℕ
  pub ticks : List TickEndView
  pub cause : Cause

-- what was said of it
abbrev pub said_of : Past → Said
said_of p = Left p.counts p.ticks p.cause

-- the number of the connection that is so many after another, which stands still at the greatest u64
abbrev pub number_after : ℕ → ℕ → ℕ
number_after number zero = number
number_after number (suc n) = number_after (raised_by 1 number) n

-- the lines of the connections that were left, numbered from this number on
abbrev pub pasts_text : ℕ → List Past → List ℕ
pasts_text number [] = []
pasts_text number (p ∷ ps) = said_text number (said_of p) ++ pasts_text (raised_by 1 number) ps

-- what may have been said of the last connection
abbrev pub FitsLast : Verdict → Said → Type 0
FitsLast v.Done Nothing = ⊥
FitsLast v.Done (Joined counts ticks) = ⊥
FitsLast v.Done (Left counts ticks cause) = ⊥
FitsLast v.Done (Ended counts ticks ends skipped) = ⊤
FitsLast v.WriteFault said = ⊤
FitsLast v.LinkFault said = said ≡ Nothing
FitsLast (v.Fed fault) Nothing = ⊤
FitsLast (v.Fed fault) (Joined counts ticks) = ⊤
FitsLast (v.Fed fault) (Left counts ticks cause) = ⊥
FitsLast (v.Fed fault) (Ended counts ticks ends skipped) = ⊥
FitsLast v.NoMemory Nothing = ⊤
FitsLast v.NoMemory (Joined counts ticks) = ⊤
FitsLast v.NoMemory (Left counts ticks cause) = ⊥
FitsLast v.NoMemory (Ended counts ticks ends skipped) = ⊥

-- a text was written, of which after a failed write there is a front
abbrev pub GrowsAs : Verdict → Option (List ℕ) → Option (List ℕ) → List ℕ → Type 0
GrowsAs v.Done before after text = Grows before after text
GrowsAs v.WriteFault before after text = GrowsByFront before after text
GrowsAs v.LinkFault before after text = Grows before after text
GrowsAs (v.Fed fault) before after text = Grows before after text
GrowsAs v.NoMemory before after text = Grows before after text

-- the process wrote the lines of the connections that were left, in order, and those of the last
pub record Writes (W : Type 0) (named : Named) (verdict : Verdict) (before after : Option (List ℕ)) : Type 0 where
  pub pasts : List Past
  pub last : Said
  pub each : AllByRecursion (λ p. IsSo W named (said_of p)) pasts
  pub is : IsSo W named last
  pub fits : FitsLast verdict last
  pub text : GrowsAs verdict before after (pasts_text 1 pasts ++ said_text (number_after 1 (length pasts)) last)

-- how many puts failed by the end
abbrev pub faults_told : Verdict → ℕ → ℕ
faults_told v.Done faults = faults
faults_told v.WriteFault faults = one_more faults
faults_told v.LinkFault faults = faults
faults_told (v.Fed fault) faults = faults
faults_told v.NoMemory faults = faults
