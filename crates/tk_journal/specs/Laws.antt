-- What holds of legal journals.
use Rattle.std.specs.Prelude.{ℕ, ℤ, ◌≤◌, ◌≡◌, true, false, List, [], ◌∷◌, ◌++◌, length, ◌<◌, ◌+ℤ◌, ◌≤ℤ◌, Contains, None}
use Rattle.std.specs.List.{All, enumerate_from}
use Rattle.tk_base.specs.Ascending.{IsAscending}
use Rattle.tk_base.specs.Settings.{Setup, IsWithinLimits}
use Rattle.tk_frames.specs.Size.{IsShort}
use Rattle.tk_rows.specs.Factors.{IsFactor, AreBalanced}
use Rattle.tk_alloc.specs.Resolving.{MeetsOwn}
use Rattle.tk_journal.specs.Readings.{members_at, factor, own, table_at, last_round, asked_of, values_of, in_force}
use Rattle.tk_journal.specs.Turns.{rounds}
use Rattle.tk_journal.specs.Legal.{Opening, opened}
use Rattle.tk_journal.specs.Publishing.{is_due, publication_at, publications, stops}
use Rattle.tk_journal.specs.declared.publication.Publication.{Publication}
use Rattle.tk_journal.specs.declared.noted.Noted.{Noted}
use Rattle.tk_journal.specs.declared.noted.Noted.TheVariants as n

-- a number is one of a monitor
pub record IsMonitor (s : Setup) (mon : ℕ) : Type 0 where
  pub from_one : 1 ≤ mon
  pub within : mon ≤ s.monitors

-- every frame that a journal sends fits the limits of frames: no list has more items than there can be objects
abbrev pub AreSentShort : List Noted → Type 0
AreSentShort [] = Unit {0}
AreSentShort (n.Got from frame ∷ rest) = AreSentShort rest
AreSentShort (n.Sent to frame ∷ rest) = IsShort frame × AreSentShort rest
AreSentShort (n.Published publication ∷ rest) = AreSentShort rest
AreSentShort (n.Tuned k epsilon ∷ rest) = AreSentShort rest

-- the changes are of objects of the catalogue, and each is a factor
abbrev pub AreChanges : ℕ → List (ℕ × ℤ) → Type 0
AreChanges objects changes = (c : ℕ × ℤ) → Contains changes c → (c.0 ≤ objects) × IsFactor c.1

-- an opening from which a journal may start: settings within the limits, k members of the catalogue, and for each
-- monitor changes of objects of the catalogue that make a table within its limits, which meets the coordinator's
-- constraint
pub record IsSetUp (o : Opening) : Type 0 where
  pub limits : IsWithinLimits o.settings
  pub factors : length o.factors ≡ o.settings.monitors
  pub count : length o.members ≡ o.settings.k
  pub ascends : IsAscending o.members
  pub within : All (λ t. t ≤ o.settings.objects) o.members
  pub changes : AreSentShort (opened o)
  pub given : (p : ℕ × List (ℕ × ℤ)) → Contains (enumerate_from 1 o.factors) p → AreChanges o.settings.objects p.1
  pub table : AreBalanced (table_at o.settings (opened o))
  pub own : MeetsOwn (table_at o.settings (opened o)) o.settings.epsilon o.members

-- the members are k objects of the catalogue, with the k in force
pub record AreMembers (s : Setup) (j : List Noted) : Type 0 where
  pub count : length (members_at j) ≡ (in_force s j).k
  pub ascends : IsAscending (members_at j)
  pub within : All (λ t. t ≤ s.objects) (members_at j)

-- none of these publications is the last
abbrev pub AreNotLast : List Publication → Type 0
AreNotLast [] = Unit {0}
AreNotLast (publication ∷ rest) = (publication.last ≡ false) × AreNotLast rest

-- the journal has ended: the final publication, Stop to every monitor, and nothing behind them
pub record HasEnded (s : Setup) (j : List Noted) : Type 0 where
  pub front : List Noted
  pub final : Publication
  pub is : j ≡ front ++ n.Published final ∷ stops s
  pub last : final.last ≡ true
  pub others : AreNotLast (publications front)

-- nothing was asked, and no Values came, of a round past the last one, and that is one of those opened: the number of
-- the next round is past all before it
pub record AreRoundsCounted (s : Setup) (j : List Noted) : Type 0 where
  pub last : last_round j ≤ rounds s j
  pub asked : (r mon : ℕ) → last_round j < r → asked_of r mon j ≡ None
  pub values : (r mon : ℕ) → last_round j < r → values_of r mon j ≡ None

-- the coordinator's constraint: a member's own factor and epsilon are at least that of any object that is none
abbrev pub KeepsConstraint : Setup → List Noted → Type 0
KeepsConstraint s j = (t o : ℕ) → Contains (members_at j) t → (Contains (members_at j) o → ⊥) → 0 < o → o ≤ s.objects → own s j o ≤ℤ (own s j t +ℤ (in_force s j).epsilon)

-- every factor is at most 2^112 in size, the coordinator's own included
pub record AreFactorsSmall (s : Setup) (j : List Noted) : Type 0 where
  pub own : (o : ℕ) → 0 < o → o ≤ s.objects → IsFactor (own s j o)
  pub each : (o mon : ℕ) → 0 < o → o ≤ s.objects → IsMonitor s mon → IsFactor (factor mon j o)

-- a publication stands where one is due, and says what there is to say
abbrev pub SaysWhatIsDue : Setup → List Noted → Noted → Type 0
SaysWhatIsDue s before (n.Got from frame) = Unit {0}
SaysWhatIsDue s before (n.Sent to frame) = Unit {0}
SaysWhatIsDue s before (n.Published publication) = (is_due s before ≡ true) × (publication ≡ publication_at s before)
SaysWhatIsDue s before (n.Tuned k epsilon) = Unit {0}
