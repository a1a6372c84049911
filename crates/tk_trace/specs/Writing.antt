-- What the entries of a story are, so that they can be written. No public clause cites it.
use Rattle.std.specs.Prelude.{◌<◌, ◌≡◌, ◌^◌, ◌≤ℤ◌, ℕ, pos, length}
use Rattle.std.specs.List.{All}
use Rattle.tk_base.specs.Objects.{IsOneOf}
use Rattle.tk_frames.specs.Encoding.{IsBadHello}
use Rattle.tk_frames.specs.Size.{IsShort}
use Rattle.tk_frames.specs.declared.frame.Frame.{Frame}
use Rattle.tk_journal.specs.declared.noted.Noted.{Noted}
use Rattle.tk_journal.specs.declared.noted.Noted.TheVariants as n
use Rattle.tk_journal.specs.declared.publication.Publication.{Publication}
use Rattle.tk_trail.specs.declared.entry.Entry.{Entry}
use Rattle.tk_trail.specs.declared.entry.Entry.TheVariants as e

-- a frame that fits, and no Hello that names no monitor or no version
pub record CanBeSpelled (frame : Frame) : Type 0 where
  pub short : IsShort frame
  pub hello : IsBadHello frame → ⊥

-- a publication whose epsilon is not negative, with places of each monitor and no list that is too long
pub record CanBePublished (many : ℕ) (p : Publication) : Type 0 where
  pub epsilon : pos 0 ≤ℤ p.epsilon
  pub members : length p.members < 2 ^ 32
  pub monitors : length p.cut ≡ many
  pub places : All (λ places. length places < 2 ^ 32) p.cut

-- an entry of a journal among so many monitors whose frame or publication can be spelled
abbrev pub CanBeNoted : ℕ → Noted → Type 0
CanBeNoted monitors (n.Got mon frame) = IsOneOf monitors mon.0 × CanBeSpelled frame
CanBeNoted monitors (n.Sent mon frame) = IsOneOf monitors mon.0 × CanBeSpelled frame
CanBeNoted monitors (n.Published p) = CanBePublished monitors p
CanBeNoted monitors (n.Tuned k epsilon) = pos 0 ≤ℤ epsilon

-- an entry of a trail of a monitor with so many feeders whose frame can be spelled
abbrev pub CanBeEntered : ℕ → Entry → Type 0
CanBeEntered feeders (e.Raised feeder) = IsOneOf feeders feeder.0
CanBeEntered feeders (e.Took frame) = CanBeSpelled frame
CanBeEntered feeders (e.Sent frame) = CanBeSpelled frame
