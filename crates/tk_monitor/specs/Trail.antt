-- The trail of a monitor: its entries, and the room that stands reserved. No public clause cites this file.
use Rattle.std.specs.Prelude.{◌≡◌, ℕ, ◌+◌, ◌^◌, ◌<◌, ◌≤◌, List, map, slice_get, Some}
use Rattle.tk_trail.specs.Readings.{sent_by}
use Rattle.tk_trail.specs.declared.entry.Entry.{Entry}
use Rattle.tk_trail.specs.declared.entry.Entry.TheVariants.{Sent}

-- the entries, for how many raises room is kept, and for how many entries besides
pub record TrailView : Type 0 where
  pub entries : List Entry
  pub raises : ℕ
  pub spare : ℕ

-- each of these places has the frame that was sent there
abbrev pub ArePlacesSent : List Entry → List ℕ → Type 0
ArePlacesSent entries places = map (slice_get entries) places ≡ map (λ frame. Some (Sent frame)) (sent_by entries)

-- the room that is kept is there
pub record HasRoom (filled capacity raises spare : ℕ) : Type 0 where
  pub room : filled + raises + spare ≤ capacity
  pub few : raises < 2 ^ 32
