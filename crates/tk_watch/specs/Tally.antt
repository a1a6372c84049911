-- What is left of the room for the frames of a trail. No public clause cites this file.
use Rattle.std.specs.Prelude.{◌≡◌, ◌+◌, ◌-◌, ◌≤◌, ℕ, List, length, take}
use Rattle.tk_trail.specs.declared.entry.Entry.{Entry}
use Rattle.tk_watch.specs.TrailSize.{frames_size, most_bytes}
use Rattle.tk_watch.specs.declared.tally.Tally.{Tally}

-- what is left behind a trail of the most bytes and one more: nothing, where they are over
abbrev pub left_behind : List Entry → ℕ
left_behind trail = most_bytes + 1 - frames_size trail

-- what is left behind the entries that were looked at
pub record IsTally (tally : Tally) (trail : List Entry) : Type 0 where
  pub seen : tally.seen ≤ length trail
  pub left : tally.left ≡ left_behind (take tally.seen trail)
