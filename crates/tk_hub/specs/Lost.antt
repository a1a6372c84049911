-- Which monitor's wire failed or ended.
use Rattle.std.specs.Prelude.{◌≡◌, ◌<◌, ◌+◌, ℕ, List, Bool, true, false, Option, Some, None}
use Rattle.tk_base.specs.declared.ids.Mon.{Mon}
use Rattle.tk_end.specs.Link.{LinkView}
use Rattle.tk_hub.specs.Seats.{link_at, link_of}
use Rattle.tk_hub.specs.Turn.{is_lost}

-- whether the wire of a seat failed, or has ended
abbrev pub is_lost_at : {W : Type 0} → Option (LinkView W) → Bool
is_lost_at None = false
is_lost_at (Some link) = is_lost link.counts

-- at no seat before a monitor's the wire failed or ended, but at that one
pub record IsFirstLost {W : Type 0} (mon : ℕ) (links : List (Option (LinkView W))) : Type 0 where
  pub some : 0 < mon
  pub lost : is_lost_at (link_of links mon) ≡ true
  pub least : (place : ℕ) → place + 1 < mon → is_lost_at (link_at links place) ≡ false

-- this is the least monitor whose wire failed or ended, if one's did
abbrev pub FindsLost : {W : Type 0} → Option Mon → List (Option (LinkView W)) → Type 0
FindsLost None links = (place : ℕ) → is_lost_at (link_at links place) ≡ false
FindsLost (Some mon) links = IsFirstLost mon.0 links
