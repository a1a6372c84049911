-- Where the ticks of a monitor's streams ended.
use Rattle.std.specs.Prelude.{◌≡◌, ℕ, ◌-◌, ◌≤◌, ℤ, List, [], ◌∷◌, ◌++◌, length, replicate, slice_index_or, slice_set, All, Option, Some, None}
use Rattle.tk_recent.specs.Kept.{Kept, fresh}
use Rattle.tk_stream.specs.declared.item.Item.{Item}
use Rattle.tk_watch.specs.Each.{risen}
use Rattle.tk_watch.specs.Laws.{ticks_in}
use Rattle.tk_watch.specs.Told.{counted}
use Rattle.tk_watch.specs.Watch.{IsWatch, Named, WatchView, named_of}
use Rattle.tk_watch.specs.Windows.{AreBalanced, AreWindows, IsItemIn, run_on, window_of}
use Rattle.tk_watch.specs.declared.plan.Window.{Window}

-- ---- what is kept of them

-- of each stream how many ticks it has ended, and its place where the last of them did
pub record TickEndView : Type 0 where
  pub ticks : List ℕ
  pub places : List ℕ

-- how many ticks of each stream that has a window have ended, and the ends of those whose changes were all taken back
pub record TickEndsView : Type 0 where
  pub ended : List ℕ
  pub last : TickEndView

-- none yet of streams that stand at these places, where a window is asked for
abbrev pub ends_for : Option Window → List ℕ → TickEndsView
ends_for None counts = record { ended = []; last = record { ticks = []; places = [] } }
ends_for (Some window) counts = record {
  ended = replicate (length counts) 0;
  last = record { ticks = replicate (length counts) 0; places = counts };
}

-- one more of a stream
abbrev pub counted_in : TickEndsView → ℕ → TickEndsView
counted_in ends g = record ends { ended = counted ends.ended g }

-- its changes were taken back, and this is its place
abbrev pub noted_at : TickEndsView → ℕ → ℕ → TickEndsView
noted_at ends g place = record ends {
  last = record {
    ticks = slice_set ends.last.ticks (g - 1) (slice_index_or ends.ended (g - 1) 0);
    places = slice_set ends.last.places (g - 1) place;
  };
}

-- ---- what they are

-- a window over so many objects is what its stream gave, but for what is still to be taken back, and so many ticks of that have ended
pub record HasRun (objects : ℕ) (k : Kept) (ended : ℕ) : Type 0 where
  pub items : List Item
  pub known : All (IsItemIn objects) items
  pub window : record k { back = [] } ≡ (run_on (fresh objects k.width) items).kept
  pub count : ended ≡ risen (length (ticks_in items) - 1) 0

-- nothing is to be taken back of it, and of the tick that runs nothing came
pub record IsAtEnd (objects : ℕ) (k : Kept) (ended : ℕ) : Type 0 where
  pub items : List Item
  pub known : All (IsItemIn objects) items
  pub window : k ≡ (run_on (fresh objects k.width) items).kept
  pub ticks : List (List (ℕ × ℤ))
  pub parted : ticks_in items ≡ ticks ++ [] ∷ []
  pub count : ended ≡ risen (length ticks) 0

-- a stream of a watch of this name stood at this place when so many of its ticks had ended, and nothing of the next was told
pub record HasTicked (W : Type 0) (named : Named) (g ended place : ℕ) : Type 0 where
  pub watch : WatchView W
  pub named_is : named_of watch ≡ named
  pub kept : IsWatch watch
  pub windows : List Kept
  pub are : AreWindows named windows
  pub balanced : AreBalanced watch.monitor windows
  pub within : g ≤ length windows
  pub at_end : IsAtEnd named.objects (window_of windows g) ended
  pub place_is : slice_index_or watch.counts (g - 1) 0 ≡ place

-- so it was of each of its streams
pub record HaveTicked (W : Type 0) (named : Named) (end : TickEndView) : Type 0 where
  pub ticks : length end.ticks ≡ named.streams
  pub places : length end.places ≡ named.streams
  pub each : (g : ℕ) → 1 ≤ g → g ≤ named.streams → ∥ HasTicked W named g (slice_index_or end.ticks (g - 1) 0) (slice_index_or end.places (g - 1) 0) ∥₁

-- what is kept beside the windows of the streams is so
pub record AreEnds (W : Type 0) (named : Named) (ks : List Kept) (ends : TickEndsView) : Type 0 where
  pub ended : length ends.ended ≡ length ks
  pub ticks : length ends.last.ticks ≡ length ks
  pub places : length ends.last.places ≡ length ks
  pub runs : (g : ℕ) → 1 ≤ g → g ≤ length ks → ∥ HasRun named.objects (window_of ks g) (slice_index_or ends.ended (g - 1) 0) ∥₁
  pub each : (g : ℕ) → 1 ≤ g → g ≤ length ks → ∥ HasTicked W named g (slice_index_or ends.last.ticks (g - 1) 0) (slice_index_or ends.last.places (g - 1) 0) ∥₁
