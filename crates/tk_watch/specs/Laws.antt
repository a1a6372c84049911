-- What holds of the windows of streams.
use Rattle.std.specs.Prelude.{◌≡◌, ℕ, ◌+◌, ℤ, List, length, map, All}
use Rattle.tk_input.specs.Logs.{IsObject}
use Rattle.tk_recent.specs.Kept.{fresh}
use Rattle.tk_stream.specs.Line.{entry_of}
use Rattle.tk_stream.specs.declared.item.Item.{Item}
use Rattle.tk_window.specs.Ticks.{ticks_of}
use Rattle.tk_window.specs.Window.{window_sum}
use Rattle.tk_watch.specs.Windows.{IsItemIn, held, run_on}

-- the ticks of what a stream gave: those that ended, and behind them the one that runs
abbrev pub ticks_in : List Item → List (List (ℕ × ℤ))
ticks_in items = ticks_of (map entry_of items)

-- whatever a stream gave, its window holds of each object the sum over as many ended ticks as it has, and the one that runs
abbrev pub WindowsHoldTheLastTicks : Type 0
WindowsHoldTheLastTicks =
    (n width o : ℕ) (items : List Item)
    → All (IsItemIn n) items → IsObject n o
    → held o (run_on (fresh n width) items).kept ≡ window_sum (width + 1) (ticks_in items) (length (ticks_in items)) o
