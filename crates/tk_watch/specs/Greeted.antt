-- What a monitor says first on a connection. No public clause cites this file.
use Rattle.std.specs.Prelude.{◌≡◌, ℕ, List, [], ◌∷◌}
use Rattle.tk_wire.specs.declared.beginning.Beginning.{Beginning}
use Rattle.tk_wire.specs.declared.greeting.Greeting.{Greeting}
use Rattle.tk_compact.specs.Anew.{base_of}
use Rattle.tk_compact.specs.Standing.{ends_of}
use Rattle.tk_watch.specs.Watch.{WatchView}

-- a stream that gave so many records, and starts at this place
abbrev pub beginning : ℕ → ℕ → Beginning
beginning count start = record { count = count; start = start }

-- streams that gave so many records each, with the places at which they start
abbrev pub beginnings_of : List ℕ → List ℕ → List Beginning
beginnings_of [] starts = []
beginnings_of (count ∷ counts) [] = []
beginnings_of (count ∷ counts) (start ∷ starts) = beginning count start ∷ beginnings_of counts starts

-- a greeting is that of a watch which begins anew: its run, its number, and that each stream with its count starts behind
-- what stands for its past
pub record IsGreetingOf {W : Type 0} (w : WatchView W) (g : Greeting) : Type 0 where
  pub run : g.run ≡ w.run
  pub mon : g.mon.0 ≡ w.monitor.setup.number
  pub beginnings : g.beginnings.items ≡ beginnings_of w.counts (ends_of (base_of w.monitor.setup w.monitor.trail))
