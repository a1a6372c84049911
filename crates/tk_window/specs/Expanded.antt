-- Expanded logs as the code has them.
use Rattle.std.specs.Prelude.{ℕ, List, map, Vec}
use Rattle.tk_base.specs.declared.ids.Mon.{Mon}
use Rattle.tk_window.specs.TickEnds.{Sources}
use Rattle.tk_window.specs.Window.{Expansion}
use Rattle.tk_window.specs.declared.expanded.Expanded.{Expanded}

-- what an expanded log is
abbrev pub expansion_of : Expanded → Expansion
expansion_of e = record { part = e.part; ends = e.ends.items }

-- some logs, each under its monitor
abbrev pub sources_of : List (Mon × Expanded) → Sources
sources_of logs = map (λ log. (log.0, expansion_of log.1)) logs

-- where the ticks of some logs end
abbrev pub ends_shown : List Expanded → List (List ℕ)
ends_shown row = map (λ e. e.ends.items) row

-- the same of the logs of each monitor
abbrev pub rows_shown : {A : Type 0} → List (Vec Expanded A) → List (List (List ℕ))
rows_shown rows = map (λ row. ends_shown row.items) rows
