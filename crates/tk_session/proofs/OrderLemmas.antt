-- One more line of an order of sessions, and what its lines make.
use Rattle.std.proofs.Common.{◌≡◌, ℕ, ◌+◌, Bool, true, false, List, [], ◌∷◌, length, Option, Some, None, Ok, refl, sym, ap, ◌∙◌}
use Rattle.std.specs.Prelude.{IsSome, filter_map, option_map, if◌then◌else◌}
use Rattle.std.specs.List.{slice_split}
use Rattle.std.proofs.lemmas.List.{length-map}
use Rattle.std.proofs.lemmas.List.Splits.{length-slice_split}
use Rattle.tk_input.specs.Order.{IsFault}
use Rattle.tk_input.specs.Records.{and_then, through}
use Rattle.tk_input.specs.declared.event.Event.{Event}
use Rattle.tk_input.specs.declared.order.OrderFault.{OrderFault}
use Rattle.tk_input.specs.declared.order.OrderFault.TheVariants.{BadOrder, NoMemory}
use Rattle.tk_session.specs.Order.{event_of, is_restart, line_added, lines_of, restarts_in, stretches}
use Rattle.tk_session.specs.declared.session_line.SessionLine.{SessionLine}
use Rattle.tk_session.specs.declared.session_line.SessionLine.TheVariants.{Step, Restart}

-- a line that is no restart means something where it is an event
pub some_step : (b : Bool) (o : Option Event) → b ≡ false → IsSome o → IsSome (if b then Some Restart else option_map Step o)
some_step true o is some = absurd (cc)
some_step false (Some event) is some = refl
some_step false None is some = some

-- one session more than restarts
pub sessions_are : (order : List (ℕ × SessionLine)) (restarts : ℕ) → restarts ≡ restarts_in order → restarts + 1 ≡ length (stretches (lines_of order))
sessions_are order restarts is =
    ap (λ (n : ℕ). n + 1) is
    ∙ sym (length-slice_split is_restart (lines_of order))
    ∙ sym (length-map (slice_split is_restart (lines_of order)) (filter_map event_of))

-- a line that is taken goes on to those that are left
pub line_next : (before after : List (ℕ × SessionLine)) (line : ℕ × List ℕ) (left rest : List (ℕ × List ℕ)) → left ≡ line ∷ rest → line_added before line ≡ Ok after → through line_added before left ≡ through line_added after rest
unfolding through
line_next before after line left rest is taken = rw is (ap (and_then (λ next. through line_added next rest)) taken)

-- after the last line
pub no_line : (before : List (ℕ × SessionLine)) (left : List (ℕ × List ℕ)) → left ≡ [] → through line_added before left ≡ Ok before
unfolding through
no_line before left is = rw is refl

-- the fault of a line is that of what is left
pub line_fault : (before : List (ℕ × SessionLine)) (line : ℕ × List ℕ) (left rest : List (ℕ × List ℕ)) (e : OrderFault) → left ≡ line ∷ rest → IsFault e (line_added before line) → IsFault e (through line_added before left)
unfolding through
line_fault before line left rest (BadOrder n) is fault = rw is (ap (and_then (λ next. through line_added next rest)) fault)
line_fault before line left rest NoMemory is fault = tt
