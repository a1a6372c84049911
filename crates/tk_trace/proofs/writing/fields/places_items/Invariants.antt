use Rattle.std.proofs.Common.{◌≡◌, ◌++◌, ◌<◌, ◌^◌, All, take}
use Rattle.std.specs.List.{flat_map}
use Rattle.tk_trace.specs.Spelling.{number}
use Rattle.tk_trace.proofs.writing.fields.places_items.Given as goal

-- those so far are written, and are within the rules
abbrev pub invariant-loop-i : goal.invariant-loop-i
invariant-loop-i l = record {
  told : l.out.items ≡ l.fn.out.items ++ flat_map (number 4) (take l.i l.places);
  within : All (λ p. p < 2 ^ 32) (take l.i l.places);
}
