use Rattle.std.proofs.Common.{◌≡◌, ◌≤◌, Some, drop, length}
use Rattle.tk_input.specs.Catalog.{names_of, next_name}
use Rattle.tk_input.specs.Records.{through}
use Rattle.tk_input.proofs.catalog.take_list.Given as goal

-- what is left adds to the names so far what the list adds to those before
abbrev pub invariant-loop-name : goal.invariant-loop-name
invariant-loop-name l = record {
  same : through (λ before name. next_name before (Some name)) (names_of l.names.keys) (names_of (drop l.name-index l.list))
      ≡ through (λ before name. next_name before (Some name)) (names_of l.fn.names.keys) (names_of l.list);
  few : length l.names.keys ≤ 65536;
}
