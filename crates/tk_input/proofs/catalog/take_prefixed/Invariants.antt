use Rattle.std.proofs.Common.{◌≡◌, ◌≤◌, length, take}
use Rattle.tk_input.specs.Catalog.{names_of, names_with}
use Rattle.tk_input.proofs.catalog.take_prefixed.Given as goal

-- the names so far are those that begin with the prefix
abbrev pub invariant-loop-name : goal.invariant-loop-name
invariant-loop-name l = record {
  same : names_of l.names.keys ≡ names_with l.prefix (names_of (take l.name-index l.list));
  few : length l.names.keys ≤ l.name-index;
}
