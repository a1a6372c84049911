use Rattle.std.proofs.Common.{◌≡◌, ◌-◌, ◌++◌, All, length, map}
use Rattle.tk_input.specs.Logs.{IsObject}
use Rattle.tk_commands.specs.Generated.{made, shown}
use Rattle.tk_commands.proofs.making.updates_of.Given as goal

-- what was made, before what is left
abbrev pub invariant-loop : goal.invariant-loop
invariant-loop l = record {
  made : map shown l.list.items ++ made l.monitors l.objects (l.count - l.counter) l.words ≡ made l.monitors l.objects l.count l.seed;
  objects : All (λ u. IsObject l.objects u.change.obj.0) l.list.items;
  length : length l.list.items ≡ l.counter;
}
