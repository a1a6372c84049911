use Rattle.std.proofs.Common.{ap, arith, length}
use Rattle.std.proofs.lemmas.Result.{err_from_is_err_and}
use Rattle.tk_multi.proofs.playing.new_lists.Goals as goal

pub returns-clause-none : goal.returns-clause-none
returns-clause-none c = record {
  names = c.in_ok-names.ensures.items;
  watches = c.in_ok-watches.ensures.items;
  worlds = c.in_ok-worlds.ensures.items;
}

pub returns-clause-room : goal.returns-clause-room
returns-clause-room c = record {
  names = let none = ap (λ l. length l) c.in_ok-names.ensures.items in omega (arith, none, c.in_ok-names.ensures.capacity, c.in_ok-names.names.ok.0);
  watches = let none = ap (λ l. length l) c.in_ok-watches.ensures.items in omega (arith, none, c.in_ok-watches.ensures.capacity, c.in_ok-watches.watches.ok.0);
  worlds = let none = ap (λ l. length l) c.in_ok-worlds.ensures.items in omega (arith, none, c.in_ok-worlds.ensures.capacity, c.in_ok-worlds.worlds.ok.0);
}
