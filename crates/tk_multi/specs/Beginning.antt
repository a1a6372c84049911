-- Queries that begin one after the other. No public clause cites this file.
use Rattle.std.specs.Prelude.{ℕ, ◌≡◌, ◌+◌, ◌≤◌, List, [], ◌∷◌, ◌++◌, map, vec_len, vec_capacity}
use Rattle.tk_multi.specs.Multi.{begun}
use Rattle.tk_multi.specs.declared.alone.Alone.{Alone}
use Rattle.tk_multi.specs.declared.playing.Lists.{Lists}

-- the lists are of these queries
pub record HasBegun (alones : List Alone) (lists : Lists) : Type 0 where
  pub names : lists.names.items ≡ map (λ alone. alone.names) alones
  pub watches : lists.watches.items ≡ map (λ alone. alone.watch) alones
  pub worlds : lists.worlds.items ≡ map begun alones

-- each list has room for so many more
pub record HasRoom (count : ℕ) (lists : Lists) : Type 0 where
  pub names : vec_len lists.names + count ≤ vec_capacity lists.names
  pub watches : vec_len lists.watches + count ≤ vec_capacity lists.watches
  pub worlds : vec_len lists.worlds + count ≤ vec_capacity lists.worlds

-- each list goes on by what one query more begins with
pub record Begins (alone : Alone) (old new : Lists) : Type 0 where
  pub names : new.names.items ≡ old.names.items ++ alone.names ∷ []
  pub watches : new.watches.items ≡ old.watches.items ++ alone.watch ∷ []
  pub worlds : new.worlds.items ≡ old.worlds.items ++ begun alone ∷ []

-- where there was room for one more and others, there is room for the others
abbrev pub TakesRoom : Lists → Lists → Type 0
TakesRoom old new = (count : ℕ) → HasRoom (count + 1) old → HasRoom count new
