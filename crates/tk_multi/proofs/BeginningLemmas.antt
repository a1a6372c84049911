-- Queries that begin one after the other.
use Rattle.std.proofs.Common.{◌≡◌, ℕ, ◌+◌, ◌<◌, List, Option, [], ◌∷◌, ◌++◌, length, sym, ap, ap₂, ◌∙◌, arith}
use Rattle.std.proofs.lemmas.List.{length-map, map-append}
use Rattle.tk_input.specs.Logs.{LogSet, beginnings}
use Rattle.tk_story.specs.Kept.{KeptStory}
use Rattle.tk_multi.specs.Beginning.{Begins, HasBegun, HasRoom}
use Rattle.tk_multi.specs.Multi.{MultiView, begun, begun_over}
use Rattle.tk_multi.specs.declared.alone.Alone.{Alone}
use Rattle.tk_multi.specs.declared.playing.Lists.{Lists}

-- one query more has begun
pub begun_more : (alones : List Alone) (alone : Alone) (old new : Lists) → HasBegun alones old → Begins alone old new → HasBegun (alones ++ alone ∷ []) new
begun_more alones alone old new before one = record {
  names = one.names ∙ ap (λ (l : List (List (List ℕ))). l ++ alone.names ∷ []) before.names ∙ sym (map-append (λ (a : Alone). a.names) alones (alone ∷ []));
  watches = one.watches ∙ ap (λ (l : List (List (Option ℕ))). l ++ alone.watch ∷ []) before.watches ∙ sym (map-append (λ (a : Alone). a.watch) alones (alone ∷ []));
  worlds = one.worlds ∙ ap (λ (l : List KeptStory). l ++ begun alone ∷ []) before.worlds ∙ sym (map-append begun alones (alone ∷ []));
}

-- where there is room for some, there is room for one
pub room_for_one : (count : ℕ) (lists : Lists) → 0 < count → HasRoom count lists → HasRoom 1 lists
room_for_one count lists some room = record {
  names = let r = room.names in omega (arith, r, some);
  watches = let r = room.watches in omega (arith, r, some);
  worlds = let r = room.worlds in omega (arith, r, some);
}

-- as many watch as have begun
pub as_many : (alones : List Alone) (lists : Lists) → HasBegun alones lists → length lists.watches.items ≡ length lists.worlds.items
as_many alones lists begun_all =
    ap (λ (l : List (List (Option ℕ))). length l) begun_all.watches ∙ length-map alones (λ (a : Alone). a.watch)
    ∙ sym (ap (λ (l : List KeptStory). length l) begun_all.worlds ∙ length-map alones begun)

-- queries over common logs whose lists are these
pub as_begun : (all : LogSet) (alones : List Alone) (lists : Lists) → HasBegun alones lists
    → record { logs = all; places = beginnings all; watches = lists.watches.items; worlds = lists.worlds.items } ≡ begun_over all alones
as_begun all alones lists begun_all =
    let Made : List (List (Option ℕ)) → List KeptStory → MultiView = λ watches worlds. record { logs = all; places = beginnings all; watches = watches; worlds = worlds } in
    ap₂ Made begun_all.watches begun_all.worlds
