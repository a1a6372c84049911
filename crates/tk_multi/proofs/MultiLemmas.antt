-- What a step leaves, and places behind a raise.
use Rattle.std.proofs.Common.{◌≡◌, ℕ, ℤ, ◌+◌, ◌-◌, ◌^◌, ◌<◌, ◌≤◌, Bool, true, List, [], Option, Some, None, option_map, length, get_or, set, ap, sym, subst, ◌∙◌, arith, refl, ⊎_elim}
use Rattle.std.specs.Prelude.{slice_get, option_and_then, is_some, nat_le, if◌then◌else◌, ◌&&◌}
use Rattle.std.proofs.lemmas.Bool.{and_parts, cases_eq, leb-true}
use Rattle.std.proofs.lemmas.List.{get_or-set_other, get_or-set_same, set-get_or}
use Rattle.std.proofs.lemmas.Option.{slice_get_past}
use Rattle.tk_input.specs.Logs.{IsCut, part_of, parts_of}
use Rattle.tk_input.specs.declared.event.Event.{Event}
use Rattle.tk_story.specs.Kept.{KeptStory}
use Rattle.tk_story.specs.Story.{StoryView}
use Rattle.tk_world.specs.Events.{next_of}
use Rattle.tk_world.specs.World.{Moves}
use Rattle.tk_world.specs.declared.moved.Moved.{Moved}
use Rattle.tk_world.specs.declared.moved.Moved.TheVariants.{Yes, Idle}
use Rattle.tk_multi.specs.Front.{HasPlace, place_of, raised}
use Rattle.tk_multi.specs.Multi.{GoesOn, Leaves, MultiView, next_change, next_in, with_world}
use Rattle.tk_multi.specs.Projection.{is_feeder}
use Rattle.tk_multi.specs.Queries.{entry_at}
use Rattle.tk_multi.proofs.FrontLemmas.{raised_length, raised_row}

-- a step of the world of a query is one of the queries
by_moved : (m : MultiView) (q : ℕ) (e : Event) (kept new : KeptStory) (moved : Moved) → get_or m.worlds (q - 1) kept ≡ kept → Moves kept e moved new
    → Leaves (option_map (with_world m q kept e) (next_of kept.story e)) m moved (record m { worlds = set m.worlds (q - 1) new })
by_moved m q e kept new Yes at moves =
    ap (option_map (with_world m q kept e)) moves.0
    ∙ ap (λ (es : List Event). Some (record m { worlds = set m.worlds (q - 1) (record { story = new.story; events = es }) })) (sym moves.1)
by_moved m q e kept new Idle at moves = (
  ap (option_map (with_world m q kept e)) moves.0,
  ap (λ (k : KeptStory). record m { worlds = set m.worlds (q - 1) k }) (moves.1 ∙ sym at) ∙ ap (λ (w : List KeptStory). record m { worlds = w }) (set-get_or m.worlds (q - 1) kept),
)

pub leaves_by : (m : MultiView) (q : ℕ) (e : Event) (kept new : KeptStory) (moved : Moved) → entry_at m.worlds q ≡ Some kept → get_or m.worlds (q - 1) kept ≡ kept → Moves kept e moved new
    → Leaves (next_in m q e) m moved (record m { worlds = set m.worlds (q - 1) new })
leaves_by m q e kept new moved is at moves =
    subst (λ (o : Option KeptStory). Leaves (option_and_then (λ k. option_map (with_world m q k e) (next_of k.story e)) o) m moved (record m { worlds = set m.worlds (q - 1) new })) (sym is)
    (by_moved m q e kept new moved at moves)

enabled_by : (m : MultiView) (q : ℕ) (e : Event) (kept : KeptStory) (next : Option StoryView) → is_some next ≡ true → is_some (option_map (with_world m q kept e) next) ≡ true
enabled_by m q e kept None some = some
enabled_by m q e kept (Some story) some = refl

-- an event that is enabled in the world of a query is enabled
pub enabled_in : (m : MultiView) (q : ℕ) (e : Event) (kept : KeptStory) → entry_at m.worlds q ≡ Some kept → is_some (next_of kept.story e) ≡ true → is_some (next_in m q e) ≡ true
enabled_in m q e kept is some =
    subst (λ (o : Option KeptStory). is_some (option_and_then (λ k. option_map (with_world m q k e) (next_of k.story e)) o) ≡ true) (sym is)
    (enabled_by m q e kept (next_of kept.story e) some)

-- a part that goes on has a next change, and one at its end has none
pub goes_on : (m : MultiView) (mon f : ℕ) → IsCut m.logs.logs m.places → is_feeder m.logs mon f ≡ true → place_of m.places mon f < length (part_of m.logs mon f) → length (part_of m.logs mon f) < 2 ^ 32 → GoesOn m mon f
goes_on m mon f cut there within short =
    let a = and_parts (nat_le 1 mon && nat_le mon (length m.logs.logs) && nat_le 1 f) (nat_le f (length (parts_of m.logs.logs mon))) there in
    let b = and_parts (nat_le 1 mon && nat_le mon (length m.logs.logs)) (nat_le 1 f) a.0 in
    let d = and_parts (nat_le 1 mon) (nat_le mon (length m.logs.logs)) b.0 in
    let each = cut.each (mon - 1) in
    record {
      there = there;
      place = record {
        from_one = leb-true 1 mon d.0;
        monitor = let x = leb-true mon (length m.logs.logs) d.1 in let e = cut.shape in omega (arith, x, e);
        some = leb-true 1 f b.1;
        within = let x = leb-true f (length (parts_of m.logs.logs mon)) a.1 in let e = each.shape in omega (arith, x, e);
      };
      within = within;
      short = short;
    }

pub at_the_end : (m : MultiView) (mon f : ℕ) → is_feeder m.logs mon f ≡ true → length (part_of m.logs mon f) ≤ place_of m.places mon f → next_change m mon f ≡ None
at_the_end m mon f there past =
    ap (λ (b : Bool). if b then slice_get (part_of m.logs mon f) (place_of m.places mon f) else None) there ∙ slice_get_past (part_of m.logs mon f) (place_of m.places mon f) past

-- no place is past the end of its part, once one that goes on is raised
raised_within : (logs : List (List (List (ℕ × ℤ)))) (places : List (List ℕ)) (mon f j i : ℕ) → HasPlace places mon f → IsCut logs places
    → place_of places mon f < length (get_or (get_or logs (mon - 1) []) (f - 1) [])
    → get_or (get_or (raised places mon f) j []) i 0 ≤ length (get_or (get_or logs j []) i [])
raised_within logs places mon f j i has cut below =
    let row = get_or places (mon - 1) [] in
    let new = set row (f - 1) (get_or row (f - 1) 0 + 1) in
    ⊎_elim
    (λ (same : j ≡ mon - 1).
    let at : get_or (set places (mon - 1) new) (mon - 1) [] ≡ new = get_or-set_same places (mon - 1) new [] (let a = has.from_one in let b = has.monitor in omega (arith, a, b)) in
    subst (λ (k : ℕ). get_or (get_or (raised places mon f) k []) i 0 ≤ length (get_or (get_or logs k []) i [])) (sym same)
    (subst (λ (r : List ℕ). get_or r i 0 ≤ length (get_or (get_or logs (mon - 1) []) i [])) (sym at)
    (⊎_elim
    (λ (here : i ≡ f - 1). subst (λ (k : ℕ). get_or new k 0 ≤ length (get_or (get_or logs (mon - 1) []) k [])) (sym here)
    (let e = get_or-set_same row (f - 1) (get_or row (f - 1) 0 + 1) 0 (let a = has.some in let b = has.within in omega (arith, a, b)) in omega (arith, e, below)))
    (λ (apart : i ≡ f - 1 → ⊥).
    let e = get_or-set_other row (f - 1) i (get_or row (f - 1) 0 + 1) 0 apart in let w = (cut.each (mon - 1)).within i in omega (arith, e, w))
    (cases_eq i (f - 1)))))
    (λ (apart : j ≡ mon - 1 → ⊥).
    subst (λ (r : List ℕ). get_or r i 0 ≤ length (get_or (get_or logs j []) i [])) (sym (get_or-set_other places (mon - 1) j new [] apart)) ((cut.each j).within i))
    (cases_eq j (mon - 1))

-- the places where a part that goes on is raised once more are a cut
pub raised_cut : (logs : List (List (List (ℕ × ℤ)))) (places : List (List ℕ)) (mon f : ℕ) → HasPlace places mon f → IsCut logs places
    → place_of places mon f < length (get_or (get_or logs (mon - 1) []) (f - 1) []) → IsCut logs (raised places mon f)
raised_cut logs places mon f has cut below = record {
  shape = raised_length places mon f ∙ cut.shape;
  each = λ j. record {
    shape = raised_row places mon f j has ∙ (cut.each j).shape;
    within = λ i. raised_within logs places mon f j i has cut below;
  };
}
