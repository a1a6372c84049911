-- The Collects and the Assigns that are sent, one after another.
use Rattle.std.proofs.Common.{◌≡◌, ℕ, ◌+◌, ℤ, Bool, true, false, not, ◌==◌, List, [], ◌∷◌, ◌++◌, map, take, length, get_or, ◌<◌, Option, Some, None, refl, sym, ap, ap₂, ◌∙◌}
use Rattle.std.specs.Prelude.{if◌then◌else◌, filter}
use Rattle.std.specs.List.{range_with_len}
use Rattle.std.proofs.lemmas.List.{append-nil, map-append, map_more}
use Rattle.std.proofs.lemmas.List.Elements.{filter-append}
use Rattle.tk_base.specs.declared.ids.Mon.{Mon}
use Rattle.tk_frames.specs.declared.frame.Frame.TheVariants as f
use Rattle.tk_rows.specs.declared.mon_change.MonChange.{MonChange}
use Rattle.tk_border.proofs.RisingLemmas.{range_more}
use Rattle.tk_alloc.specs.Parts.{by_monitor}
use Rattle.tk_journal.specs.Turns.{collects}
use Rattle.tk_journal.specs.declared.noted.Noted.{Noted}
use Rattle.tk_journal.specs.declared.noted.Noted.TheVariants as n
use Rattle.tk_coord.specs.Dealing.{assigns_by, is_but, mons_but}
use Rattle.tk_coord.specs.declared.peer.Peer.{Peer}

-- ---- Collects

-- one monitor alone, unless it is left out
kept : (b : Bool) (x : ℕ) → (if not b then x ∷ [] else []) ≡ (if b then [] else x ∷ [])
kept true x = refl
kept false x = refl

-- one monitor more, unless it is left out
mons_more : (but : Option Mon) (j : ℕ) → mons_but (j + 1) but ≡ mons_but j but ++ (if is_but but (j + 1) then [] else (j + 1) ∷ [])
mons_more None j = range_more j
mons_more (Some but) j =
    ap (filter (λ mon. not (mon == but.0))) (range_more j)
    ∙ filter-append (λ mon. not (mon == but.0)) (range_with_len 1 j) ((j + 1) ∷ [])
    ∙ ap (λ (l : List ℕ). filter (λ mon. not (mon == but.0)) (range_with_len 1 j) ++ l) (kept (j + 1 == but.0) (j + 1))

-- a Collect to one monitor
abbrev to_one : ℕ → List ℕ → ℕ → Noted
to_one round asked mon = n.Sent (record { 0 = mon }) (f.Collect round asked)

-- no Collect to the monitor that is left out
pub collects_skip : (round : ℕ) (asked : List ℕ) (but : Option Mon) (j : ℕ) {entries : List Noted} → is_but but (j + 1) ≡ true → entries ≡ collects round asked (mons_but j but)
    → entries ≡ collects round asked (mons_but (j + 1) but)
collects_skip round asked but j {entries} left before =
    before ∙ ap (map (to_one round asked)) (sym (mons_more but j ∙ ap (λ b. mons_but j but ++ (if b then [] else (j + 1) ∷ [])) left ∙ append-nil (mons_but j but)))

-- a Collect to any other
pub collects_more : (round : ℕ) (asked : List ℕ) (but : Option Mon) (j : ℕ) {entries new : List Noted} {e : Noted} → is_but but (j + 1) ≡ false
    → entries ≡ collects round asked (mons_but j but)
    → new ≡ entries ++ e ∷ [] → e ≡ to_one round asked (j + 1) → new ≡ collects round asked (mons_but (j + 1) but)
collects_more round asked but j {entries} {new} {e} asks before pushed is =
    pushed
    ∙ ap₂ (λ (l : List Noted) (x : Noted). l ++ x ∷ []) before is
    ∙ sym (map-append (to_one round asked) (mons_but j but) ((j + 1) ∷ []))
    ∙ ap (map (to_one round asked)) (sym (mons_more but j ∙ ap (λ b. mons_but j but ++ (if b then [] else (j + 1) ∷ [])) asks))

-- ---- Assigns

-- the next Assign to one monitor
abbrev pub assign_to : List Peer → List ℕ → ℕ × List (ℕ × ℤ) → Noted
assign_to peers members d = n.Sent (record { 0 = d.0 }) (f.Assign (assigns_by peers d.0 + 1) members d.1)

-- one Assign more
pub assigns_more : (peers : List Peer) (members : List ℕ) (at : List MonChange) (i : ℕ) (d : MonChange) {entries new : List Noted} {e : Noted} → i < length at
    → entries ≡ map (assign_to peers members) (by_monitor (take i at))
    → new ≡ entries ++ e ∷ [] → e ≡ assign_to peers members ((get_or at i d).mon.0, (get_or at i d).changes) → new ≡ map (assign_to peers members) (by_monitor (take (i + 1) at))
assigns_more peers members at i d {entries} {new} {e} within before pushed is =
    pushed
    ∙ ap₂ (λ (l : List Noted) (x : Noted). l ++ x ∷ []) before is
    ∙ sym (map-append (assign_to peers members) (by_monitor (take i at)) (((get_or at i d).mon.0, (get_or at i d).changes) ∷ []))
    ∙ ap (map (assign_to peers members)) (sym (map_more (λ (c : MonChange). (c.mon.0, c.changes)) at i d within))
