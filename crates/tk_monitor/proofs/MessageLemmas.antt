-- The frames that a board and some places give are those that the trail demands.
use Rattle.std.proofs.Common.{◌≡◌, ℕ, ◌≤◌, true, List, [], ◌∷◌, ◌++◌, length, map, get_or, Option, Some, None, Result, refl, sym, ap, ap₂, ◌∙◌, subst, arith}
use Rattle.std.specs.Prelude.{ℤ, ◌+ℤ◌, All, IfOk, ◌||◌, not, unwrap_or}
use Rattle.std.specs.Option.{option_map_or}
use Rattle.std.proofs.lemmas.List.Elements.{All-filter, All-tail, Contains-get_or}
use Rattle.std.proofs.lemmas.List.FromFn.{get_or-range_with_len, length-range_with_len}
use Rattle.tk_base.specs.Objects.{objects, is_in}
use Rattle.tk_base.specs.Pairs.{value_at}
use Rattle.tk_base.proofs.MemberLemmas.{contained_is_in, objects_within}
use Rattle.tk_frames.specs.declared.frame.Frame.TheVariants as f
use Rattle.tk_border.specs.Levels.{level_at, broken, border, outside, resolution, holds, is_above, least_member}
use Rattle.tk_frames.specs.Assigns.{row}
use Rattle.tk_border.proofs.UnionLemmas.{resolution_within}
use Rattle.tk_trail.specs.Setup.{MonitorSetup}
use Rattle.tk_trail.specs.Readings.{assigns_of, seq_of, members_at, value_of_object, level_of, values_of, levels_of, broken_at}
use Rattle.tk_trail.specs.Frames.{report_at, values_at, values_over, border_over}
use Rattle.tk_trail.specs.declared.entry.Entry.{Entry}
use Rattle.tk_trail.specs.declared.entry.Entry.TheVariants.{Took}
use Rattle.tk_trail.proofs.MappedLemmas.{mapped_same}
use Rattle.tk_trail.proofs.LevelsLemmas.{length-levels_of, level_at-levels_of, level_at-values_of, level-assign}
use Rattle.tk_monitor.proofs.RefusalLemmas.{all_in}
use Rattle.tk_monitor.specs.Board.{BoardView, values_in, assigned, assigned_level}
use Rattle.tk_monitor.specs.Kept.{standing_of, report_on, values_frame}

pub from_one : (n : ℕ) → All (λ o. 1 ≤ o) (objects n)
unfolding objects
from_one n k d below = omega (arith, get_or-range_with_len 1 n k d (omega (arith, length-range_with_len 1 n)))

pub broken_within : (levels : List ℤ) (members : List ℕ) → All (λ o. o ≤ length levels) (broken levels members)
broken_within levels members =
    let n = length levels in
    All-filter (λ o. is_above (least_member levels members) (level_at levels o)) (λ o. o ≤ n) (outside n members)
    (All-filter (λ o. not (is_in members o)) (λ o. o ≤ n) (objects n) (objects_within n))

resolution_from_one : (n : ℕ) (members failed : List ℕ) → All (λ o. 1 ≤ o) (resolution n members failed)
resolution_from_one n members failed = All-filter (λ o. is_in members o || is_in failed o) (λ o. 1 ≤ o) (objects n) (from_one n)

-- a resolution set holds the members
pub resolution_holds : (members failed asked : List ℕ) → ((o : ℕ) → is_in asked o ≡ (is_in members o || is_in failed o)) → holds asked members ≡ true
resolution_holds members failed asked is = all_in asked members (λ k within.
    let o = get_or members k 0 in
    is o ∙ ap (λ b. b || is_in failed o) (contained_is_in members o (Contains-get_or members k 0 within)))

-- an answer that equals another
pub same_ok : {T E : Type 0} (r : Result T E) (a b : T) → a ≡ b → IfOk r (λ k. k ≡ a) → IfOk r (λ k. k ≡ b)
same_ok r a b same ok = subst (λ x. IfOk r (λ k. k ≡ x)) same ok

-- the values of objects of the catalogue
pub values_in-standing : (setup : MonitorSetup) (trail : List Entry) (asked : List ℕ) → All (λ o. 1 ≤ o) asked → All (λ o. o ≤ setup.objects) asked → values_in (values_of setup trail) asked ≡ values_over setup trail asked
values_in-standing setup trail [] low high = refl
values_in-standing setup trail (o ∷ asked) low high =
    let value : level_at (values_of setup trail) o ≡ value_of_object setup trail o = level_at-values_of setup trail o (low 0 o (omega arith)) (high 0 o (omega arith)) in
    let rest : values_in (values_of setup trail) asked ≡ values_over setup trail asked = values_in-standing setup trail asked (All-tail (λ q. 1 ≤ q) o asked low) (All-tail (λ q. q ≤ setup.objects) o asked high) in
    cc

pub report-standing : (setup : MonitorSetup) (trail : List Entry) → report_on (standing_of setup trail) (seq_of trail) ≡ report_at setup trail
unfolding report_on report_at broken_at
report-standing setup trail =
    let levels = levels_of setup trail in
    let members = members_at trail in
    let failed = broken levels members in
    let asked : resolution (length levels) members failed ≡ resolution setup.objects members failed = ap (λ n. resolution n members failed) (length-levels_of setup trail) in
    let values : values_in (values_of setup trail) (resolution setup.objects members failed) ≡ values_over setup trail (resolution setup.objects members failed) =
    values_in-standing setup trail (resolution setup.objects members failed) (resolution_from_one setup.objects members failed) (resolution_within setup.objects members failed) in
    ap (λ (os : List ℕ). f.Report (seq_of trail) (border levels members os) failed (values_in (values_of setup trail) os)) asked
    ∙ ap (λ (ps : List (ℕ × ℤ)). f.Report (seq_of trail) (border levels members (resolution setup.objects members failed)) failed ps) values

pub values-standing : (setup : MonitorSetup) (trail : List Entry) (round : ℕ) (asked : List ℕ) → All (λ o. 1 ≤ o) asked → All (λ o. o ≤ setup.objects) asked → values_frame (standing_of setup trail) (seq_of trail) round asked ≡ values_at setup trail round asked
unfolding values_at
values-standing setup trail round asked low high =
    ap (λ (ps : List (ℕ × ℤ)). f.Values round (seq_of trail) (border_over setup trail asked) ps) (values_in-standing setup trail asked low high)

-- the levels once an Assign is taken
assigned_one : (change : Option ℤ) (value level factor : ℤ) → level ≡ value +ℤ factor → option_map_or (λ z. value +ℤ z) change level ≡ value +ℤ unwrap_or change factor
assigned_one None value level factor is = is
assigned_one (Some z) value level factor is = refl

level_parts : (setup : MonitorSetup) (trail : List Entry) (o : ℕ) → level_of setup trail o ≡ value_of_object setup trail o +ℤ row (assigns_of trail) o
unfolding level_of
level_parts setup trail o = refl

assigned_at : (setup : MonitorSetup) (trail : List Entry) (seq : ℕ) (members : List ℕ) (changes : List (ℕ × ℤ)) (o : ℕ) → 1 ≤ o → o ≤ setup.objects → assigned_level (values_of setup trail) (levels_of setup trail) changes o ≡ level_of setup (trail ++ Took (f.Assign seq members changes) ∷ []) o
assigned_at setup trail seq members changes o low high =
    let value = value_of_object setup trail o in
    let factor = row (assigns_of trail) o in
    ap (λ (v : ℤ). option_map_or (λ z. v +ℤ z) (value_at changes o) (level_at (levels_of setup trail) o)) (level_at-values_of setup trail o low high)
    ∙ assigned_one (value_at changes o) value (level_at (levels_of setup trail) o) factor (level_at-levels_of setup trail o low high ∙ level_parts setup trail o)
    ∙ sym (level-assign setup trail seq members changes o)

assigned_all : (setup : MonitorSetup) (trail : List Entry) (seq : ℕ) (members : List ℕ) (changes : List (ℕ × ℤ)) → map (assigned_level (values_of setup trail) (levels_of setup trail) changes) (objects setup.objects) ≡ levels_of setup (trail ++ Took (f.Assign seq members changes) ∷ [])
unfolding levels_of objects
assigned_all setup trail seq members changes =
    let after = trail ++ Took (f.Assign seq members changes) ∷ [] in
    mapped_same (level_of setup after) (assigned_level (values_of setup trail) (levels_of setup trail) changes) 1 setup.objects (λ o low high. assigned_at setup trail seq members changes o low (omega arith))

pub assigned-standing : (setup : MonitorSetup) (trail : List Entry) (seq : ℕ) (members : List ℕ) (changes : List (ℕ × ℤ)) → assigned (values_of setup trail) (levels_of setup trail) changes ≡ levels_of setup (trail ++ Took (f.Assign seq members changes) ∷ [])
unfolding assigned
assigned-standing setup trail seq members changes =
    ap (λ n. map (assigned_level (values_of setup trail) (levels_of setup trail) changes) (objects n)) (length-levels_of setup trail)
    ∙ assigned_all setup trail seq members changes

-- a Report made of its parts
pub report_made : (s : BoardView) (seq : ℕ) (edge : ℤ) (members failed asked : List ℕ) (values : List (ℕ × ℤ)) → members ≡ s.members → failed ≡ broken s.levels s.members → asked ≡ resolution (length s.levels) members failed → values ≡ values_in s.values asked → edge ≡ border s.levels s.members asked → f.Report seq edge failed values ≡ report_on s seq
unfolding report_on
report_made s seq edge members failed asked values is_members is_failed is_asked is_values is_edge =
    let all : asked ≡ resolution (length s.levels) s.members (broken s.levels s.members) = is_asked ∙ ap₂ (resolution (length s.levels)) is_members is_failed in
    let listed : values ≡ values_in s.values (resolution (length s.levels) s.members (broken s.levels s.members)) = is_values ∙ ap (values_in s.values) all in
    let edged : edge ≡ border s.levels s.members (resolution (length s.levels) s.members (broken s.levels s.members)) = is_edge ∙ ap (border s.levels s.members) all in
    cc
