-- Current answers are fresh.
use Rattle.std.proofs.Common.{◌≡◌, ℕ, Bool, true, false, List, [], ◌∷◌, ◌++◌, length, Option, Some, None, refl, sym, ap, ◌∙◌, subst}
use Rattle.std.specs.Prelude.{is_some, if◌then◌else◌}
use Rattle.std.specs.List.{filter_map, cons_option}
use Rattle.std.proofs.lemmas.List.{append-nil, append_assoc}
use Rattle.std.proofs.lemmas.List.Elements.{filter_map-append}
use Rattle.tk_frames.specs.Assigns.{Assign, assign_in}
use Rattle.tk_frames.specs.declared.frame.Frame.{Frame}
use Rattle.tk_frames.specs.Carried.{is_numbered}
use Rattle.tk_journal.specs.Walks.{walk}
use Rattle.tk_journal.specs.Links.{Passed, link_of}
use Rattle.tk_journal.specs.Links.Passed.{Up, Down}
use Rattle.tk_journal.specs.Readings.{answer_of, answered, assigns_on, assign_down, assigns_sent}
use Rattle.tk_journal.specs.declared.noted.Noted.{Noted}
use Rattle.tk_journal.proofs.Pieces.{assigns_on-sent}

abbrev IsFreshOn : List Passed → Option Frame → Type 0
IsFreshOn link answer = (frame : Frame) → answer ≡ Some frame → is_numbered (assigns_on link) frame ≡ true

on_up : (link : List Passed) (frame : Frame) → assigns_on (link ++ Up frame ∷ []) ≡ assigns_on link
on_up link frame = ap length (filter_map-append assign_down link (Up frame ∷ []) ∙ append-nil (filter_map assign_down link))

up_fresh : (link : List Passed) (frame : Frame) (answer : Option Frame) (fresh : Bool) → is_numbered (assigns_on link) frame ≡ fresh → IsFreshOn link answer → IsFreshOn link (if fresh then Some frame else answer)
up_fresh link frame answer true is before g e = let same : frame ≡ g = cc in subst (λ h. is_numbered (assigns_on link) h ≡ true) same is
up_fresh link frame answer false is before g e = before g e

down_fresh : (link : List Passed) (frame : Frame) (answer : Option Frame) (assign : Option Assign) → assign_in frame ≡ assign → IsFreshOn link answer
    → IsFreshOn (link ++ Down frame ∷ []) (if is_some assign then None else answer)
down_fresh link frame answer (Some a) is before g e = cc
down_fresh link frame answer None is before g e =
    let same : assigns_on (link ++ Down frame ∷ []) ≡ assigns_on link =
    ap length (filter_map-append assign_down link (Down frame ∷ []) ∙ ap (λ (x : Option Assign). filter_map assign_down link ++ cons_option x []) is ∙ append-nil (filter_map assign_down link)) in
    ap (λ q. is_numbered q g) same ∙ before g e

fresh_from : (before link : List Passed) (answer : Option Frame) → IsFreshOn before answer → IsFreshOn (before ++ link) (walk answered before answer link)
fresh_from before [] answer fresh = subst (λ l. IsFreshOn l answer) (sym (append-nil before)) fresh
fresh_from before (Up frame ∷ link) answer fresh =
    let now : IsFreshOn before (answered before answer (Up frame)) = up_fresh before frame answer (is_numbered (assigns_on before) frame) refl fresh in
    subst (λ l. IsFreshOn l (walk answered (before ++ Up frame ∷ []) (answered before answer (Up frame)) link)) (append_assoc before (Up frame ∷ []) link)
    (fresh_from (before ++ Up frame ∷ []) link (answered before answer (Up frame)) (λ g e. ap (λ q. is_numbered q g) (on_up before frame) ∙ now g e))
fresh_from before (Down frame ∷ link) answer fresh =
    subst (λ l. IsFreshOn l (walk answered (before ++ Down frame ∷ []) (answered before answer (Down frame)) link)) (append_assoc before (Down frame ∷ []) link)
    (fresh_from (before ++ Down frame ∷ []) link (answered before answer (Down frame)) (down_fresh before frame answer (assign_in frame) refl fresh))

pub answer_fresh : (mon : ℕ) (j : List Noted) (frame : Frame) → answer_of mon j ≡ Some frame → is_numbered (assigns_sent mon j) frame ≡ true
unfolding answer_of
answer_fresh mon j frame e = ap (λ q. is_numbered q frame) (sym (assigns_on-sent mon j)) ∙ fresh_from [] (link_of mon j) None (λ _ none. cc) frame e
