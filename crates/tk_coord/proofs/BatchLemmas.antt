-- A frame to each monitor: one monitor more, and the beginning of a journal.
use Rattle.std.proofs.Common.{◌≡◌, ℕ, suc, zero, ◌+◌, ℤ, List, [], ◌∷◌, ◌++◌, map, ◌<◌, true, false, Option, None, refl, sym, ap, ◌∙◌, arith}
use Rattle.std.specs.Prelude.{replicate}
use Rattle.tk_journal.specs.declared.publication.Publication.{Publication}
use Rattle.std.specs.List.{range_with_len, enumerate_from, filter_map, cons_option}
use Rattle.std.specs.Option.{option_map}
use Rattle.tk_frames.specs.Assigns.{Assign, assign_in}
use Rattle.tk_journal.specs.Publishing.{publications}
use Rattle.tk_journal.specs.Readings.{is_stopped, members_in}
use Rattle.tk_journal.proofs.Published.{batch_wanted, no_stop}
use Rattle.std.proofs.lemmas.List.{append_assoc}
use Rattle.tk_base.specs.Settings.{Setup}
use Rattle.tk_base.specs.Objects.{objects}
use Rattle.tk_frames.specs.declared.frame.Frame.{Frame}
use Rattle.tk_border.proofs.RisingLemmas.{counted_more}
use Rattle.tk_frames.specs.declared.frame.Frame.TheVariants as f
use Rattle.tk_journal.specs.Legal.{Opening, opened, start}
use Rattle.tk_journal.specs.declared.noted.Noted.{Noted}
use Rattle.tk_journal.specs.declared.noted.Noted.TheVariants as n
use Rattle.tk_coord.specs.Batches.{to_each}

-- a frame to one monitor
abbrev to_one : Frame → ℕ → Noted
to_one frame mon = n.Sent (record { 0 = mon }) frame

-- a frame to one monitor more
pub each_more : (frame : Frame) (j : ℕ) → to_each frame (j + 1) ≡ to_each frame j ++ n.Sent (record { 0 = j + 1 }) frame ∷ []
each_more frame j = counted_more (to_one frame) j

-- where one entry more was pushed, the frame has gone to one monitor more
pub one_more : (frame : Frame) (j : ℕ) (old : List Noted) {entries new : List Noted} {e : Noted} → new ≡ entries ++ e ∷ [] → entries ≡ old ++ to_each frame j
    → e ≡ n.Sent (record { 0 = j + 1 }) frame → new ≡ old ++ to_each frame (j + 1)
one_more frame j old {entries} {new} {e} pushed before is =
    pushed
    ∙ ap (λ (x : Noted). entries ++ x ∷ []) is
    ∙ ap (λ (l : List Noted). l ++ n.Sent (record { 0 = j + 1 }) frame ∷ []) before
    ∙ append_assoc old (to_each frame j) (n.Sent (record { 0 = j + 1 }) frame ∷ [])
    ∙ ap (λ (l : List Noted). old ++ l) (sym (each_more frame j))

-- where no factors are given, the rows of an opening are one frame to each monitor
no_factors : (members : List ℕ) (first k : ℕ)
    → map (λ (p : ℕ × List (ℕ × ℤ)). n.Sent (record { 0 = p.0 }) (f.Assign 1 members p.1)) (enumerate_from first (replicate k [])) ≡ map (to_one (f.Assign 1 members [])) (range_with_len first k)
no_factors members first zero = refl
no_factors members first (suc k) = ap (λ xs. to_one (f.Assign 1 members []) first ∷ xs) (no_factors members (first + 1) k)

-- the journal of a start: Assign 1 to each monitor
pub started : (s : Setup) → to_each (f.Assign 1 (objects s.k) []) s.monitors ≡ opened (start s)
started s = sym (no_factors (objects s.k) 1 s.monitors)

-- ---- the members that entries name, and whether they end the journal

-- Assigns end no journal
pub opened_running : (o : Opening) → is_stopped (opened o) ≡ false
opened_running o = no_stop (opened o) (batch_wanted (λ (p : ℕ × List (ℕ × ℤ)). p.0) (λ p. f.Assign 1 o.members p.1) (enumerate_from 1 o.factors) (λ _. refl))

no_publications : (members : List ℕ) (rows : List (ℕ × List (ℕ × ℤ))) → publications (map (λ p. n.Sent (record { 0 = p.0 }) (f.Assign 1 members p.1)) rows) ≡ []
no_publications members [] = refl
no_publications members (p ∷ rows) = no_publications members rows

-- and publish nothing
pub opened_unpublished : (o : Opening) → publications (opened o) ≡ []
opened_unpublished o = no_publications o.members (enumerate_from 1 o.factors)

-- an empty journal has not ended
pub none_stops : is_stopped [] ≡ false
unfolding is_stopped
none_stops = refl

-- a frame that is no Assign names no members
unnamed : (frame : Frame) (mons : List ℕ) → assign_in frame ≡ None → filter_map members_in (map (to_one frame) mons) ≡ []
unnamed frame [] none = refl
unnamed frame (mon ∷ mons) none =
    ap (λ (a : Option Assign). cons_option (option_map (λ assign. assign.members) a) (filter_map members_in (map (to_one frame) mons))) none ∙ unnamed frame mons none

-- Stops name no members
pub stops_name_none : (m : ℕ) → filter_map members_in (to_each f.Stop m) ≡ []
stops_name_none m = unnamed f.Stop (range_with_len 1 m) refl

-- where there is a monitor, Stops end the journal
pub stops_end : (m : ℕ) → 0 < m → is_stopped (to_each f.Stop m) ≡ true
unfolding is_stopped
stops_end zero some = absurd (omega arith)
stops_end (suc m) some = refl

-- ---- the entries of a turn, as a whole

-- a publication alone names no members, and ends nothing
pub published_alone : (entries : List Noted) (p : Publication) → entries ≡ n.Published p ∷ [] → (filter_map members_in entries ≡ []) × (is_stopped entries ≡ false)
unfolding is_stopped
published_alone entries p is = (ap (filter_map members_in) is, ap is_stopped is)

-- the last publication and the Stops behind it name no members, and end the journal
pub published_last : (entries front : List Noted) (p : Publication) (m : ℕ) → front ≡ n.Published p ∷ [] → entries ≡ front ++ to_each f.Stop m → 0 < m
    → (filter_map members_in entries ≡ []) × (is_stopped entries ≡ true)
unfolding is_stopped
published_last entries front p m first is some =
    let whole : entries ≡ n.Published p ∷ to_each f.Stop m = is ∙ ap (λ (l : List Noted). l ++ to_each f.Stop m) first in
    (ap (filter_map members_in) whole ∙ stops_name_none m, ap is_stopped whole ∙ stops_end m some)
