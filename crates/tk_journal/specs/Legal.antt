-- Legal journals: an opening, and then turn by turn what taken frames and retunes bring about.
use Rattle.std.specs.Prelude.{ℕ, ◌+◌, ◌≤◌, ◌≡◌, ℤ, pos, Bool, true, false, List, [], ◌∷◌, ◌++◌, map, filter, fold, replicate, None}
use Rattle.std.specs.List.{enumerate_from}
use Rattle.tk_base.specs.Objects.{objects}
use Rattle.tk_base.specs.Settings.{Setup}
use Rattle.tk_frames.specs.declared.frame.Frame.TheVariants as f
use Rattle.tk_journal.specs.Turns.{demanded, rounds, wide_collects}
use Rattle.tk_journal.specs.Publishing.{closing}
use Rattle.tk_journal.specs.Refusal.{refusal_of, retune_refusal_of}
use Rattle.tk_journal.specs.declared.noted.Noted.{Noted}
use Rattle.tk_journal.specs.declared.noted.Noted.TheVariants as n

-- how a journal begins: the settings, the first members, and for each monitor the factors that it is given
pub record Opening : Type 0 where
  pub settings : Setup
  pub members : List ℕ
  pub factors : List (List (ℕ × ℤ))

-- the start: members 1 to k, and no factors
abbrev pub start : Setup → Opening
start settings = record { settings = settings; members = objects settings.k; factors = replicate settings.monitors [] }

-- the first Assign to each monitor
abbrev pub opened : Opening → List Noted
opened opening =
    map (λ p. n.Sent (record { 0 = p.0 }) (f.Assign 1 opening.members p.1)) (enumerate_from 1 opening.factors)

-- a taken frame with what it demands and what ends its turn; a retune with the Collects of a wide round
unfoldable pub turn_of : Setup → List Noted → Noted → List Noted
turn_of setup before (n.Got from frame) =
    let turn = n.Got from frame ∷ demanded setup before from.0 frame in turn ++ closing setup (before ++ turn)
turn_of setup before (n.Tuned k epsilon) = n.Tuned k epsilon ∷ wide_collects setup (rounds setup before + 1)
turn_of setup before (n.Sent to frame) = []
turn_of setup before (n.Published publication) = []

-- whether an entry is one that turns begin with
abbrev pub is_input : Noted → Bool
is_input (n.Got from frame) = true
is_input (n.Sent to frame) = false
is_input (n.Published publication) = false
is_input (n.Tuned k epsilon) = true

-- the frames taken and the retunes, in order
abbrev pub inputs_of : List Noted → List Noted
inputs_of journal = filter is_input journal

-- the journal that inputs bring about, turn by turn
abbrev pub played_from : Setup → List Noted → List Noted → List Noted
played_from setup before inputs = fold (λ journal input. journal ++ turn_of setup journal input) before inputs

-- an input is one of a monitor, or a retune, and is not refused over the journal before it
abbrev pub IsAccepted : Setup → List Noted → Noted → Type 0
IsAccepted setup before (n.Got from frame) = (1 ≤ from.0) × (from.0 ≤ setup.monitors) × (refusal_of setup before from.0 frame ≡ None)
IsAccepted setup before (n.Tuned k epsilon) = (e : ℕ) × (epsilon ≡ pos e) × (retune_refusal_of setup before k e ≡ None)
IsAccepted setup before (n.Sent to frame) = ⊥
IsAccepted setup before (n.Published publication) = ⊥

-- each input is accepted over what those before it brought about
abbrev pub AreAccepted : Setup → List Noted → List Noted → Type 0
AreAccepted setup before [] = Unit {0}
AreAccepted setup before (input ∷ inputs) =
    IsAccepted setup before input × AreAccepted setup (before ++ turn_of setup before input) inputs

-- the journal is what its inputs bring about, and each of them is accepted
pub record IsLegal (opening : Opening) (journal : List Noted) : Type 0 where
  pub played : journal ≡ played_from opening.settings (opened opening) (inputs_of journal)
  pub accepted : AreAccepted opening.settings (opened opening) (inputs_of journal)
