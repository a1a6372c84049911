-- The journal as it is kept: its entries, and where certain ones stand. No public clause cites this.
use Rattle.std.specs.Prelude.{◌≡◌, ℕ, suc, ◌+◌, ◌<◌, ◌≤◌, List, [], ◌∷◌, ◌++◌, length, Option, Some, slice_index, slice_get, vec_len, vec_capacity}
use Rattle.std.specs.Global.{Vec}
use Rattle.std.specs.List.{filter_map}
use Rattle.tk_journal.specs.declared.noted.Noted.{Noted}
use Rattle.tk_journal.specs.declared.noted.Noted.TheVariants as n
use Rattle.tk_journal.specs.Links.{sent_to}
use Rattle.tk_journal.specs.Publishing.{published_in}

-- the entries, of how many monitors, and for how many more there is room
pub record JournalView : Type 0 where
  pub monitors : ℕ
  pub entries : List Noted
  pub spare : ℕ

-- at this place of the journal an entry stands that reads as this
abbrev pub IsReadAt : {X : Type 0} → (Noted → Option X) → List Noted → ℕ → Option X → Type 0
IsReadAt read journal place x = (e : Noted) × (slice_get journal place ≡ Some e) × (read e ≡ x)

-- the places, in order, of the entries that read as something
pub record IsIndex {X : Type 0} (read : Noted → Option X) (journal : List Noted) (places : List ℕ) : Type 0 where
  pub count : length places ≡ length (filter_map read journal)
  pub each : (i : ℕ) → i < length places → IsReadAt read journal (slice_index places i) (slice_get (filter_map read journal) i)

-- for each monitor the places of the frames sent to it
abbrev pub AreIndexed : List Noted → List (Vec ℕ) → Type 0
AreIndexed journal sent = (j : ℕ) (v : Vec ℕ) → slice_get sent j ≡ Some v → IsIndex (sent_to (suc j)) journal v.items

-- the places of frames that are sent, with an entry that is noted at this place
abbrev pub NotesSent : ℕ → Noted → List (Vec ℕ) → List (Vec ℕ) → Type 0
NotesSent place entry old new = (journal : List Noted) → length journal ≡ place → AreIndexed journal old → AreIndexed (journal ++ entry ∷ []) new

-- the places of publications, with an entry that is noted at this place
abbrev pub NotesPublished : ℕ → Noted → List ℕ → List ℕ → Type 0
NotesPublished place entry old new =
    (journal : List Noted) → length journal ≡ place → IsIndex published_in journal old → IsIndex published_in (journal ++ entry ∷ []) new

-- a list has room for all but one of what it had room for
abbrev pub KeepsRoom : Vec ℕ → Vec ℕ → Type 0
KeepsRoom old new = (n : ℕ) → vec_len old + (n + 1) ≤ vec_capacity old → vec_len new + n ≤ vec_capacity new

-- each list has room for so many more
abbrev pub HasRoom : ℕ → List (Vec ℕ) → Type 0
HasRoom more sent = (j : ℕ) (v : Vec ℕ) → slice_get sent j ≡ Some v → vec_len v + more ≤ vec_capacity v

-- what an entry sends, it sends to one of so many monitors
abbrev pub IsForOneOf : ℕ → Noted → Type 0
IsForOneOf monitors (n.Got from frame) = Unit {0}
IsForOneOf monitors (n.Sent to frame) = (0 < to.0) × (to.0 ≤ monitors)
IsForOneOf monitors (n.Published publication) = Unit {0}
IsForOneOf monitors (n.Tuned k epsilon) = Unit {0}
