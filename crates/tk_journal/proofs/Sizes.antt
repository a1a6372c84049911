-- The sizes of the frames that a journal sends.
use Rattle.std.proofs.Common.{◌≡◌, ℕ, zero, suc, ◌+◌, ◌≤◌, ◌<◌, List, [], ◌∷◌, ◌++◌, length, Contains, refl, sym, ap, ◌∙◌, arith, true, false, Bool}
use Rattle.std.specs.Prelude.{if◌then◌else◌}
use Rattle.std.specs.List.{All}
use Rattle.std.proofs.lemmas.List.{length-map}
use Rattle.std.proofs.lemmas.List.Elements.{All-contains}
use Rattle.tk_base.specs.Ascending.{IsAscending}
use Rattle.tk_base.specs.Objects.{objects}
use Rattle.tk_base.specs.Settings.{Setup}
use Rattle.tk_base.proofs.MemberLemmas.{length-objects}
use Rattle.tk_rows.specs.Factors.{Grid}
use Rattle.tk_rows.proofs.WritingLemmas.{ascending_are_apart}
use Rattle.tk_frames.specs.Size.{IsShort}
use Rattle.tk_frames.specs.declared.frame.Frame.{Frame}
use Rattle.tk_frames.specs.declared.frame.Frame.TheVariants as f
use Rattle.tk_alloc.specs.Parts.{Part, new_factor}
use Rattle.tk_alloc.proofs.FullLemmas.{held_length}
use Rattle.tk_alloc.proofs.WideLemmas.{in_catalogue}
use Rattle.tk_journal.specs.Laws.{AreSentShort}
use Rattle.tk_journal.specs.Publishing.{closing, is_due, is_last, publication_at, stops}
use Rattle.tk_journal.specs.Readings.{monitors, assigns_sent}
use Rattle.tk_journal.specs.Turns.{collects}
use Rattle.tk_journal.specs.declared.noted.Noted.{Noted}
use Rattle.tk_journal.specs.declared.noted.Noted.TheVariants as n
use Rattle.tk_journal.proofs.Dealing.{dealt_rows}
use Rattle.tk_journal.proofs.Orderly.{Row, sends}
use Rattle.tk_journal.proofs.Pieces.{batch}

pub short-append : (a b : List Noted) → AreSentShort a → AreSentShort b → AreSentShort (a ++ b)
short-append [] b x y = y
short-append (n.Got from frame ∷ a) b x y = short-append a b x y
short-append (n.Sent to frame ∷ a) b x y = (x.0, short-append a b x.1 y)
short-append (n.Published publication ∷ a) b x y = short-append a b x y
short-append (n.Tuned k epsilon ∷ a) b x y = short-append a b x y

pub batch_short : {A : Type 0} (to : A → ℕ) (frame : A → Frame) (rows : List A) → ((d : A) → Contains rows d → IsShort (frame d)) → AreSentShort (batch to frame rows)
batch_short to frame [] each = tt
batch_short to frame (d ∷ rows) each = (each d (0, omega arith, refl), batch_short to frame rows (λ e in'. each e (suc in'.0, (let b = in'.1 in omega (arith, b)), in'.2)))

-- objects in order, all of a catalogue, are no more than it has
pub objects_few : (n : ℕ) (all : List ℕ) → IsAscending all → All (λ o. 0 < o) all → All (λ o. o ≤ n) all → length all ≤ n
objects_few n all up positive within =
    let held = held_length all (objects n) (ascending_are_apart all up) (λ q in'. in_catalogue n q (All-contains (λ o. 0 < o) all q positive in') (All-contains (λ o. o ≤ n) all q within in')) in
    let size = length-objects n in
    omega (arith, held, size)

-- Collects over few objects
pub collects_short : (round : ℕ) (all mons : List ℕ) → length all ≤ 65536 → AreSentShort (collects round all mons)
collects_short round all mons few = batch_short (λ m. m) (λ _. f.Collect round all) mons (λ d in'. few)

-- each row changes so many objects
abbrev pub RowsOf : ℕ → List Row → Type 0
RowsOf size rows = (d : Row) → Contains rows d → length d.1 ≡ size

dealt_size : (grid : Grid) (parts : List Part) (all : List ℕ) (first : ℕ) (ps : List Part) → RowsOf (length all) (dealt_rows grid parts all first ps)
dealt_size grid parts all first [] d (k, below, is) = absurd (omega (arith, below))
dealt_size grid parts all first (p ∷ ps) d (zero, below, is) = ap (λ (e : Row). length e.1) (sym is) ∙ length-map all (λ o. (o, new_factor grid parts first p o))
dealt_size grid parts all first (p ∷ ps) d (suc k, below, is) = dealt_size grid parts all (first + 1) ps d (k, omega (arith, below), is)

pub rows_of : (grid : Grid) (parts : List Part) (all : List ℕ) (first : ℕ) (ps : List Part) → RowsOf (length all) (dealt_rows grid parts all first ps)
rows_of = dealt_size

pub sends_short : (j : List Noted) (members : List ℕ) (rows : List Row) (size : ℕ) → length members ≤ 65536 → RowsOf size rows → size ≤ 65536 → AreSentShort (sends j members rows)
sends_short j members rows size few each small =
    batch_short (λ (d : Row). d.0) (λ d. f.Assign (assigns_sent d.0 j + 1) members d.1) rows (λ d in'. (few, (let l = each d in' in omega (arith, l, small))))

stops_short : (s : Setup) (last : Bool) → AreSentShort (if last then stops s else [])
stops_short s true = batch_short (λ m. m) (λ _. f.Stop) (monitors s) (λ d in'. tt)
stops_short s false = tt

closing_by : (s : Setup) (j : List Noted) (due : Bool) → AreSentShort (if due then n.Published (publication_at s j) ∷ (if is_last s j then stops s else []) else [])
closing_by s j true = stops_short s (is_last s j)
closing_by s j false = tt

pub closing_short : (s : Setup) (j : List Noted) → AreSentShort (closing s j)
unfolding closing
closing_short s j = closing_by s j (is_due s j)
