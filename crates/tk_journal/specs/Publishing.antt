-- Publications: when one stands, what it says, and what follows the last.
use Rattle.std.specs.Prelude.{ℕ, ◌+◌, Bool, true, not, ◌&&◌, ◌||◌, ◌==◌, nat_eq, if◌then◌else◌, List, [], ◌∷◌, length, map, filter_map, Option, Some, None}
use Rattle.std.specs.List.{list_all}
use Rattle.std.specs.Ordering.{int_eq}
use Rattle.std.specs.Cmp.Lexicographic.{pointwise}
use Rattle.tk_base.specs.Settings.{Setup}
use Rattle.tk_frames.specs.declared.frame.Frame.TheVariants as f
use Rattle.tk_journal.specs.Readings.{Progress, monitors, settled_of, is_calm, members_at, in_force}
use Rattle.tk_base.specs.History.{last_of}
use Rattle.tk_journal.specs.declared.noted.Noted.{Noted}
use Rattle.tk_journal.specs.declared.noted.Noted.TheVariants as n
use Rattle.tk_journal.specs.declared.publication.Publication.{Publication}

-- the publication that an entry is, if it is one
abbrev pub published_in : Noted → Option Publication
published_in (n.Got from frame) = None
published_in (n.Sent to frame) = None
published_in (n.Published publication) = Some publication
published_in (n.Tuned k epsilon) = None

-- the publications of a journal, in order
abbrev pub publications : List Noted → List Publication
publications journal = filter_map published_in journal

-- what the current answers say, where all are Settled
abbrev pub settled_at : Setup → List Noted → List Progress
settled_at setup journal = filter_map (λ mon. settled_of mon journal) (monitors setup)

-- whether a publication says other members, k or epsilon than these
abbrev pub differs : Setup → List ℕ → Option Publication → Bool
differs setup members None = true
differs setup members (Some p) = not (pointwise nat_eq p.members members && p.k == setup.k && int_eq p.epsilon setup.epsilon)

-- whether all current answers, all of them Settled, are from the ends of all parts
abbrev pub is_last : Setup → List Noted → Bool
is_last setup journal = list_all (λ progress. progress.last) (settled_at setup journal)

-- whether a publication stands at the end of a turn
abbrev pub is_due : Setup → List Noted → Bool
is_due setup journal =
    is_calm setup journal && (differs (in_force setup journal) (members_at journal) (last_of (publications journal)) || is_last setup journal)

-- the next publication: members, k and epsilon in force, and the places of the current answers as its cut
abbrev pub publication_at : Setup → List Noted → Publication
publication_at setup journal = record {
  number = length (publications journal) + 1;
  last = is_last setup journal;
  k = (in_force setup journal).k;
  epsilon = (in_force setup journal).epsilon;
  members = members_at journal;
  cut = map (λ progress. progress.places) (settled_at setup journal);
}

-- Stop to every monitor
abbrev pub stops : Setup → List Noted
stops setup = map (λ mon. n.Sent (record { 0 = mon }) f.Stop) (monitors setup)

-- what ends a turn: a publication where one stands, and Stop behind the last
unfoldable pub closing : Setup → List Noted → List Noted
closing setup journal =
    if is_due setup journal then n.Published (publication_at setup journal) ∷ (if is_last setup journal then stops setup else [])
    else []
