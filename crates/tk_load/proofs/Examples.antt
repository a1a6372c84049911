-- Inputs of a few words and files, computed, and which rule fails first.
use Rattle.std.proofs.Common.{◌≡◌, ℕ, pos, List, [], ◌∷◌, Option, Some, None, Ok, Err, codes, refl}
use Rattle.std.specs.Prelude.{neg_ℤ}
use Rattle.csv.proofs.OnLiterals.{csv_on_literals}
use Rattle.tk_base.specs.Objects.{objects}
use Rattle.tk_input.specs.Records.{through}
use Rattle.tk_load.specs.Faults.Fault.{Bad, Unread}
use Rattle.tk_load.specs.Input.{File, ReadWords, input_of}
use Rattle.tk_load.specs.Windowed.{ticked_rows}
use Rattle.tk_load.specs.declared.status.InputKind.TheVariants as k
use Rattle.tk_window.specs.Window.{up_to}

abbrev names : File
names = record { name = codes "objects.csv"; content = Some (codes "a\nb\n") }

abbrev one : File
one = record { name = codes "one.csv"; content = Some (codes "a,5\n") }

abbrev two : File
two = record { name = codes "two.csv"; content = Some (codes "b,3\n") }

abbrev lost : File
lost = record { name = codes "lost.csv"; content = None }

abbrev unknown : File
unknown = record { name = codes "unknown.csv"; content = Some (codes "a,1\nb,2\nc,3\n") }

abbrev asked : ℕ → Option File → List (ℕ × File) → ReadWords
asked k order logs = record { k = k; epsilon = 0; own_weight = 1; objects = names; order = order; width = None; logs = logs }

-- two monitors, k 1 and epsilon 0
pub two_monitors : input_of (asked 1 None ((1, one) ∷ (2, two) ∷ [])) ≡ Ok (record {
  names = codes "a" ∷ codes "b" ∷ [];
  settings = record { k = 1; epsilon = pos 0; own_weight = 1; objects = 2; monitors = 2 };
  logs = record { logs = (((1, pos 5) ∷ []) ∷ []) ∷ (((2, pos 3) ∷ []) ∷ []) ∷ []; objects = 2 };
  ends = None;
  order = None;
})
unfolding csv_on_literals through objects
two_monitors = refl

-- the third record of a log names no object
pub unknown_name : input_of (asked 1 None ((1, unknown) ∷ (2, two) ∷ [])) ≡ Err (Bad (codes "unknown.csv") 3 k.UnknownName)
unfolding csv_on_literals through
unknown_name = refl

-- the settings come before the logs
pub settings_first : input_of (asked 0 None ((1, unknown) ∷ [])) ≡ Err (Bad [] 0 k.BadK)
unfolding csv_on_literals through
settings_first = refl

-- a log that cannot be read decides before a later one that is refused, and after an earlier one
pub lost_first : input_of (asked 1 None ((2, lost) ∷ (1, unknown) ∷ [])) ≡ Err (Unread (codes "lost.csv"))
unfolding csv_on_literals through
lost_first = refl

pub lost_second : input_of (asked 1 None ((2, unknown) ∷ (1, lost) ∷ [])) ≡ Err (Bad (codes "unknown.csv") 3 k.UnknownName)
unfolding csv_on_literals through
lost_second = refl

-- a monitor without a log is told once all logs were read
pub gap : input_of (asked 1 None ((1, one) ∷ (3, two) ∷ [])) ≡ Err (Bad [] 0 (k.MonitorGap (record { 0 = 2 })))
unfolding csv_on_literals through
gap = refl

-- a retune past the limits is told with its line, the empty ones counted
pub retune : input_of (asked 1 (Some (record { name = codes "k.txt"; content = Some (codes "up 1\n\nretune 3 0\n") })) ((1, one) ∷ [])) ≡ Err (Bad (codes "k.txt") 3 k.BadK)
unfolding csv_on_literals through objects
retune = refl

-- ---- a window over the logs

abbrev ticking : File
ticking = record { name = codes "ticking.csv"; content = Some (codes "a,5\ntick\nb,2\n") }

abbrev logs : List (ℕ × File)
logs = (2, two) ∷ (1, ticking) ∷ (1, one) ∷ []

-- by monitor, and of each in the order of the words
pub rows_of_logs : ticked_rows (codes "a" ∷ codes "b" ∷ []) logs ≡
    ((((1, pos 5) ∷ []) ∷ ((2, pos 2) ∷ []) ∷ []) ∷ (((1, pos 5) ∷ []) ∷ []) ∷ []) ∷ ((((2, pos 3) ∷ []) ∷ []) ∷ []) ∷ []
unfolding csv_on_literals through
rows_of_logs = refl

-- over a window of one tick the five of a are taken back
pub window_of_one : input_of (record { k = 1; epsilon = 0; own_weight = 1; objects = names; order = None; width = Some 1; logs = logs }) ≡ Ok (record {
  names = codes "a" ∷ codes "b" ∷ [];
  settings = record { k = 1; epsilon = pos 0; own_weight = 1; objects = 2; monitors = 2 };
  logs = record {
    logs = (((1, pos 5) ∷ (1, neg_ℤ (pos 5)) ∷ (2, pos 2) ∷ []) ∷ ((1, pos 5) ∷ []) ∷ []) ∷ (((2, pos 3) ∷ []) ∷ []) ∷ [];
    objects = 2;
  };
  ends = Some (((1 ∷ 3 ∷ []) ∷ (1 ∷ []) ∷ []) ∷ ((1 ∷ []) ∷ []) ∷ []);
  order = None;
})
unfolding csv_on_literals through objects up_to
window_of_one = refl
