-- The forms of the values of words.
use Rattle.std.specs.Prelude.{ℕ, Bool, true, count_by, bytes_eq, codes, ◌&&◌, ◌==◌, nat_lt, nat_le, if◌then◌else◌, List, [], ◌∷◌, length, Option, Some, None, option_map, option_and_then}
use Rattle.std.specs.List.{after_first, before_first, list_all, position_or_len}
use Rattle.std.specs.Path.{rsplit_once}
use Rattle.tk_base.specs.Digits.{digits_in, short_in}

-- a number as that of a monitor: 1 to 64
abbrev pub monitor_from : Option ℕ → Option ℕ
monitor_from None = None
monitor_from (Some n) = if nat_lt 0 n && nat_le n 64 then Some n else None

-- the number of a monitor that is written, without a leading zero
abbrev pub monitor_in : List ℕ → Option ℕ
monitor_in [] = None
monitor_in (c ∷ rest) = if c == 48 then None else (if nat_le (length rest) 1 then monitor_from (digits_in (c ∷ rest)) else None)

-- a number as one of 1 to so many
abbrev pub from_one_to : ℕ → Option ℕ → Option ℕ
from_one_to most None = None
from_one_to most (Some n) = if nat_lt 0 n && nat_le n most then Some n else None

-- the length of a piece that is written: 1 to 65,536
abbrev pub piece_in : List ℕ → Option ℕ
piece_in text = from_one_to 65536 (short_in text)

-- a time in seconds that is written: 1 to 3,600
abbrev pub seconds_in : List ℕ → Option ℕ
seconds_in text = from_one_to 3600 (short_in text)

-- a time in milliseconds that is written: 1 to 60,000
abbrev pub milliseconds_in : List ℕ → Option ℕ
milliseconds_in text = from_one_to 60000 (short_in text)

-- the width of a window that is written, in ticks: 1 to 1,000,000
abbrev pub width_in : List ℕ → Option ℕ
width_in text = from_one_to 1000000 (short_in text)

-- a number as that of some times: 1 or more
abbrev pub times_from : Option ℕ → Option ℕ
times_from None = None
times_from (Some n) = if nat_lt 0 n then Some n else None

-- how many times, as it is written
abbrev pub times_in : List ℕ → Option ℕ
times_in text = times_from (short_in text)

-- the version of frames that is named
abbrev pub version_in : List ℕ → Option ℕ
version_in text = if bytes_eq text (codes "1") then Some 1 else (if bytes_eq text (codes "2") then Some 2 else None)

-- what is wished by the word yes, the only one that is understood
abbrev pub yes_in : List ℕ → Option Bool
yes_in text = if bytes_eq text (codes "yes") then Some true else None

-- a file has one byte or more
abbrev pub file_in : List ℕ → Option (List ℕ)
file_in [] = None
file_in (c ∷ rest) = Some (c ∷ rest)

-- the monitor and the file on the two sides of the first equals sign
abbrev pub log_in : List ℕ → Option (ℕ × List ℕ)
log_in word =
    if nat_lt (position_or_len (λ b. b == 61) word) (length word)
    then option_and_then (λ mon. option_map (λ file. (mon, file)) (file_in (after_first (λ b. b == 61) word))) (monitor_in (before_first (λ b. b == 61) word))
    else None

-- the monitors and files of all of these words, where each has that form
abbrev pub logs_in : List (List ℕ) → Option (List (ℕ × List ℕ))
logs_in [] = Some []
logs_in (word ∷ rest) = option_and_then (λ log. option_map (λ logs. log ∷ logs) (logs_in rest)) (log_in word)

-- a number as a port: up to 65,535
abbrev pub port_from : Option ℕ → Option ℕ
port_from None = None
port_from (Some n) = if nat_le n 65535 then Some n else None

-- the port that 1 to 5 digits write
abbrev pub port_in : List ℕ → Option ℕ
port_in text = if nat_le (length text) 5 then port_from (digits_in text) else None

-- the port of a host and a port, of which the host has one byte or more
abbrev pub port_behind : List ℕ × List ℕ → Option ℕ
port_behind address = if nat_lt 0 (length address.0) then port_in address.1 else None

-- the port of an address, on the two sides of whose last colon they stand
abbrev pub port_of : List ℕ → Option ℕ
port_of text = option_and_then port_behind (rsplit_once 58 text)

-- an address at which one listens: with port 0 the system chooses one
abbrev pub listen_in : List ℕ → Option (List ℕ)
listen_in text = option_map (λ port. text) (port_of text)

-- a port that is there to be dialed
abbrev pub dialed : ℕ → Option ℕ
dialed port = if nat_lt 0 port then Some port else None

-- an address to which one connects
abbrev pub connect_in : List ℕ → Option (List ℕ)
connect_in text = option_map (λ port. text) (option_and_then dialed (port_of text))

-- a word is that of the standard input
abbrev pub is_input : List ℕ → Bool
is_input word = bytes_eq word (codes "-")

-- how many of these words are that
abbrev pub inputs_in : List (List ℕ) → ℕ
inputs_in words = count_by is_input words

-- words are the sources of a monitor: 1 to 8, each a file or the standard input, which is there at most once
abbrev pub are_sources : List (List ℕ) → Bool
are_sources words =
    nat_lt 0 (length words) && nat_le (length words) 8 && list_all (λ word. nat_lt 0 (length word)) words && nat_le (inputs_in words) 1

-- the sources of a monitor that are written
abbrev pub sources_in : List (List ℕ) → Option (List (List ℕ))
sources_in words = if are_sources words then Some words else None
