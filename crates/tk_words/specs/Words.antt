-- What the words of the program ask for.
use Rattle.std.specs.Prelude.{ℕ, Bool, false, List, [], ◌∷◌, Option, Some, None, option_map, option_and_then, bytes_eq, codes, if◌then◌else◌}
use Rattle.std.specs.Option.{option_map_or}
use Rattle.clap.specs.Words.{Row, all_of, first_of}
use Rattle.tk_base.specs.Digits.{digits_in, short_in}
use Rattle.tk_words.specs.declared.verb.Verb.{Verb}
use Rattle.tk_words.specs.declared.verb.Verb.TheVariants.{Replay, Generate, Live, Window, Multi, Sessions, Trace, Check, Show, Coordinate, Monitor, Help, Version}
use Rattle.tk_words.specs.Clap.{app_named, found_in}
use Rattle.tk_words.specs.Forms.{connect_in, file_in, listen_in, logs_in, milliseconds_in, monitor_in, piece_in, seconds_in, sources_in, times_in, version_in, width_in, yes_in}

-- where a run finds its input: the numbers of the settings, the files with their logs' monitors, and the width of the
-- window over them, where there is one
pub record SourceWords : Type 0 where
  pub k : ℕ
  pub epsilon : ℕ
  pub own_weight : ℕ
  pub objects : List ℕ
  pub order : Option (List ℕ)
  pub width : Option ℕ
  pub logs : List (ℕ × List ℕ)

-- how frames go: the length of a piece, and their version
pub record CarriageWords : Type 0 where
  pub piece : ℕ
  pub frames : ℕ

-- what a replay asks for
pub record ReplayWords : Type 0 where
  pub sources : SourceWords
  pub carriage : CarriageWords

-- what a live run asks for: sources without an order, and the version of its frames
pub record LiveWords : Type 0 where
  pub sources : SourceWords
  pub frames : ℕ

-- what a generated run asks for
pub record GenerateWords : Type 0 where
  pub seed : ℕ
  pub monitors : ℕ
  pub objects : ℕ
  pub updates : ℕ
  pub k : ℕ
  pub epsilon : ℕ

-- what a run of several queries asks for: its files, with the monitors of the logs
pub record MultiWords : Type 0 where
  pub objects : List ℕ
  pub queries : List ℕ
  pub order : Option (List ℕ)
  pub logs : List (ℕ × List ℕ)

-- what a coordinator asks for that runs as a process of its own: the numbers of its settings, the file of its objects, its run,
-- where it listens, how many seconds a link may be silent, after how many sessions it ends, where it does, and for how many seconds
-- it waits for a monitor, where it does not wait for ever
pub record CoordinateWords : Type 0 where
  pub monitors : ℕ
  pub k : ℕ
  pub epsilon : ℕ
  pub own_weight : ℕ
  pub objects : List ℕ
  pub run : ℕ
  pub listen : List ℕ
  pub silence : ℕ
  pub sessions : Option ℕ
  pub missing : Option ℕ

-- the window of a monitor: its width in ticks, and how many seconds a tick takes, where no lines end ticks
pub record RecentWords : Type 0 where
  pub width : ℕ
  pub tick : Option ℕ

-- what a monitor asks for that does: its number, the file of its objects, its run, where it connects, the version of its frames,
-- the milliseconds of a pause, how many seconds a link may be silent, after how many tries it gives up, where it does, whether it
-- passes over bad lines, its window, where it has one, and its sources
pub record MonitorWords : Type 0 where
  pub number : ℕ
  pub objects : List ℕ
  pub run : ℕ
  pub connect : List ℕ
  pub frames : ℕ
  pub pause : ℕ
  pub silence : ℕ
  pub tries : Option ℕ
  pub skip_bad : Bool
  pub window : Option RecentWords
  pub sources : List (List ℕ)

-- what words ask for: a replay, a generated run, a live run, a replay of several queries, a replay with restarts, the
-- trace of a replay, whether a file is a trace, what a trace tells, a coordinator or a monitor as a process of its own, help, of one
-- command where it is named, and the version
pub data Asked : Type 0 where
  Replays : ReplayWords → Asked
  Generates : GenerateWords → Asked
  Lives : LiveWords → Asked
  Queries : MultiWords → Asked
  Restarts : SourceWords → Asked
  Traces : ReplayWords → Asked
  Checks : List ℕ → Asked
  Shows : List ℕ → Asked
  Coordinates : CoordinateWords → Asked
  Monitors : MonitorWords → Asked
  Helps : Option Verb → Asked
  Versions : Asked

-- the value of a required option, in its form
abbrev pub required : {A : Type 0} → (List ℕ → Option A) → List ℕ → List Row → Option A
required form name rows = option_and_then form (first_of name rows)

-- that of an option that may be left out, and stands for something then
abbrev pub optional : {A : Type 0} → (List ℕ → Option A) → List ℕ → A → List Row → Option A
optional form name absent rows = option_map_or form (first_of name rows) (Some absent)

-- the further words, each the log of a monitor
abbrev pub logs_of : List Row → Option (List (ℕ × List ℕ))
logs_of rows = option_and_then logs_in (all_of (codes "log") rows)

-- the settings, the objects and the logs that are named, with this order and this window
abbrev pub sources_with : Option (List ℕ) → Option ℕ → List Row → Option SourceWords
sources_with order width rows =
    option_and_then (λ k. option_and_then (λ epsilon. option_and_then (λ own_weight. option_and_then (λ objects.
    option_map (λ logs. record { k = k; epsilon = epsilon; own_weight = own_weight; objects = objects; order = order; width = width; logs = logs })
    (logs_of rows))
    (required file_in (codes "objects") rows))
    (optional short_in (codes "own-weight") 1 rows))
    (required digits_in (codes "epsilon") rows))
    (required short_in (codes "k") rows)

-- how frames go: by 4,096 bytes in version 1, where nothing else is said
abbrev pub carriage_of : List Row → Option CarriageWords
carriage_of rows =
    option_and_then (λ piece. option_map (λ frames. record { piece = piece; frames = frames }) (optional version_in (codes "frames") 1 rows))
    (optional piece_in (codes "piece") 4096 rows)

-- the file of an order, where one is named
abbrev pub order_of : List Row → Option (Option (List ℕ))
order_of rows = optional (λ text. option_map Some (file_in text)) (codes "order") None rows

-- the values of a replay with this window
abbrev pub replay_with : Option ℕ → List Row → Option ReplayWords
replay_with width rows =
    option_and_then (λ carriage. option_and_then (λ order. option_map (λ sources. record { sources = sources; carriage = carriage })
    (sources_with order width rows))
    (order_of rows))
    (carriage_of rows)

-- those of a replay of the logs as they are
abbrev pub replay_of : List Row → Option ReplayWords
replay_of rows = replay_with None rows

-- those of a replay with a window
abbrev pub window_of : List Row → Option ReplayWords
window_of rows = option_and_then (λ width. replay_with (Some width) rows) (required short_in (codes "width") rows)

-- the values of a live run
abbrev pub live_of : List Row → Option LiveWords
live_of rows =
    option_and_then (λ frames. option_map (λ sources. record { sources = sources; frames = frames }) (sources_with None None rows))
    (optional version_in (codes "frames") 1 rows)

-- those of a replay with restarts
abbrev pub sessions_of : List Row → Option SourceWords
sessions_of rows = option_and_then (λ order. sources_with order None rows) (order_of rows)

-- those of several queries
abbrev pub multi_of : List Row → Option MultiWords
multi_of rows =
    option_and_then (λ objects. option_and_then (λ queries. option_and_then (λ order.
    option_map (λ logs. record { objects = objects; queries = queries; order = order; logs = logs })
    (logs_of rows))
    (order_of rows))
    (required file_in (codes "queries") rows))
    (required file_in (codes "objects") rows)

-- the file that is read
abbrev pub file_of : List Row → Option (List ℕ)
file_of rows = required file_in (codes "file") rows

-- the values of a generated run
abbrev pub generate_of : List Row → Option GenerateWords
generate_of rows =
    option_and_then (λ seed. option_and_then (λ monitors. option_and_then (λ objects. option_and_then (λ updates. option_and_then (λ k.
    option_map (λ epsilon. record { seed = seed; monitors = monitors; objects = objects; updates = updates; k = k; epsilon = epsilon })
    (required digits_in (codes "epsilon") rows))
    (required short_in (codes "k") rows))
    (required short_in (codes "updates") rows))
    (required short_in (codes "objects") rows))
    (required short_in (codes "monitors") rows))
    (required short_in (codes "seed") rows)

-- a number of times, where it is written
abbrev pub times_of : List ℕ → List Row → Option (Option ℕ)
times_of name rows = optional (λ text. option_map Some (times_in text)) name None rows

-- a number of seconds, where it is written
abbrev pub seconds_of : List ℕ → List Row → Option (Option ℕ)
seconds_of name rows = optional (λ text. option_map Some (seconds_in text)) name None rows

-- how many seconds a link may be silent
abbrev pub silence_of : List Row → Option ℕ
silence_of rows = optional seconds_in (codes "silence") 20 rows

-- the values of a coordinator
abbrev pub coordinate_of : List Row → Option CoordinateWords
coordinate_of rows =
    option_and_then (λ monitors. option_and_then (λ k. option_and_then (λ epsilon. option_and_then (λ own_weight. option_and_then (λ objects.
    option_and_then (λ run. option_and_then (λ listen. option_and_then (λ silence. option_and_then (λ sessions.
    option_map (λ missing. record {
      monitors = monitors;
      k = k;
      epsilon = epsilon;
      own_weight = own_weight;
      objects = objects;
      run = run;
      listen = listen;
      silence = silence;
      sessions = sessions;
      missing = missing;
    })
    (seconds_of (codes "missing") rows))
    (times_of (codes "sessions") rows))
    (silence_of rows))
    (required listen_in (codes "listen") rows))
    (required short_in (codes "run") rows))
    (required file_in (codes "objects") rows))
    (optional short_in (codes "own-weight") 1 rows))
    (required digits_in (codes "epsilon") rows))
    (required short_in (codes "k") rows))
    (required short_in (codes "monitors") rows)

-- the sources of a monitor that are named
abbrev pub sources_of : List Row → Option (List (List ℕ))
sources_of rows = option_and_then sources_in (all_of (codes "source") rows)

-- the width of a window, where it is written
abbrev pub width_of : List Row → Option (Option ℕ)
width_of rows = optional (λ text. option_map Some (width_in text)) (codes "width") None rows

-- a window of this width, where there is one: without it no tick has a length
abbrev pub recent_with : Option ℕ → Option ℕ → Option (Option RecentWords)
recent_with None None = Some None
recent_with None (Some tick) = None
recent_with (Some width) tick = Some (Some (record { width = width; tick = tick }))

-- the window of a monitor
abbrev pub recent_of : List Row → Option (Option RecentWords)
recent_of rows = option_and_then (λ width. option_and_then (λ tick. recent_with width tick) (seconds_of (codes "tick") rows)) (width_of rows)

-- the values of a monitor, where bad lines end it if nothing else is said
abbrev pub monitor_of : List Row → Option MonitorWords
monitor_of rows =
    option_and_then (λ number. option_and_then (λ objects. option_and_then (λ run. option_and_then (λ connect. option_and_then (λ frames.
    option_and_then (λ pause. option_and_then (λ silence. option_and_then (λ tries. option_and_then (λ skip_bad. option_and_then (λ window.
    option_map (λ sources. record {
      number = number;
      objects = objects;
      run = run;
      connect = connect;
      frames = frames;
      pause = pause;
      silence = silence;
      tries = tries;
      skip_bad = skip_bad;
      window = window;
      sources = sources;
    })
    (sources_of rows))
    (recent_of rows))
    (optional yes_in (codes "skip-bad") false rows))
    (times_of (codes "tries") rows))
    (silence_of rows))
    (optional milliseconds_in (codes "pause") 500 rows))
    (optional version_in (codes "frames") 1 rows))
    (required connect_in (codes "connect") rows))
    (required short_in (codes "run") rows))
    (required file_in (codes "objects") rows))
    (required monitor_in (codes "number") rows)

-- the command that a word names
abbrev pub verb_named : List ℕ → Option Verb
verb_named word =
    if bytes_eq word (codes "replay") then Some Replay
    else (if bytes_eq word (codes "gen") then Some Generate else (if bytes_eq word (codes "live") then Some Live
    else (if bytes_eq word (codes "window") then Some Window else (if bytes_eq word (codes "multi") then Some Multi
    else (if bytes_eq word (codes "sessions") then Some Sessions else (if bytes_eq word (codes "trace") then Some Trace
    else (if bytes_eq word (codes "check") then Some Check else (if bytes_eq word (codes "show") then Some Show
    else (if bytes_eq word (codes "coordinate") then Some Coordinate
    else (if bytes_eq word (codes "monitor") then Some Monitor else (if bytes_eq word (codes "help") then Some Help
    else (if bytes_eq word (codes "version") then Some Version else None))))))))))))

-- the command of which help is wished, where one is named
abbrev pub help_of : List Row → Option (Option Verb)
help_of rows = optional (λ word. option_map Some (verb_named word)) (codes "command") None rows

-- what a command asks for by what clap found: a window is a replay of its logs, expanded
abbrev pub asked_with : Verb → List Row → Option Asked
asked_with Replay rows = option_map Replays (replay_of rows)
asked_with Generate rows = option_map Generates (generate_of rows)
asked_with Live rows = option_map Lives (live_of rows)
asked_with Window rows = option_map Replays (window_of rows)
asked_with Multi rows = option_map Queries (multi_of rows)
asked_with Sessions rows = option_map Restarts (sessions_of rows)
asked_with Trace rows = option_map Traces (replay_of rows)
asked_with Check rows = option_map Checks (file_of rows)
asked_with Show rows = option_map Shows (file_of rows)
asked_with Coordinate rows = option_map Coordinates (coordinate_of rows)
asked_with Monitor rows = option_map Monitors (monitor_of rows)
asked_with Help rows = option_map Helps (help_of rows)
asked_with Version rows = Some Versions

-- the command that the first word names, which help and version have other names for
abbrev pub verb_called : List ℕ → Option Verb
verb_called word =
    if bytes_eq word (codes "--help") then Some Help else (if bytes_eq word (codes "-h") then Some Help
    else (if bytes_eq word (codes "--version") then Some Version else (if bytes_eq word (codes "-V") then Some Version else verb_named word)))

-- the command of some words, which the first of them names
abbrev pub verb_of : List (List ℕ) → Option Verb
verb_of [] = None
verb_of (word ∷ rest) = verb_called word

-- what the words of a command ask for, where clap takes them and each value is in its form
abbrev pub asked_under : Verb → List (List ℕ) → Option Asked
asked_under verb words = option_and_then (asked_with verb) (found_in (app_named verb) words)

-- what words ask for, where they are understood
abbrev pub words_of : List (List ℕ) → Option Asked
words_of words = option_and_then (λ verb. asked_under verb words) (verb_of words)
