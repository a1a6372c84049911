-- The commands as clap reads them, and what it finds in words.
use Rattle.std.specs.Prelude.{ℕ, Bool, true, false, List, [], ◌∷◌, Option, Some, None, codes}
use Rattle.clap.specs.Words.{App, Row, Rule, fault_of, matches_of, new_app, new_rule, with_rule}
use Rattle.clap.specs.declared.builder.action.ArgAction.TheVariants.{Append, Set}
use Rattle.tk_words.specs.declared.verb.Verb.{Verb}
use Rattle.tk_words.specs.declared.verb.Verb.TheVariants.{Replay, Generate, Live, Window, Multi, Sessions, Trace, Check, Show, Coordinate, Monitor, Help, Version}

-- an option that takes one value
abbrev pub option_rule : List ℕ → Bool → Rule
option_rule name required = record (new_rule name) { long = Some name; required = required; action = Some Set }

-- the further words, at least one
abbrev pub logs_rule : Rule
logs_rule = record (new_rule (codes "log")) { required = true; action = Some Append }

-- the options of the sources that every run of logs from files has
abbrev pub with_source_rules : App → App
with_source_rules app =
    with_rule (with_rule (with_rule (with_rule app
    (option_rule (codes "k") true))
    (option_rule (codes "epsilon") true))
    (option_rule (codes "objects") true))
    (option_rule (codes "own-weight") false)

-- the option of an order
abbrev pub with_order_rule : App → App
with_order_rule app = with_rule app (option_rule (codes "order") false)

-- the options of how frames go
abbrev pub with_carriage_rules : App → App
with_carriage_rules app = with_rule (with_rule app (option_rule (codes "piece") false)) (option_rule (codes "frames") false)

-- `replay`, and `trace` with the same options
abbrev pub replay_app : List ℕ → App
replay_app name = with_rule (with_carriage_rules (with_order_rule (with_source_rules (new_app name)))) logs_rule

-- `window`
abbrev pub window_app : App
window_app = with_rule (with_carriage_rules (with_order_rule (with_rule (with_source_rules (new_app (codes "window"))) (option_rule (codes "width") true)))) logs_rule

-- `sessions`
abbrev pub sessions_app : App
sessions_app = with_rule (with_order_rule (with_source_rules (new_app (codes "sessions")))) logs_rule

-- `live`
abbrev pub live_app : App
live_app = with_rule (with_rule (with_source_rules (new_app (codes "live"))) (option_rule (codes "frames") false)) logs_rule

-- `multi`
abbrev pub multi_app : App
multi_app =
    with_rule (with_order_rule (with_rule (with_rule (new_app (codes "multi"))
    (option_rule (codes "objects") true))
    (option_rule (codes "queries") true)))
    logs_rule

-- the file that `check` and `show` read
abbrev pub file_rule : Rule
file_rule = record (new_rule (codes "file")) { required = true; action = Some Set }

-- `check`, and `show` with the same word
abbrev pub file_app : List ℕ → App
file_app name = with_rule (new_app name) file_rule

-- `gen`
abbrev pub gen_app : App
gen_app =
    with_rule (with_rule (with_rule (with_rule (with_rule (with_rule (new_app (codes "gen"))
    (option_rule (codes "seed") true))
    (option_rule (codes "monitors") true))
    (option_rule (codes "objects") true))
    (option_rule (codes "updates") true))
    (option_rule (codes "k") true))
    (option_rule (codes "epsilon") true)

-- `coordinate`
abbrev pub coordinate_app : App
coordinate_app =
    with_rule (with_rule (with_rule (with_rule (with_rule (with_rule (with_source_rules (new_app (codes "coordinate")))
    (option_rule (codes "monitors") true))
    (option_rule (codes "run") true))
    (option_rule (codes "listen") true))
    (option_rule (codes "silence") false))
    (option_rule (codes "sessions") false))
    (option_rule (codes "missing") false)

-- the sources of a monitor, at least one
abbrev pub sources_rule : Rule
sources_rule = record (new_rule (codes "source")) { required = true; action = Some Append }

-- `monitor`
abbrev pub monitor_app : App
monitor_app =
    with_rule (with_rule (with_rule (with_rule (with_rule (with_rule (with_rule (with_rule (with_rule (with_rule (with_rule (with_rule
    (new_app (codes "monitor"))
    (option_rule (codes "number") true))
    (option_rule (codes "objects") true))
    (option_rule (codes "run") true))
    (option_rule (codes "connect") true))
    (option_rule (codes "frames") false))
    (option_rule (codes "pause") false))
    (option_rule (codes "silence") false))
    (option_rule (codes "tries") false))
    (option_rule (codes "skip-bad") false))
    (option_rule (codes "width") false))
    (option_rule (codes "tick") false))
    sources_rule

-- the command of which help is wished, where one is named
abbrev pub command_rule : Rule
command_rule = record (new_rule (codes "command")) { action = Some Set }

-- `help`
abbrev pub help_app : App
help_app = with_rule (new_app (codes "help")) command_rule

-- `version`
abbrev pub version_app : App
version_app = new_app (codes "version")

-- the command that a verb names
abbrev pub app_named : Verb → App
app_named Replay = replay_app (codes "replay")
app_named Generate = gen_app
app_named Live = live_app
app_named Window = window_app
app_named Multi = multi_app
app_named Sessions = sessions_app
app_named Trace = replay_app (codes "trace")
app_named Check = file_app (codes "check")
app_named Show = file_app (codes "show")
app_named Coordinate = coordinate_app
app_named Monitor = monitor_app
app_named Help = help_app
app_named Version = version_app

-- what was found, where there is no fault
abbrev pub unless_any : {A X : Type 0} → List X → A → Option A
unless_any [] found = Some found
unless_any (fault ∷ faults) found = None

-- what clap finds in the words of a command, where it does not refuse them
abbrev pub found_in : App → List (List ℕ) → Option (List Row)
found_in app words = unless_any (fault_of app words) (matches_of app words)
