-- The texts of `help` and `version`, by the names that they have in the code.
use Rattle.std.specs.Prelude.{ℕ, List, Option, Some, None}
use Rattle.tk_words.specs.declared.manual.TheConstants.{OVERVIEW, REPLAY, WINDOW, MULTI, SESSIONS, TRACE, CHECK, SHOW, LIVE, GENERATE, COORDINATE, MONITOR, HELP, VERSION, NUMBER}
use Rattle.tk_words.specs.declared.verb.Verb.{Verb}
use Rattle.tk_words.specs.declared.verb.Verb.TheVariants as v

-- the text of help, of one command, where it is named
abbrev pub manual_text : Option Verb → List ℕ
manual_text None = OVERVIEW.now
manual_text (Some v.Replay) = REPLAY.now
manual_text (Some v.Generate) = GENERATE.now
manual_text (Some v.Live) = LIVE.now
manual_text (Some v.Window) = WINDOW.now
manual_text (Some v.Multi) = MULTI.now
manual_text (Some v.Sessions) = SESSIONS.now
manual_text (Some v.Trace) = TRACE.now
manual_text (Some v.Check) = CHECK.now
manual_text (Some v.Show) = SHOW.now
manual_text (Some v.Coordinate) = COORDINATE.now
manual_text (Some v.Monitor) = MONITOR.now
manual_text (Some v.Help) = HELP.now
manual_text (Some v.Version) = VERSION.now

-- the text of version
abbrev pub version_text : List ℕ
version_text = NUMBER.now
