-- What the values of the code ask for.
use Rattle.std.specs.Prelude.{ℕ, ◌≡◌, ◌⊎◌, ◌≤◌, All, IfSome, List, length, map, Option, option_map}
use Rattle.std.specs.Borrow.{Bor}
use Rattle.tk_base.specs.declared.ids.Mon.{Mon}
use Rattle.tk_words.specs.Words.{Asked, CarriageWords, CoordinateWords, GenerateWords, LiveWords, MonitorWords, MultiWords, RecentWords, ReplayWords, SourceWords}
use Rattle.tk_words.specs.Words.Asked.{Replays, Generates, Lives, Queries, Restarts, Traces, Checks, Shows, Coordinates, Monitors, Helps, Versions}
use Rattle.tk_words.specs.declared.command.Command.{Command}
use Rattle.tk_words.specs.declared.command.Command.TheVariants.{Replay as Replayed, Generate as Generated, Live as Lived, Multi as Queried, Sessions as Restarted, Trace as Traced, Check as Checked, Show as Shown, Coordinate as Coordinated, Monitor as Monitored, Help as Helped, Version as Versioned}
use Rattle.tk_words.specs.declared.sources.Sources.{Sources}
use Rattle.tk_words.specs.declared.carriage.Carriage.{Carriage}
use Rattle.tk_words.specs.declared.coordinate.Coordinate.{Coordinate}
use Rattle.tk_words.specs.declared.recent.Recent.{Recent}
use Rattle.tk_words.specs.declared.replay.Replay.{Replay}
use Rattle.tk_words.specs.declared.generate.Generate.{Generate}
use Rattle.tk_words.specs.declared.live.Live.{Live}
use Rattle.tk_words.specs.declared.multi.Multi.{Multi}
use Rattle.tk_words.specs.declared.watched.Watched.{Watched}

-- logs as numbers and bytes
abbrev pub asked_logs : List (Mon × Bor (List ℕ)) → List (ℕ × List ℕ)
asked_logs logs = map (λ log. (log.0.0, log.1.now)) logs

-- the bytes of a word, where there is one
abbrev pub text_in : Option (Bor (List ℕ)) → Option (List ℕ)
text_in word = option_map (λ s. s.now) word

-- where a run finds its input, as numbers and bytes
abbrev pub asked_sources : Sources → SourceWords
asked_sources r = record {
  k = r.k;
  epsilon = r.epsilon;
  own_weight = r.own_weight;
  objects = r.objects.now;
  order = text_in r.order;
  width = r.width;
  logs = asked_logs r.logs.items;
}

-- how the frames of a run go: in which pieces, and in which version
abbrev pub asked_carriage : Carriage → CarriageWords
asked_carriage c = record { piece = c.piece; frames = c.frames }

-- what a replay asks for: where its input is, and how its frames go
abbrev pub asked_replay : Replay → ReplayWords
asked_replay r = record { sources = asked_sources r.sources; carriage = asked_carriage r.carriage }

-- what a generated run asks for: its seed and its sizes
abbrev pub asked_generate : Generate → GenerateWords
asked_generate g = record {
  seed = g.seed;
  monitors = g.monitors;
  objects = g.objects;
  updates = g.updates;
  k = g.k;
  epsilon = g.epsilon;
}

-- what a live run asks for: where its input is, and the version of its frames
abbrev pub asked_live : Live → LiveWords
asked_live l = record { sources = asked_sources l.sources; frames = l.frames }

-- what a run of several queries asks for: its files and logs
abbrev pub asked_multi : Multi → MultiWords
asked_multi m = record {
  objects = m.objects.now;
  queries = m.queries.now;
  order = option_map (λ s. s.now) m.order;
  logs = asked_logs m.logs.items;
}

-- what a coordinator asks for that runs as a process of its own
abbrev pub asked_coordinate : Coordinate → CoordinateWords
asked_coordinate c = record {
  monitors = c.monitors;
  k = c.k;
  epsilon = c.epsilon;
  own_weight = c.own_weight;
  objects = c.objects.now;
  run = c.run;
  listen = c.listen.now;
  silence = c.silence;
  sessions = c.sessions;
  missing = c.missing;
}

-- the window that a monitor asks for
abbrev pub asked_recent : Recent → RecentWords
asked_recent r = record { width = r.width; tick = r.tick }

-- what a monitor asks for that does
abbrev pub asked_monitor : Watched → MonitorWords
asked_monitor w = record {
  number = w.number.0;
  objects = w.objects.now;
  run = w.run;
  connect = w.connect.now;
  frames = w.frames;
  pause = w.pause;
  silence = w.silence;
  tries = w.tries;
  skip_bad = w.skip_bad;
  window = option_map asked_recent w.window;
  sources = map (λ s. s.now) w.sources.items;
}

-- what a command asks for
abbrev pub asked_by : Command → Asked
asked_by (Replayed r) = Replays (asked_replay r)
asked_by (Generated g) = Generates (asked_generate g)
asked_by (Lived l) = Lives (asked_live l)
asked_by (Queried m) = Queries (asked_multi m)
asked_by (Restarted r) = Restarts (asked_sources r)
asked_by (Traced r) = Traces (asked_replay r)
asked_by (Checked file) = Checks file.now
asked_by (Shown file) = Shows file.now
asked_by (Coordinated c) = Coordinates (asked_coordinate c)
asked_by (Monitored w) = Monitors (asked_monitor w)
asked_by (Helped command) = Helps command
asked_by Versioned = Versions

-- each log is that of a monitor from 1 to 64
abbrev pub AreOfMonitors : List (Mon × Bor (List ℕ)) → Type 0
AreOfMonitors logs = All (λ log. (1 ≤ log.0.0) × (log.0.0 ≤ 64)) logs

-- so are the logs of a command
abbrev pub HasMonitors : Command → Type 0
HasMonitors (Replayed r) = AreOfMonitors r.sources.logs.items
HasMonitors (Generated g) = Unit
HasMonitors (Lived l) = AreOfMonitors l.sources.logs.items
HasMonitors (Queried m) = AreOfMonitors m.logs.items
HasMonitors (Restarted r) = AreOfMonitors r.logs.items
HasMonitors (Traced r) = AreOfMonitors r.sources.logs.items
HasMonitors (Checked file) = Unit
HasMonitors (Shown file) = Unit
HasMonitors (Coordinated c) = Unit
HasMonitors (Monitored w) = Unit
HasMonitors (Helped command) = Unit
HasMonitors Versioned = Unit

-- a piece of 1 to 65,536 bytes, and a version that there is
pub record IsCarriage (c : Carriage) : Type 0 where
  pub some : 1 ≤ c.piece
  pub piece : c.piece ≤ 65536
  pub frames : (c.frames ≡ 1) ⊎ (c.frames ≡ 2)

-- the frames of a command go so
abbrev pub HasCarriage : Command → Type 0
HasCarriage (Replayed r) = IsCarriage r.carriage
HasCarriage (Generated g) = Unit
HasCarriage (Lived l) = (l.frames ≡ 1) ⊎ (l.frames ≡ 2)
HasCarriage (Queried m) = Unit
HasCarriage (Restarted r) = Unit
HasCarriage (Traced r) = IsCarriage r.carriage
HasCarriage (Checked file) = Unit
HasCarriage (Shown file) = Unit
HasCarriage (Coordinated c) = Unit
HasCarriage (Monitored w) = (w.frames ≡ 1) ⊎ (w.frames ≡ 2)
HasCarriage (Helped command) = Unit
HasCarriage Versioned = Unit

-- the times of a coordinator are in their ranges
pub record IsCoordinate (c : Coordinate) : Type 0 where
  pub silence : (1 ≤ c.silence) × (c.silence ≤ 3600)
  pub sessions : IfSome c.sessions (λ n. 1 ≤ n)
  pub missing : IfSome c.missing (λ n. (1 ≤ n) × (n ≤ 3600))

-- the width of a window, and the seconds of a tick, where it has such
pub record IsRecent (r : Recent) : Type 0 where
  pub width : (1 ≤ r.width) × (r.width ≤ 1000000)
  pub tick : IfSome r.tick (λ n. (1 ≤ n) × (n ≤ 3600))

-- the number, the version, the times, the window and the sources of a monitor are in their ranges
pub record IsWatched (w : Watched) : Type 0 where
  pub number : (1 ≤ w.number.0) × (w.number.0 ≤ 64)
  pub frames : (w.frames ≡ 1) ⊎ (w.frames ≡ 2)
  pub pause : (1 ≤ w.pause) × (w.pause ≤ 60000)
  pub silence : (1 ≤ w.silence) × (w.silence ≤ 3600)
  pub tries : IfSome w.tries (λ n. 1 ≤ n)
  pub window : IfSome w.window IsRecent
  pub sources : (1 ≤ length w.sources.items) × (length w.sources.items ≤ 8)

-- so are those of a command that runs as a process of its own
abbrev pub IsRanged : Command → Type 0
IsRanged (Replayed r) = Unit
IsRanged (Generated g) = Unit
IsRanged (Lived l) = Unit
IsRanged (Queried m) = Unit
IsRanged (Restarted r) = Unit
IsRanged (Traced r) = Unit
IsRanged (Checked file) = Unit
IsRanged (Shown file) = Unit
IsRanged (Coordinated c) = IsCoordinate c
IsRanged (Monitored w) = IsWatched w
IsRanged (Helped command) = Unit
IsRanged Versioned = Unit
