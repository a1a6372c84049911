-- The input of a replay: what its words and its files give, or the first rule that fails in the order of work.
use Rattle.std.specs.Prelude.{ℕ, ◌+◌, max, ◌++◌, ◌&&◌, nat_le, nat_lt, if◌then◌else◌, List, [], ◌∷◌, length, fold, sum_by, Option, Some, None, Result, Ok, Err}
use Rattle.std.specs.List.{zip}
use Rattle.tk_base.specs.Settings.{Setup, settings_of}
use Rattle.tk_base.specs.declared.settings.SettingFault.{SettingFault}
use Rattle.tk_input.specs.Catalog.{catalog_of}
use Rattle.tk_input.specs.Judged.{Assigned, logs_of}
use Rattle.tk_input.specs.Log.{log_of}
use Rattle.tk_input.specs.Logs.{LogSet}
use Rattle.tk_input.specs.Order.{OrderView, order_of}
use Rattle.tk_input.specs.Records.{through}
use Rattle.tk_input.specs.declared.event.Event.{Event}
use Rattle.tk_input.specs.declared.event.Event.TheVariants.{Raise, Check, Up, Down, Retune}
use Rattle.tk_load.specs.Faults.{Fault, after, bad_file, bad_whole, catalog_fault, expand_fault, log_fault, logs_fault, order_fault, setting_fault, setting_kind, telling}
use Rattle.tk_load.specs.Faults.Fault.{Bad, Unread}
use Rattle.tk_words.specs.Words.{SourceWords}
use Rattle.tk_window.specs.TickEnds.{Sources, ends_by_monitor, parts_in}
use Rattle.tk_window.specs.Ticks.{ticked_of}
use Rattle.tk_window.specs.Window.{Expansion, expanded_of}
use Rattle.tk_load.specs.declared.basis.Basis.{Basis}
use Rattle.tk_load.specs.declared.changes.Together.{Together}
use Rattle.tk_load.specs.declared.input.Input.{Input}
use Rattle.tk_load.specs.declared.settings.Limits.{Limits}
use Rattle.tk_load.specs.declared.status.InputKind.{InputKind}
use Rattle.tk_load.specs.declared.status.InputKind.TheVariants.{BadWidth, TooLong, TooManyUpdates}

-- a file of the words, and its content, unless it could not be read
pub record File : Type 0 where
  pub name : List ℕ
  pub content : Option (List ℕ)

-- the words of a replay with their files read
pub record ReadWords : Type 0 where
  pub k : ℕ
  pub epsilon : ℕ
  pub own_weight : ℕ
  pub objects : File
  pub order : Option File
  pub width : Option ℕ
  pub logs : List (ℕ × File)

-- what was read under a name, at most 64 MiB
abbrev pub bytes_from : List ℕ → Option (List ℕ) → Result (List ℕ) Fault
bytes_from name None = Err (Unread name)
bytes_from name (Some bytes) = if nat_lt 67108864 (length bytes) then Err (bad_file name TooLong) else Ok bytes

-- the bytes of a file, where it was read and is not too long
abbrev pub bytes_in : File → Result (List ℕ) Fault
bytes_in file = bytes_from file.name file.content

-- the names of an objects file
abbrev pub names_in : File → Result (List (List ℕ)) Fault
names_in file = after (bytes_in file) (λ bytes. telling (catalog_fault file.name) (catalog_of bytes))

-- the greatest monitor with a log
abbrev pub greatest_monitor : {X : Type 0} → List (ℕ × X) → ℕ
greatest_monitor logs = fold (λ last log. max last log.0) 0 logs

-- the settings over so many objects and monitors
abbrev pub settings_in : ℕ → ℕ → ℕ → ℕ → ℕ → Result Setup Fault
settings_in k epsilon own_weight objects monitors = telling setting_fault (settings_of k epsilon own_weight objects monitors)

-- the width of a window, 1 to 1,000,000 ticks, where there is one
abbrev pub width_in : Option ℕ → Result (Option ℕ) Fault
width_in None = Ok None
width_in (Some width) = if nat_lt 0 width && nat_le width 1000000 then Ok (Some width) else Err (bad_whole BadWidth)

-- the settings and the width, tested in this order
abbrev pub limits_in : ℕ → ℕ → ℕ → Option ℕ → ℕ → ℕ → Result Limits Fault
limits_in k epsilon own_weight width objects monitors =
    after (settings_in k epsilon own_weight objects monitors) (λ settings.
    after (width_in width) (λ tested.
    Ok (record { settings = settings; width = tested })))

-- those of some words over these names
abbrev pub limits_asked : SourceWords → List (List ℕ) → Result Limits Fault
limits_asked words names = limits_in words.k words.epsilon words.own_weight words.width (length names) (greatest_monitor words.logs)

-- a log that no window goes over, and one that a window of this width does: its changes, and where its ticks end
abbrev pub log_from : Option ℕ → List (List ℕ) → List ℕ → List ℕ → Result Expansion Fault
log_from None names name bytes = after (telling (log_fault name) (log_of names bytes)) (λ changes. Ok (record { part = changes; ends = [] }))
log_from (Some width) names name bytes = after (telling (log_fault name) (ticked_of names bytes)) (λ ticks. telling (expand_fault name) (expanded_of width ticks))

-- the changes of a log over these names
abbrev pub changes_in : Option ℕ → List (List ℕ) → File → Result Expansion Fault
changes_in width names file = after (bytes_in file) (log_from width names file.name)

-- how many changes some logs have
abbrev pub count_of : Sources → ℕ
count_of logs = sum_by (λ log. length log.1.part) logs

-- the changes of a log, unless there are over 4,000,000 with those before it
abbrev pub counted : ℕ → List ℕ → Expansion → Result Expansion Fault
counted before name log = if nat_lt 4000000 (before + length log.part) then Err (bad_file name TooManyUpdates) else Ok log

-- the same of a file, over these names
abbrev pub changes_after : ℕ → Option ℕ → List (List ℕ) → File → Result Expansion Fault
changes_after before width names file = after (changes_in width names file) (counted before file.name)

-- the logs before with a further one
abbrev pub log_added : Option ℕ → List (List ℕ) → Sources → ℕ × File → Result Sources Fault
log_added width names before log = after (changes_after (count_of before) width names log.1) (λ changes. Ok (before ++ (record { 0 = log.0 }, changes) ∷ []))

-- the logs in the order of the words
abbrev pub logs_in : Option ℕ → List (List ℕ) → List (ℕ × File) → Result Sources Fault
logs_in width names logs = through (log_added width names) [] logs

-- the logs of all monitors together
abbrev pub joined : Assigned → ℕ → Result LogSet Fault
joined logs objects = telling logs_fault (logs_of logs objects)

-- where the ticks of all logs end, where a window goes over them
abbrev pub ends_with : Option ℕ → Sources → Option (List (List (List ℕ)))
ends_with None logs = None
ends_with (Some width) logs = Some (ends_by_monitor logs)

-- the logs of all monitors together, and where their ticks end
abbrev pub together : Option ℕ → Sources → ℕ → Result Together Fault
together width logs objects = after (joined (parts_in logs) objects) (λ all. Ok (record { logs = all; ends = ends_with width logs }))

-- what is wrong with settings, where they are refused
abbrev pub kind_in : {A : Type 0} → Result A SettingFault → Option InputKind
kind_in (Ok settings) = None
kind_in (Err fault) = Some (setting_kind fault)

-- what is wrong with the k and epsilon that an event asks for, under the settings
abbrev pub retune_kind : Setup → Event → Option InputKind
retune_kind s (Retune asked) = kind_in (settings_of asked.k asked.epsilon 1 s.objects s.monitors)
retune_kind s (Raise mon f) = None
retune_kind s (Check mon) = None
retune_kind s (Up mon) = None
retune_kind s (Down mon) = None

-- a line of a file passes, unless there is something wrong with it
abbrev pub bad_line : List ℕ → ℕ → Option InputKind → Result (Unit {0}) Fault
bad_line name line None = Ok tt
bad_line name line (Some kind) = Err (Bad name line kind)

-- the event of a line passes, unless it is a retune past the limits
abbrev pub retune_tested : Setup → List ℕ → Unit {0} → Event × ℕ → Result (Unit {0}) Fault
retune_tested s name done event = bad_line name event.1 (retune_kind s event.0)

-- each event of an order does
abbrev pub retunes_tested : Setup → List ℕ → OrderView → Result (Unit {0}) Fault
retunes_tested s name order = through (retune_tested s name) tt (zip order.events order.lines)

-- the order that some bytes are, each retune within the limits
abbrev pub order_of_bytes : Setup → List ℕ → List ℕ → Result OrderView Fault
order_of_bytes s name bytes =
    after (telling (order_fault name) (order_of bytes)) (λ order.
    after (retunes_tested s name order) (λ done. Ok order))

-- the order of a file
abbrev pub order_from : Setup → File → Result OrderView Fault
order_from s file = after (bytes_in file) (order_of_bytes s file.name)

-- the order, where the words name a file of one
abbrev pub order_in : Setup → Option File → Result (Option OrderView) Fault
order_in s None = Ok None
order_in s (Some file) = after (order_from s file) (λ order. Ok (Some order))

-- what stands in front of the order, or the first rule that fails: the objects, the settings, the width, each log, the
-- logs together
abbrev pub basis_of : ReadWords → Result Basis Fault
basis_of words =
    after (names_in words.objects) (λ names.
    after (limits_in words.k words.epsilon words.own_weight words.width (length names) (greatest_monitor words.logs)) (λ limits.
    after (logs_in limits.width names words.logs) (λ logs.
    after (together limits.width logs (length names)) (λ all.
    Ok (record { names = names; settings = limits.settings; logs = all.logs; ends = all.ends })))))

-- the same with an order
abbrev pub input_with : Basis → Option OrderView → Input
input_with basis order = record { names = basis.names; settings = basis.settings; logs = basis.logs; ends = basis.ends; order = order }

-- the input of words whose files are read, or the first rule that fails: what stands in front of the order, the order
abbrev pub input_of : ReadWords → Result Input Fault
input_of words =
    after (basis_of words) (λ basis.
    after (order_in basis.settings words.order) (λ order.
    Ok (input_with basis order)))
