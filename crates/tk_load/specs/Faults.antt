-- Why words and files give no input.
use Rattle.std.specs.Prelude.{ℕ, List, [], Result, Ok, Err}
use Rattle.tk_base.specs.declared.ids.Mon.{Mon}
use Rattle.tk_base.specs.declared.ids.Obj.{Obj}
use Rattle.tk_base.specs.declared.settings.SettingFault.{SettingFault}
use Rattle.tk_base.specs.declared.settings.SettingFault.TheVariants as s
use Rattle.tk_input.specs.Records.{and_then}
use Rattle.tk_input.specs.declared.catalog.CatalogFault.{CatalogFault}
use Rattle.tk_input.specs.declared.catalog.CatalogFault.TheVariants as c
use Rattle.tk_input.specs.declared.logs.LogsFault.{LogsFault}
use Rattle.tk_input.specs.declared.logs.LogsFault.TheVariants as l
use Rattle.tk_input.specs.declared.order.OrderFault.{OrderFault}
use Rattle.tk_input.specs.declared.order.OrderFault.TheVariants as o
use Rattle.tk_input.specs.declared.part.PartFault.{PartFault}
use Rattle.tk_input.specs.declared.part.PartFault.TheVariants as p
use Rattle.tk_window.specs.declared.fault.ExpandFault.{ExpandFault}
use Rattle.tk_window.specs.declared.fault.ExpandFault.TheVariants as e
use Rattle.tk_load.specs.declared.status.InputKind.{InputKind}
use Rattle.tk_load.specs.declared.status.InputKind.TheVariants as k

-- the first rule that fails: a file can be read; a file, the settings and the logs together are as they must be, with
-- the file and the line where there are such; and no object's changes at a monitor pass the limit. Want of memory is
-- none: no words and files bring it about.
pub data Fault : Type 0 where
  Unread : List ℕ → Fault
  Bad : List ℕ → ℕ → InputKind → Fault
  Great : Mon → Obj → Fault
  NoRoom : Fault

-- what is wrong with a file as a whole
abbrev pub bad_file : List ℕ → InputKind → Fault
bad_file file kind = Bad file 0 kind

-- what is wrong with the settings or with the logs together, which are no file
abbrev pub bad_whole : InputKind → Fault
bad_whole kind = Bad [] 0 kind

-- why a file is no list of names or of queries, at its record where one is at fault
abbrev pub catalog_fault : List ℕ → CatalogFault → Fault
catalog_fault file c.Empty = bad_file file k.Empty
catalog_fault file c.TooMany = bad_file file k.TooMany
catalog_fault file (c.BadRow n) = Bad file n k.BadRow
catalog_fault file (c.BadName n) = Bad file n k.BadName
catalog_fault file (c.Repeated n) = Bad file n k.Repeated
catalog_fault file c.NoMemory = NoRoom

-- why a file is no log, at its record where one is at fault
abbrev pub log_fault : List ℕ → PartFault → Fault
log_fault file p.TooMany = bad_file file k.TooMany
log_fault file (p.BadRow n) = Bad file n k.BadRow
log_fault file (p.UnknownName n) = Bad file n k.UnknownName
log_fault file (p.BadNumber n) = Bad file n k.BadNumber
log_fault file p.NoMemory = NoRoom

-- why no window can go over the log of a file: it would have too many changes
abbrev pub expand_fault : List ℕ → ExpandFault → Fault
expand_fault file (e.TooLong n) = bad_file file k.TooMany
expand_fault file e.NoMemory = NoRoom

-- why a file is no order, at its line that is at fault
abbrev pub order_fault : List ℕ → OrderFault → Fault
order_fault file (o.BadOrder n) = Bad file n k.BadOrder
order_fault file o.NoMemory = NoRoom

-- the kind of bad input that a setting past its limit is
abbrev pub setting_kind : SettingFault → InputKind
setting_kind s.BadCount = k.BadCount
setting_kind s.BadK = k.BadK
setting_kind s.BadEpsilon = k.BadEpsilon
setting_kind s.BadWeight = k.BadWeight

-- why there are no settings
abbrev pub setting_fault : SettingFault → Fault
setting_fault fault = bad_whole (setting_kind fault)

-- why the logs of all monitors together are refused
abbrev pub logs_fault : LogsFault → Fault
logs_fault (l.MonitorGap mon) = bad_whole (k.MonitorGap mon)
logs_fault (l.TooManyFeeders mon) = bad_whole (k.TooManyFeeders mon)
logs_fault l.TooManyUpdates = bad_whole k.TooManyUpdates
logs_fault (l.TooGreat mon obj) = Great mon obj
logs_fault l.NoMemory = NoRoom

-- the same result, with its fault as one of the input
abbrev pub telling : {A E : Type 0} → (E → Fault) → Result A E → Result A Fault
telling fault (Ok x) = Ok x
telling fault (Err other) = Err (fault other)

-- a rule that comes after another
abbrev pub after : {A B : Type 0} → Result A Fault → (A → Result B Fault) → Result B Fault
after first then = and_then then first
