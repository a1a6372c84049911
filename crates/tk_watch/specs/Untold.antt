-- Why a change does not count.
use Rattle.std.specs.Prelude.{Option, Some, None}
use Rattle.tk_base.specs.declared.ids.Obj.{Obj}
use Rattle.tk_watch.specs.declared.told.Told.{Told}
use Rattle.tk_watch.specs.declared.told.Told.TheVariants as t
use Rattle.tk_watch.specs.declared.untold.Untold.{Untold}
use Rattle.tk_watch.specs.declared.untold.Untold.TheVariants as u

-- why a change of this object does not count that was told so, if it does not
abbrev pub untold_by : Told → Obj → Option Untold
untold_by (t.Done broken fresh) obj = None
untold_by t.Closed obj = Some u.Closed
untold_by t.TooGreat obj = Some (u.TooGreat obj)
untold_by t.NoMemory obj = Some u.NoMemory
