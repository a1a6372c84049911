-- The name that no port has. A call that locks a port picks another.
use Rattle.std.specs.Prelude.{[], pos}
use Rattle.tk_base.specs.Settings.{Setup}
use Rattle.tk_trail.specs.Setup.{MonitorSetup}

-- settings of no run: they have no object and no monitor
abbrev pub no_settings : Setup
no_settings = record { k = 0; epsilon = pos 0; own_weight = 0; objects = 0; monitors = 0 }

-- what no monitor is made of: a catalogue without an object
abbrev pub no_setup : MonitorSetup
no_setup = record { number = 0; objects = 0; parts = []; from = [] }
