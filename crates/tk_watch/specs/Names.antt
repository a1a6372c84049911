-- The name that no watch has.
use Rattle.tk_watch.specs.Watch.{Named}

-- a call that locks a watch picks another
abbrev pub nobody : Named
nobody = record { number = 0; objects = 0; streams = 0; run = 0; version = 1 }
