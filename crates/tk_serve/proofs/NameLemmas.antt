-- What a turn leaves of a port's name.
use Rattle.std.proofs.Common.{◌≡◌, ◌+◌, ℕ, List, length, refl, sym, ◌∙◌, false}
use Rattle.std.proofs.lemmas.List.{length-map}
use Rattle.std.proofs.lemmas.List.FromFn.{length-enumerate_from}
use Rattle.std.specs.List.{enumerate_from}
use Rattle.tk_trail.specs.Readings.{places_at, raised_of}
use Rattle.tk_trail.specs.Setup.{IsSetup, MonitorSetup}
use Rattle.tk_trail.specs.declared.entry.Entry.{Entry}
use Rattle.std.proofs.lemmas.Bool.{false≢true}
use Rattle.tk_monitor.specs.Monitored.{MonitorView}
use Rattle.tk_end.specs.Link.{LinkView}
use Rattle.tk_port.specs.Port.{IsOnCourse, IsPort, PortView, Turns}
use Rattle.tk_port.specs.declared.course.Course.{Course}
use Rattle.tk_port.specs.declared.course.Course.TheVariants as c
use Rattle.tk_port.specs.declared.turn.Turn.{Turn}
use Rattle.tk_port.proofs.ExchangeLemmas.{reaches_setup}

-- the course of a wire that is not shut
open_course : {W : Type 0} (link : LinkView W) (m : MonitorView) (course : Course) → IsOnCourse link m course → link.shut ≡ false → course ≡ c.Open
open_course link m c.Open on is = refl
open_course link m c.Halted on is = absurd (false≢true (sym is ∙ on))
open_course link m c.Failed on is = absurd (false≢true (sym is ∙ on))
open_course link m (c.Refused why) on is = absurd (false≢true (sym is ∙ on.0))
open_course link m (c.Bad fault) on is = absurd (false≢true (sym is ∙ on.0))

pub is_open : {W : Type 0} (port : PortView W) → IsPort port → port.link.shut ≡ false → port.course ≡ c.Open
is_open port p is = open_course port.link port.monitor port.course p.course is

-- a turn leaves the name
pub record IsNamed {W : Type 0} (old new : PortView W) : Type 0 where
  pub settings : new.monitor.settings ≡ old.monitor.settings
  pub setup : new.monitor.setup ≡ old.monitor.setup
  pub version : new.link.version ≡ old.link.version

pub turn_named : {W : Type 0} (turn : Turn) (old new : PortView W) → Turns turn old new → IsNamed old new
turn_named turn old new t =
    let same = reaches_setup old.monitor new.monitor t.reaches in record { settings = same.0; setup = same.1; version = t.passes.version }

-- there are as many places as parts
pub count_places : (setup : MonitorSetup) (trail : List Entry) → IsSetup setup → length (places_at setup trail) ≡ length setup.parts
unfolding places_at
count_places setup trail s = length-map (enumerate_from 1 setup.from) (λ (p : ℕ × ℕ). p.1 + raised_of p.0 trail) ∙ (length-enumerate_from 1 setup.from ∙ s.from.shape)
