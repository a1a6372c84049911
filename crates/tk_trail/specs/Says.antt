-- What a sent frame says of the place of the trail where it stands.
use Rattle.tk_frames.specs.declared.frame.Frame.TheVariants as f
use Rattle.std.specs.Prelude.{ℕ, ◌≡◌, ℤ, Bool, true, false, List, Some}
use Rattle.tk_base.specs.History.{last_of}
use Rattle.tk_trail.specs.Setup.{MonitorSetup}
use Rattle.tk_trail.specs.Frames.{border_over, resolution_at, values_over}
use Rattle.tk_trail.specs.Readings.{at_ends, broken_at, is_broken, places_at, seq_of}
use Rattle.tk_trail.specs.declared.entry.Entry.{Entry}
use Rattle.tk_trail.specs.declared.entry.Entry.TheVariants.{Took}

-- what a Report says: the Assigns taken, the broken outsiders, at least one, values and border over members and them
pub record SaysReport (setup : MonitorSetup) (x : List Entry) (seq : ℕ) (border : ℤ) (failed : List ℕ) (values : List (ℕ × ℤ)) : Type 0 where
  pub seq_is : seq ≡ seq_of x
  pub border_is : border ≡ border_over setup x (resolution_at setup x)
  pub failed_is : failed ≡ broken_at setup x
  pub values_is : values ≡ values_over setup x (resolution_at setup x)
  pub broken : is_broken setup x ≡ true

-- what a Settled says: the Assigns taken, the places, and whether they are the ends of all parts; nothing is broken
pub record SaysSettled (setup : MonitorSetup) (x : List Entry) (seq : ℕ) (last : Bool) (places : List ℕ) : Type 0 where
  pub seq_is : seq ≡ seq_of x
  pub last_is : last ≡ at_ends setup x
  pub places_is : places ≡ places_at setup x
  pub calm : is_broken setup x ≡ false

-- what Values say: the Assigns taken, and values and border over the objects of the Collect just taken
pub record SaysValues (setup : MonitorSetup) (x : List Entry) (round seq : ℕ) (border : ℤ) (values : List (ℕ × ℤ)) : Type 0 where
  pub asked : List ℕ
  pub last : last_of x ≡ Some (Took (f.Collect round asked))
  pub seq_is : seq ≡ seq_of x
  pub border_is : border ≡ border_over setup x asked
  pub values_is : values ≡ values_over setup x asked
