-- Words of no command that is served ask for nothing.
use Rattle.std.proofs.Common.{◌≡◌, ℕ, List, false, Option, Some, None, refl}
use Rattle.std.specs.Prelude.{option_and_then, option_map}
use Rattle.tk_words.specs.Clap.{app_named, found_in}
use Rattle.tk_words.specs.Words.{Asked, CoordinateWords, LiveWords, MonitorWords, asked_under, asked_with, coordinate_of, live_of, monitor_of, verb_of, words_of}
use Rattle.tk_words.specs.Words.Asked.{Coordinates, Lives, Monitors}
use Rattle.tk_words.specs.declared.verb.Verb.{Verb}
use Rattle.tk_words.specs.declared.verb.Verb.TheVariants as v
use Rattle.tk_run.specs.Ends.{served, serves}

lives : (found : Option LiveWords) → served (option_map Lives found) ≡ None
lives None = refl
lives (Some words) = refl

coordinates : (found : Option CoordinateWords) → served (option_map Coordinates found) ≡ None
coordinates None = refl
coordinates (Some words) = refl

monitors : (found : Option MonitorWords) → served (option_map Monitors found) ≡ None
monitors None = refl
monitors (Some words) = refl

behind : {R : Type 0} (asks : R → Option Asked) (found : Option R) → ((rows : R) → served (asks rows) ≡ None) → served (option_and_then asks found) ≡ None
behind asks None each = refl
behind asks (Some rows) each = each rows

unserved_by : (verb : Option Verb) (words : List (List ℕ)) → serves verb ≡ false → served (option_and_then (λ one. asked_under one words) verb) ≡ None
unserved_by None words none = refl
unserved_by (Some v.Live) words none = behind (asked_with v.Live) (found_in (app_named v.Live) words) (λ rows. lives (live_of rows))
unserved_by (Some v.Replay) words none = absurd (cc)
unserved_by (Some v.Generate) words none = absurd (cc)
unserved_by (Some v.Window) words none = absurd (cc)
unserved_by (Some v.Multi) words none = absurd (cc)
unserved_by (Some v.Sessions) words none = absurd (cc)
unserved_by (Some v.Trace) words none = absurd (cc)
unserved_by (Some v.Check) words none = absurd (cc)
unserved_by (Some v.Show) words none = absurd (cc)
unserved_by (Some v.Coordinate) words none = behind (asked_with v.Coordinate) (found_in (app_named v.Coordinate) words) (λ rows. coordinates (coordinate_of rows))
unserved_by (Some v.Monitor) words none = behind (asked_with v.Monitor) (found_in (app_named v.Monitor) words) (λ rows. monitors (monitor_of rows))
unserved_by (Some v.Help) words none = absurd (cc)
unserved_by (Some v.Version) words none = absurd (cc)

pub unserved : (words : List (List ℕ)) → serves (verb_of words) ≡ false → served (words_of words) ≡ None
unserved words none = unserved_by (verb_of words) words none
