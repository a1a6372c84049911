-- A text that is the same whatever there is, as help is, and how its writing ends.
use Rattle.std.specs.Prelude.{ℕ, List}
use Rattle.tk_input.specs.Sink.{Grows, GrowsByFront}
use Rattle.tk_load.specs.Surroundings.{Output}
use Rattle.tk_load.specs.declared.status.Status.{Status}
use Rattle.tk_load.specs.declared.status.Status.TheVariants as s
use Rattle.tk_run.specs.Outcome.{IsWithout}
use Rattle.tk_run.specs.declared.outcome.Outcome.{Outcome}

-- the text was written, and there is no story
pub record HasTold (text : List ℕ) (output : Output) (outcome : Outcome) : Type 0 where
  pub written : Grows output.before output.after text
  pub without : IsWithout outcome

-- what a status tells: of a text that was written see above; where writing failed a front of it was
abbrev pub EndsTold : List ℕ → Output → Status → Type 0
EndsTold text output s.Done = Unit
EndsTold text output s.WriteFault = GrowsByFront output.before output.after text
EndsTold text output s.Usage = ⊥
EndsTold text output (s.ReadFault file) = ⊥
EndsTold text output (s.BadInput file line kind) = ⊥
EndsTold text output (s.TooGreat mon obj) = ⊥
EndsTold text output s.NoMemory = ⊥
EndsTold text output s.LinkFault = ⊥
EndsTold text output (s.LinkDiffers difference) = ⊥
EndsTold text output (s.BadTrace file fault) = ⊥
