-- What a run leaves beside its status.
use Rattle.std.specs.Prelude.{◌≡◌, [], None}
use Rattle.tk_load.specs.declared.status.Status.TheVariants as s
use Rattle.tk_run.specs.declared.outcome.Outcome.{Outcome}

-- there is no story
pub record IsWithout (outcome : Outcome) : Type 0 where
  pub story : outcome.story ≡ None
  pub stories : outcome.stories.items ≡ []

-- this holds of a run that is done
abbrev pub IfDone : Outcome → (Outcome → Type 0) → Type 0
IfDone outcome Holds = outcome.status ≡ s.Done → Holds outcome
