use Rattle.std.specs.Prelude.{◌≡◌, true, List, [], ◌∷◌, ◌++◌}
use Rattle.tk_journal.specs.Legal.{IsAccepted, IsLegal, Opening, is_input, turn_of}
use Rattle.tk_journal.specs.declared.noted.Noted.{Noted}

-- before an input stands a legal journal, over which the input is accepted, and behind it all of its turn
pub record StandsWhole (o : Opening) (before : List Noted) (e : Noted) (after : List Noted) : Type 0 where
  pub legal : IsLegal o before
  pub accepted : IsAccepted o.settings before e
  pub rest : List Noted
  pub whole : e ∷ after ≡ turn_of o.settings before e ++ rest

-- nothing stands there, or an input first
abbrev pub BeginsWithInput : List Noted → Type 0
BeginsWithInput [] = Unit {0}
BeginsWithInput (e ∷ after) = is_input e ≡ true
