use Rattle.std.proofs.Common.{◌∙◌, sym}
use Rattle.tk_hub.proofs.HearLemmas.{unwritten_joined}
use Rattle.tk_hub.proofs.seats.Seats.exchange.Goals as goal

pub returns-clause-unwritten : goal.returns-clause-unwritten
returns-clause-unwritten g c = λ is. unwritten_joined c.hear-turn.result c.say.result c.hear-turn.ensures.unwritten c.say.ensures.unwritten (sym c.joined.ensures ∙ is)
