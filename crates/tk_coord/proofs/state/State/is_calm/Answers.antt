use Rattle.std.proofs.Common.{sym, ap, ◌∙◌}
use Rattle.std.specs.List.{list_all}
use Rattle.tk_coord.specs.Keeping.{has_settled}
use Rattle.tk_coord.proofs.TurnsLemmas.{calm_by_peers, uncalm_by_round}
use Rattle.tk_coord.proofs.state.State.is_calm.Goals as goal

pub returns-then-self : goal.returns-then-self
returns-then-self c = λ s j holds. uncalm_by_round s j _ holds.round.waiting c.if-self.true

pub returns : goal.returns
returns c = λ s j holds.
    c.all_settled.ensures ∙ ap (list_all has_settled) c.as_slice.ensures.value ∙ calm_by_peers s j _ (sym holds.round.waiting ∙ c.if-self.false) holds.peers
