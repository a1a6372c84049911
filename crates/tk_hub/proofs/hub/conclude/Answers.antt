use Rattle.tk_hub.proofs.hub.conclude.Goals as goal

pub returns-else-not-is_open-clause-few : goal.returns-else-not-is_open-clause-few
returns-else-not-is_open-clause-few g c = c.requires
