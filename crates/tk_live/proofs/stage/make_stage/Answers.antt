use Rattle.tk_live.proofs.HostLemmas.{gone_listened, gone_on}
use Rattle.tk_live.proofs.stage.make_stage.Goals as goal

pub returns-in_err-hub-clause-gone : goal.returns-in_err-hub-clause-gone
returns-in_err-hub-clause-gone g c = gone_on _ _ _ (gone_listened c.listen.result _ _ c.listen.ensures.state) c.make_crew.ensures.gone

pub returns-clause-gone : goal.returns-clause-gone
returns-clause-gone g c = gone_on _ _ _ (gone_listened c.listen.result _ _ c.listen.ensures.state) c.make_crew.ensures.gone
