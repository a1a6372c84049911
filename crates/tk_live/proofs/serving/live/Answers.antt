use Rattle.tk_words.specs.Asked.{asked_live}
use Rattle.tk_live.proofs.ServingLemmas.{none, ran, unread}
use Rattle.tk_live.proofs.serving.live.Goals as goal

pub returns-in-Ok-load-clause-ends : goal.returns-in-Ok-load-clause-ends
returns-in-Ok-load-clause-ends g c = ran (asked_live c.in-Ok.words) c.in-Ok-load.input c.live_over.result c.in-Ok.ensures.asked c.in-Ok-load.ensures.read c.live_over.ensures.ends

pub returns-in-Err-clause-ends : goal.returns-in-Err-clause-ends
returns-in-Err-clause-ends g c = none c.in-Err.status c.unstarted.result c.in-Err.ensures.fault c.unstarted.ensures

pub returns-clause-ends : goal.returns-clause-ends
returns-clause-ends g c = unread (asked_live c.in-Ok.words) c.in-Err-load.status c.unstarted-in-Err-load.result c.in-Ok.ensures.asked c.in-Err-load.ensures.read c.unstarted-in-Err-load.ensures
