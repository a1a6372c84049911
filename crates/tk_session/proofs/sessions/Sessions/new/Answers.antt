use Rattle.tk_session.proofs.ChainLemmas.{begun_chain}
use Rattle.tk_session.proofs.sessions.Sessions.new.Goals as goal

pub new-requires : goal.new-requires
new-requires c = record { objects = c.requires.objects; monitors = c.requires.monitors; starts = c.in_ok-from.ensures.cut }

pub invariant_of-result : goal.invariant_of-result
invariant_of-result c =
    begun_chain c.a_beginning_is_a_session.ensures c.args.settings c.args.logs c.new-2.result.items c.in_ok-from.from c.in_ok-present.present c.new-2.ensures.items c.in_ok-from.ensures.value c.in_ok-present.ensures c.settings.ensures.legal
