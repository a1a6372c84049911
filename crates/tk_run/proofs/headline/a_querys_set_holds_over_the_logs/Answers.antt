use Rattle.tk_run.proofs.QueriedLemmas.{alone_is, valid_alone}
use Rattle.tk_run.proofs.headline.a_querys_set_holds_over_the_logs.Goals as goal

pub returns : goal.returns
returns c = λ names all queries alones events q query alone kept before after p differ logs made asked given size answer sound is.
    let over = alone_is names all queries alones q query alone made asked given in
    c.a_query_counts_what_the_logs_count.ensures.set query.prefix names all p.k p.epsilon p.cut p.members differ logs
    (valid_alone names all query.prefix over.0 events q alone kept p over.1 size answer (sound.published before after p is))
