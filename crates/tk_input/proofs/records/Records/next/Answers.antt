use Rattle.tk_input.proofs.ReadingLemmas.{next_shown, none_shown}
use Rattle.tk_input.proofs.records.Records.next.Goals as goal

pub returns-clause-found : goal.returns-clause-found
returns-clause-found c =
    let read = c.read_byte_record-outcome in
    next_shown c.self.inside.reader read.new.self read.result c.map_err.result _ c.self.inside.ended c.has_found.result c.args.self.now _ c.if-self.false c.self.invariant c.self.view_is c.has_found.ensures
    c.map_err.ensures.cases c.map_err.ensures.variant read.ensures.reads read.ensures.ready read.ensures.flexible read.ensures.goes

pub returns-clause-ended : goal.returns-clause-ended
returns-clause-ended c = λ none.
    none_shown c.read_byte_record-outcome.new.self c.read_byte_record-outcome.result c.map_err.result _ c.has_found.result c.has_found.ensures c.map_err.ensures.cases c.map_err.ensures.variant none
