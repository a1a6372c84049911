use Rattle.std.proofs.Common.{◌∙◌, ap, sym, map, string_bytes, Some, None}
use Rattle.std.proofs.lemmas.Result.{IfOk-weaker}
use Rattle.clap.specs.Words.{App, app_of, found_of, is_simple_and_free, rows_of}
use Rattle.tk_words.specs.Asked.{asked_by}
use Rattle.tk_words.specs.Clap.{app_named}
use Rattle.tk_words.specs.Words.{asked_with}
use Rattle.tk_words.proofs.FoundLemmas.{each_is_free, formed, under}
use Rattle.tk_words.proofs.command.read.Goals as goal

pub parse-requires : goal.parse-requires
parse-requires c = ap (λ (a : App). is_simple_and_free a) c.in_ok-rules.ensures ∙ each_is_free c.in-Some.verb

pub returns-clause-ok : goal.returns-clause-ok
returns-clause-ok c =
    let words = map string_bytes c.args.words.now in
    let verb = c.in-Some.verb in
    IfOk-weaker c.asked.result _ _
    (λ r is. under words verb (Some (asked_by r)) (sym c.verb_of.ensures ∙ c.in-Some.is)
    (formed (asked_with verb) (app_of c.in_ok-rules.field-0) (app_named verb) words (rows_of (found_of c.in_ok-matches.matches)) (Some (asked_by r)) c.in_ok-rules.ensures c.in_ok-matches.ensures.ok is))
    c.asked.ensures.ok

pub returns-clause-monitors : goal.returns-clause-monitors
returns-clause-monitors c = c.asked.ensures.monitors

pub returns-clause-carriage : goal.returns-clause-carriage
returns-clause-carriage c = c.asked.ensures.carriage

pub returns-clause-ranged : goal.returns-clause-ranged
returns-clause-ranged c = c.asked.ensures.ranged

pub returns-clause-unknown : goal.returns-clause-unknown
returns-clause-unknown c = λ none. absurd (cc)

pub returns-clause-usage : goal.returns-clause-usage
returns-clause-usage c = λ usage.
    let words = map string_bytes c.args.words.now in
    let verb = c.in-Some.verb in
    under words verb None (sym c.verb_of.ensures ∙ c.in-Some.is)
    (formed (asked_with verb) (app_of c.in_ok-rules.field-0) (app_named verb) words (rows_of (found_of c.in_ok-matches.matches)) None c.in_ok-rules.ensures c.in_ok-matches.ensures.ok (c.asked.ensures.usage usage))
