use Rattle.std.proofs.Common.{◌≤◌, ◌∙◌, ap, sym, Some, Option, ℕ, List, Bor, option_map}
use Rattle.std.proofs.lemmas.List.Elements.{All-push}
use Rattle.tk_base.specs.declared.ids.Mon.{Mon}
use Rattle.tk_words.specs.Asked.{asked_logs}
use Rattle.tk_words.proofs.LogsLemmas.{one_more, one_wrong}
use Rattle.tk_words.proofs.sources.logs_from.Goals as goal

abbrev shown : Option (Mon × Bor (List ℕ)) → Option (ℕ × List ℕ)
shown = option_map (λ log. (log.0.0, log.1.now))

pub returns-in_default-clause-usage : goal.returns-in_default-clause-usage
returns-in_default-clause-usage c = λ usage.
    one_wrong c.args.words.now c.loop-word.word-index _ c.loop-word-test.true (sym (ap shown c.in_default.is) ∙ c.log_word.ensures.value)

pub loop-word-preserved : goal.loop-word-preserved
loop-word-preserved c = record {
  read = one_more c.args.words.now c.loop-word.word-index _ c.loop-word.logs.items c.in-Some.log c.loop-word-test.true c.loop-word.invariant.read (sym (ap shown c.in-Some.is) ∙ c.log_word.ensures.value)
      ∙ ap (λ (logs : List (Mon × Bor (List ℕ))). Some (asked_logs logs)) (sym c.in_ok-push.ensures.items);
  monitors = rw c.in_ok-push.ensures.items (All-push (λ log. (1 ≤ log.0.0) × (log.0.0 ≤ 64)) _ _ c.loop-word.invariant.monitors c.in-Some.ensures.monitor);
}
