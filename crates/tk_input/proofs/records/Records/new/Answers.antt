use Rattle.std.proofs.Common.{rules, inr}
use Rattle.tk_input.proofs.records.Records.new.Goals as goal

pub invariant_of-result : goal.invariant_of-result
invariant_of-result c = record {
  config = search rules;
  trim = search rules;
  flexible = search rules;
  goes = search rules;
  ready = inr (inr (search rules, search rules));
  known = search rules;
}
