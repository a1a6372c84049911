use Rattle.std.proofs.Common.{rules, refl, sym, ◌∙◌}
use Rattle.std.proofs.lemmas.Bool.{true≢false}
use Rattle.tk_wire.proofs.GreetingLemmas.{no_padding, padding_is}
use Rattle.tk_wire.proofs.greeting.streams_of.Goals as goal

pub returns-then-not-is_same-2-clause-none : goal.returns-then-not-is_same-2-clause-none
returns-then-not-is_same-2-clause-none c = λ n form. true≢false (sym (c.is_same-2.ensures.1 (no_padding c.args.bytes.now n form)) ∙ c.if-not-is_same-2.true)

pub returns-clause-some : goal.returns-clause-some
returns-clause-some c = record {
  size = c.if-bytes-ne-GREETING_SIZE.false;
  mark = c.is_same.ensures.0 c.if-not-is_same.false;
  monitor = (search rules);
  told = refl;
  streams = (search rules);
  padding = padding_is c.args.bytes.now _ (c.is_same-2.ensures.0 c.if-not-is_same-2.false);
}
