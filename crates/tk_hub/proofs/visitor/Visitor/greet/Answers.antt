use Rattle.std.proofs.Common.{arith, refl}
use Rattle.tk_hub.proofs.VisitorLemmas.{gathers_more, gathers_none, greets_since, hello_is_answered, steady_since, strange_is_answered}
use Rattle.tk_hub.proofs.visitor.Visitor.greet.Goals as goal

pub loop-greeting-init : goal.loop-greeting-init
loop-greeting-init g c = record { gathers = gathers_none c.args.self.now; steady = record { faults = refl; ends = refl } }

pub returns-in-Some-clause-answer : goal.returns-in-Some-clause-answer
returns-in-Some-clause-answer g c =
    greets_since c.args.run c.in-Some.greeting c.args.self.now c.loop-greeting.self c.hear.new.self c.loop-greeting.invariant.steady c.in-Some.ensures.some

pub returns-in-Some-clause-hello : goal.returns-in-Some-clause-hello
returns-in-Some-clause-hello g c = hello_is_answered c.args.run c.in-Some.greeting c.loop-greeting.self c.hear.new.self c.in-Some.ensures.some

pub returns-in-Some-clause-strange : goal.returns-in-Some-clause-strange
returns-in-Some-clause-strange g c = strange_is_answered c.args.run c.in-Some.greeting c.loop-greeting.self c.hear.new.self c.in-Some.ensures.some

pub returns-in-Some-clause-gathers : goal.returns-in-Some-clause-gathers
returns-in-Some-clause-gathers g c = gathers_more c.args.self.now c.loop-greeting.self c.hear.new.self c.loop-greeting.invariant.gathers c.hear.ensures.gathers

pub loop-greeting-preserved : goal.loop-greeting-preserved
loop-greeting-preserved g c = record {
  gathers = gathers_more c.args.self.now c.loop-greeting.self c.hear.new.self c.loop-greeting.invariant.gathers c.hear.ensures.gathers;
  steady = steady_since c.args.self.now c.loop-greeting.self c.hear.new.self c.loop-greeting.invariant.steady c.in_default.ensures.none.steady;
}

-- less than a Hello was there, and more came
pub loop-greeting-smaller : goal.loop-greeting-smaller
loop-greeting-smaller g c = let more = c.in_default.ensures.none in omega (arith, more.part, more.longer)
