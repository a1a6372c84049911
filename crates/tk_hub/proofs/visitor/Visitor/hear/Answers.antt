use Rattle.tk_wire.specs.declared.in_buffer.Pulled.TheVariants as p
use Rattle.tk_hub.proofs.VisitorLemmas.{gathers_front, gathers_then_pulled, greets_pulled, greets_said, pulled_more, steady_front}
use Rattle.tk_hub.proofs.visitor.Visitor.hear.Goals as goal

pub returns-in-Some-clause-some : goal.returns-in-Some-clause-some
returns-in-Some-clause-some g c =
    let x = c.args.self.now in
    let y = c.greeting.new.self in
    greets_said c.args.run c.in-Some.greeting x y (steady_front x y y.front c.greeting.ensures.rest) c.in-Some.ensures.some

pub returns-in-Some-clause-gathers : goal.returns-in-Some-clause-gathers
returns-in-Some-clause-gathers g c = gathers_front c.args.self.now c.greeting.new.self c.greeting.new.self.front c.greeting.ensures.rest

pub returns-in-Got-clause-none : goal.returns-in-Got-clause-none
returns-in-Got-clause-none g c =
    pulled_more c.in-Got.field-0 c.args.self.now c.greeting.new.self c.pull.new.self c.greeting.new.self.front c.greeting.ensures.rest c.in_default.ensures.none c.in-Got.ensures.pulls c.in-Got.ensures.counted

pub returns-in-Got-clause-gathers : goal.returns-in-Got-clause-gathers
returns-in-Got-clause-gathers g c =
    gathers_then_pulled c.pull.result c.args.self.now c.greeting.new.self c.pull.new.self c.greeting.new.self.front c.greeting.ensures.rest c.pull.ensures.same.0 c.pull.ensures.pulls c.pull.ensures.counted

pub returns-in-NotYet-clause-some : goal.returns-in-NotYet-clause-some
returns-in-NotYet-clause-some g c =
    greets_pulled c.args.run p.NotYet c.args.self.now c.greeting.new.self c.pull.new.self c.greeting.new.self.front c.greeting.ensures.rest c.pull.ensures.same.0 c.in_default.ensures.none c.in-NotYet.ensures.pulls c.in-NotYet.ensures.counted

pub returns-in-NotYet-clause-gathers : goal.returns-in-NotYet-clause-gathers
returns-in-NotYet-clause-gathers g c =
    gathers_then_pulled c.pull.result c.args.self.now c.greeting.new.self c.pull.new.self c.greeting.new.self.front c.greeting.ensures.rest c.pull.ensures.same.0 c.pull.ensures.pulls c.pull.ensures.counted

pub returns-in-End-clause-some : goal.returns-in-End-clause-some
returns-in-End-clause-some g c =
    greets_pulled c.args.run p.End c.args.self.now c.greeting.new.self c.pull.new.self c.greeting.new.self.front c.greeting.ensures.rest c.pull.ensures.same.0 c.in_default.ensures.none c.in-End.ensures.pulls c.in-End.ensures.counted

pub returns-in-End-clause-gathers : goal.returns-in-End-clause-gathers
returns-in-End-clause-gathers g c =
    gathers_then_pulled c.pull.result c.args.self.now c.greeting.new.self c.pull.new.self c.greeting.new.self.front c.greeting.ensures.rest c.pull.ensures.same.0 c.pull.ensures.pulls c.pull.ensures.counted

pub returns-in-Failed-clause-some : goal.returns-in-Failed-clause-some
returns-in-Failed-clause-some g c =
    greets_pulled c.args.run p.Failed c.args.self.now c.greeting.new.self c.pull.new.self c.greeting.new.self.front c.greeting.ensures.rest c.pull.ensures.same.0 c.in_default.ensures.none c.in-Failed.ensures.pulls c.in-Failed.ensures.counted

pub returns-in-Failed-clause-gathers : goal.returns-in-Failed-clause-gathers
returns-in-Failed-clause-gathers g c =
    gathers_then_pulled c.pull.result c.args.self.now c.greeting.new.self c.pull.new.self c.greeting.new.self.front c.greeting.ensures.rest c.pull.ensures.same.0 c.pull.ensures.pulls c.pull.ensures.counted

pub returns-in-NoMemory-clause-some : goal.returns-in-NoMemory-clause-some
returns-in-NoMemory-clause-some g c =
    greets_pulled c.args.run p.NoMemory c.args.self.now c.greeting.new.self c.pull.new.self c.greeting.new.self.front c.greeting.ensures.rest c.pull.ensures.same.0 c.in_default.ensures.none c.in-NoMemory.ensures.pulls c.in-NoMemory.ensures.counted

pub returns-in-NoMemory-clause-gathers : goal.returns-in-NoMemory-clause-gathers
returns-in-NoMemory-clause-gathers g c =
    gathers_then_pulled c.pull.result c.args.self.now c.greeting.new.self c.pull.new.self c.greeting.new.self.front c.greeting.ensures.rest c.pull.ensures.same.0 c.pull.ensures.pulls c.pull.ensures.counted
