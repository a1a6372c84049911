use Rattle.std.proofs.Common.{◌≡◌, ◌++◌, ℕ, List, Some, ap, refl, sym, subst}
use Rattle.tk_hub.specs.Visitor.{VisitorView}
use Rattle.tk_hub.specs.VisitorInside.{IsFront, IsWaiting, Says, bytes_of}
use Rattle.tk_hub.proofs.VisitorLemmas.{no_front, put_in_front, read_is_long, says_judged, says_unread, still_there}
use Rattle.tk_hub.proofs.visitor.Visitor.greeting.Goals as goal

-- the frame was read before
pub returns-in-Some-clause-some : goal.returns-in-Some-clause-some
returns-in-Some-clause-some g c =
    let s = c.self.inside in
    let long = subst IsFront c.in-Some.is c.self.invariant.1 in
    subst (λ v. Says c.args.run v.bytes v.front c.judge.result) c.self.view_is
    (subst (λ o. Says c.args.run (bytes_of o ++ s.came.bytes) o c.judge.result) (sym c.in-Some.is)
    (says_judged c.args.run c.in-Some.frame c.judge.result _ s.came.bytes c.judge.ensures long refl))

pub returns-in-Some-clause-told : goal.returns-in-Some-clause-told
returns-in-Some-clause-told g c = subst (λ v. g.W.Wire.counts v.wire ≡ v.counts) c.self.view_is refl

-- it is read now, and kept in front of what came
pub returns-in-Ok-Some-clause-some : goal.returns-in-Ok-Some-clause-some
returns-in-Ok-Some-clause-some g c =
    let new = c.read.new.came.bytes in
    let long = read_is_long c.in-Ok-Some.field-0 c.in-Ok-Some.frame c.self.inside.came.bytes new c.in-Ok-Some.field-0-is c.in-Ok-Some.ensures.answer in
    subst (λ o. Says c.args.run (bytes_of o ++ new) o c.judge-greeting.result) (sym c.replace.ensures.after)
    (says_judged c.args.run c.in-Ok-Some.frame c.judge-greeting.result _ new c.judge-greeting.ensures long refl)

pub invariant_of-self : goal.invariant_of-self
invariant_of-self g c =
    let s = c.self.inside in
    let long = read_is_long c.in-Ok-Some.field-0 c.in-Ok-Some.frame s.came.bytes c.read.new.came.bytes c.in-Ok-Some.field-0-is c.in-Ok-Some.ensures.answer in
    let same = put_in_front s.front c.replace.new.self c.in-Ok-Some.field-0 c.in-Ok-Some.frame s.came.bytes c.read.new.came.bytes (no_front s.front c.in_default.not-Some) c.replace.ensures.after c.in-Ok-Some.field-0-is c.in-Ok-Some.ensures.answer in
    (c.read.ensures.version, subst IsFront (sym c.replace.ensures.after) long, subst (IsWaiting g.W.Wire.tells (g.W.Wire.traffic c.self.inside.wire) (g.W.Wire.counts c.self.inside.wire)) same c.self.invariant.2)

pub returns-in-Ok-Some-clause-rest : goal.returns-in-Ok-Some-clause-rest
returns-in-Ok-Some-clause-rest g c =
    let s = c.self.inside in
    let same = put_in_front s.front c.replace.new.self c.in-Ok-Some.field-0 c.in-Ok-Some.frame s.came.bytes c.read.new.came.bytes (no_front s.front c.in_default.not-Some) c.replace.ensures.after c.in-Ok-Some.field-0-is c.in-Ok-Some.ensures.answer in
    let Made : List ℕ → VisitorView g.row.W.Denot = λ bytes. record { wire = s.wire; tells = g.W.Wire.tells; traffic = g.W.Wire.traffic s.wire; counts = g.W.Wire.counts s.wire; bytes = bytes; front = c.replace.new.self } in
    subst (λ v. Made (bytes_of c.replace.new.self ++ c.read.new.came.bytes) ≡ record v { front = c.replace.new.self }) c.self.view_is (ap Made (sym same))

pub returns-in-Ok-Some-clause-told : goal.returns-in-Ok-Some-clause-told
returns-in-Ok-Some-clause-told g c = refl

-- it was not read
pub returns-in-Err-clause-some : goal.returns-in-Err-clause-some
returns-in-Err-clause-some g c =
    let new = c.read.new.came.bytes in
    says_unread c.args.run _ c.self.inside.front c.in-Err.greeting c.self.inside.came.bytes new (ap (λ o. bytes_of o ++ new) (no_front c.self.inside.front c.in_default.not-Some)) c.in-Err.ensures.answer

pub invariant_of-self-in-Err : goal.invariant_of-self-in-Err
invariant_of-self-in-Err g c =
    let s = c.self.inside in
    (c.read.ensures.version, c.self.invariant.1, subst (IsWaiting g.W.Wire.tells (g.W.Wire.traffic c.self.inside.wire) (g.W.Wire.counts c.self.inside.wire)) (still_there s.front c.in-Err.greeting s.came.bytes c.read.new.came.bytes c.in-Err.ensures.answer) c.self.invariant.2)
