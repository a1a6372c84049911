use Rattle.std.proofs.Common.{◌∙◌, Err, length, sym, ap, subst, arith, refl}
use Rattle.std.proofs.lemmas.Bool.{false≢true}
use Rattle.std.specs.List.{All}
use Rattle.tk_hub.specs.Lines.{AreNamed, IsAt, line_faults}
use Rattle.tk_hub.specs.Writing.{CutsLine, WritesLines}
use Rattle.tk_hub.specs.declared.course.HubTurn.TheVariants as t
use Rattle.tk_hub.proofs.TakenLemmas.{reaches_settings}
use Rattle.tk_hub.proofs.TurnLemmas.{at_heard, exchanges_ended, exchanges_finished, exchanges_nothing, exchanges_unwritten, exchanges_wanting, exchanges_written, no_error, open_passed, works_of}
use Rattle.tk_hub.proofs.WriteLemmas.{all_named, no_fault, writes_nothing}
use Rattle.tk_hub.proofs.hub.exchange.Goals as goal

pub returns-then-is_err-clause-works : goal.returns-then-is_err-clause-works
returns-then-is_err-clause-works g c =
    works_of g.W.Wire.counts t.NoMemory c.greet.result c.args.seats.now c.args.lobby.now c.greet.new.seats c.greet.new.self c.greet.new.seats c.args.lines.now c.greet.ensures.greets c.greet.ensures.rest (λ _. refl)
    (exchanges_nothing c.greet.new.seats c.args.lines.now)

pub returns-then-is_err-clause-at : goal.returns-then-is_err-clause-at
returns-then-is_err-clause-at g c = subst (λ v. IsAt v.coordinator.journal c.args.lines.now) (sym c.greet.ensures.rest) c.requires.at

pub returns-then-is_err-clause-lines : goal.returns-then-is_err-clause-lines
returns-then-is_err-clause-lines g c = λ _. writes_nothing c.args.names.now c.greet.new.seats.coordinator.journal c.args.lines.now (g.O.Sink.written c.args.out.now)

pub returns-then-not-goes_on-clause-works : goal.returns-then-not-goes_on-clause-works
returns-then-not-goes_on-clause-works g c =
    let stops = sym c.goes_on.ensures ∙ c.if-not-goes_on.true in
    works_of g.W.Wire.counts c.exchange-turn.result c.greet.result c.args.seats.now c.args.lobby.now c.greet.new.seats c.greet.new.self c.exchange-turn.new.self c.args.lines.now c.greet.ensures.greets c.greet.ensures.rest
    (λ failed. absurd (no_error c.greet.result (sym c.is_err.ensures.value ∙ c.if-is_err.false) failed))
    (exchanges_ended c.exchange-turn.result c.greet.new.seats c.exchange-turn.new.self c.args.lines.now stops c.exchange-turn.ensures.hears)

pub returns-then-not-goes_on-clause-at : goal.returns-then-not-goes_on-clause-at
returns-then-not-goes_on-clause-at g c =
    at_heard c.exchange-turn.result c.greet.new.seats c.exchange-turn.new.self c.args.lines.now c.exchange-turn.ensures.hears (subst (λ v. IsAt v.coordinator.journal c.args.lines.now) (sym c.greet.ensures.rest) c.requires.at)

pub returns-then-not-goes_on-clause-going : goal.returns-then-not-goes_on-clause-going
returns-then-not-goes_on-clause-going g c = λ each. open_passed c.greet.new.seats.links c.exchange-turn.new.self.links c.exchange-turn.ensures.hears.passes (c.greet.ensures.going each)

pub returns-then-not-goes_on-clause-lines : goal.returns-then-not-goes_on-clause-lines
returns-then-not-goes_on-clause-lines g c = λ _. writes_nothing c.args.names.now c.exchange-turn.new.self.coordinator.journal c.args.lines.now (g.O.Sink.written c.args.out.now)

pub returns-then-not-goes_on-clause-cut : goal.returns-then-not-goes_on-clause-cut
returns-then-not-goes_on-clause-cut g c = λ is. absurd (c.exchange-turn.ensures.unwritten is)

pub returns-then-not-goes_on-clause-failed : goal.returns-then-not-goes_on-clause-failed
returns-then-not-goes_on-clause-failed g c = λ is. absurd (c.exchange-turn.ensures.unwritten is)

pub returns-then-not-goes_on-clause-counted : goal.returns-then-not-goes_on-clause-counted
returns-then-not-goes_on-clause-counted g c = no_fault c.exchange-turn.result (g.O.Sink.fault_count c.args.out.now) c.exchange-turn.ensures.unwritten

pub write-requires-clause-at : goal.write-requires-clause-at
write-requires-clause-at g c =
    let journal = c.journal.ensures.value ∙ ap (λ k. k.journal) c.coordinator.ensures.value in
    subst (λ j. IsAt j c.args.lines.now) (sym journal) (at_heard c.exchange-turn.result c.greet.new.seats c.exchange-turn.new.self c.args.lines.now c.exchange-turn.ensures.hears (subst (λ v. IsAt v.coordinator.journal c.args.lines.now) (sym c.greet.ensures.rest) c.requires.at))

pub write-requires-clause-named : goal.write-requires-clause-named
write-requires-clause-named g c =
    let k = c.coordinator.result.now in
    let here = ap (λ x. x.settings.objects) c.coordinator.ensures.value in
    let same = ap (λ x. x.objects) (reaches_settings c.greet.new.seats.coordinator c.exchange-turn.new.self.coordinator c.exchange-turn.ensures.hears.reaches) in
    let met = ap (λ v. v.coordinator.settings.objects) c.greet.ensures.rest in
    subst (All (AreNamed (length c.args.names.now))) (sym c.journal.ensures.value)
    (all_named k.settings.monitors k.settings.objects (length c.args.names.now) k.journal (omega (arith, here, same, met, c.requires.named)) c.journal.ensures.entries)

pub returns-in-Err-WriteFailed-clause-works : goal.returns-in-Err-WriteFailed-clause-works
returns-in-Err-WriteFailed-clause-works g c =
    let on = sym c.goes_on.ensures ∙ c.if-not-goes_on.false in
    works_of g.W.Wire.counts t.WriteFailed c.greet.result c.args.seats.now c.args.lobby.now c.greet.new.seats c.greet.new.self c.exchange-turn.new.self c.write.new.self c.greet.ensures.greets c.greet.ensures.rest
    (λ failed. absurd (no_error c.greet.result (sym c.is_err.ensures.value ∙ c.if-is_err.false) failed))
    (exchanges_unwritten c.exchange-turn.result c.greet.new.seats c.exchange-turn.new.self c.write.new.self on c.exchange-turn.ensures.hears)

pub returns-in-Err-NoMemory-clause-works : goal.returns-in-Err-NoMemory-clause-works
returns-in-Err-NoMemory-clause-works g c =
    let on = sym c.goes_on.ensures ∙ c.if-not-goes_on.false in
    works_of g.W.Wire.counts t.NoMemory c.greet.result c.args.seats.now c.args.lobby.now c.greet.new.seats c.greet.new.self c.exchange-turn.new.self c.write.new.self c.greet.ensures.greets c.greet.ensures.rest (λ _. refl)
    (exchanges_wanting c.exchange-turn.result c.greet.new.seats c.exchange-turn.new.self c.write.new.self on c.exchange-turn.ensures.hears)

pub returns-then-is_finished-clause-works : goal.returns-then-is_finished-clause-works
returns-then-is_finished-clause-works g c =
    let on = sym c.goes_on.ensures ∙ c.if-not-goes_on.false in
    works_of g.W.Wire.counts t.Finished c.greet.result c.args.seats.now c.args.lobby.now c.greet.new.seats c.greet.new.self c.exchange-turn.new.self c.write.new.self c.greet.ensures.greets c.greet.ensures.rest
    (λ failed. absurd (no_error c.greet.result (sym c.is_err.ensures.value ∙ c.if-is_err.false) failed))
    (exchanges_finished c.exchange-turn.result c.greet.new.seats c.exchange-turn.new.self c.write.new.self on c.exchange-turn.ensures.hears (c.is_finished.ensures.0 c.if-is_finished.true))

pub returns-else-is_finished-clause-works : goal.returns-else-is_finished-clause-works
returns-else-is_finished-clause-works g c =
    let on = sym c.goes_on.ensures ∙ c.if-not-goes_on.false in
    let journal = c.journal.ensures.value ∙ ap (λ k. k.journal) c.coordinator.ensures.value in
    works_of g.W.Wire.counts c.exchange-turn.result c.greet.result c.args.seats.now c.args.lobby.now c.greet.new.seats c.greet.new.self c.exchange-turn.new.self c.write.new.self c.greet.ensures.greets c.greet.ensures.rest
    (λ failed. absurd (no_error c.greet.result (sym c.is_err.ensures.value ∙ c.if-is_err.false) failed))
    (exchanges_written c.exchange-turn.result c.greet.new.seats c.exchange-turn.new.self c.write.new.self on c.exchange-turn.ensures.hears (c.exchange-turn.ensures.said on) (c.in-Ok.ensures.all ∙ ap length journal) (λ is. absurd (false≢true (sym c.if-is_finished.false ∙ c.is_finished.ensures.1 is))))

pub returns-else-is_finished-clause-counted : goal.returns-else-is_finished-clause-counted
returns-else-is_finished-clause-counted g c = c.in-Ok.ensures.counted ∙ no_fault c.exchange-turn.result (g.O.Sink.fault_count c.args.out.now) c.exchange-turn.ensures.unwritten

pub returns-then-is_err-clause-seats : goal.returns-then-is_err-clause-seats
returns-then-is_err-clause-seats g c = c.greet.ensures.kept c.requires.seats

pub returns-then-is_err-clause-going : goal.returns-then-is_err-clause-going
returns-then-is_err-clause-going g c = c.greet.ensures.going

pub returns-then-is_err-clause-few : goal.returns-then-is_err-clause-few
returns-then-is_err-clause-few g c = c.greet.ensures.few

pub returns-then-is_err-clause-more : goal.returns-then-is_err-clause-more
returns-then-is_err-clause-more g c = c.greet.ensures.more

pub returns-then-is_err-clause-forward : goal.returns-then-is_err-clause-forward
returns-then-is_err-clause-forward g c = omega arith

pub returns-then-is_err-clause-cut : goal.returns-then-is_err-clause-cut
returns-then-is_err-clause-cut g c = λ is. absurd (cc)

pub returns-then-is_err-clause-failed : goal.returns-then-is_err-clause-failed
returns-then-is_err-clause-failed g c = λ is. absurd (cc)

pub returns-then-is_err-clause-counted : goal.returns-then-is_err-clause-counted
returns-then-is_err-clause-counted g c = refl

pub returns-then-not-goes_on-clause-seats : goal.returns-then-not-goes_on-clause-seats
returns-then-not-goes_on-clause-seats g c = c.exchange-turn.ensures.kept

pub returns-then-not-goes_on-clause-few : goal.returns-then-not-goes_on-clause-few
returns-then-not-goes_on-clause-few g c = c.greet.ensures.few

pub returns-then-not-goes_on-clause-more : goal.returns-then-not-goes_on-clause-more
returns-then-not-goes_on-clause-more g c = c.greet.ensures.more

pub returns-then-not-goes_on-clause-forward : goal.returns-then-not-goes_on-clause-forward
returns-then-not-goes_on-clause-forward g c = omega arith

pub returns-in-Err-WriteFailed-clause-seats : goal.returns-in-Err-WriteFailed-clause-seats
returns-in-Err-WriteFailed-clause-seats g c = c.exchange-turn.ensures.kept

pub returns-in-Err-WriteFailed-clause-few : goal.returns-in-Err-WriteFailed-clause-few
returns-in-Err-WriteFailed-clause-few g c = c.greet.ensures.few

pub returns-in-Err-WriteFailed-clause-more : goal.returns-in-Err-WriteFailed-clause-more
returns-in-Err-WriteFailed-clause-more g c = c.greet.ensures.more

pub returns-in-Err-WriteFailed-clause-forward : goal.returns-in-Err-WriteFailed-clause-forward
returns-in-Err-WriteFailed-clause-forward g c = c.write.ensures.forward

pub returns-in-Err-WriteFailed-clause-going : goal.returns-in-Err-WriteFailed-clause-going
returns-in-Err-WriteFailed-clause-going g c = λ each. open_passed c.greet.new.seats.links c.exchange-turn.new.self.links c.exchange-turn.ensures.hears.passes (c.greet.ensures.going each)

pub returns-in-Err-WriteFailed-clause-at : goal.returns-in-Err-WriteFailed-clause-at
returns-in-Err-WriteFailed-clause-at g c =
    let journal = c.journal.ensures.value ∙ ap (λ k. k.journal) c.coordinator.ensures.value in
    subst (λ j. IsAt j c.write.new.self) journal c.write.ensures.at

pub returns-in-Err-NoMemory-clause-seats : goal.returns-in-Err-NoMemory-clause-seats
returns-in-Err-NoMemory-clause-seats g c = c.exchange-turn.ensures.kept

pub returns-in-Err-NoMemory-clause-few : goal.returns-in-Err-NoMemory-clause-few
returns-in-Err-NoMemory-clause-few g c = c.greet.ensures.few

pub returns-in-Err-NoMemory-clause-more : goal.returns-in-Err-NoMemory-clause-more
returns-in-Err-NoMemory-clause-more g c = c.greet.ensures.more

pub returns-in-Err-NoMemory-clause-forward : goal.returns-in-Err-NoMemory-clause-forward
returns-in-Err-NoMemory-clause-forward g c = c.write.ensures.forward

pub returns-in-Err-NoMemory-clause-going : goal.returns-in-Err-NoMemory-clause-going
returns-in-Err-NoMemory-clause-going g c = λ each. open_passed c.greet.new.seats.links c.exchange-turn.new.self.links c.exchange-turn.ensures.hears.passes (c.greet.ensures.going each)

pub returns-in-Err-NoMemory-clause-at : goal.returns-in-Err-NoMemory-clause-at
returns-in-Err-NoMemory-clause-at g c =
    let journal = c.journal.ensures.value ∙ ap (λ k. k.journal) c.coordinator.ensures.value in
    subst (λ j. IsAt j c.write.new.self) journal c.write.ensures.at

pub returns-then-is_finished-clause-seats : goal.returns-then-is_finished-clause-seats
returns-then-is_finished-clause-seats g c = c.exchange-turn.ensures.kept

pub returns-then-is_finished-clause-few : goal.returns-then-is_finished-clause-few
returns-then-is_finished-clause-few g c = c.greet.ensures.few

pub returns-then-is_finished-clause-more : goal.returns-then-is_finished-clause-more
returns-then-is_finished-clause-more g c = c.greet.ensures.more

pub returns-then-is_finished-clause-forward : goal.returns-then-is_finished-clause-forward
returns-then-is_finished-clause-forward g c = c.write.ensures.forward

pub returns-then-is_finished-clause-going : goal.returns-then-is_finished-clause-going
returns-then-is_finished-clause-going g c = λ each. open_passed c.greet.new.seats.links c.exchange-turn.new.self.links c.exchange-turn.ensures.hears.passes (c.greet.ensures.going each)

pub returns-then-is_finished-clause-at : goal.returns-then-is_finished-clause-at
returns-then-is_finished-clause-at g c =
    let journal = c.journal.ensures.value ∙ ap (λ k. k.journal) c.coordinator.ensures.value in
    subst (λ j. IsAt j c.write.new.self) journal c.write.ensures.at

pub returns-else-is_finished-clause-seats : goal.returns-else-is_finished-clause-seats
returns-else-is_finished-clause-seats g c = c.exchange-turn.ensures.kept

pub returns-else-is_finished-clause-few : goal.returns-else-is_finished-clause-few
returns-else-is_finished-clause-few g c = c.greet.ensures.few

pub returns-else-is_finished-clause-more : goal.returns-else-is_finished-clause-more
returns-else-is_finished-clause-more g c = c.greet.ensures.more

pub returns-else-is_finished-clause-forward : goal.returns-else-is_finished-clause-forward
returns-else-is_finished-clause-forward g c = c.write.ensures.forward

pub returns-else-is_finished-clause-going : goal.returns-else-is_finished-clause-going
returns-else-is_finished-clause-going g c = λ each. open_passed c.greet.new.seats.links c.exchange-turn.new.self.links c.exchange-turn.ensures.hears.passes (c.greet.ensures.going each)

pub returns-else-is_finished-clause-at : goal.returns-else-is_finished-clause-at
returns-else-is_finished-clause-at g c =
    let journal = c.journal.ensures.value ∙ ap (λ k. k.journal) c.coordinator.ensures.value in
    subst (λ j. IsAt j c.write.new.self) journal c.write.ensures.at

pub returns-in-Err-WriteFailed-clause-lines : goal.returns-in-Err-WriteFailed-clause-lines
returns-in-Err-WriteFailed-clause-lines g c = λ no. absurd (no refl)

pub returns-in-Err-NoMemory-clause-cut : goal.returns-in-Err-NoMemory-clause-cut
returns-in-Err-NoMemory-clause-cut g c = λ is. absurd (cc)

pub returns-in-Err-NoMemory-clause-failed : goal.returns-in-Err-NoMemory-clause-failed
returns-in-Err-NoMemory-clause-failed g c = λ is. absurd (cc)

pub returns-then-is_finished-clause-cut : goal.returns-then-is_finished-clause-cut
returns-then-is_finished-clause-cut g c = λ is. absurd (cc)

pub returns-then-is_finished-clause-failed : goal.returns-then-is_finished-clause-failed
returns-then-is_finished-clause-failed g c = λ is. absurd (cc)

pub returns-in-Err-WriteFailed-clause-cut : goal.returns-in-Err-WriteFailed-clause-cut
returns-in-Err-WriteFailed-clause-cut g c =
    let journal = c.journal.ensures.value ∙ ap (λ k. k.journal) c.coordinator.ensures.value in
    λ _. subst (λ j. CutsLine c.args.names.now j c.args.lines.now c.write.new.self (g.O.Sink.written c.args.out.now) (g.O.Sink.written c.write.new.out)) journal (c.in-Err-WriteFailed.ensures.cut (ap Err c.in-Err-WriteFailed.field-0-is))

pub returns-in-Err-WriteFailed-clause-failed : goal.returns-in-Err-WriteFailed-clause-failed
returns-in-Err-WriteFailed-clause-failed g c = λ _. c.in-Err-WriteFailed.ensures.failed (ap Err c.in-Err-WriteFailed.field-0-is)

pub returns-in-Err-WriteFailed-clause-counted : goal.returns-in-Err-WriteFailed-clause-counted
returns-in-Err-WriteFailed-clause-counted g c = c.in-Err-WriteFailed.ensures.counted ∙ ap (λ fault. line_faults {A = Unit {0}} (Err fault) (g.O.Sink.fault_count c.args.out.now)) c.in-Err-WriteFailed.field-0-is

pub returns-in-Err-NoMemory-clause-lines : goal.returns-in-Err-NoMemory-clause-lines
returns-in-Err-NoMemory-clause-lines g c =
    let journal = c.journal.ensures.value ∙ ap (λ k. k.journal) c.coordinator.ensures.value in
    λ _. subst (λ j. WritesLines c.args.names.now j c.args.lines.now c.write.new.self (g.O.Sink.written c.args.out.now) (g.O.Sink.written c.write.new.out)) journal (c.in-Err-NoMemory.ensures.memory (ap Err c.in-Err-NoMemory.field-0-is))

pub returns-in-Err-NoMemory-clause-counted : goal.returns-in-Err-NoMemory-clause-counted
returns-in-Err-NoMemory-clause-counted g c = c.in-Err-NoMemory.ensures.counted ∙ ap (λ fault. line_faults {A = Unit {0}} (Err fault) (g.O.Sink.fault_count c.args.out.now)) c.in-Err-NoMemory.field-0-is

pub returns-then-is_finished-clause-lines : goal.returns-then-is_finished-clause-lines
returns-then-is_finished-clause-lines g c =
    let journal = c.journal.ensures.value ∙ ap (λ k. k.journal) c.coordinator.ensures.value in
    λ _. subst (λ j. WritesLines c.args.names.now j c.args.lines.now c.write.new.self (g.O.Sink.written c.args.out.now) (g.O.Sink.written c.write.new.out)) journal c.in-Ok.ensures.ok

pub returns-then-is_finished-clause-counted : goal.returns-then-is_finished-clause-counted
returns-then-is_finished-clause-counted g c = c.in-Ok.ensures.counted

pub returns-else-is_finished-clause-lines : goal.returns-else-is_finished-clause-lines
returns-else-is_finished-clause-lines g c =
    let journal = c.journal.ensures.value ∙ ap (λ k. k.journal) c.coordinator.ensures.value in
    λ _. subst (λ j. WritesLines c.args.names.now j c.args.lines.now c.write.new.self (g.O.Sink.written c.args.out.now) (g.O.Sink.written c.write.new.out)) journal c.in-Ok.ensures.ok

pub returns-else-is_finished-clause-cut : goal.returns-else-is_finished-clause-cut
returns-else-is_finished-clause-cut g c = λ is. absurd (c.exchange-turn.ensures.unwritten is)

pub returns-else-is_finished-clause-failed : goal.returns-else-is_finished-clause-failed
returns-else-is_finished-clause-failed g c = λ is. absurd (c.exchange-turn.ensures.unwritten is)
