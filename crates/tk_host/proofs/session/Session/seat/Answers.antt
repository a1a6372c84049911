use Rattle.std.proofs.Common.{ap, sym, subst, inl, ◌∙◌}
use Rattle.tk_hub.specs.Hub.{IsHub}
use Rattle.tk_host.proofs.GoingLemmas.{faults_unless, inside_unless, seated_left, seated_unless, steps_parted, told_as, told_coordinator, told_parted, told_unless}
use Rattle.tk_host.proofs.session.Session.seat.Goals as goal

pub returns-in_err-note-clause-steps : goal.returns-in_err-note-clause-steps
returns-in_err-note-clause-steps g c =
    let n = c.note.ensures in
    let over = c.in_err-note.field-0.0 in
    let kept = subst (λ h. IsHub h) (sym n.hub) c.requires.going.standing.kept in
    steps_parted over c.from_residual.result _ _ c.from_residual.ensures.1
    (seated_left c.args.self.now c.note.new.self c.args.seat c.requires.going kept (ap (λ h. h.coordinator) n.hub) (ap (λ h. h.course) n.hub) n.told n.tally n.missing c.requires.missing c.in_err-note.ensures.more over c.in_err-note.ensures.untold)

pub returns-in_err-note-clause-tells : goal.returns-in_err-note-clause-tells
returns-in_err-note-clause-tells g c = λ names before h.
    told_parted c.in_err-note.field-0.0 c.from_residual.result names c.note.new.self before (g.O.Sink.written c.note.new.out) c.from_residual.ensures.1 (c.in_err-note.ensures.tells names before h)

pub let_in-requires-clause-going : goal.let_in-requires-clause-going
let_in-requires-clause-going g c = ap (λ h. h.course) c.note.ensures.hub ∙ c.requires.going.course

pub returns-clause-steps : goal.returns-clause-steps
returns-clause-steps g c =
    let n = c.note.ensures in
    let e = c.let_in.ensures in
    seated_unless c.args.self.now c.let_in.new.self c.args.seat c.requires.going e.hub (e.coordinator ∙ ap (λ h. h.coordinator) n.hub) (e.course ∙ ap (λ h. h.course) n.hub)
    (e.told ∙ n.told) (e.tally ∙ n.tally) (e.missing ∙ n.missing) c.requires.missing (inl (e.roster ∙ c.in_ok-note.ensures.roster)) c.let_in.result e.memory

pub returns-clause-inside : goal.returns-clause-inside
returns-clause-inside g c = inside_unless c.let_in.result c.let_in.ensures.memory

pub returns-clause-tells : goal.returns-clause-tells
returns-clause-tells g c = λ names before h.
    let e = c.let_in.ensures in
    let now = g.O.Sink.written c.note.new.out in
    let told = told_as c.in_ok-note.field-0 tt names c.note.new.self before now (c.in_ok-note.ensures.tells names before h) in
    told_unless names c.let_in.new.self before now c.let_in.result e.memory
    (told_coordinator names c.note.new.self c.let_in.new.self before now told e.coordinator e.roster e.told)

pub returns-clause-counted : goal.returns-clause-counted
returns-clause-counted g c = c.in_ok-note.ensures.counted ∙ faults_unless c.let_in.result (g.O.Sink.fault_count c.args.out.now) c.let_in.ensures.memory
