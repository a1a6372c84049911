use Rattle.std.proofs.Common.{List, refl, sym, ap, ◌∙◌, subst}
use Rattle.tk_journal.specs.declared.noted.Noted.{Noted}
use Rattle.tk_host.specs.Going.{IsGoing, Steps, going, left}
use Rattle.tk_host.specs.Room.{HasRoom, IsFull}
use Rattle.tk_host.specs.Sitting.{SessionView}
use Rattle.tk_host.specs.Tallying.{IsCounted}
use Rattle.tk_host.specs.declared.cause.Cause.TheVariants as cause
use Rattle.tk_host.specs.declared.over.Over.TheVariants as o
use Rattle.tk_host.proofs.GoingLemmas.{weighed_full, weighed_on}
use Rattle.tk_host.proofs.session.Session.weigh.Goals as goal

pub weigh-requires : goal.weigh-requires
weigh-requires g c =
    let was = subst (λ s. IsCounted s.hub.coordinator.journal s.tally) (sym c.self.view_is) c.requires.standing.counted in
    subst (λ (j : List Noted). IsCounted j c.self.inside.tally) (sym (c.journal.ensures.value ∙ ap (λ k. k.journal) c.coordinator.ensures.value)) was

pub returns-then-weigh-clause-steps : goal.returns-then-weigh-clause-steps
returns-then-weigh-clause-steps g c =
    let s = c.self.inside in
    let new : SessionView _ = record { hub = s.hub; roster = s.roster; told = s.told; tally = c.weigh.new.self; missing = s.missing } in
    let same = c.journal.ensures.value ∙ ap (λ k. k.journal) c.coordinator.ensures.value in
    let counted = subst (λ (j : List Noted). IsCounted j c.weigh.new.self) same c.weigh.ensures.counted in
    let on = subst IsGoing (sym c.self.view_is) c.requires in
    subst (λ old. Steps going old new) c.self.view_is (weighed_on _ new on refl refl refl counted refl)

pub returns-then-weigh-clause-room : goal.returns-then-weigh-clause-room
returns-then-weigh-clause-room g c = subst HasRoom (c.journal.ensures.value ∙ ap (λ k. k.journal) c.coordinator.ensures.value) (c.weigh.ensures.room c.if-weigh.true)

pub returns-clause-steps : goal.returns-clause-steps
returns-clause-steps g c =
    let s = c.self.inside in
    let new : SessionView _ = record { hub = s.hub; roster = s.roster; told = s.told; tally = c.weigh.new.self; missing = s.missing } in
    let same = c.journal.ensures.value ∙ ap (λ k. k.journal) c.coordinator.ensures.value in
    let counted = subst (λ (j : List Noted). IsCounted j c.weigh.new.self) same c.weigh.ensures.counted in
    let on = subst IsGoing (sym c.self.view_is) c.requires in
    let full = subst IsFull same (c.weigh.ensures.full c.if-weigh.false) in
    subst (λ old. Steps (left (o.Ended cause.Full)) old new) c.self.view_is (weighed_full _ new on refl refl refl counted refl full)
