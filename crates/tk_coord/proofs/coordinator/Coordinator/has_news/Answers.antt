use Rattle.std.proofs.Common.{◌≡◌, ◌<◌, ◌-◌, ◌∙◌, ap, subst, arith}
use Rattle.std.proofs.lemmas.Option.{slice_get_within}
use Rattle.tk_base.specs.Settings.{Setup}
use Rattle.tk_journal.specs.Publishing.{differs, publications}
use Rattle.tk_journal.specs.Readings.{in_force, members_at}
use Rattle.tk_base.specs.History.{last_of}
use Rattle.tk_coord.specs.Coordinator.{CoordinatorView}
use Rattle.tk_coord.proofs.SettledTurns.{news_is}
use Rattle.tk_coord.proofs.coordinator.Coordinator.has_news.Goals as goal

pub returns-in_default : goal.returns-in_default
returns-in_default c =
    let f = c.self.inside in
    let now = c.args.self.now in
    let force = subst (λ (v : CoordinatorView). f.phase.settings ≡ in_force v.settings v.journal) c.self.view_is c.self.invariant.0.stands.settings in
    let named = c.members.ensures ∙ c.self.invariant.0.holds.members ∙ ap (λ (v : CoordinatorView). members_at v.journal) c.self.view_is in
    let there = slice_get_within (publications now.journal) (c.published.result - 1) c.publication-last.result.now c.publication-last.ensures in
    let count = c.published.ensures in
    let some : 0 < c.published.result = omega (arith, there, count) in
    c.is_other.ensures
    ∙ news_is f.phase.settings c.members.result.now now.journal c.published.result c.publication-last.result.now c.published.ensures some c.publication-last.ensures
    ∙ ap (λ (s : Setup). differs s c.members.result.now (last_of (publications now.journal))) force
    ∙ ap (λ ms. differs (in_force now.settings now.journal) ms (last_of (publications now.journal))) named
