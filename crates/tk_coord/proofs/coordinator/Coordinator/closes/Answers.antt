use Rattle.std.proofs.Common.{◌+◌, ◌<◌, ◌∙◌, ℕ, length, refl, sym, subst, ap, ap₂}
use Rattle.tk_base.specs.Settings.{Setup}
use Rattle.tk_journal.specs.Publishing.{publications}
use Rattle.tk_journal.specs.Readings.{in_force, members_at}
use Rattle.tk_coord.specs.Checks.{AreWithin}
use Rattle.tk_coord.specs.Closing.{closing_by, said_in}
use Rattle.tk_coord.specs.Coordinator.{CoordinatorView, IsJournal}
use Rattle.tk_coord.specs.State.{Stands}
use Rattle.tk_coord.proofs.GroundLemmas.{entries_of, force_large}
use Rattle.tk_coord.proofs.GrowLemmas.{firm_at, limits_at}
use Rattle.tk_coord.proofs.coordinator.Coordinator.closes.Goals as goal

pub publishing-requires : goal.publishing-requires
publishing-requires c =
    let f = c.self.inside in
    let k = c.self.invariant.0 in
    let large = force_large f.settings f.journal.entries f.phase.settings k.stands.settings in
    record { some = subst (λ (n : ℕ). 0 < n) (sym large.monitors) (limits_at f.settings f.journal.entries k.journal).some_monitor }

pub returns : goal.returns
returns c =
    let s = c.args.self.now.settings in
    let j = c.args.self.now.journal in
    let f = c.self.inside in
    let k = c.self.invariant.0 in
    let see = c.self.view_is in
    let e = c.in_ok-entries.ensures in
    let said = said_in c.args.answers in
    let journal : IsJournal s j = subst (λ (v : CoordinatorView). IsJournal v.settings v.journal) see k.journal in
    let stands : Stands s j f.phase = subst (λ (v : CoordinatorView). Stands v.settings v.journal f.phase) see k.stands in
    let named = c.members.ensures ∙ k.holds.members ∙ ap (λ (v : CoordinatorView). members_at v.journal) see in
    let count = c.published.ensures.value ∙ ap (λ (v : CoordinatorView). length (publications v.journal)) see in
    record {
      sends = e.value ∙ ap (λ (q : Setup). closing_by q c.members.result.now said c.has_news.result (c.published.result + 1)) stands.settings
          ∙ ap (λ ms. closing_by (in_force s j) ms said c.has_news.result (c.published.result + 1)) named
          ∙ ap₂ (λ b (n : ℕ). closing_by (in_force s j) (members_at j) said b (n + 1)) c.has_news.ensures count;
      range = entries_of s j f.phase c.in_ok-entries.entries.items stands
          (e.entries s.objects (subst (AreWithin s.objects) (sym named) (firm_at s j journal).standing.chosen.within));
      replies = refl;
      phase = f.phase;
      stands = stands;
      holds = ap (λ b. record f.phase { stopped = b }) (sym e.ends);
    }
