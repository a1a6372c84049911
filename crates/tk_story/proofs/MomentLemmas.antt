-- A moment of a story is a story.
use Rattle.std.proofs.Common.{◌≡◌, ℕ, List, [], ◌∷◌, ◌++◌, sym, ap, ◌∙◌, subst, append-nil}
use Rattle.tk_base.specs.Settings.{Setup}
use Rattle.tk_journal.specs.Laws.{IsMonitor}
use Rattle.tk_journal.specs.Legal.{IsLegal, Opening, start}
use Rattle.tk_journal.specs.declared.noted.Noted.{Noted}
use Rattle.tk_input.specs.Logs.{AreLogs, IsCut, LogSet}
use Rattle.tk_story.proofs.JoinLemmas.{rest_of}
use Rattle.tk_trail.specs.Legal.{IsLegal as IsLegalTrail}
use Rattle.tk_trail.specs.Setup.{MonitorSetup}
use Rattle.tk_trail.proofs.LawLemmas.{front_legal}
use Rattle.tk_journal.specs.Whole.{BeginsWithInput}
use Rattle.tk_story.specs.Story.{IsStory, StoryView, setup_of, trail_of}
use Rattle.tk_story.specs.Moments.{IsMoment}
use Rattle.tk_journal.proofs.WholeLemmas.{stands_whole}

-- a front that ends before an input, or at the end, is legal
pub front_is_legal : (o : Opening) (before behind : List Noted) → IsLegal o (before ++ behind) → BeginsWithInput behind → IsLegal o before
front_is_legal o before [] legal whole = subst (IsLegal o) (append-nil before) legal
front_is_legal o before (e ∷ after) legal whole = (stands_whole o before e after legal whole).legal

setup_same : (t s : StoryView) (mon : ℕ) → t.settings ≡ s.settings → t.logs ≡ s.logs → t.from ≡ s.from → setup_of t mon ≡ setup_of s mon
setup_same t s mon a b c =
    ap (λ (q : Setup). record { number = mon; objects = q.objects; parts = Rattle.tk_input.specs.Logs.parts_of t.logs.logs mon; from = Rattle.tk_input.specs.Logs.places_of t.from mon }) a
    ∙ ap (λ (q : LogSet). record { number = mon; objects = s.settings.objects; parts = Rattle.tk_input.specs.Logs.parts_of q.logs mon; from = Rattle.tk_input.specs.Logs.places_of t.from mon }) b
    ∙ ap (λ (q : List (List ℕ)). record { number = mon; objects = s.settings.objects; parts = Rattle.tk_input.specs.Logs.parts_of s.logs.logs mon; from = Rattle.tk_input.specs.Logs.places_of q mon }) c

pub moment_is_story : (t s : StoryView) → IsStory s → IsMoment t s → IsStory t
moment_is_story t s h m =
    let back : (mon : ℕ) → IsMonitor t.settings mon → IsMonitor s.settings mon = λ mon r. subst (λ (q : Setup). IsMonitor q mon) m.settings r in
    record {
      limits = subst Rattle.tk_base.specs.Settings.IsWithinLimits (sym m.settings) h.limits;
      logs = subst AreLogs (sym m.logs) h.logs;
      objects = ap (λ (q : LogSet). q.objects) m.logs ∙ h.objects ∙ ap (λ (q : Setup). q.objects) (sym m.settings);
      monitors = ap (λ (q : LogSet). Rattle.std.proofs.Common.length q.logs) m.logs ∙ h.monitors ∙ ap (λ (q : Setup). q.monitors) (sym m.settings);
      starts = subst (λ (q : LogSet). IsCut q.logs t.from) (sym m.logs) (subst (IsCut s.logs.logs) (sym m.from) h.starts);
      count = m.count ∙ ap (λ (q : Setup). q.monitors) (sym m.settings);
      journal_legal = subst (λ (q : Setup). IsLegal (start q) t.journal) (sym m.settings) (front_is_legal (start s.settings) t.journal m.behind (subst (IsLegal (start s.settings)) m.journal h.journal_legal) m.whole);
      trails_legal = λ mon r.
          let r' = back mon r in
          let rest = rest_of (trail_of t mon) (trail_of s mon) (m.trails mon r') in
          subst (λ (q : MonitorSetup). IsLegalTrail q (trail_of t mon)) (sym (setup_same t s mon m.settings m.logs m.from))
          (front_legal (setup_of s mon) (trail_of t mon) rest.rest (subst (IsLegalTrail (setup_of s mon)) rest.is (h.trails_legal mon r')) (m.answered mon r'));
      links = λ mon r. m.links mon (back mon r);
    }
