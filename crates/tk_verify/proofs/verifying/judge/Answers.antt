use Rattle.std.proofs.Common.{◌≡◌, ◌⊎◌, ◌+◌, ℕ, List, map, true, sym, ap, ◌∙◌, subst}
use Rattle.tk_base.specs.History.{last_of}
use Rattle.tk_journal.specs.Legal.{IsLegal, start}
use Rattle.tk_journal.specs.Publishing.{publications}
use Rattle.tk_journal.specs.declared.noted.Noted.{Noted}
use Rattle.tk_monitor.specs.Monitored.{MonitorView}
use Rattle.tk_story.specs.Story.{IsStory}
use Rattle.tk_trail.specs.declared.entry.Entry.{Entry}
use Rattle.tk_verify.specs.Recorded.{Finds, is_final, recorded_from, trails_in}
use Rattle.tk_verify.specs.Verifying.{AreLegalTrails, is_found}
use Rattle.tk_verify.specs.declared.finding.Finding.TheVariants as f
use Rattle.tk_verify.proofs.RecordLemmas.{finished}
use Rattle.tk_verify.proofs.RunLemmas.{halts_journal, recorded_same}
use Rattle.tk_verify.proofs.verifying.judge.Goals as goal

pub returns-in-Err : goal.returns-in-Err
returns-in-Err c = c.in-Err.ensures.found c.args.journal.now

pub returns-in-Err-drive_coordinator : goal.returns-in-Err-drive_coordinator
returns-in-Err-drive_coordinator c =
    let s = recorded_from c.args.from c.args.settings c.args.logs c.args.journal.now (trails_in c.args.trails.now) in
    let halt = c.in-Err-drive_coordinator.halt in
    let is = c.found.ensures ∙ ap (λ (m : ℕ). is_found (m + 1) halt) c.monitors.ensures.value in
    subst (λ found. (found ≡ f.NoMemory) ⊎ Finds s found) (sym is) (halts_journal s halt (c.in-Ok.ensures.legal c.args.journal.now) c.in-Err-drive_coordinator.ensures.halts)

pub join-requires : goal.join-requires
join-requires c =
    let journal = c.in-Ok-drive_coordinator.coordinator.journal in
    record {
      agreed = c.requires.agreed;
      cut = c.requires.cut;
      settings_is = c.in-Ok-drive_coordinator.ensures.settings;
      made = c.in-Ok.ensures.made;
      legal = subst (λ (j : List Noted). IsLegal (start c.args.settings) j) (sym c.in-Ok-drive_coordinator.ensures.journal) c.in-Ok-drive_coordinator.ensures.legal;
      trails = subst (λ (trails : List (List Entry)). AreLegalTrails (recorded_from c.args.from c.args.settings c.args.logs journal trails)) (sym c.in-Ok.ensures.trails) (c.in-Ok.ensures.legal journal);
    }

pub returns : goal.returns
returns c =
    let s = recorded_from c.args.from c.args.settings c.args.logs c.args.journal.now (trails_in c.args.trails.now) in
    let journal = c.in-Ok-drive_coordinator.ensures.journal in
    let same =
    recorded_same c.args.from c.args.settings c.args.logs c.in-Ok-drive_coordinator.coordinator.journal c.args.journal.now (map (λ (m : MonitorView). m.trail) c.in-Ok.monitors.items) (trails_in c.args.trails.now) journal c.in-Ok.ensures.trails in
    let legal = subst IsStory same c.in_ok-story.ensures.legal in
    let final : is_final (last_of (publications c.args.journal.now)) ≡ true =
    ap (λ (j : List Noted). is_final (last_of (publications j))) (sym journal) ∙ sym c.is_over-over.ensures ∙ c.if-not-over.false in
    (c.in_ok-story.ensures.story ∙ same, c.in_ok-story.ensures.events, legal, finished s legal final, final)
