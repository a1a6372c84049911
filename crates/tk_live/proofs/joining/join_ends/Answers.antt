use Rattle.std.proofs.Common.{◌≡◌, sym, ap, ◌∙◌}
use Rattle.tk_story.specs.Ends.{joined, kept_by}
use Rattle.tk_live.specs.Joined.{joined_as}
use Rattle.tk_load.specs.Surroundings.{faults_told}
use Rattle.tk_live.specs.declared.outcome.LiveOutcome.{LiveOutcome}
use Rattle.tk_live.proofs.CountLemmas.{joined_spared}
use Rattle.tk_live.proofs.TellLemmas.{complete_story, concludes_joined, kept_as, of_run, of_story}
use Rattle.tk_live.proofs.joining.join_ends.Goals as goal

pub returns-in-Ok-clause-concludes : goal.returns-in-Ok-clause-concludes
returns-in-Ok-clause-concludes g c = λ input version was taken taken' from complete front.
    let a = c.args in
    let s = joined (kept_by a.ends.coordinator a.ends.monitors.items) a.logs a.from in
    let same : c.in-Ok.story.story ≡ s = c.in-Ok.ensures.story in
    c.finish.ensures.concludes input version was taken taken'
    (of_story input s c.in-Ok.story.story same (record { settings = c.requires.made ∙ from.settings_are; logs = from.logs_are; from = from.from_is }))
    (complete_story input.names version s c.in-Ok.story.story was (g.O.Sink.written a.out.now) taken taken' same (complete c.in-Ok.ensures.nothing_odd))

pub returns-in-Err-clause-concludes : goal.returns-in-Err-clause-concludes
returns-in-Err-clause-concludes g c = λ input version was taken taken' from complete front.
    let a = c.args in
    let status = c.of_join.ensures in
    let same : c.in-Err.ends ≡ a.ends = c.in-Err.ensures.err in
    let told : c.kept.result ≡ kept_as (joined_as c.in-Err.fault) a.ends = c.kept.ensures ∙ (ap (λ x. kept_as x c.in-Err.ends) status ∙ ap (λ e. kept_as (joined_as c.in-Err.fault) e) same) in
    concludes_joined input version was (g.O.Sink.written a.out.now) taken taken' c.in-Err.fault a.ends c.kept.result (of_run input a.settings a.logs a.from a.ends from c.requires) front c.in-Err.ensures.differs told

pub returns-in-Err-clause-counted : goal.returns-in-Err-clause-counted
returns-in-Err-clause-counted g c =
    let told = ap (λ (l : LiveOutcome). l.status) c.kept.ensures ∙ c.of_join.ensures in
    let before = g.O.Sink.fault_count c.args.out.now in
    joined_spared c.in-Err.fault before ∙ ap (λ x. faults_told x before) (sym told)
