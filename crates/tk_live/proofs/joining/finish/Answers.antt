use Rattle.std.proofs.Common.{◌≡◌, ◌∙◌, None, sym, ap, subst}
use Rattle.tk_input.specs.Sink.{Grows}
use Rattle.tk_story.specs.Kept.{KeptStory}
use Rattle.tk_story.specs.Story.{IsStory}
use Rattle.tk_live.specs.Joining.{ledger_lines}
use Rattle.tk_live.specs.Lived.{Concludes, TellsEnds}
use Rattle.tk_load.specs.Surroundings.{faults_told}
use Rattle.tk_live.specs.declared.outcome.LiveOutcome.{LiveOutcome}
use Rattle.tk_load.specs.declared.status.Status.TheVariants as st
use Rattle.tk_live.specs.Traffic.{traffic_of}
use Rattle.tk_live.proofs.CountLemmas.{printed_told}
use Rattle.tk_live.proofs.TellLemmas.{complete_story, concludes_told, none_front, of_story, printed_done, printed_front, printed_linked, printed_tells}
use Rattle.tk_live.proofs.joining.finish.Goals as goal

pub returns-in-Err-clause-concludes : goal.returns-in-Err-clause-concludes
returns-in-Err-clause-concludes g c = λ input version was taken taken' of_input complete.
    let kept = c.in-Err.story in
    let now = g.O.Sink.written c.args.out.now in
    let same : kept.story ≡ c.args.story.story = ap (λ (k : KeptStory). k.story) c.in-Err.ensures.err in
    subst (λ l. Concludes input version (traffic_of was now taken taken') l) (sym c.told.ensures)
    (concludes_told c.a_finished_run_is_sound.ensures.over input version was now now taken taken' kept st.NoMemory (subst IsStory (sym same) c.journal.ensures.legal)
    (of_story input c.args.story.story kept.story same of_input) (complete_story input.names version c.args.story.story kept.story was now taken taken' same complete) (λ e. absurd (cc)) (none_front now (ledger_lines kept.story)) tt)

pub returns-clause-concludes : goal.returns-clause-concludes
returns-clause-concludes g c = λ input version was taken taken' of_input complete.
    let kept = c.in-Ok.story in
    let mid = g.O.Sink.written c.args.out.now in
    let now = g.O.Sink.written c.print-printed.new.out in
    let same : kept.story ≡ c.args.story.story = c.in-Ok.ensures.story in
    let printed = c.print-printed.result in
    let status = c.told_of.result in
    let is = c.told_of.ensures in
    subst (λ l. Concludes input version (traffic_of was now taken taken') l) (sym c.told-2.ensures)
    (concludes_told c.a_finished_run_is_sound.ensures.over input version was mid now taken taken' kept status (subst IsStory (sym same) c.journal.ensures.legal)
    (of_story input c.args.story.story kept.story same of_input) (complete_story input.names version c.args.story.story kept.story was mid taken taken' same complete)
    (λ e. (c.in-Ok.ensures.runs, printed_done printed (Grows mid now (ledger_lines kept.story)) c.print-printed.ensures.ok (sym is ∙ e)))
    (printed_front printed mid now (ledger_lines kept.story) c.print-printed.ensures.ok c.print-printed.ensures.err) (subst (λ x. TellsEnds x None) (sym is) (printed_tells printed)))

pub returns-in-Err-clause-counted : goal.returns-in-Err-clause-counted
returns-in-Err-clause-counted g c = ap (λ (l : LiveOutcome). faults_told l.status (g.O.Sink.fault_count c.args.out.now)) (sym c.told.ensures)

pub returns-clause-unlinked : goal.returns-clause-unlinked
returns-clause-unlinked g c = λ is.
    let told = ap (λ (l : LiveOutcome). l.status) c.told-2.ensures ∙ c.told_of.ensures in
    printed_linked c.print-printed.result (sym told ∙ is)

pub returns-clause-counted : goal.returns-clause-counted
returns-clause-counted g c =
    let told = ap (λ (l : LiveOutcome). l.status) c.told-2.ensures ∙ c.told_of.ensures in
    let before = g.O.Sink.fault_count c.args.out.now in
    c.print-printed.ensures.counted ∙ (printed_told c.print-printed.result before ∙ ap (λ x. faults_told x before) (sym told))
