use Rattle.std.proofs.Common.{refl}
use Rattle.tk_words.specs.Words.Asked.{Checks}
use Rattle.tk_run.specs.Ends.{trace_text}
use Rattle.tk_run.proofs.CheckLemmas.{begins}
use Rattle.tk_run.proofs.headline.a_written_trace_is_checked.Goals as goal

pub returns : goal.returns
returns c = λ words file met input kept status understood told traced sound written ends.
    let bytes = trace_text input kept in
    c.an_input_is_run.ensures words (Checks file) met (λ name. bytes) status understood
    (told, λ fault wrong. c.nothing_is_wrong_with_a_finished_run.ensures bytes input.names kept.story fault (record { recorded = traced.recorded; spelled = refl }) (begins input kept traced) sound.legal sound.final wrong)
    written ends
