use Rattle.std.proofs.Common.{◌≡◌, ◌∙◌, Option, Some, ap, inl, inr, map, refl, string_bytes, subst, sym}
use Rattle.tk_words.specs.Asked.{asked_by, asked_generate, asked_multi, asked_replay, asked_sources}
use Rattle.tk_words.specs.Words.{Asked}
use Rattle.tk_words.specs.Words.Asked.{Checks, Generates, Helps, Queries, Replays, Restarts, Shows, Traces, Versions}
use Rattle.tk_words.specs.declared.command.Command.{Command}
use Rattle.tk_load.specs.Surroundings.{output_by}
use Rattle.tk_run.specs.Constant.{EndsTold, HasTold}
use Rattle.tk_run.specs.Ends.{IsRefused, served}
use Rattle.tk_run.proofs.ServedLemmas.{unserved}
use Rattle.tk_run.proofs.serving.run.Goals as goal

-- what is served of words that were read as a command
here : (asked : Option Asked) (read command : Command) → asked ≡ Some (asked_by read) → read ≡ command → served asked ≡ served (Some (asked_by command))
here asked read command found is = ap served found ∙ ap (λ (c : Command). served (Some (asked_by c))) is

pub returns-in-Ok-Replay-clause-ran : goal.returns-in-Ok-Replay-clause-ran
returns-in-Ok-Replay-clause-ran g c =
    let read = c.in-Ok-Replay in
    λ done. record { asked = Replays (asked_replay read.words); understood = here _ _ _ read.ensures.ok read.field-0-is; ran = c.replay.ensures.ran done }

pub returns-in-Ok-Replay-clause-ends : goal.returns-in-Ok-Replay-clause-ends
returns-in-Ok-Replay-clause-ends g c =
    let read = c.in-Ok-Replay in
    inr (record { asked = Replays (asked_replay read.words); understood = here _ _ _ read.ensures.ok read.field-0-is; ends = c.replay.ensures.ends })

pub returns-in-Ok-Generate-clause-ran : goal.returns-in-Ok-Generate-clause-ran
returns-in-Ok-Generate-clause-ran g c =
    let read = c.in-Ok-Generate in
    λ done. record { asked = Generates (asked_generate read.words); understood = here _ _ _ read.ensures.ok read.field-0-is; ran = c.serve.ensures.ran done }

pub returns-in-Ok-Generate-clause-ends : goal.returns-in-Ok-Generate-clause-ends
returns-in-Ok-Generate-clause-ends g c =
    let read = c.in-Ok-Generate in
    inr (record { asked = Generates (asked_generate read.words); understood = here _ _ _ read.ensures.ok read.field-0-is; ends = c.serve.ensures.ends })

pub returns-in-Ok-Sessions-clause-ran : goal.returns-in-Ok-Sessions-clause-ran
returns-in-Ok-Sessions-clause-ran g c =
    let read = c.in-Ok-Sessions in
    λ done. record { asked = Restarts (asked_sources read.words); understood = here _ _ _ read.ensures.ok read.field-0-is; ran = c.serve_sessions.ensures.ran done }

pub returns-in-Ok-Sessions-clause-ends : goal.returns-in-Ok-Sessions-clause-ends
returns-in-Ok-Sessions-clause-ends g c =
    let read = c.in-Ok-Sessions in
    inr (record { asked = Restarts (asked_sources read.words); understood = here _ _ _ read.ensures.ok read.field-0-is; ends = c.serve_sessions.ensures.ends })

pub returns-in-Ok-Multi-clause-ran : goal.returns-in-Ok-Multi-clause-ran
returns-in-Ok-Multi-clause-ran g c =
    let read = c.in-Ok-Multi in
    λ done. record { asked = Queries (asked_multi read.words); understood = here _ _ _ read.ensures.ok read.field-0-is; ran = c.serve_queries.ensures.ran done }

pub returns-in-Ok-Multi-clause-ends : goal.returns-in-Ok-Multi-clause-ends
returns-in-Ok-Multi-clause-ends g c =
    let read = c.in-Ok-Multi in
    inr (record { asked = Queries (asked_multi read.words); understood = here _ _ _ read.ensures.ok read.field-0-is; ends = c.serve_queries.ensures.ends })

pub returns-in-Ok-Trace-clause-ran : goal.returns-in-Ok-Trace-clause-ran
returns-in-Ok-Trace-clause-ran g c =
    let read = c.in-Ok-Trace in
    λ done. record { asked = Traces (asked_replay read.words); understood = here _ _ _ read.ensures.ok read.field-0-is; ran = c.serve_trace.ensures.ran done }

pub returns-in-Ok-Trace-clause-ends : goal.returns-in-Ok-Trace-clause-ends
returns-in-Ok-Trace-clause-ends g c =
    let read = c.in-Ok-Trace in
    inr (record { asked = Traces (asked_replay read.words); understood = here _ _ _ read.ensures.ok read.field-0-is; ends = c.serve_trace.ensures.ends })

pub returns-in-Ok-Check-clause-ran : goal.returns-in-Ok-Check-clause-ran
returns-in-Ok-Check-clause-ran g c =
    let read = c.in-Ok-Check in
    λ done. record { asked = Checks read.file.now; understood = here _ _ _ read.ensures.ok read.field-0-is; ran = c.serve_check.ensures.ran done }

pub returns-in-Ok-Check-clause-ends : goal.returns-in-Ok-Check-clause-ends
returns-in-Ok-Check-clause-ends g c =
    let read = c.in-Ok-Check in
    inr (record { asked = Checks read.file.now; understood = here _ _ _ read.ensures.ok read.field-0-is; ends = c.serve_check.ensures.ends })

pub returns-in-Ok-Show-clause-ran : goal.returns-in-Ok-Show-clause-ran
returns-in-Ok-Show-clause-ran g c =
    let read = c.in-Ok-Show in
    λ done. record { asked = Shows read.file.now; understood = here _ _ _ read.ensures.ok read.field-0-is; ran = c.serve_show.ensures.ran done }

pub returns-in-Ok-Show-clause-ends : goal.returns-in-Ok-Show-clause-ends
returns-in-Ok-Show-clause-ends g c =
    let read = c.in-Ok-Show in
    inr (record { asked = Shows read.file.now; understood = here _ _ _ read.ensures.ok read.field-0-is; ends = c.serve_show.ensures.ends })

-- the text of help
pub returns-in-Ok-Help-clause-ran : goal.returns-in-Ok-Help-clause-ran
returns-in-Ok-Help-clause-ran g c =
    let read = c.in-Ok-Help in
    λ done. record {
      asked = Helps read.command;
      understood = here _ _ _ read.ensures.ok read.field-0-is;
      ran = subst (λ text. HasTold text (output_by g.O.Sink c.args.out.now c.serve_text.new.out) c.serve_text.result) c.manual_of.ensures (c.serve_text.ensures.ran done);
    }

pub returns-in-Ok-Help-clause-ends : goal.returns-in-Ok-Help-clause-ends
returns-in-Ok-Help-clause-ends g c =
    let read = c.in-Ok-Help in
    inr (record {
      asked = Helps read.command;
      understood = here _ _ _ read.ensures.ok read.field-0-is;
      ends = subst (λ text. EndsTold text (output_by g.O.Sink c.args.out.now c.serve_text.new.out) c.serve_text.result.status) c.manual_of.ensures c.serve_text.ensures.ends;
    })

-- that of the version
pub returns-in-Ok-Version-clause-ran : goal.returns-in-Ok-Version-clause-ran
returns-in-Ok-Version-clause-ran g c =
    let read = c.in-Ok-Version in
    let told = c.serve_text-in-Ok-Version in
    λ done. record {
      asked = Versions;
      understood = here _ _ _ read.ensures.ok read.field-0-is;
      ran = subst (λ text. HasTold text (output_by g.O.Sink c.args.out.now told.new.out) told.result) c.version_line.ensures (told.ensures.ran done);
    }

pub returns-in-Ok-Version-clause-ends : goal.returns-in-Ok-Version-clause-ends
returns-in-Ok-Version-clause-ends g c =
    let read = c.in-Ok-Version in
    let told = c.serve_text-in-Ok-Version in
    inr (record {
      asked = Versions;
      understood = here _ _ _ read.ensures.ok read.field-0-is;
      ends = subst (λ text. EndsTold text (output_by g.O.Sink c.args.out.now told.new.out) told.result.status) c.version_line.ensures told.ensures.ends;
    })

-- words of no command that is served
pub returns-then-not-is_served-clause-ends : goal.returns-then-not-is_served-clause-ends
returns-then-not-is_served-clause-ends g c =
    let words = map string_bytes c.args.words.now in
    inl (subst (IsRefused words) (sym c.ended.ensures.status) (unserved words (sym c.is_served.ensures ∙ c.if-not-is_served.true)), refl)
