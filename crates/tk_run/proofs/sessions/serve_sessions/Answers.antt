use Rattle.std.proofs.Common.{◌≡◌, ◌∙◌, ℕ, List, ap, subst, sym}
use Rattle.tk_commands.specs.SessionInput.{LoadsSessions}
use Rattle.tk_load.specs.Reads.{reads_by}
use Rattle.tk_story.specs.Kept.{KeptStory}
use Rattle.tk_words.specs.Asked.{asked_sources}
use Rattle.tk_run.specs.Ends.{HasRun}
use Rattle.tk_run.specs.Sessions.{AreStoriesOf, sessions_text, stories_text}
use Rattle.tk_load.specs.Surroundings.{output_by}
use Rattle.tk_run.proofs.EndsLemmas.{has_run}
use Rattle.tk_run.proofs.sessions.serve_sessions.Goals as goal

pub returns-in-Ok-print_sessions-clause-ran : goal.returns-in-Ok-print_sessions-clause-ran
returns-in-Ok-print_sessions-clause-ran g c = λ done.
    let gives = LoadsSessions (reads_by g.F.Files c.args.files.now c.load_sessions.new.files) (asked_sources c.args.words.now) in
    let output = output_by g.O.Sink c.args.out.now c.print_sessions.new.out in
    let input = c.in-Ok.input in
    let told = c.in-Ok-stories_of.field-0 in
    let stories = told.stories.items in
    let same : stories_text told.names c.as_slice.result.now ≡ sessions_text input stories =
    ap (λ (names : List (List ℕ)). stories_text names c.as_slice.result.now) c.in-Ok-stories_of.ensures.same ∙ ap (λ (s : List KeptStory). sessions_text input s) c.as_slice.ensures.value in
    let ran : HasRun gives AreStoriesOf sessions_text output stories =
    has_run gives AreStoriesOf sessions_text output input c.in-Ok.ensures.read stories c.in-Ok-stories_of.ensures.stories _ same c.in-Ok-print_sessions.ensures.ok in
    record {
      none = c.several.ensures.story;
      holds = subst (λ (s : List KeptStory). HasRun gives AreStoriesOf sessions_text output s) (sym c.several.ensures.stories) ran;
    }
