use Rattle.std.proofs.Common.{◌≡◌, ◌∙◌, ℕ, List, ap, subst, sym, inr}
use Rattle.tk_commands.specs.MultiInput.{LoadsMulti}
use Rattle.tk_load.specs.Reads.{reads_by}
use Rattle.tk_multi.specs.Answers.{AreAnswers, events_in}
use Rattle.tk_story.specs.Kept.{KeptStory}
use Rattle.tk_words.specs.Asked.{asked_multi}
use Rattle.tk_run.specs.Ends.{HasRun}
use Rattle.tk_run.specs.Multi.{AreAnswersOf, multi_text, queries_text}
use Rattle.tk_load.specs.Surroundings.{output_by}
use Rattle.tk_run.proofs.EndsLemmas.{cut_short, has_run}
use Rattle.tk_run.proofs.MultiLemmas.{all_named, are_sound}
use Rattle.tk_run.proofs.multi.serve_queries.Goals as goal

pub print_queries-requires-clause-named : goal.print_queries-requires-clause-named
print_queries-requires-clause-named g c =
    let told = c.in-Ok-tell.field-0 in
    all_named c.in-Ok.input.logs (events_in c.in-Ok.input.order) c.in-Ok.input.alones.items c.as_slice.result.now c.as_slice-2.result.now (c.as_slice.ensures.value ∙ c.in-Ok-tell.ensures.names)
    (subst (λ (stories : List KeptStory). AreAnswers c.in-Ok.input.logs (events_in c.in-Ok.input.order) c.in-Ok.input.alones.items stories) (sym c.as_slice-2.ensures.value) c.in-Ok-tell.ensures.stories)
    c.in-Ok.ensures.sizes

pub returns-in-Ok-print_queries-clause-ran : goal.returns-in-Ok-print_queries-clause-ran
returns-in-Ok-print_queries-clause-ran g c = λ done.
    let gives = LoadsMulti (reads_by g.F.Files c.args.files.now c.load_multi.new.files) (asked_multi c.args.words.now) in
    let output = output_by g.O.Sink c.args.out.now c.print_queries.new.out in
    let input = c.in-Ok.input in
    let stories = c.in-Ok-tell.field-0.stories.items in
    let same : queries_text input.queries c.as_slice.result.now c.as_slice-2.result.now ≡ multi_text input stories =
    ap (λ (n : List (List (List ℕ))). queries_text input.queries n c.as_slice-2.result.now) (c.as_slice.ensures.value ∙ c.in-Ok-tell.ensures.names) ∙ ap (λ (s : List KeptStory). multi_text input s) c.as_slice-2.ensures.value in
    let ran : HasRun gives AreAnswersOf multi_text output stories =
    has_run gives AreAnswersOf multi_text output input c.in-Ok.ensures.read stories (are_sound input stories c.in-Ok-tell.ensures.stories c.a_finished_run_is_sound.ensures.over) _ same c.in-Ok-print_queries.ensures.ok in
    record {
      none = c.several.ensures.story;
      holds = subst (λ (s : List KeptStory). HasRun gives AreAnswersOf multi_text output s) (sym c.several.ensures.stories) ran;
    }

pub returns-in-Err-WriteFailed-clause-ends : goal.returns-in-Err-WriteFailed-clause-ends
returns-in-Err-WriteFailed-clause-ends g c =
    let gives = LoadsMulti (reads_by g.F.Files c.args.files.now c.load_multi.new.files) (asked_multi c.args.words.now) in
    let output = output_by g.O.Sink c.args.out.now c.print_queries.new.out in
    let input = c.in-Ok.input in
    let stories = c.in-Ok-tell.field-0.stories.items in
    let same : queries_text input.queries c.as_slice.result.now c.as_slice-2.result.now ≡ multi_text input stories =
    ap (λ (n : List (List (List ℕ))). queries_text input.queries n c.as_slice-2.result.now) (c.as_slice.ensures.value ∙ c.in-Ok-tell.ensures.names) ∙ ap (λ (s : List KeptStory). multi_text input s) c.as_slice-2.ensures.value in
    rw c.without.ensures.status
    (cut_short gives AreAnswersOf multi_text output input c.in-Ok.ensures.read stories (are_sound input stories c.in-Ok-tell.ensures.stories c.a_finished_run_is_sound.ensures.over) _ same c.in-Err-WriteFailed.ensures.err)

pub returns-clause-ends : goal.returns-clause-ends
returns-clause-ends g c =
    let gives = LoadsMulti (reads_by g.F.Files c.args.files.now c.load_multi.new.files) (asked_multi c.args.words.now) in
    let output = output_by g.O.Sink c.args.out.now c.print_queries.new.out in
    let input = c.in-Ok.input in
    let stories = c.in-Ok-tell.field-0.stories.items in
    let same : queries_text input.queries c.as_slice.result.now c.as_slice-2.result.now ≡ multi_text input stories =
    ap (λ (n : List (List (List ℕ))). queries_text input.queries n c.as_slice-2.result.now) (c.as_slice.ensures.value ∙ c.in-Ok-tell.ensures.names) ∙ ap (λ (s : List KeptStory). multi_text input s) c.as_slice-2.ensures.value in
    rw c.without-in-Err-NoMemory.ensures.status
    (inr (cut_short gives AreAnswersOf multi_text output input c.in-Ok.ensures.read stories (are_sound input stories c.in-Ok-tell.ensures.stories c.a_finished_run_is_sound.ensures.over) _ same c.in-Err-NoMemory.ensures.err))
