use Rattle.std.proofs.Common.{Option, None, refl, subst}
use Rattle.std.specs.Prelude.{IfSome}
use Rattle.tk_story.specs.Kept.{KeptStory}
use Rattle.tk_story.specs.Headline.{IsSound}
use Rattle.tk_words.specs.Words.{Asked, words_of}
use Rattle.tk_words.specs.Words.Asked.{Checks, Replays}
use Rattle.tk_run.specs.Ends.{RunsAsked}
use Rattle.tk_run.proofs.PrintedLemmas.{asked_once, prints, text_is, yes_is}
use Rattle.tk_run.proofs.headline.each_printed_set_is_valid.Goals as goal

pub returns-clause-replay : goal.returns-clause-replay
returns-clause-replay c = λ words asked met outcome understood ran sound.
    let one = subst (λ (a : Asked). RunsAsked a met outcome) (asked_once (words_of words) (Replays asked) ran.asked understood refl ran.understood) ran.ran in
    let run = one.holds in
    let story = subst (λ (o : Option KeptStory). IfSome o (λ kept. IsSound kept.story)) one.is sound in record {
      kept = one.kept;
      is = one.is;
      alone = one.alone;
      holds = record {
        input = run.input;
        given = run.given;
        printed = prints run.input.ends run.input.names one.kept.story _ _ met.output story.published (text_is run.input.ends run.input.names one.kept.story) run.written;
      };
    }

pub returns-clause-check : goal.returns-clause-check
returns-clause-check c = λ words file met outcome understood ran sound.
    let one = subst (λ (a : Asked). RunsAsked a met outcome) (asked_once (words_of words) (Checks file) ran.asked understood refl ran.understood) ran.ran in
    let run = one.holds in
    let story = subst (λ (o : Option KeptStory). IfSome o (λ kept. IsSound kept.story)) one.is sound in record {
      kept = one.kept;
      is = one.is;
      alone = one.alone;
      holds = record {
        trace = run.input;
        given = run.given;
        told = run.story;
        printed = prints None run.input.names one.kept.story _ _ met.output story.published (yes_is run.input.names one.kept.story) run.written;
      };
    }
