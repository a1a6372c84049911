use Rattle.std.proofs.Common.{◌≡◌, ℕ, ◌+◌, ◌<◌, ◌++◌, ◌∙◌, List, length, take, drop, ap, subst, arith}
use Rattle.std.specs.Prelude.{flat_map}
use Rattle.std.specs.List.{enumerate_from}
use Rattle.std.proofs.lemmas.List.{take_all}
use Rattle.std.proofs.lemmas.List.FromFn.{length-enumerate_from}
use Rattle.tk_base.proofs.OptionLemmas.{on_err}
use Rattle.tk_input.specs.Sink.{Grows}
use Rattle.tk_ledger.specs.Text.{text_of}
use Rattle.tk_ledger.proofs.SinkLemmas.{goes_on, stops_before, stops_within}
use Rattle.tk_story.specs.Kept.{KeptStory}
use Rattle.tk_run.specs.Sessions.{numbered_text}
use Rattle.tk_run.proofs.MultiLemmas.{texts_split}
use Rattle.tk_run.proofs.SessionsLemmas.{text_more}
use Rattle.tk_run.proofs.sessions.print_sessions.Goals as goal

pub returns-in_err-title-clause-err : goal.returns-in_err-title-clause-err
returns-in_err-title-clause-err g c =
    let w = g.O.Sink.written in
    let text = numbered_text c.args.names.now in
    let all = enumerate_from 1 c.args.stories.now in
    let i = c.loop-i.i in
    on_err _ _ (stops_before (w c.args.out.now) (w c.loop-i.out) (flat_map text (take i all)) (flat_map text (drop i all)) (flat_map text all) (texts_split text all i) c.loop-i.invariant.written)

pub returns-in_err-print_titled-clause-err : goal.returns-in_err-print_titled-clause-err
returns-in_err-print_titled-clause-err g c =
    let w = g.O.Sink.written in
    let names = c.args.names.now in
    let stories = c.args.stories.now in
    let text = numbered_text names in
    let all = enumerate_from 1 stories in
    let i = c.loop-i.i in
    let kept = c.index-stories-i.result in
    let one = text (i + 1, kept) in
    let within : i < length stories = (let low = c.loop-i-test.true in let end = c.loop-i.auto.i-end in omega (arith, low, end)) in
    let put : c.as_slice.result.now ++ text_of names kept.story ≡ one = ap (λ (t : List ℕ). t ++ text_of names kept.story) (c.as_slice.ensures.value ∙ c.in_ok-title.ensures) in
    on_err _ _ (stops_within (w c.args.out.now) (w c.loop-i.out) (w c.print_titled.new.out) (flat_map text (take i all)) one (flat_map text (take (i + 1) all)) (flat_map text (drop (i + 1) all)) (flat_map text all) (c.as_slice.result.now ++ text_of names kept.story)
    (text_more names stories i kept within c.index-stories-i.is) (texts_split text all (i + 1)) put c.loop-i.invariant.written c.in_err-print_titled.ensures.err)

pub loop-i-preserved : goal.loop-i-preserved
loop-i-preserved g c =
    let w = g.O.Sink.written in
    let names = c.args.names.now in
    let stories = c.args.stories.now in
    let text = numbered_text names in
    let all = enumerate_from 1 stories in
    let i = c.loop-i.i in
    let kept = c.index-stories-i.result in
    let one = text (i + 1, kept) in
    let within : i < length stories = (let low = c.loop-i-test.true in let end = c.loop-i.auto.i-end in omega (arith, low, end)) in
    let put : c.as_slice.result.now ++ text_of names kept.story ≡ one = ap (λ (t : List ℕ). t ++ text_of names kept.story) (c.as_slice.ensures.value ∙ c.in_ok-title.ensures) in
    record {
      written = goes_on (w c.args.out.now) (w c.loop-i.out) (w c.print_titled.new.out) (flat_map text (take i all)) one (flat_map text (take (i + 1) all)) (c.as_slice.result.now ++ text_of names kept.story)
          (text_more names stories i kept within c.index-stories-i.is) put c.loop-i.invariant.written c.in_ok-print_titled.ensures.ok;
      faults = c.in_ok-print_titled.ensures.counted ∙ c.loop-i.invariant.faults;
    }

pub returns-clause-ok : goal.returns-clause-ok
returns-clause-ok g c =
    let w = g.O.Sink.written in
    let stories = c.args.stories.now in
    let all = enumerate_from 1 stories in
    let count = length-enumerate_from 1 stories in
    let whole : take c.loop-i.i all ≡ all = take_all c.loop-i.i all (let high = c.loop-i-test.false in omega (arith, high, count)) in
    subst (λ (l : List (ℕ × KeptStory)). Grows (w c.args.out.now) (w c.loop-i.out) (flat_map (numbered_text c.args.names.now) l)) whole c.loop-i.invariant.written
