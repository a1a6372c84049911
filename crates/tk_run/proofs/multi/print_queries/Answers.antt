use Rattle.std.proofs.Common.{◌≡◌, ℕ, ◌+◌, ◌<◌, ◌++◌, ◌∙◌, List, length, map, take, drop, get_or, ap, sym, subst, arith}
use Rattle.std.specs.Prelude.{flat_map}
use Rattle.std.specs.List.{zip}
use Rattle.std.proofs.lemmas.List.{take_all}
use Rattle.std.proofs.lemmas.Slice.Zip.{get_or-zip, length-zip}
use Rattle.tk_base.proofs.OptionLemmas.{on_err}
use Rattle.tk_input.specs.Sink.{Grows}
use Rattle.tk_ledger.specs.Text.{text_of}
use Rattle.tk_ledger.proofs.SinkLemmas.{goes_on, stops_before, stops_within}
use Rattle.tk_multi.specs.Queries.{QueryView}
use Rattle.tk_story.specs.Kept.{KeptStory}
use Rattle.tk_run.specs.Multi.{query_text}
use Rattle.tk_run.proofs.MultiLemmas.{texts_more, texts_split, told_at, told_count}
use Rattle.tk_run.proofs.multi.print_queries.Goals as goal

pub returns-in_err-title-clause-err : goal.returns-in_err-title-clause-err
returns-in_err-title-clause-err g c =
    let w = g.O.Sink.written in
    let told = zip (zip (map (λ (q : QueryView). q.name) c.args.queries.now) c.args.names.now) c.args.stories.now in
    let i = c.loop-i.i in
    on_err _ _ (stops_before (w c.args.out.now) (w c.loop-i.out) (flat_map query_text (take i told)) (flat_map query_text (drop i told)) (flat_map query_text told) (texts_split query_text told i) c.loop-i.invariant.written)

pub print_titled-requires : goal.print_titled-requires
print_titled-requires g c =
    let names = c.args.names.now in
    let stories = c.args.stories.now in
    let own = c.index-names-i.result in
    let kept = c.index-stories-i.result in
    let i = c.loop-i.i in
    let within : i < length c.args.queries.now = (let low = c.loop-i-test.true in let end = c.len-i-end.ensures.value in omega (arith, low, end)) in
    let in_names : i < length names = omega (arith, within, c.requires.names) in
    let in_stories : i < length stories = omega (arith, within, c.requires.stories) in
    let here : get_or (zip names stories) i (own, kept) ≡ (own, kept) =
    get_or-zip names stories i (own, kept) in_names in_stories ∙ ap (λ (n : List (List ℕ)). (n, get_or stories i kept)) (sym c.index-names-i.is) ∙ ap (λ (k : KeptStory). (own, k)) (sym c.index-stories-i.is) in
    subst (λ (told : List (List ℕ) × KeptStory). length told.0 ≡ told.1.story.settings.objects) here (c.requires.named i (own, kept) (omega (arith, in_names, in_stories, length-zip names stories)))

pub returns-in_err-print_titled-clause-err : goal.returns-in_err-print_titled-clause-err
returns-in_err-print_titled-clause-err g c =
    let w = g.O.Sink.written in
    let queries = c.args.queries.now in
    let names = c.args.names.now in
    let stories = c.args.stories.now in
    let told = zip (zip (map (λ (q : QueryView). q.name) queries) names) stories in
    let i = c.loop-i.i in
    let own = c.index-names-i.result in
    let kept = c.index-stories-i.result in
    let one : (List ℕ × List (List ℕ)) × KeptStory = ((c.name.result.now, own), kept) in
    let within : i < length queries = (let low = c.loop-i-test.true in let end = c.len-i-end.ensures.value in omega (arith, low, end)) in
    let put : c.as_slice.result.now ++ text_of own kept.story ≡ query_text one = ap (λ (t : List ℕ). t ++ text_of own kept.story) (c.as_slice.ensures.value ∙ c.in_ok-title.ensures) in
    on_err _ _ (stops_within (w c.args.out.now) (w c.loop-i.out) (w c.print_titled.new.out) (flat_map query_text (take i told)) (query_text one) (flat_map query_text (take (i + 1) told)) (flat_map query_text (drop (i + 1) told)) (flat_map query_text told) (c.as_slice.result.now ++ text_of own kept.story)
    (texts_more query_text told i one (omega (arith, within, told_count queries names stories c.requires.names c.requires.stories)) (told_at queries names stories i c.name.result.now own kept within c.requires.names c.requires.stories c.name.ensures c.index-names-i.is c.index-stories-i.is))
    (texts_split query_text told (i + 1)) put c.loop-i.invariant.written c.in_err-print_titled.ensures.err)

pub loop-i-preserved : goal.loop-i-preserved
loop-i-preserved g c =
    let w = g.O.Sink.written in
    let queries = c.args.queries.now in
    let names = c.args.names.now in
    let stories = c.args.stories.now in
    let told = zip (zip (map (λ (q : QueryView). q.name) queries) names) stories in
    let i = c.loop-i.i in
    let own = c.index-names-i.result in
    let kept = c.index-stories-i.result in
    let one : (List ℕ × List (List ℕ)) × KeptStory = ((c.name.result.now, own), kept) in
    let within : i < length queries = (let low = c.loop-i-test.true in let end = c.len-i-end.ensures.value in omega (arith, low, end)) in
    let put : c.as_slice.result.now ++ text_of own kept.story ≡ query_text one = ap (λ (t : List ℕ). t ++ text_of own kept.story) (c.as_slice.ensures.value ∙ c.in_ok-title.ensures) in
    record {
      written = goes_on (w c.args.out.now) (w c.loop-i.out) (w c.print_titled.new.out) (flat_map query_text (take i told)) (query_text one) (flat_map query_text (take (i + 1) told)) (c.as_slice.result.now ++ text_of own kept.story)
          (texts_more query_text told i one (omega (arith, within, told_count queries names stories c.requires.names c.requires.stories)) (told_at queries names stories i c.name.result.now own kept within c.requires.names c.requires.stories c.name.ensures c.index-names-i.is c.index-stories-i.is))
          put c.loop-i.invariant.written c.in_ok-print_titled.ensures.ok;
      faults = c.in_ok-print_titled.ensures.counted ∙ c.loop-i.invariant.faults;
    }

pub returns-clause-ok : goal.returns-clause-ok
returns-clause-ok g c =
    let w = g.O.Sink.written in
    let queries = c.args.queries.now in
    let told = zip (zip (map (λ (q : QueryView). q.name) queries) c.args.names.now) c.args.stories.now in
    let past : length queries ≡ c.len-i-end.result = sym c.len-i-end.ensures.value in
    let whole : take c.loop-i.i told ≡ told = take_all c.loop-i.i told (let high = c.loop-i-test.false in omega (arith, past, high, told_count queries c.args.names.now c.args.stories.now c.requires.names c.requires.stories)) in
    subst (λ (l : List ((List ℕ × List (List ℕ)) × KeptStory)). Grows (w c.args.out.now) (w c.loop-i.out) (flat_map query_text l)) whole c.loop-i.invariant.written
