use Rattle.std.proofs.Common.{◌≡◌, ◌++◌, ◌∙◌, ℕ, List, [], ap, replicate, sym, subst, true}
use Rattle.std.specs.Prelude.{OnErr, OnOk}
use Rattle.std.specs.List.{All}
use Rattle.tk_base.proofs.OptionLemmas.{on_err}
use Rattle.tk_input.specs.Sink.{Grows, GrowsByFront}
use Rattle.tk_input.specs.declared.event.Event.{Event}
use Rattle.tk_journal.specs.Legal.{opened, start}
use Rattle.tk_world.specs.Events.{is_of}
use Rattle.tk_show.specs.Text.{opening_text, settings_text, shown_text}
use Rattle.tk_show.proofs.EventLemmas.{all_of}
use Rattle.tk_show.proofs.ShowLemmas.{first, first_fails, lines, lines_are, opening}
use Rattle.tk_show.proofs.WritingLemmas.{fails, goes_further, rest_err, rest_ok, stops}
use Rattle.tk_show.proofs.printing.show.Goals as goal

pub print_events-requires-clause-events : goal.print_events-requires-clause-events
print_events-requires-clause-events g c =
    let s = c.args.story.now.story in
    subst (λ (es : List Event). All (λ e. is_of s e ≡ true) es) (sym c.events.ensures) (all_of s c.args.story.now.events (opened (start s.settings)) (replicate s.settings.monitors []) c.requires)

pub returns-in_err-put_line-clause-err : goal.returns-in_err-put_line-clause-err
returns-in_err-put_line-clause-err g c =
    let w = g.O.Sink.written in
    let names = c.args.names.now in
    let settings = c.in_ok-settings_line.ensures ∙ ap (settings_text names) c.settings.ensures in
    on_err _ _ (first_fails names c.args.story.now (w c.args.out.now) (w c.put_line.new.out) _ settings c.in_err-put_line.ensures.err)

pub returns-in_err-line-clause-err : goal.returns-in_err-line-clause-err
returns-in_err-line-clause-err g c =
    let w = g.O.Sink.written in
    let names = c.args.names.now in
    let kept = c.args.story.now in
    let settings = c.in_ok-settings_line.ensures ∙ ap (settings_text names) c.settings.ensures in
    let one = first names kept (w c.args.out.now) (w c.put_line.new.out) _ settings c.in_ok-put_line.ensures.ok in
    on_err _ _ (stops (w c.args.out.now) (w c.put_line.new.out) (shown_text names kept) (opening names kept ++ lines names kept) one)

pub returns-in_err-put_line-2-clause-err : goal.returns-in_err-put_line-2-clause-err
returns-in_err-put_line-2-clause-err g c =
    let w = g.O.Sink.written in
    let names = c.args.names.now in
    let kept = c.args.story.now in
    let settings = c.in_ok-settings_line.ensures ∙ ap (settings_text names) c.settings.ensures in
    let one = first names kept (w c.args.out.now) (w c.put_line.new.out) _ settings c.in_ok-put_line.ensures.ok in
    let opened = c.in_ok-line.ensures.line ∙ ap (opening_text names) c.journal.ensures.value in
    on_err _ _ (fails (w c.args.out.now) (w c.put_line.new.out) (w c.put_line-2.new.out) (shown_text names kept) (opening names kept) (lines names kept) _ opened one c.in_err-put_line-2.ensures.err)

pub returns-in_err-telling-clause-err : goal.returns-in_err-telling-clause-err
returns-in_err-telling-clause-err g c =
    let w = g.O.Sink.written in
    let names = c.args.names.now in
    let kept = c.args.story.now in
    let settings = c.in_ok-settings_line.ensures ∙ ap (settings_text names) c.settings.ensures in
    let one = first names kept (w c.args.out.now) (w c.put_line.new.out) _ settings c.in_ok-put_line.ensures.ok in
    let opened = c.in_ok-line.ensures.line ∙ ap (opening_text names) c.journal.ensures.value in
    let two = goes_further (w c.args.out.now) (w c.put_line.new.out) (w c.put_line-2.new.out) (shown_text names kept) (opening names kept) (lines names kept) _ opened one c.in_ok-put_line-2.ensures.ok in
    on_err _ _ (stops (w c.args.out.now) (w c.put_line-2.new.out) (shown_text names kept) (lines names kept) two)

pub returns-clause-ok : goal.returns-clause-ok
returns-clause-ok g c =
    let w = g.O.Sink.written in
    let names = c.args.names.now in
    let kept = c.args.story.now in
    let settings = c.in_ok-settings_line.ensures ∙ ap (settings_text names) c.settings.ensures in
    let one = first names kept (w c.args.out.now) (w c.put_line.new.out) _ settings c.in_ok-put_line.ensures.ok in
    let opened = c.in_ok-line.ensures.line ∙ ap (opening_text names) c.journal.ensures.value in
    let two = goes_further (w c.args.out.now) (w c.put_line.new.out) (w c.put_line-2.new.out) (shown_text names kept) (opening names kept) (lines names kept) _ opened one c.in_ok-put_line-2.ensures.ok in
    let all = lines_are names kept c.in_ok-telling.telling c.from.result.now c.in_ok-line.entries c.journal.result.now c.events.result.now c.in_ok-telling.ensures c.from.ensures c.in_ok-line.ensures.end c.journal.ensures.value c.events.ensures in
    rest_ok c.print_events.result (w c.args.out.now) (w c.put_line-2.new.out) (w c.print_events.new.out) (shown_text names kept) (lines names kept) two
    (subst (λ (l : List ℕ). OnOk c.print_events.result (Grows (w c.put_line-2.new.out) (w c.print_events.new.out) l)) all c.print_events.ensures.ok)

pub returns-clause-err : goal.returns-clause-err
returns-clause-err g c =
    let w = g.O.Sink.written in
    let names = c.args.names.now in
    let kept = c.args.story.now in
    let settings = c.in_ok-settings_line.ensures ∙ ap (settings_text names) c.settings.ensures in
    let one = first names kept (w c.args.out.now) (w c.put_line.new.out) _ settings c.in_ok-put_line.ensures.ok in
    let opened = c.in_ok-line.ensures.line ∙ ap (opening_text names) c.journal.ensures.value in
    let two = goes_further (w c.args.out.now) (w c.put_line.new.out) (w c.put_line-2.new.out) (shown_text names kept) (opening names kept) (lines names kept) _ opened one c.in_ok-put_line-2.ensures.ok in
    let all = lines_are names kept c.in_ok-telling.telling c.from.result.now c.in_ok-line.entries c.journal.result.now c.events.result.now c.in_ok-telling.ensures c.from.ensures c.in_ok-line.ensures.end c.journal.ensures.value c.events.ensures in
    rest_err c.print_events.result (w c.args.out.now) (w c.put_line-2.new.out) (w c.print_events.new.out) (shown_text names kept) (lines names kept) two
    (subst (λ (l : List ℕ). OnErr c.print_events.result (GrowsByFront (w c.put_line-2.new.out) (w c.print_events.new.out) l)) all c.print_events.ensures.err)
