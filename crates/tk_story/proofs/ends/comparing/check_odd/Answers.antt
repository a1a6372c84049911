use Rattle.std.proofs.Common.{◌≡◌, Some, ap, sym, ◌∙◌, subst}
use Rattle.std.specs.Prelude.{IfErr}
use Rattle.std.specs.Option.{option_copied, option_map}
use Rattle.std.proofs.lemmas.Bool.{true≢false}
use Rattle.tk_story.specs.Comparing.{IsDifference}
use Rattle.tk_story.specs.declared.ends.received.Received.TheVariants as r
use Rattle.tk_story.proofs.EndsLemmas.{finds_difference, found_none, found_other, found_sent}
use Rattle.tk_story.proofs.ends.comparing.check_odd.Goals as goal

pub returns-in-None : goal.returns-in-None
returns-in-None c = λ link frames h. found_none link frames (option_copied c.args.odd) c.args.place (option_copied c.args.sent) (ap option_copied c.in-None.is) h

pub returns-then-is_odd_sent : goal.returns-then-is_odd_sent
returns-then-is_odd_sent c = λ link frames h.
    found_sent link frames (option_copied c.args.odd) c.args.place (option_copied c.args.sent) c.in-Some.odd.now (ap option_copied c.in-Some.is) (c.is_odd_sent.ensures.0 c.if-is_odd_sent.true) h

pub returns-in_ok-try_clone-in-Some : goal.returns-in_ok-try_clone-in-Some
returns-in_ok-try_clone-in-Some c = λ link frames h.
    let other : option_map r.Frame (option_copied c.args.sent) ≡ Some c.in-Some.odd.now → ⊥ = λ e. true≢false (sym (c.is_odd_sent.ensures.1 e) ∙ c.if-is_odd_sent.false) in
    let d = found_other link frames (option_copied c.args.odd) c.args.place (option_copied c.args.sent) c.in-Some.odd.now (ap option_copied c.in-Some.is) other h in
    let fault = subst (λ x. IfErr c.differ.result (IsDifference c.args.way.mon c.args.way.direction c.args.place (option_copied c.args.sent) x)) c.in_ok-try_clone-in-Some.ensures c.differ.ensures.fault in
    finds_difference c.args.way.mon c.args.way.direction c.args.place (option_copied c.args.sent) c.in-Some.odd.now link c.differ.result c.differ.ensures.never fault d
