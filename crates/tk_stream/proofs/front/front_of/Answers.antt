use Rattle.std.proofs.Common.{rules, ◌<◌, length, sym, ◌∙◌}
use Rattle.tk_base.proofs.DigitsLemmas.{eqb_some}
use Rattle.tk_stream.proofs.FrontLemmas.{ends_here, ends_there, ends_too_late}
use Rattle.tk_stream.proofs.front.front_of.Goals as goal

pub returns-in-Some : goal.returns-in-Some
returns-in-Some c =
    ends_here c.args.held.now c.strip_return.result.now c.in-Some.place c.args.ended (sym c.feed_in.ensures ∙ c.in-Some.is) c.strip_return.ensures

pub returns-in-None : goal.returns-in-None
returns-in-None c = ends_too_late c.args.held.now (sym c.feed_in.ensures ∙ c.in-None.is) c.if-held-ge-MOST_HELD.true

-- the stream has ended, and something is held
pub returns-in-None-4 : goal.returns-in-None-4
returns-in-None-4 c =
    let some : 0 < length c.args.held.now = eqb_some (length c.args.held.now) (sym c.is_empty.ensures ∙ c.if-is_empty.false) in
    ends_there c.args.held.now c.args.ended (sym c.feed_in.ensures ∙ c.in-None.is) some (search rules)
