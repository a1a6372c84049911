use Rattle.std.specs.Prelude.{codes}
use Rattle.tk_show.proofs.ListLemmas.{two_numbers}
use Rattle.tk_show.proofs.printing.push_sizes.Goals as goal

pub returns : goal.returns
returns c =
    two_numbers c.push_named-2.result c.args.line.now.items c.push_named.new.line.items c.push_named-2.new.line.items (codes " own weight ") (codes " monitors ") c.own_weight.result c.monitors.result
    c.args.settings.now.own_weight c.args.settings.now.monitors c.own_weight.ensures.value c.monitors.ensures.value c.in_ok-push_named.ensures c.push_named-2.ensures
