use Rattle.std.proofs.Common.{rules}
use Rattle.tk_watch.proofs.GreetingLemmas.{greeting_says}
use Rattle.tk_watch.proofs.watch.Watch.greeting.Goals as goal

pub returns-clause-says : goal.returns-clause-says
returns-clause-says g c =
    greeting_says c.args.self.now _ c.args.monitor.now c.as_slice.result.now c.in_ok-starts.starts (search rules) (search rules) c.requires.anew c.in_ok-starts.ensures (search rules) c.in_ok-beginnings.ensures.value
