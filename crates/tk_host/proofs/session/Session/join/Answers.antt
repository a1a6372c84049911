use Rattle.std.proofs.Common.{refl}
use Rattle.tk_host.proofs.GoingLemmas.{barred}
use Rattle.tk_host.proofs.session.Session.join.Goals as goal

pub returns-in-Some-clause-steps : goal.returns-in-Some-clause-steps
returns-in-Some-clause-steps g c = barred c.args.self.now _ c.in-Some.cause c.requires c.self.view_is c.in-Some.ensures

pub seat-requires-clause-missing : goal.seat-requires-clause-missing
seat-requires-clause-missing g c = λ none. refl
