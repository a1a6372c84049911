use Rattle.std.proofs.Common.{refl}
use Rattle.tk_host.proofs.GoingLemmas.{told_left}
use Rattle.tk_host.specs.declared.cause.Cause.TheVariants.{Memory as Wanting}
use Rattle.tk_host.specs.declared.over.Over.TheVariants.{Ended}
use Rattle.tk_host.proofs.hosting.replace.Goals as goal

pub returns-in_default-clause-steps : goal.returns-in_default-clause-steps
returns-in_default-clause-steps g c = record { standing = c.requires.going.standing; going = tt; leaves = tt; settings = refl; missing = refl }

pub returns-in_default-clause-tells : goal.returns-in_default-clause-tells
returns-in_default-clause-tells g c = λ names before h. told_left names c.args.session.now c.args.session.now before (g.O.Sink.written c.args.out.now) h (Ended Wanting) (λ wrote. absurd (cc))

pub seat-requires-clause-missing : goal.seat-requires-clause-missing
seat-requires-clause-missing g c = λ none. absurd (c.requires.missing none)
