use Rattle.std.proofs.Common.{ap, ◌∙◌}
use Rattle.std.proofs.lemmas.Map.Views.{exact_unsigned_eq}
use Rattle.tk_world.specs.Work.{has}
use Rattle.tk_world.proofs.WorkLemmas.{at, none_at}
use Rattle.tk_world.proofs.work.Work.is_empty.Goals as goal

pub returns : goal.returns
unfolding has
returns c = λ is q. ap (λ bits. at bits q) (exact_unsigned_eq c.args.self.now.bits 0 is) ∙ none_at q
