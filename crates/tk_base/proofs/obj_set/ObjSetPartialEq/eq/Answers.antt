use Rattle.std.proofs.Common.{◌∙◌, sym, nat_eq}
use Rattle.std.specs.Cmp.Derive.Mapped.{pointwise-map}
use Rattle.tk_base.proofs.EqualLemmas.{numbers_tell, same_from}
use Rattle.tk_base.proofs.obj_set.ObjSetPartialEq.eq.Goals as goal

pub returns-clause-value : goal.returns-clause-value
returns-clause-value c =
    rw (← c.self.view_is, ← c.other.view_is)
    (c.eq.ensures ∙ sym (pointwise-map (λ o. o.0) nat_eq c.self.inside.list.items c.other.inside.list.items))

pub returns-clause-same : goal.returns-clause-same
returns-clause-same c = same_from _ c.eq.result (numbers_tell c.args.self.now c.args.other.now) (returns-clause-value c)
