use Rattle.std.proofs.Common.{◌∙◌, sym}
use Rattle.std.specs.Cmp.Derive.Mapped.{pointwise-map}
use Rattle.std.proofs.lemmas.Bool.Decides.{same_from_decides}
use Rattle.tk_base.specs.Equal.{pair_eq}
use Rattle.tk_base.specs.Pairs.{narrow_pair_of}
use Rattle.tk_base.proofs.EqualLemmas.{pairs_tell, same_from}
use Rattle.tk_base.proofs.pairs.PairsPartialEq.eq.Goals as goal

pub returns-in-Narrow-Narrow-clause-value : goal.returns-in-Narrow-Narrow-clause-value
returns-in-Narrow-Narrow-clause-value c =
    rw (← c.self.view_is, ← c.other.view_is, c.in-Narrow-Narrow.is-0, c.in-Narrow-Narrow.is-1)
    (c.eq.ensures ∙ sym (pointwise-map narrow_pair_of pair_eq c.in-Narrow-Narrow.list.items c.in-Narrow-Narrow.others.items))

pub returns-in-Wide-Wide-clause-value : goal.returns-in-Wide-Wide-clause-value
returns-in-Wide-Wide-clause-value c =
    rw (← c.self.view_is, ← c.other.view_is, c.in-Wide-Wide.is-0, c.in-Wide-Wide.is-1)
    (c.eq-in-Wide-Wide.ensures ∙ sym (pointwise-map (λ p. (p.0.0, p.1)) pair_eq c.in-Wide-Wide.list.items c.in-Wide-Wide.others.items))

pub returns-in_default-clause-value : goal.returns-in_default-clause-value
returns-in_default-clause-value c = same_from_decides c.agree.result _ c.agree.ensures (pairs_tell c.args.self.now c.args.other.now)

pub returns-in-Narrow-Narrow-clause-same : goal.returns-in-Narrow-Narrow-clause-same
returns-in-Narrow-Narrow-clause-same c = same_from _ c.eq.result (pairs_tell c.args.self.now c.args.other.now) (returns-in-Narrow-Narrow-clause-value c)

pub returns-in-Wide-Wide-clause-same : goal.returns-in-Wide-Wide-clause-same
returns-in-Wide-Wide-clause-same c = same_from _ c.eq-in-Wide-Wide.result (pairs_tell c.args.self.now c.args.other.now) (returns-in-Wide-Wide-clause-value c)
