use Rattle.std.proofs.Common.{◌-◌, length, get_or, ap, ◌∙◌, arith, ◌≡◌}
use Rattle.std.proofs.lemmas.Bool.{le-leb, leb-true}
use Rattle.tk_border.proofs.PassedLemmas.{bounded_by_last}
use Rattle.tk_border.proofs.members.are_members.Goals as goal

-- the last member is the greatest
pub returns-then-count-gt0 : goal.returns-then-count-gt0
returns-then-count-gt0 c =
    let members = c.args.members.now in
    let last : c.at.result.0 ≡ get_or members (length members - 1) 0 =
    c.at.ensures.value ∙ ap (λ n. get_or members (n - 1) 0) c.len-count.ensures.value in (
      λ is. record {
        some_member = omega arith;
        in_range = bounded_by_last members c.args.objects c.len-count.ensures.ascends (omega (arith, last, leb-true c.at.result.0 c.args.objects is));
      },
      λ are. le-leb c.at.result.0 c.args.objects (omega (arith, last, are.in_range (length members - 1) 0 (omega arith))),
    )
