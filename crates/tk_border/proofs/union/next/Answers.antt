use Rattle.std.proofs.Common.{arith}
use Rattle.tk_border.proofs.PassedLemmas.{passed_on, ahead_of, ahead_none}
use Rattle.tk_border.proofs.union.next.Goals as goal

pub returns-then-i-len-clause-of_members : goal.returns-then-i-len-clause-of_members
returns-then-i-len-clause-of_members c b p later =
    passed_on c.args.members.now c.args.i b c.at.result.0 p later (ahead_none c.args.members.now c.args.i c.at.result.0 (omega arith))

pub returns-then-i-len-clause-of_failed : goal.returns-then-i-len-clause-of_failed
returns-then-i-len-clause-of_failed c b p later =
    passed_on c.args.failed.now c.args.j b c.at.result.0 p later (ahead_of c.args.failed.now c.args.j c.at.result.0 c.at.ensures.ascends (omega (arith, c.at.ensures.value)))

pub returns-then-j-len-clause-of_members : goal.returns-then-j-len-clause-of_members
returns-then-j-len-clause-of_members c b p later =
    passed_on c.args.members.now c.args.i b c.at-then-j-len.result.0 p later (ahead_of c.args.members.now c.args.i c.at-then-j-len.result.0 c.at-then-j-len.ensures.ascends (omega (arith, c.at-then-j-len.ensures.value)))

pub returns-then-member-broken-clause-of_members : goal.returns-then-member-broken-clause-of_members
returns-then-member-broken-clause-of_members c b p later =
    passed_on c.args.members.now c.args.i b c.at-member.result.0 p later (ahead_of c.args.members.now c.args.i c.at-member.result.0 c.at-member.ensures.ascends (omega (arith, c.at-member.ensures.value)))

pub returns-then-member-broken-clause-of_failed : goal.returns-then-member-broken-clause-of_failed
returns-then-member-broken-clause-of_failed c b p later =
    passed_on c.args.failed.now c.args.j b c.at-member.result.0 p later (ahead_of c.args.failed.now c.args.j c.at-member.result.0 c.at-broken.ensures.ascends (omega (arith, c.at-broken.ensures.value)))

pub returns-else-member-broken-clause-of_members : goal.returns-else-member-broken-clause-of_members
returns-else-member-broken-clause-of_members c b p later =
    passed_on c.args.members.now c.args.i b c.at-broken.result.0 p later (ahead_of c.args.members.now c.args.i c.at-broken.result.0 c.at-member.ensures.ascends (omega (arith, c.at-member.ensures.value)))

pub returns-else-member-broken-clause-of_failed : goal.returns-else-member-broken-clause-of_failed
returns-else-member-broken-clause-of_failed c b p later =
    passed_on c.args.failed.now c.args.j b c.at-broken.result.0 p later (ahead_of c.args.failed.now c.args.j c.at-broken.result.0 c.at-broken.ensures.ascends (omega (arith, c.at-broken.ensures.value)))
