use Rattle.std.proofs.Common.{◌≡◌, ◌≤◌, ◌+◌, ◌++◌, ◌∷◌, [], ◌∙◌, sym, ap, subst, arith}
use Rattle.std.proofs.lemmas.List.{map_push}
use Rattle.tk_base.specs.Ascending.{IsAscending, numbers_of}
use Rattle.tk_base.specs.Objects.{is_in}
use Rattle.tk_base.specs.declared.ids.Obj.{Obj}
use Rattle.tk_border.specs.Levels.{resolution}
use Rattle.tk_border.proofs.PassedLemmas.{passed_all}
use Rattle.tk_border.proofs.RisingLemmas.{rises}
use Rattle.tk_border.proofs.UnionLemmas.{is_in-resolution, resolution_same, resolution_next, resolution_none, resolution_ascends}
use Rattle.tk_border.proofs.union.resolution.Goals as goal

pub loop-i-init : goal.loop-i-init
loop-i-init c = (
  0,
  record {
    of_members = c.start-i.ensures;
    of_failed = c.start-j.ensures;
    list = ap numbers_of c.new-list.ensures.items ∙ sym (resolution_none c.args.members.now c.args.failed.now);
  },
)

pub past-i-requires : goal.past-i-requires
past-i-requires c =
    let (b, kept) = c.loop-i.invariant in
    c.next-o.ensures.of_members (b + 1) kept.of_members (c.next-o.ensures.above (b + 1) kept.of_members kept.of_failed)

pub unwrap-requires : goal.unwrap-requires
unwrap-requires c = c.new.ensures.ascends.1 (subst IsAscending (sym c.loop-i.invariant.1.list) (resolution_ascends c.loop-i.invariant.0 c.args.members.now c.args.failed.now))

pub past-j-requires : goal.past-j-requires
past-j-requires c =
    let (b, kept) = c.loop-i.invariant in
    c.next-o.ensures.of_failed (b + 1) kept.of_failed (c.next-o.ensures.above (b + 1) kept.of_members kept.of_failed)

pub loop-i-preserved : goal.loop-i-preserved
loop-i-preserved c =
    let (b, kept) = c.loop-i.invariant in
    let o = c.next-o.result.0 in
    let later : b + 1 ≤ o = c.next-o.ensures.above (b + 1) kept.of_members kept.of_failed in (
      o,
      record {
        of_members = c.past-i.ensures.passed;
        of_failed = c.past-j.ensures.passed;
        list =
            ap numbers_of c.in_ok-push.ensures.items
            ∙ map_push (λ (q : Obj). q.0) c.loop-i.list.items c.next-o.result
            ∙ ap (λ list. list ++ o ∷ []) kept.list
            ∙ sym (resolution_next c.args.members.now c.args.failed.now c.loop-i.i c.loop-i.j b o kept.of_members kept.of_failed
            (c.next-o.ensures.of_members (b + 1) kept.of_members later) (c.next-o.ensures.of_failed (b + 1) kept.of_failed later) (omega arith) c.next-o.ensures.one);
      },
    )

pub returns-clause-value : goal.returns-clause-value
returns-clause-value c n low high =
    let (b, kept) = c.loop-i.invariant in
    let members = c.args.members.now in
    let failed = c.args.failed.now in
    let same : c.unwrap.result ≡ resolution b members failed = (rw c.unwrap.ensures at c.new.ensures.ok) ∙ kept.list in
    same
    ∙ resolution_same members failed b n (rises members c.len.ensures.ascends) (rises failed c.len-else-i-len.ensures.ascends)
    (passed_all members c.loop-i.i b kept.of_members (omega arith)) (passed_all failed c.loop-i.j b kept.of_failed (omega arith)) low high

pub returns-clause-holds : goal.returns-clause-holds
returns-clause-holds c o =
    let (b, kept) = c.loop-i.invariant in
    let members = c.args.members.now in
    let failed = c.args.failed.now in
    let same : c.unwrap.result ≡ resolution b members failed = (rw c.unwrap.ensures at c.new.ensures.ok) ∙ kept.list in
    ap (λ list. is_in list o) same
    ∙ is_in-resolution members failed b o (rises members c.len.ensures.ascends) (rises failed c.len-else-i-len.ensures.ascends)
    (passed_all members c.loop-i.i b kept.of_members (omega arith)) (passed_all failed c.loop-i.j b kept.of_failed (omega arith))
