use Rattle.std.proofs.Common.{rules, of_calls, sym, ◌∙◌, ◌≡◌, ◌<◌, arith, get_or, length, ltb}
use Rattle.std.proofs.lemmas.List.{length-map}
use Rattle.std.proofs.lemmas.Fn.{always_returns_same}
use Rattle.tk_base.specs.Ascending.{numbers_of}
use Rattle.tk_base.specs.declared.ids.Obj.{Obj}
use Rattle.tk_border.proofs.PassedLemmas.{not_here, passed_missed}
use Rattle.tk_rank.proofs.ExchangeLemmas.{parted, searched}
use Rattle.tk_rank.proofs.SidesLemmas.{number_at}
use Rattle.tk_rank.proofs.sides.place_of.Goals.{else-place-list-via-then-place-list+else-list-place, else-place-list-via-else-place-list}
use Rattle.tk_rank.proofs.sides.place_of.Goals as goal

-- the object is not at the place
missed : (c : goal.Joined-else-place-list) → c.partition_point-place.result < length (numbers_of c.args.list.now) → get_or (numbers_of c.args.list.now) c.partition_point-place.result 0 ≡ c.args.o.0 → ⊥
missed c more at =
    let list = c.args.list.now in
    let place = c.partition_point-place.result in
    let long = length-map list (λ (x : Obj). x.0) in
    let read = number_at list place (omega (arith, long, more)) in
    elim c.else-place-list.branch [
      | else-place-list-via-then-place-list+else-list-place w ↦ w.if-list-place.false (sym read ∙ at)
      | else-place-list-via-else-place-list w ↦ omega (arith, long, more, w.if-place-list.false)
    ]

pub returns-clause-none : goal.returns-clause-none
returns-clause-none c =
    let list = c.args.list.now in
    let n = numbers_of list in
    let o = c.args.o.0 in
    let place = c.partition_point-place.result in
    let passed = searched list o place c.partition_point-place.ensures.bound
    (c.partition_point-place.ensures.partitioned (λ (y : Obj). ltb y.0 o) (always_returns_same _ _ _ (λ a r f k. search (rules, of_calls))) (parted list o c.requires)) in
    not_here n place o (passed_missed n place o c.requires passed (missed c)) passed.passed
