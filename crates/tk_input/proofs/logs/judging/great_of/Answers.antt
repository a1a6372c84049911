use Rattle.std.proofs.Common.{◌≡◌, ◌<◌, ℕ, ℤ, List, [], Option, Vec, option_map, All, length, get_or, arith, subst, ap, sym, ◌∙◌}
use Rattle.std.proofs.lemmas.List.Sums.{sum_by_more_le}
use Rattle.tk_base.specs.declared.ids.Obj.{Obj}
use Rattle.tk_input.specs.Judged.{great_object}
use Rattle.tk_input.specs.Logs.{LogSet, IsObject, updates_of}
use Rattle.tk_input.specs.Rows.{logs_in}
use Rattle.tk_input.proofs.GreatLemmas.{great_in_found, great_in_missing, none_more}
use Rattle.tk_input.proofs.RowsLemmas.{get_or-logs_in, length-logs_in}
use Rattle.tk_input.proofs.logs.judging.great_of.Goals as goal

-- the parts of the monitor at hand
parts_here : {A : Type 0} (rows : List (Vec (List (ℕ × ℤ)) A)) (i : ℕ) (row : Vec (List (ℕ × ℤ)) A) (parts : List (List (ℕ × ℤ))) → i < length rows → row ≡ get_or rows i row → parts ≡ row.items → get_or (logs_in rows) i [] ≡ parts
parts_here {A} rows i row parts within is shown = get_or-logs_in rows i row within ∙ ap (λ (r : Vec (List (ℕ × ℤ)) A). r.items) (sym is) ∙ sym shown

pub first_great-requires-clause-objects : goal.first_great-requires-clause-objects
first_great-requires-clause-objects c =
    let same = parts_here c.args.rows.now c.loop-place.place c.index-rows-place.result c.as_slice.result.now c.loop-place-test.true c.index-rows-place.is c.as_slice.ensures.value in
    subst (λ (parts : List (List (ℕ × ℤ))). All (λ part. All (λ p. IsObject c.args.objects p.0) part) parts) same
    (c.requires.objects c.loop-place.place [] (omega (arith, length-logs_in c.args.rows.now, c.loop-place-test.true)))

pub first_great-requires-clause-updates : goal.first_great-requires-clause-updates
first_great-requires-clause-updates c =
    let logs = logs_in c.args.rows.now in
    let same = parts_here c.args.rows.now c.loop-place.place c.index-rows-place.result c.as_slice.result.now c.loop-place-test.true c.index-rows-place.is c.as_slice.ensures.value in
    let within : c.loop-place.place < length logs = omega (arith, length-logs_in c.args.rows.now, c.loop-place-test.true) in
    omega (arith, ap updates_of same, sum_by_more_le updates_of logs c.loop-place.place [] within, c.requires.updates)

pub returns-in-Some : goal.returns-in-Some
returns-in-Some c =
    let s : LogSet = record { logs = logs_in c.args.rows.now; objects = c.args.objects } in
    let same = parts_here c.args.rows.now c.loop-place.place c.index-rows-place.result c.as_slice.result.now c.loop-place-test.true c.index-rows-place.is c.as_slice.ensures.value in
    sym (great_in_found s c.loop-place.place c.in-Some.obj.0 (omega (arith, length-logs_in c.args.rows.now, c.loop-place-test.true)) c.loop-place.invariant
    (ap (λ (parts : List (List (ℕ × ℤ))). great_object c.args.objects parts) same ∙ sym c.in_ok-obj.ensures ∙ ap (λ (o : Option Obj). option_map (λ q. q.0) o) c.in-Some.is))

pub loop-place-preserved : goal.loop-place-preserved
loop-place-preserved c =
    let s : LogSet = record { logs = logs_in c.args.rows.now; objects = c.args.objects } in
    let same = parts_here c.args.rows.now c.loop-place.place c.index-rows-place.result c.as_slice.result.now c.loop-place-test.true c.index-rows-place.is c.as_slice.ensures.value in
    none_more s c.loop-place.place c.loop-place.invariant
    (ap (λ (parts : List (List (ℕ × ℤ))). great_object c.args.objects parts) same ∙ sym c.in_ok-obj.ensures ∙ ap (λ (o : Option Obj). option_map (λ q. q.0) o) c.in_default.is)

pub returns : goal.returns
returns c = sym (great_in_missing (record { logs = logs_in c.args.rows.now; objects = c.args.objects }) (λ k h. c.loop-place.invariant k (omega (arith, length-logs_in c.args.rows.now, c.loop-place-test.false))))
