use Rattle.std.proofs.Common.{◌≡◌, ◌≤◌, ℕ, ℤ, List, Vec, All, length, arith, subst, ap, sym, ◌∙◌}
use Rattle.std.proofs.lemmas.List.FromFn.{length-map-range_with_len}
use Rattle.tk_input.specs.Judged.{Assigned, feeders_of, last_monitor, logs_by_monitor}
use Rattle.tk_input.specs.Logs.{IsObject}
use Rattle.tk_input.specs.Rows.{logs_in}
use Rattle.tk_input.proofs.LimitsLemmas.{all_logs, few_monitors}
use Rattle.tk_input.proofs.RowsLemmas.{length-logs_in}
use Rattle.tk_input.proofs.logs.Logs.new.Goals as goal

-- the rows are the parts of each monitor
rows_are : {A : Type 0} (lent rows : List (Vec (List (ℕ × ℤ)) A)) (some shared parts : Assigned) → lent ≡ rows → logs_in rows ≡ logs_by_monitor some → some ≡ shared → shared ≡ parts → logs_in lent ≡ logs_by_monitor parts
rows_are {A} lent rows some shared parts same made seen whole = ap (λ (rs : List (Vec (List (ℕ × ℤ)) A)). logs_in rs) same ∙ made ∙ ap logs_by_monitor (seen ∙ whole)

pub judge-requires-clause-monitors : goal.judge-requires-clause-monitors
judge-requires-clause-monitors c =
    let same = rows_are c.as_slice-2.result.now c.in_ok-rows.rows.items c.as_slice.result.now c.in_ok-shared.shared.items c.args.parts.items c.as_slice-2.ensures.value c.in_ok-rows.ensures c.as_slice.ensures.value c.in_ok-shared.ensures in
    omega (arith, length-logs_in c.as_slice-2.result.now, ap (λ (ls : List (List (List (ℕ × ℤ)))). length ls) same, few_monitors c.args.parts.items (λ k d h. (c.requires.monitors k d h).1))

pub judge-requires-clause-objects : goal.judge-requires-clause-objects
judge-requires-clause-objects c =
    let same = rows_are c.as_slice-2.result.now c.in_ok-rows.rows.items c.as_slice.result.now c.in_ok-shared.shared.items c.args.parts.items c.as_slice-2.ensures.value c.in_ok-rows.ensures c.as_slice.ensures.value c.in_ok-shared.ensures in
    subst (λ (ls : List (List (List (ℕ × ℤ)))). All (λ parts. All (λ part. All (λ p. IsObject c.args.objects p.0) part) parts) ls) (sym same)
    (all_logs (λ part. All (λ p. IsObject c.args.objects p.0) part) c.args.parts.items c.requires.objects)

pub judge-requires-clause-lengths : goal.judge-requires-clause-lengths
judge-requires-clause-lengths c =
    let same = rows_are c.as_slice-2.result.now c.in_ok-rows.rows.items c.as_slice.result.now c.in_ok-shared.shared.items c.args.parts.items c.as_slice-2.ensures.value c.in_ok-rows.ensures c.as_slice.ensures.value c.in_ok-shared.ensures in
    subst (λ (ls : List (List (List (ℕ × ℤ)))). All (λ parts. All (λ part. length part ≤ 1000000) parts) ls) (sym same)
    (all_logs (λ part. length part ≤ 1000000) c.args.parts.items c.requires.lengths)

pub returns-clause-made : goal.returns-clause-made
returns-clause-made c =
    ap (λ (ls : List (List (List (ℕ × ℤ)))). record { logs = ls; objects = c.args.objects }) (c.in_ok-rows.ensures ∙ ap logs_by_monitor (c.as_slice.ensures.value ∙ c.in_ok-shared.ensures))

pub returns-clause-last : goal.returns-clause-last
returns-clause-last c =
    let made : logs_in c.in_ok-rows.rows.items ≡ logs_by_monitor c.args.parts.items = c.in_ok-rows.ensures ∙ ap logs_by_monitor (c.as_slice.ensures.value ∙ c.in_ok-shared.ensures) in
    ap (λ (ls : List (List (List (ℕ × ℤ)))). length ls) made ∙ length-map-range_with_len (feeders_of c.args.parts.items) 1 (last_monitor c.args.parts.items)
