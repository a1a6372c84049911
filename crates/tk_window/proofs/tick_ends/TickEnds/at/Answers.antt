use Rattle.std.proofs.Common.{◌≡◌, ◌∙◌, ◌+◌, ◌<◌, ◌++◌, ◌∷◌, ℕ, List, [], Some, Option, length, map, take, sym, ap, subst, arith}
use Rattle.std.specs.List.{zip}
use Rattle.std.proofs.lemmas.Option.{get_or_from_slice_get}
use Rattle.tk_window.specs.Expanded.{ends_shown, rows_shown}
use Rattle.tk_window.specs.TickEnds.{all_of, ticks_at, ticks_in}
use Rattle.tk_window.proofs.TickEndsLemmas.{found_all, found_next, found_none, length-rows, ticks_here}
use Rattle.tk_window.proofs.tick_ends.TickEnds.at.Goals as goal

abbrev ticks_of : List (List ℕ) × List ℕ → Option (List ℕ)
ticks_of p = ticks_in p.0 p.1

pub returns-in_default : goal.returns-in_default
returns-in_default c =
    let rows = c.self.inside.rows.items in
    let cut = c.args.cut.now in
    let j = c.loop-j.j in
    let pairs = length-rows rows cut in
    let inside : j < length rows = omega (arith, c.self.inside.rows.ok.0) in
    let within : j < length cut = omega arith in
    sym (ap (λ (ends : List (List (List ℕ))). ticks_at ends cut) (sym c.self.view_is)
    ∙ found_none ticks_of (zip (rows_shown rows) cut) j ([], []) (omega (arith, pairs))
    (ticks_here rows cut j c.at.result.now c.index.result.now (ends_shown c.as_slice.result.now) c.in_ok-ticks.field-0 inside within c.index.ensures (sym (get_or_from_slice_get cut j c.at.result.now [] c.at.ensures))
    (ap ends_shown c.as_slice.ensures.value) c.in_ok-ticks.ensures ∙ c.in_default.is))

pub loop-j-preserved : goal.loop-j-preserved
loop-j-preserved c =
    let rows = c.self.inside.rows.items in
    let cut = c.args.cut.now in
    let j = c.loop-j.j in
    let pairs = length-rows rows cut in
    let inside : j < length rows = omega (arith, c.self.inside.rows.ok.0) in
    let within : j < length cut = omega arith in
    let before : all_of (map ticks_of (take j (zip (rows_shown rows) cut))) ≡ Some c.loop-j.list.items =
    subst (λ (ends : List (List (List ℕ))). all_of (map ticks_of (take j (zip ends cut))) ≡ Some c.loop-j.list.items) (sym c.self.view_is) c.loop-j.invariant in
    let next = found_next ticks_of (zip (rows_shown rows) cut) j ([], []) c.loop-j.list.items c.in-Some.ticks (omega (arith, pairs)) before
    (ticks_here rows cut j c.at.result.now c.index.result.now (ends_shown c.as_slice.result.now) c.in_ok-ticks.field-0 inside within c.index.ensures (sym (get_or_from_slice_get cut j c.at.result.now [] c.at.ensures))
    (ap ends_shown c.as_slice.ensures.value) c.in_ok-ticks.ensures ∙ c.in-Some.is) in
    subst (λ (ends : List (List (List ℕ))). all_of (map ticks_of (take (j + 1) (zip ends cut))) ≡ Some (c.loop-j.list.items ++ c.in-Some.ticks ∷ [])) c.self.view_is next
    ∙ ap (λ (ts : List (List ℕ)). Some ts) (sym c.in_ok-push.ensures.items)

pub returns : goal.returns
returns c =
    let rows = c.self.inside.rows.items in
    let cut = c.args.cut.now in
    let pairs = length-rows rows cut in
    let before : all_of (map ticks_of (take c.loop-j.j (zip (rows_shown rows) cut))) ≡ Some c.loop-j.list.items =
    subst (λ (ends : List (List (List ℕ))). all_of (map ticks_of (take c.loop-j.j (zip ends cut))) ≡ Some c.loop-j.list.items) (sym c.self.view_is) c.loop-j.invariant in
    ap (λ (ts : List (List ℕ)). Some ts) c.new.ensures
    ∙ sym (found_all ticks_of (zip (rows_shown rows) cut) c.loop-j.j c.loop-j.list.items (omega (arith, pairs, c.self.inside.rows.ok.0)) before)
    ∙ ap (λ (ends : List (List (List ℕ))). ticks_at ends cut) c.self.view_is
