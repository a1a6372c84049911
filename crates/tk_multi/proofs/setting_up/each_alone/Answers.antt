use Rattle.std.proofs.Common.{◌≡◌, ℕ, ◌+◌, ◌<◌, ◌≤◌, List, [], ◌∷◌, ◌++◌, Ok, Err, All, length, take, get_or, ap, sym, subst, ◌∙◌, arith}
use Rattle.std.proofs.lemmas.List.{take_all, take_more}
use Rattle.std.proofs.lemmas.List.Elements.{All-push}
use Rattle.tk_input.specs.Logs.{IsCut}
use Rattle.tk_multi.specs.Alone.{AreOfOneSize, all_settings, alone_with, alones_of, each_with, settings_for, updates_together}
use Rattle.tk_multi.specs.Queries.{QueryView}
use Rattle.tk_multi.specs.declared.alone.Alone.{Alone}
use Rattle.tk_multi.specs.declared.fault.MultiFault.TheVariants.{TooManyUpdates}
use Rattle.tk_multi.proofs.SetLemmas.{all_made, are_set, each_at, each_length, set_at, set_length, sizes_of, together_more, too_many}
use Rattle.tk_multi.proofs.setting_up.each_alone.Goals as goal

pub bounds-queries-i : goal.bounds-queries-i
bounds-queries-i c =
    let names = c.args.names.now in
    let set = are_set names c.monitors.result c.all-queries.result.now c.in_ok-settings.settings.items c.in_ok-settings.ensures.ok in
    let same = set_length names c.monitors.result c.all-queries.result.now c.in_ok-settings.settings.items set in
    let end = c.len-i-end.ensures in let low = c.loop-i-test.true in let ok = c.in_ok-settings.settings.ok.0 in
    omega (arith, same, end, low, ok)

-- the query at a place alone, as the whole list has it
pub loop-i-preserved : goal.loop-i-preserved
loop-i-preserved c =
    let names = c.args.names.now in
    let logs = c.args.logs.now in
    let queries = c.all-queries.result.now in
    let settings = c.in_ok-settings.settings.items in
    let whole = each_with names logs queries settings in
    let i = c.loop-i.i in
    let one = c.in_ok-alone.alone in
    let list = c.loop-i.list.items in
    let set = are_set names c.monitors.result queries settings c.in_ok-settings.ensures.ok in
    let same = set_length names c.monitors.result queries settings set in
    let within : i < length settings = (let end = c.len-i-end.ensures in let low = c.loop-i-test.true in let ok = c.in_ok-settings.settings.ok.0 in omega (arith, end, low, ok)) in
    let inside : i < length queries = omega (arith, within, same) in
    let query = c.index-queries-i.result in
    let own = c.index.result.now in
    let value : one ≡ alone_with names logs query.prefix own = c.in_ok-alone.ensures.value ∙ ap (λ (p : List ℕ). alone_with names logs p own) c.prefix.ensures in
    let at : one ≡ get_or whole i one = value ∙ sym (each_at names logs queries settings i query own one same inside c.index-queries-i.is c.index.ensures) in
    let given : settings_for names (length logs.logs) query ≡ Ok own =
    subst (λ (n : ℕ). settings_for names n query ≡ Ok own) c.monitors.ensures.value (set_at names c.monitors.result queries settings i query own set within c.index-queries-i.is c.index.ensures) in
    let sized : AreOfOneSize one = subst AreOfOneSize (sym value) (sizes_of names logs query own given (subst (λ (a : Alone). IsCut a.logs.logs a.from) value c.in_ok-alone.ensures.cut)) in
    let next : c.push.new.self.items ≡ take (i + 1) whole =
    c.in_ok-push.ensures.items ∙ ap (λ (l : List Alone). l ++ one ∷ []) c.loop-i.invariant.made ∙ ap (λ (a : Alone). take i whole ++ a ∷ []) at
    ∙ sym (take_more whole i one (let e = each_length names logs queries settings same in omega (arith, e, within))) in
    record {
      made = next;
      total = (let t = c.loop-i.invariant.total in let u = c.updates_in-updates.ensures.value in let m = together_more list one in omega (arith, t, u, m)) ∙ sym (ap updates_together c.in_ok-push.ensures.items);
      few = let f = c.if-updates-gt-MAX_UPDATES.false in omega (arith, f);
      sizes = subst (λ (l : List Alone). All AreOfOneSize l) (sym c.in_ok-push.ensures.items) (All-push AreOfOneSize list one c.loop-i.invariant.sizes sized);
    }

pub returns-then-updates-gt-MAX_UPDATES-clause-err : goal.returns-then-updates-gt-MAX_UPDATES-clause-err
returns-then-updates-gt-MAX_UPDATES-clause-err c =
    let names = c.args.names.now in
    let logs = c.args.logs.now in
    let queries = c.all-queries.result.now in
    let settings = c.in_ok-settings.settings.items in
    let whole = each_with names logs queries settings in
    let i = c.loop-i.i in
    let one = c.in_ok-alone.alone in
    let list = c.loop-i.list.items in
    let set = are_set names c.monitors.result queries settings c.in_ok-settings.ensures.ok in
    let same = set_length names c.monitors.result queries settings set in
    let within : i < length settings = (let end = c.len-i-end.ensures in let low = c.loop-i-test.true in let ok = c.in_ok-settings.settings.ok.0 in omega (arith, end, low, ok)) in
    let inside : i < length queries = omega (arith, within, same) in
    let query = c.index-queries-i.result in
    let own = c.index.result.now in
    let at : one ≡ get_or whole i one =
    c.in_ok-alone.ensures.value ∙ ap (λ (p : List ℕ). alone_with names logs p own) c.prefix.ensures
    ∙ sym (each_at names logs queries settings i query own one same inside c.index-queries-i.is c.index.ensures) in
    let front : list ++ one ∷ [] ≡ take (i + 1) whole =
    ap (λ (l : List Alone). l ++ one ∷ []) c.loop-i.invariant.made ∙ ap (λ (a : Alone). take i whole ++ a ∷ []) at
    ∙ sym (take_more whole i one (let e = each_length names logs queries settings same in omega (arith, e, within))) in
    let many : 4000000 < updates_together (take (i + 1) whole) = subst (λ (l : List Alone). 4000000 < updates_together l) front
    (let t = c.loop-i.invariant.total in let u = c.updates_in-updates.ensures.value in let m = together_more list one in let f = c.if-updates-gt-MAX_UPDATES.true in omega (arith, t, u, m, f)) in
    subst (λ (q : List QueryView). alones_of names logs q ≡ Err TooManyUpdates) c.all-queries.ensures.value
    (too_many names logs queries settings (i + 1) (subst (λ (n : ℕ). all_settings names n queries ≡ Ok settings) c.monitors.ensures.value c.in_ok-settings.ensures.ok) many)

pub returns-clause-ok : goal.returns-clause-ok
returns-clause-ok c =
    let names = c.args.names.now in
    let logs = c.args.logs.now in
    let queries = c.all-queries.result.now in
    let settings = c.in_ok-settings.settings.items in
    let set = are_set names c.monitors.result queries settings c.in_ok-settings.ensures.ok in
    let same = set_length names c.monitors.result queries settings set in
    let past : length settings ≤ c.loop-i.i = (let end = c.len-i-end.ensures in let low = c.loop-i-test.false in let ok = c.in_ok-settings.settings.ok.0 in omega (arith, end, low, ok)) in
    let whole = each_with names logs queries settings in
    let made : c.loop-i.list.items ≡ whole = c.loop-i.invariant.made ∙ take_all c.loop-i.i whole (let e = each_length names logs queries settings same in omega (arith, e, past)) in
    subst (λ (q : List QueryView). alones_of names logs q ≡ Ok c.loop-i.list.items) c.all-queries.ensures.value
    (all_made names logs queries settings c.loop-i.list.items (subst (λ (n : ℕ). all_settings names n queries ≡ Ok settings) c.monitors.ensures.value c.in_ok-settings.ensures.ok) made
    (let t = c.loop-i.invariant.total in let f = c.loop-i.invariant.few in omega (arith, t, f)))

pub returns-clause-count : goal.returns-clause-count
returns-clause-count c =
    let names = c.args.names.now in
    let logs = c.args.logs.now in
    let queries = c.all-queries.result.now in
    let settings = c.in_ok-settings.settings.items in
    let set = are_set names c.monitors.result queries settings c.in_ok-settings.ensures.ok in
    let same = set_length names c.monitors.result queries settings set in
    let past : length settings ≤ c.loop-i.i = (let end = c.len-i-end.ensures in let low = c.loop-i-test.false in let ok = c.in_ok-settings.settings.ok.0 in omega (arith, end, low, ok)) in
    let whole = each_with names logs queries settings in
    let each = each_length names logs queries settings same in
    let made : length c.loop-i.list.items ≡ length whole = ap (λ (l : List Alone). length l) (c.loop-i.invariant.made ∙ take_all c.loop-i.i whole (omega (arith, each, past))) in
    let read : length queries ≡ length c.args.queries.now = ap (λ (l : List QueryView). length l) c.all-queries.ensures.value in
    omega (arith, made, each, same, read)
