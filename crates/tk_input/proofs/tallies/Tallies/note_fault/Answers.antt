use Rattle.std.proofs.Common.{◌≡◌, ◌<◌, ◌^◌, List, length, Option, rules, ap, ◌∙◌, arith}
use Rattle.std.specs.Option.{option_map_or}
use Rattle.tk_input.specs.Files.{one_more}
use Rattle.tk_input.specs.Tallies.{Count, faults_of, longest_of}
use Rattle.tk_input.proofs.CountLemmas.{found_at, faults_at, longest_at, never_missing, noted_with}
use Rattle.tk_input.proofs.tallies.Tallies.note_fault.Goals as goal

pub index_mut-tally-requires : goal.index_mut-tally-requires
index_mut-tally-requires c =
    omega (arith, ap (λ (counts : List Count). length counts) c.self.view_is, (found_at c.args.self.now c.args.name.now c.place_of.result c.in-Some.place c.place_of.ensures c.in-Some.is).within)

pub returns-in-Some-clause-notes : goal.returns-in-Some-clause-notes
returns-in-Some-clause-notes c =
    let old = c.args.self.now in
    let items = c.self.inside.list.items in
    let name = c.args.name.now in
    let place = c.in-Some.place in
    let t = c.index_mut-tally.result.now in
    let found = found_at old name c.place_of.result place c.place_of.ensures c.in-Some.is in
    let faults : t.faults ≡ faults_of old name = faults_at old items name place t c.self.view_is found c.index_mut-tally.ensures.value in
    let longest : t.longest ≡ longest_of old name = longest_at old items name place t c.self.view_is found c.index_mut-tally.ensures.value in
    noted_with old items name place t _ _ _ c.self.view_is found c.index_mut-tally.ensures.value (ap (λ (e : Count). e.name) c.tally.view_is)
    (c.saturating_add-tally-inside.ensures ∙ ap one_more (ap (λ (e : Count). e.faults) c.tally.view_is ∙ faults))
    (ap (λ (e : Count). e.longest) c.tally.view_is ∙ longest)

pub returns-in-Some-clause-kept : goal.returns-in-Some-clause-kept
returns-in-Some-clause-kept c =
    let old = c.args.self.now in
    let name = c.args.name.now in
    let place = c.in-Some.place in
    let found = found_at old name c.place_of.result place c.place_of.ensures c.in-Some.is in
    let faults = faults_at old c.self.inside.list.items name place c.index_mut-tally.result.now c.self.view_is found c.index_mut-tally.ensures.value in
    let new = (returns-in-Some-clause-notes c).counted in
    let bound : c.tally.inside.faults < 2 ^ 64 = search rules in
    omega (arith, faults, bound, ap (λ (o : Option Count). option_map_or (λ e. e.faults) o 0) new, ap (λ (e : Count). e.faults) c.tally.view_is)

pub returns-in_default : goal.returns-in_default
returns-in_default c = absurd (never_missing c.args.self.now c.args.name.now c.place_of.result c.place_of.ensures c.in_default.is c.requires)
