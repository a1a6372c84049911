use Rattle.std.proofs.Common.{length, sym, ap, ◌∙◌, arith, get_or, List, Option}
use Rattle.std.specs.Option.{option_map_or}
use Rattle.tk_input.specs.Tallies.{Count}
use Rattle.tk_input.proofs.CountLemmas.{found_at, found_none, longest_found}
use Rattle.tk_input.proofs.tallies.Tallies.longest.Goals as goal

pub index-requires : goal.index-requires
index-requires c =
    omega (arith, ap (λ (counts : List Count). length counts) c.self.view_is, (found_at c.args.self.now c.args.name.now c.place_of.result c.in-Some.place c.place_of.ensures c.in-Some.is).within)

pub returns-in-Some : goal.returns-in-Some
returns-in-Some c =
    let found = found_at c.args.self.now c.args.name.now c.place_of.result c.in-Some.place c.place_of.ensures c.in-Some.is in
    ap (λ (e : Count). e.longest) c.behind-self.view_is
    ∙ ap (λ (e : Count). e.longest) c.index.ensures
    ∙ ap (λ (counts : List Count). (get_or counts c.in-Some.place c.index.result.now).longest) c.self.view_is
    ∙ sym (longest_found c.args.self.now c.args.name.now c.in-Some.place c.index.result.now found)

pub returns-in-None : goal.returns-in-None
returns-in-None c =
    sym (ap (λ (o : Option Count). option_map_or (λ e. e.longest) o 0) (found_none c.args.self.now c.args.name.now c.place_of.result c.place_of.ensures c.in-None.is))
