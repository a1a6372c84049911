use Rattle.std.proofs.Common.{◌≡◌, ℕ, Bool, true, ◌&&◌, not, List, length, get_or, sym, ◌∙◌}
use Rattle.std.specs.Prelude.{nat_le, nat_lt}
use Rattle.std.specs.List.{list_all}
use Rattle.std.proofs.lemmas.Bool.{and_parts, leb-true}
use Rattle.std.proofs.lemmas.List.Sums.{AllPass-from_list_all}
use Rattle.tk_base.specs.Ascending.{ascends}
use Rattle.tk_base.specs.Objects.{is_in}
use Rattle.tk_journal.specs.Refusal.{Known, are_outsiders}
use Rattle.tk_journal.proofs.Content.{values_small}
use Rattle.tk_coord.specs.Checks.{AreWithin, known_in}
use Rattle.tk_coord.proofs.checks.report_refusal.Goals as goal

pub least_member-least-requires-clause-small : goal.least_member-least-requires-clause-small
least_member-least-requires-clause-small c = values_small c.args.values.now (sym c.too_great.ensures ∙ c.in_default.is)

pub not_broken-requires-clause-small : goal.not_broken-requires-clause-small
not_broken-requires-clause-small c = values_small c.args.values.now (sym c.too_great.ensures ∙ c.in_default.is)

-- the failed objects are of the catalogue
outsiders_within : (known : Known) (failed : List ℕ) → are_outsiders known failed ≡ true → AreWithin known.objects failed
outsiders_within known failed are k d within =
    let outside : ℕ → Bool = λ o. nat_le o known.objects && not (is_in known.members o) in
    let each = (and_parts (nat_lt 0 (length failed) && ascends failed) (list_all outside failed) are).1 in
    let at = AllPass-from_list_all outside failed each k d within in
    leb-true (get_or failed k d) known.objects (and_parts (nat_le (get_or failed k d) known.objects) (not (is_in known.members (get_or failed k d))) at).0

pub are_over_both-requires-clause-failed : goal.are_over_both-requires-clause-failed
are_over_both-requires-clause-failed c = outsiders_within (known_in c.args.known) c.args.failed.now (sym c.are_outsiders.ensures ∙ c.if-not-are_outsiders.false)

pub not_broken-requires-clause-failed : goal.not_broken-requires-clause-failed
not_broken-requires-clause-failed c = outsiders_within (known_in c.args.known) c.args.failed.now (sym c.are_outsiders.ensures ∙ c.if-not-are_outsiders.false)
