use Rattle.std.proofs.Common.{◌≡◌, ◌≤◌, ℕ, List, length, true, ◌∙◌, sym, subst, arith, to_z, of_z}
use Rattle.std.specs.Prelude.{All, FitsSigned}
use Rattle.std.specs.Int.{w128}
use Rattle.std.proofs.lemmas.Int.{ints, to_z-of_z}
use Rattle.tk_border.specs.Levels.{resolution, holds}
use Rattle.tk_border.proofs.UnionLemmas.{resolution_within}
use Rattle.tk_frames.specs.declared.frame.Frame.TheVariants as f
use Rattle.tk_monitor.specs.Kept.{report_on}
use Rattle.tk_monitor.proofs.MessageLemmas.{broken_within, resolution_holds, report_made, same_ok}
use Rattle.tk_monitor.proofs.messages.report.Goals as goal

pub values_over-requires : goal.values_over-requires
values_over-requires c =
    let s = c.args.board.now in
    let n = length s.levels in
    let failed = c.in_ok-failed.failed in
    let members : All (λ o. o ≤ n) c.members.result.now = subst (λ (os : List ℕ). All (λ o. o ≤ n) os) (sym c.members.ensures.value) c.members.ensures.within in
    let out : All (λ o. o ≤ n) failed = subst (λ (os : List ℕ). All (λ o. o ≤ n) os) (sym c.in_ok-failed.ensures) (broken_within s.levels s.members) in
    let is : c.in_ok-asked.asked ≡ resolution n c.members.result.now failed = c.in_ok-asked.ensures.value n members out in
    subst (λ (os : List ℕ). All (λ o. o ≤ n) os) (sym is) (resolution_within n c.members.result.now failed)

pub returns : goal.returns
returns c =
    let s = c.args.board.now in
    let n = length s.levels in
    let failed = c.in_ok-failed.failed in
    let members : All (λ o. o ≤ n) c.members.result.now = subst (λ (os : List ℕ). All (λ o. o ≤ n) os) (sym c.members.ensures.value) c.members.ensures.within in
    let out : All (λ o. o ≤ n) failed = subst (λ (os : List ℕ). All (λ o. o ≤ n) os) (sym c.in_ok-failed.ensures) (broken_within s.levels s.members) in
    let is : c.in_ok-asked.asked ≡ resolution n c.members.result.now failed = c.in_ok-asked.ensures.value n members out in
    let fits : FitsSigned w128 c.border-border.result = omega (arith, ints) in
    let edge = to_z w128 (of_z w128 c.border-border.result) in
    same_ok c.kept.result (f.Report c.args.seq edge failed c.in_ok-values.values) (report_on s c.args.seq)
    (report_made s c.args.seq edge c.members.result.now failed c.in_ok-asked.asked c.in_ok-values.values
    c.members.ensures.value c.in_ok-failed.ensures is c.in_ok-values.ensures (to_z-of_z w128 c.border-border.result fits ∙ c.border-border.ensures))
    c.kept.ensures

pub border-border-requires-clause-held : goal.border-border-requires-clause-held
border-border-requires-clause-held c =
    subst (λ (members : List ℕ). holds c.in_ok-asked.asked members ≡ true) c.members.ensures.value
    (resolution_holds c.members.result.now c.in_ok-failed.failed c.in_ok-asked.asked c.in_ok-asked.ensures.holds)
