use Rattle.std.proofs.Common.{◌≡◌, ◌+◌, ◌-◌, ℕ, false, length, sym, ap, ◌∙◌, arith}
use Rattle.tk_journal.specs.Readings.{Progress}
use Rattle.tk_coord.specs.Closing.{said_at}
use Rattle.std.proofs.lemmas.List.Folds.{list_all-map}
use Rattle.std.specs.List.{range_with_len}
use Rattle.tk_journal.proofs.SoundLemmas.{all_of_range}
use Rattle.tk_coord.proofs.RangeLemmas.{one_fails}
use Rattle.tk_coord.proofs.publishing.all_last.Goals as goal

pub returns-then-not-said : goal.returns-then-not-said
returns-then-not-said c =
    let peers = c.args.answers.peers.now in
    let said = said_at peers c.args.answers.place c.args.answers.here.now in
    let next : 1 + c.loop-other.other ≡ c.loop-other.other + 1 = omega arith in
    let fails : (said (1 + c.loop-other.other)).last ≡ false =
    ap (λ (k : ℕ). (said k).last) next ∙ ap (λ (p : Progress). p.last) (sym c.said.ensures) ∙ ap (λ (p : Progress). p.last) (sym c.behind-answers.view_is) ∙ c.if-not-said.true in
    sym (list_all-map (λ (p : Progress). p.last) said (range_with_len 1 (length peers))
    ∙ one_fails (λ mon. (said mon).last) 1 (length peers) (1 + c.loop-other.other) (omega arith) (omega arith) fails)

pub returns : goal.returns
returns c =
    let peers = c.args.answers.peers.now in
    let said = said_at peers c.args.answers.place c.args.answers.here.now in
    sym (list_all-map (λ (p : Progress). p.last) said (range_with_len 1 (length peers))
    ∙ all_of_range (λ mon. (said mon).last) 1 (length peers) (λ mon low high.
    let back : mon ≡ 1 + (mon - 1) = omega (arith, low) in
    ap (λ (k : ℕ). (said k).last) back ∙ c.loop-other.invariant (mon - 1) (omega (arith, low, high))))
