use Rattle.std.proofs.Common.{◌≡◌, ◌+◌, ℕ, List, [], ◌∷◌, ◌++◌, length, map, sym, ap, ◌∙◌, arith}
use Rattle.std.specs.List.{range_with_len}
use Rattle.tk_border.proofs.RisingLemmas.{counted_more}
use Rattle.tk_journal.specs.Readings.{Progress}
use Rattle.tk_coord.specs.Closing.{said_at}
use Rattle.tk_coord.proofs.RangeLemmas.{map_twice}
use Rattle.tk_coord.proofs.publishing.cut_of.Goals as goal

-- where the places of one monitor more were pushed
one_more : (places : ℕ → List ℕ) (n : ℕ) {items next : List (List ℕ)} {x : List ℕ} → next ≡ items ++ x ∷ [] → x ≡ places (n + 1) → items ≡ map places (range_with_len 1 n)
    → next ≡ map places (range_with_len 1 (n + 1))
one_more places n {items} {next} {x} pushed is before =
    pushed
    ∙ ap (λ (y : List ℕ). items ++ y ∷ []) is
    ∙ ap (λ (l : List (List ℕ)). l ++ places (n + 1) ∷ []) before
    ∙ sym (counted_more places n)

pub loop-other-preserved : goal.loop-other-preserved
loop-other-preserved c =
    one_more (λ mon. (said_at c.args.answers.peers.now c.args.answers.place c.args.answers.here.now mon).places) c.loop-other.other
    c.in_ok-push.ensures.items
    (c.in_ok-try_clone.ensures ∙ ap (λ (p : Progress). p.places) c.behind-answers.view_is ∙ ap (λ (p : Progress). p.places) c.said.ensures)
    c.loop-other.invariant

pub returns : goal.returns
returns c =
    let peers = c.args.answers.peers.now in
    let said = said_at peers c.args.answers.place c.args.answers.here.now in
    let whole : c.loop-other.other ≡ length peers = omega arith in
    c.new.ensures
    ∙ c.loop-other.invariant
    ∙ ap (λ (k : ℕ). map (λ mon. (said mon).places) (range_with_len 1 k)) whole
    ∙ map_twice (λ (p : Progress). p.places) said (range_with_len 1 (length peers))
