use Rattle.std.proofs.Common.{◌≡◌, ◌++◌, ◌∷◌, [], List, length, ◌∙◌, ap, sym, ℕ}
use Rattle.std.specs.Prelude.{ℤ, pos, replicate, vec_len}
use Rattle.tk_recent.specs.Kept.{opposite}
use Rattle.tk_recent.proofs.KeptLemmas.{kept_ticked}
use Rattle.tk_recent.proofs.recent.Recent.tick.Goals as goal

pub invariant_of-self-2 : goal.invariant_of-self-2
invariant_of-self-2 c =
    let s = c.self.inside in
    let joined : c.push_back.new.self.items ≡ s.ended.items ++ opposite s.sums.items ∷ [] =
    c.in_ok-push_back.ensures.items ∙ ap (λ (last : List (ℕ × ℤ)). s.ended.items ++ last ∷ []) (c.in_ok-last.ensures ∙ ap opposite c.deref.ensures.value) in
    let size : vec_len s.sums ≡ length s.sums.items = sym c.deref.ensures.len ∙ ap (λ (xs : List ℤ). length xs) c.deref.ensures.value in
    kept_ticked s.width s.ended.items c.push_back.new.self.items c.oldest.new.ended.items s.sums.items c.fill.new.self.items s.leaves c.oldest.result s.told
    c.self.invariant joined c.oldest.ensures.stays (c.fill.ensures.items (λ y is. is) ∙ ap (λ n. replicate n (pos 0)) size) c.oldest.ensures.leaves
