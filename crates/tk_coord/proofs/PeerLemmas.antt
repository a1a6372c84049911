-- Links that change one after another.
use Rattle.std.proofs.Common.{◌≡◌, ◌≢◌, ℕ, suc, ◌<◌, ◌≤◌, ◌==◌, Bool, List, [], ◌∷◌, ◌++◌, Option, Some, set, sym, ap, ◌∙◌, subst, arith, inl, inr, eq-eqb, ne_eqb}
use Rattle.std.specs.Prelude.{slice_get, if◌then◌else◌}
use Rattle.std.proofs.lemmas.List.Sums.{fold_push}
use Rattle.std.proofs.lemmas.Option.{slice_get_within}
use Rattle.tk_rows.specs.declared.mon_change.MonChange.{MonChange}
use Rattle.tk_journal.specs.Readings.{Progress}
use Rattle.tk_coord.specs.declared.answer.Answer.{Answer}
use Rattle.tk_coord.specs.declared.peer.Peer.{Peer}
use Rattle.tk_coord.specs.Keeping.{AreChanged, one_more, assigned_at}
use Rattle.tk_coord.proofs.ElementLemmas.{read_set}

-- the peers up to a place have changed, and the others have not
pub record AreChangedTo (change : ℕ → Peer → Peer) (old now : List Peer) (place : ℕ) : Type 0 where
  pub done : (i : ℕ) (l : Peer) → i < place → slice_get now i ≡ Some l → (m : Peer) × (slice_get old i ≡ Some m) × (l ≡ change i m)
  pub rest : (i : ℕ) (l : Peer) → place ≤ i → slice_get now i ≡ Some l → slice_get old i ≡ Some l

-- the changes of one more monitor
more_changes : (mon : ℕ) (changes : List MonChange) (c : MonChange) (l : Peer)
    → assigned_at mon (changes ++ c ∷ []) l ≡ (if c.mon.0 == mon then one_more (assigned_at mon changes l) else assigned_at mon changes l)
more_changes mon changes c l = fold_push (λ (x : Peer) (d : MonChange). if d.mon.0 == mon then one_more x else x) l changes c

-- the peers after the changes of one more monitor
pub assigned_more : (changes : List MonChange) (c : MonChange) (old now : List Peer) (place : ℕ) (l m : Peer) → c.mon.0 ≡ suc place → slice_get now place ≡ Some l → m ≡ one_more l
    → AreChanged (λ i x. assigned_at (suc i) changes x) old now → AreChanged (λ i x. assigned_at (suc i) (changes ++ c ∷ []) x) old (set now place m)
assigned_more changes c old now place l m named at new h i x is =
    elim (read_set now place i m x (slice_get_within now place l at) is) [
      | inl here ↦
          let before = h place l at in
          let after = assigned_at (suc i) changes before.0 in
          let own : c.mon.0 ≡ suc i = named ∙ ap suc (sym here.0) in (
            before.0,
            ap (slice_get old) here.0 ∙ before.1,
            here.1 ∙ new ∙ ap one_more before.2
                ∙ ap (λ k. one_more (assigned_at (suc k) changes before.0)) (sym here.0)
                ∙ sym (more_changes (suc i) changes c before.0 ∙ ap (λ b. if b then one_more after else after) (eq-eqb c.mon.0 (suc i) own)),
          )
      | inr other ↦
          let before = h i x other.1 in
          let after = assigned_at (suc i) changes before.0 in
          let apart : c.mon.0 ≢ suc i = λ e. other.0 (let f = named in omega (arith, e, f)) in (
            before.0,
            before.1,
            before.2 ∙ sym (more_changes (suc i) changes c before.0 ∙ ap (λ b. if b then one_more after else after) (ne_eqb c.mon.0 (suc i) apart)),
          )
    ]

-- peers with the same fields are one
pub same_peer : (x y : Peer) → x.assigns ≡ y.assigns → x.answer ≡ y.answer → x.progress ≡ y.progress → x.waits ≡ y.waits → x ≡ y
same_peer x y assigns answer progress waits =
    ap (λ (k : ℕ). record { assigns = k; answer = x.answer; progress = x.progress; waits = x.waits }) assigns
    ∙ ap (λ (a : Option Answer). record { assigns = y.assigns; answer = a; progress = x.progress; waits = x.waits }) answer
    ∙ ap (λ (p : Option Progress). record { assigns = y.assigns; answer = y.answer; progress = p; waits = x.waits }) progress
    ∙ ap (λ (w : Bool). record { assigns = y.assigns; answer = y.answer; progress = y.progress; waits = w }) waits

-- the changes of one more monitor, where it has its peer
pub assigned_next : (changes more : List MonChange) (c : MonChange) (old now : List Peer) (place : ℕ) (l m : Peer)
    → more ≡ changes ++ c ∷ [] → c.mon.0 ≡ suc place → slice_get now place ≡ Some l → m ≡ one_more l
    → AreChanged (λ i x. assigned_at (suc i) changes x) old now → AreChanged (λ i x. assigned_at (suc i) more x) old (set now place m)
assigned_next changes more c old now place l m is named at new h =
    subst (λ (cs : List MonChange). AreChanged (λ i x. assigned_at (suc i) cs x) old (set now place m)) (sym is) (assigned_more changes c old now place l m named at new h)
