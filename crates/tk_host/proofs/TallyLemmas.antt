-- Bytes that are added up as a journal grows.
use Rattle.std.proofs.Common.{◌≡◌, ◌≤◌, ◌<◌, ℕ, ◌+◌, List, [], ◌∷◌, ◌++◌, length, take, get_or, sym, ap, ◌∙◌, subst, arith, length-append, refl}
use Rattle.std.proofs.lemmas.List.{take-append-le, take_all, take_more}
use Rattle.std.proofs.lemmas.List.Sums.{sum_by_push}
use Rattle.tk_base.specs.History.{IsFront}
use Rattle.tk_journal.specs.declared.noted.Noted.{Noted}
use Rattle.tk_ledger.specs.Ledger.{bytes_in}
use Rattle.tk_story.proofs.JoinLemmas.{rest_of}
use Rattle.tk_host.specs.Room.{HasRoom, IsFull, bytes_of, most_bytes}
use Rattle.tk_input.specs.Rows.{capped}
use Rattle.tk_host.specs.Tallying.{IsCounted}
use Rattle.tk_host.specs.declared.tally.Tally.{Tally}

-- at first nothing is
pub counted_none : (j : List Noted) (t : Tally) → t ≡ record { entries = 0; bytes = 0 } → IsCounted j t
counted_none j t is = subst (IsCounted j) (sym is) (record { within = omega arith; bytes = refl })

-- what is counted stays so as the journal grows
pub counted_grown : (a b : List Noted) (t t' : Tally) → IsFront a b → t' ≡ t → IsCounted a t → IsCounted b t'
counted_grown a b t t' front same h =
    let r = rest_of a b front in
    let here : take t.entries b ≡ take t.entries a = ap (take t.entries) r.is ∙ take-append-le t.entries a r.rest h.within in
    let longer = ap (λ (j : List Noted). length j) r.is in
    subst (IsCounted b) (sym same)
    (record {
      within = omega (arith, h.within, longer, length-append a r.rest);
      bytes = h.bytes ∙ ap (λ (j : List Noted). capped (bytes_of j)) (sym here);
    })

-- one entry more is counted
pub capped_more : (j : List Noted) (i : ℕ) (entry : Noted) (old new : ℕ) → i < length j → get_or j i entry ≡ entry → old ≡ capped (bytes_of (take i j)) → new ≡ capped (old + bytes_in entry) → new ≡ capped (bytes_of (take (i + 1) j))
capped_more j i entry old new within at was is =
    let next : take (i + 1) j ≡ take i j ++ entry ∷ [] = take_more j i entry within ∙ ap (λ (e : Noted). take i j ++ e ∷ []) at in
    let sum = ap bytes_of next in
    omega (arith, was, is, sum, sum_by_push bytes_in (take i j) entry)

-- all are counted
pub capped_all : (j : List Noted) (i bytes : ℕ) → length j ≤ i → bytes ≡ capped (bytes_of (take i j)) → bytes ≡ capped (bytes_of j)
capped_all j i bytes whole is = is ∙ ap (λ (x : List Noted). capped (bytes_of x)) (take_all i j whole)

module _ (j : List Noted) (t : Tally) (h : IsCounted j t) (all : t.entries ≡ length j) where
  bytes_are : t.bytes ≡ capped (bytes_of j)
  bytes_are = capped_all j t.entries t.bytes (omega (arith, all)) h.bytes

  -- a tally that is not full is that of a journal with room
  pub room_left : t.bytes ≤ most_bytes → HasRoom j
  room_left few = omega (arith, bytes_are, few)

  pub none_left : most_bytes < t.bytes → IsFull j
  none_left many = omega (arith, bytes_are, many)
