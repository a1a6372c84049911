-- An index of a journal, and one more entry.
use Rattle.std.proofs.Common.{◌≡◌, ℕ, suc, ◌+◌, ◌-◌, ◌<◌, ◌≤◌, List, [], ◌∷◌, ◌++◌, length, get_or, Option, Some, None, sym, ap, ◌∙◌, subst, arith, inl, inr, cond, eq-eqb, ne_eqb, set, take, drop}
use Rattle.std.specs.Prelude.{slice_get, slice_index}
use Rattle.std.specs.List.{filter_map}
use Rattle.std.proofs.lemmas.Bool.{cases_lt}
use Rattle.std.proofs.lemmas.List.{length-append, get_or_append_left, append-nil, take_at}
use Rattle.std.proofs.lemmas.List.Elements.{filter_map-append}
use Rattle.std.proofs.Math.Seq.{get_or-append_seam}
use Rattle.std.proofs.lemmas.Option.{slice_get-get_or}
use Rattle.tk_journal.specs.declared.noted.Noted.{Noted}
use Rattle.std.specs.Global.{Vec}
use Rattle.std.specs.Prelude.{vec_len, vec_capacity}
use Rattle.tk_base.specs.declared.ids.Mon.{Mon}
use Rattle.tk_base.proofs.ListLemmas.{one_none, one_some}
use Rattle.tk_frames.specs.declared.frame.Frame.{Frame}
use Rattle.tk_journal.specs.declared.noted.Noted.TheVariants as n
use Rattle.tk_journal.specs.Links.{sent_to}
use Rattle.tk_coord.specs.Journal.{IsIndex, AreIndexed, HasRoom}
use Rattle.tk_coord.proofs.ElementLemmas.{read_set, slice_get-front, slice_get-left, slice_get-seam}

-- an entry that reads as nothing leaves the index as it is
pub index_skip : {X : Type 0} (read : Noted → Option X) (journal : List Noted) (places : List ℕ) (e : Noted) → read e ≡ None → IsIndex read journal places → IsIndex read (journal ++ e ∷ []) places
index_skip {X} read journal places e none at =
    let same : filter_map read (journal ++ e ∷ []) ≡ filter_map read journal =
    filter_map-append read journal (e ∷ []) ∙ ap (λ (r : List X). filter_map read journal ++ r) (one_none read e none) ∙ append-nil (filter_map read journal) in
    record {
      count = at.count ∙ sym (ap length same);
      each = λ i within. let (x, here, is) = at.each i within in
          (x, slice_get-front journal (e ∷ []) (slice_index places i) x here, is ∙ ap (λ (r : List X). slice_get r i) (sym same));
    }

-- the place of an entry that reads as something is one more of the index
pub index_push : {X : Type 0} (read : Noted → Option X) (journal : List Noted) (places : List ℕ) (e : Noted) (x : X) → read e ≡ Some x → IsIndex read journal places
    → IsIndex read (journal ++ e ∷ []) (places ++ length journal ∷ [])
index_push {X} read journal places e x some at =
    let found = filter_map read journal in
    let more : filter_map read (journal ++ e ∷ []) ≡ found ++ x ∷ [] =
    filter_map-append read journal (e ∷ []) ∙ ap (λ (r : List X). found ++ r) (one_some read e x some) in
    record {
      count = length-append places (length journal ∷ []) ∙ ap (λ n. n + 1) at.count ∙ sym (length-append found (x ∷ [])) ∙ sym (ap length more);
      each = λ i within. elim (cases_lt i (length places)) [
        | inl lt ↦
            let (y, here, is) = at.each i lt in
            let place : slice_index (places ++ length journal ∷ []) i ≡ slice_index places i = get_or_append_left places (length journal ∷ []) 0 i lt in
            let kept : slice_get (filter_map read (journal ++ e ∷ [])) i ≡ slice_get found i =
            ap (λ (r : List X). slice_get r i) more ∙ slice_get-left found (x ∷ []) i (omega (arith, at.count)) in
            (y, ap (λ p. slice_get (journal ++ e ∷ []) p) place ∙ slice_get-front journal (e ∷ []) (slice_index places i) y here, is ∙ sym kept)
        | inr ge ↦
            let last : i ≡ length places = omega (arith, length-append places (length journal ∷ [])) in
            let place : slice_index (places ++ length journal ∷ []) i ≡ length journal =
            ap (λ n. slice_index (places ++ length journal ∷ []) n) last ∙ get_or-append_seam places (length journal) [] 0 in
            let here : slice_get (filter_map read (journal ++ e ∷ [])) i ≡ Some x =
            ap (λ (r : List X). slice_get r i) more ∙ ap (λ n. slice_get (found ++ x ∷ []) n) (last ∙ at.count) ∙ slice_get-seam found x in
            (e, ap (λ p. slice_get (journal ++ e ∷ []) p) place ∙ slice_get-seam journal e, some ∙ sym here)
      ];
    }

-- a frame to a monitor is noted in its list, and no other list changes
pub sent_more : (sent : List (Vec ℕ)) (journal : List Noted) (mon : Mon) (frame : Frame) (v w : Vec ℕ) → 0 < mon.0 → mon.0 ≤ length sent → slice_get sent (mon.0 - 1) ≡ Some v
    → w.items ≡ v.items ++ length journal ∷ [] → AreIndexed journal sent → AreIndexed (journal ++ n.Sent mon frame ∷ []) (set sent (mon.0 - 1) w)
sent_more sent journal mon frame v w some within old new at j u is =
    elim (read_set sent (mon.0 - 1) j w u (omega arith) is) [
      | inl same ↦
          let here : mon.0 ≡ suc j = omega (arith, same.0) in
          let read : sent_to (suc j) (n.Sent mon frame) ≡ Some frame = ap (λ b. cond b (Some frame) None) (eq-eqb mon.0 (suc j) here) in
          let items : u.items ≡ v.items ++ length journal ∷ [] = ap (λ (x : Vec ℕ). x.items) same.1 ∙ new in
          let index : IsIndex (sent_to (suc j)) journal v.items = at j v (ap (λ k. slice_get sent k) same.0 ∙ old) in
          subst (λ (l : List ℕ). IsIndex (sent_to (suc j)) (journal ++ n.Sent mon frame ∷ []) l) (sym items)
          (index_push (sent_to (suc j)) journal v.items (n.Sent mon frame) frame read index)
      | inr other ↦
          let apart : (mon.0 ≡ suc j) → ⊥ = λ e. other.0 (omega arith) in
          let read : sent_to (suc j) (n.Sent mon frame) ≡ None = ap (λ b. cond b (Some frame) None) (ne_eqb mon.0 (suc j) apart) in
          index_skip (sent_to (suc j)) journal u.items (n.Sent mon frame) read (at j u other.1)
    ]

-- one less of room where one more stands
pub room_less : (k : ℕ) (sent : List (Vec ℕ)) (i : ℕ) (v w : Vec ℕ) → i < length sent → slice_get sent i ≡ Some v → vec_len w ≡ vec_len v + 1 → vec_capacity w ≡ vec_capacity v
    → HasRoom (k + 1) sent → HasRoom k (set sent i w)
room_less k sent i v w within old len cap room j u is = elim (read_set sent i j w u within is) [
  | inl same ↦
      let had : vec_len v + (k + 1) ≤ vec_capacity v = room i v old in
      let l : vec_len u ≡ vec_len w = ap vec_len same.1 in
      let c : vec_capacity u ≡ vec_capacity w = ap vec_capacity same.1 in
      omega arith
  | inr other ↦ let had : vec_len u + (k + 1) ≤ vec_capacity u = room j u other.1 in omega arith
]

-- what an index leads to
pub index_reads : {X : Type 0} (read : Noted → Option X) (journal : List Noted) (places : List ℕ) (i : ℕ) → IsIndex read journal places → i < length (filter_map read journal)
    → (e : Noted) × (x : X) × (slice_get journal (slice_index places i) ≡ Some e) × (read e ≡ Some x) × (slice_get (filter_map read journal) i ≡ Some x)
index_reads {X} read journal places i at within =
    let (e, here, is) = at.each i (omega (arith, at.count)) in
    let x : X = get_or (filter_map read journal) i (some_of (filter_map read journal) i within) in
    let there : slice_get (filter_map read journal) i ≡ Some x = slice_get-get_or (filter_map read journal) i (some_of (filter_map read journal) i within) within in
    (e, x, here, is ∙ there, there)
  where
    some_of : {Y : Type 0} (ys : List Y) (k : ℕ) → k < length ys → Y
    some_of [] k below = absurd (omega arith)
    some_of (y ∷ ys) k below = y

-- each list has room for none more
pub no_room : (sent : List (Vec ℕ)) → HasRoom 0 sent
no_room sent j v is = omega (arith, v.ok.1)

-- a slice that was written back as a whole
pub written_back : {X : Type 0} (new old : List X) (n : ℕ) → length new ≡ n → take n (new ++ drop (length new) old) ≡ new
written_back new old n size = take_at new (drop (length new) old) n size
