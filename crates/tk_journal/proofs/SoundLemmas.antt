-- Every legal journal is sound: retunes, the opening, and the induction.
use Rattle.std.proofs.Common.{◌≡◌, ℕ, suc, zero, Bool, true, false, not, ◌+◌, ◌^◌, ◌≤◌, ◌<◌, ◌&&◌, ℤ, pos, List, [], ◌∷◌, ◌++◌, length, Contains, Option, Some, None, refl, sym, ap, ◌∙◌, subst, arith}
use Rattle.std.specs.Prelude.{nat_lt, nat_le, is_some, filter, if◌then◌else◌}
use Rattle.std.specs.List.{All, list_all, range_with_len, enumerate_from}
use Rattle.std.proofs.lemmas.Int.{ints}
use Rattle.std.proofs.lemmas.Bool.{ltb-true, leb-true, and_parts, and_from, not-false}
use Rattle.std.proofs.lemmas.List.FromFn.{length-range_with_len}
use Rattle.std.proofs.lemmas.List.{length-map}
use Rattle.tk_base.specs.Objects.{objects, is_in}
use Rattle.tk_base.specs.Ascending.{IsAscending}
use Rattle.tk_base.specs.Settings.{Setup, IsWithinLimits, is_k}
use Rattle.tk_rows.specs.Factors.{IsFactor, AreBalanced}
use Rattle.tk_frames.specs.declared.frame.Frame.TheVariants as f
use Rattle.tk_alloc.specs.declared.reported.Reported.{Reported}
use Rattle.tk_alloc.proofs.BorderLemmas.{factor_size}
use Rattle.tk_journal.specs.Laws.{IsSetUp}
use Rattle.tk_journal.specs.Readings.{monitors, assigns_to, members_at, table_at, last_round, asked_of, values_of, waits_for, is_open, tunings, is_over, tuned_to, in_force, is_stopped}
use Rattle.tk_base.specs.History.{last_of}
use Rattle.tk_base.proofs.OptionLemmas.{if_none}
use Rattle.tk_base.proofs.ListLemmas.{any_in_range}
use Rattle.tk_base.proofs.MemberLemmas.{length-objects}
use Rattle.tk_journal.specs.Turns.{collects, wide_collects, rounds, is_wide}
use Rattle.tk_journal.specs.Publishing.{closing}
use Rattle.tk_journal.specs.Refusal.{retune_refusal_of}
use Rattle.tk_journal.specs.Legal.{Opening, opened, IsLegal}
use Rattle.tk_journal.specs.declared.noted.Noted.{Noted}
use Rattle.tk_journal.specs.declared.noted.Noted.TheVariants as n
use Rattle.tk_journal.specs.declared.refusal.RetuneRefusal.TheVariants as retune
use Rattle.tk_journal.proofs.Appends.{members_at-append}
use Rattle.tk_journal.proofs.Pieces.{batch}
use Rattle.tk_journal.proofs.Batches.{named, named_members, plain_assigns, plain_members, collects_round}
use Rattle.tk_journal.proofs.Same.{same_closing}
use Rattle.tk_journal.proofs.Counting.{AreCounted}
use Rattle.tk_journal.proofs.Rounding.{is_in_range}
use Rattle.tk_journal.proofs.Tables.{AreSized, own_is, factor_is, rows_count}
use Rattle.tk_journal.proofs.Tuning.{EachTuning, IsOpened, tuned_list, tuned_tuned, force_tuned, force_closed}
use Rattle.tk_journal.proofs.Sizes.{short-append, collects_short, closing_short}
use Rattle.tk_journal.proofs.Standing.{IsChosen, standing_agreed, object_of}
use Rattle.tk_journal.proofs.Sound.{no_round, new_asked, new_values}
use Rattle.tk_journal.proofs.Firm.{IsFirm, firm_same, wide_round}
use Rattle.tk_journal.proofs.FirmTurns.{firm_demanded}
use Rattle.tk_journal.proofs.Orderly.{IsOrderly, orderly_same}
use Rattle.tk_journal.proofs.Turning.{orderly_demanded}
use Rattle.tk_journal.proofs.LegalLemmas.{FrameTurn, by_parts, legal_carries, orderly_parts, orderly_tuned, tuned_round, tuned_assigns, opened_orderly, numbered_factors, opened_closed}
use Rattle.tk_journal.proofs.LawLemmas.{one_less}

-- ---- a retune

-- a retune that is not refused: no round is open, and its numbers are within the limits
record IsRetune (s : Setup) (j : List Noted) (k e : ℕ) : Type 0 where
  closed : is_open s j ≡ false
  members : is_k k s.objects ≡ true
  epsilon : e ≤ 2 ^ 100

retuned : (s : Setup) (j : List Noted) (k e : ℕ) → retune_refusal_of s j k e ≡ None → IsRetune s j k e
unfolding retune_refusal_of
retuned s j k e none =
    let last = if not (nat_le e (2 ^ 100)) then Some retune.BadEpsilon else None in
    let third = if not (is_k k s.objects) then Some retune.BadK else last in
    let second = if is_open s j then Some retune.RoundOpen else third in
    let a = if_none (is_stopped j) retune.AfterStop second none in
    let b = if_none (is_open s j) retune.RoundOpen third a.1 in
    let c = if_none (not (is_k k s.objects)) retune.BadK last b.1 in
    let d = if_none (not (nat_le e (2 ^ 100))) retune.BadEpsilon None c.1 in
    record { closed = b.0; members = not-false (is_k k s.objects) c.0; epsilon = leb-true e (2 ^ 100) (not-false (nat_le e (2 ^ 100)) d.0) }

retuned_limits : (s : Setup) (k e : ℕ) → IsWithinLimits s → is_k k s.objects ≡ true → e ≤ 2 ^ 100 → IsWithinLimits (record s { k = k; epsilon = pos e })
retuned_limits s k e limits members small =
    let front = and_parts (nat_lt 0 k && nat_le k 1024) (nat_le k s.objects) members in
    let both = and_parts (nat_lt 0 k) (nat_le k 1024) front.0 in
    record {
      some_object = limits.some_object;
      objects = limits.objects;
      some_monitor = limits.some_monitor;
      monitors = limits.monitors;
      product = limits.product;
      some_member = ltb-true 0 k both.0;
      k = leb-true k 1024 both.1;
      members = leb-true k s.objects front.1;
      no_debt = omega (arith, ints);
      epsilon = omega (arith, ints, small);
      own_weight = limits.own_weight;
    }

pub waiting : (asked : Option (List ℕ)) (values : Option Reported) (all : List ℕ) → asked ≡ Some all → values ≡ None → (is_some asked && not (is_some values)) ≡ true
waiting (Some x) None all is none = refl
waiting (Some x) (Some y) all is none = cc
waiting None values all is none = cc

-- a wide round that is opened is open, and wide
pub collects_open : (s : Setup) (j : List Noted) (round k : ℕ) → s.monitors ≡ suc k → AreCounted s j → last_round j < round → is_open s (j ++ wide_collects s round) ≡ true
unfolding is_open waits_for
collects_open s j round k some c new =
    let after = j ++ wide_collects s round in
    let mons : monitors s ≡ 1 ∷ range_with_len (1 + 1) k = ap (range_with_len 1) some in
    let last : last_round after ≡ round = ap (λ xs. last_round (j ++ collects round (objects s.objects) xs)) mons ∙ collects_round j round (objects s.objects) 1 (range_with_len (1 + 1) k) in
    let here : is_in (monitors s) 1 ≡ true = is_in_range 1 s.monitors 1 (omega arith) (omega (arith, some)) in
    any_in_range (λ mon. is_some (asked_of (last_round after) mon after) && not (is_some (values_of (last_round after) mon after))) 1 s.monitors 1 (omega arith) (omega (arith, some))
    (waiting (asked_of (last_round after) 1 after) (values_of (last_round after) 1 after) (objects s.objects)
    (ap (λ r. asked_of r 1 after) last ∙ new_asked s j round (objects s.objects) (monitors s) 1 c new ∙ ap (λ b. if b then Some (objects s.objects) else None) here)
    (ap (λ r. values_of r 1 after) last ∙ new_values s j round (objects s.objects) (monitors s) 1 c new))

pub all_of_range : (p : ℕ → Bool) (a k : ℕ) → ((q : ℕ) → a ≤ q → q < a + k → p q ≡ true) → list_all p (range_with_len a k) ≡ true
all_of_range p a zero each = refl
all_of_range p a (suc k) each =
    and_from (p a) (list_all p (range_with_len (a + 1) k)) (each a (omega arith) (omega arith)) (all_of_range p (a + 1) k (λ q low high. each q (omega (arith, low)) (omega (arith, high))))

pub collects_wide : (s : Setup) (j : List Noted) (round k : ℕ) → s.monitors ≡ suc k → AreCounted s j → last_round j < round → is_wide s (j ++ wide_collects s round) ≡ true
unfolding is_wide
collects_wide s j round k some c new =
    let after = j ++ wide_collects s round in
    let mons : monitors s ≡ 1 ∷ range_with_len (1 + 1) k = ap (range_with_len 1) some in
    let last : last_round after ≡ round = ap (λ xs. last_round (j ++ collects round (objects s.objects) xs)) mons ∙ collects_round j round (objects s.objects) 1 (range_with_len (1 + 1) k) in
    all_of_range (λ mon. is_some (asked_of (last_round after) mon after)) 1 s.monitors (λ q low high.
    ap is_some (ap (λ r. asked_of r q after) last ∙ new_asked s j round (objects s.objects) (monitors s) q c new ∙ ap (λ b. if b then Some (objects s.objects) else None) (is_in_range 1 s.monitors q low high)))

firm_tuned : (s : Setup) (j : List Noted) (k q e : ℕ) → IsWithinLimits s → s.monitors ≡ suc k → IsRetune s j q e → IsOrderly s j → IsFirm s j
    → IsFirm s (j ++ n.Tuned q (pos e) ∷ [] ++ wide_collects s (rounds s j + 1))
firm_tuned s j k q e limits some r o h =
    let round = rounds s j + 1 in
    let mid = j ++ n.Tuned q (pos e) ∷ [] in
    let after = mid ++ wide_collects s round in
    let mons : monitors s ≡ 1 ∷ range_with_len (1 + 1) k = ap (range_with_len 1) some in
    let of_mid = orderly_tuned s j q (pos e) o in
    let new : last_round j < round = (let l = o.counted.last in omega (arith, l)) in
    let new_mid : last_round mid < round = (let t = tuned_round j q (pos e) in omega (arith, t, new)) in
    let list = ap (λ xs. tunings (mid ++ collects round (objects s.objects) xs)) mons ∙ tuned_list s j q (pos e) round (objects s.objects) 1 (range_with_len (1 + 1) k) h.tuned in
    let last : last_round after ≡ round = ap (λ xs. last_round (mid ++ collects round (objects s.objects) xs)) mons ∙ collects_round mid round (objects s.objects) 1 (range_with_len (1 + 1) k) in
    let opened' = collects_open s mid round k some of_mid.counted new_mid in
    let assigns : (mon : ℕ) → assigns_to mon after ≡ assigns_to mon j = λ mon. plain_assigns mon mid (λ m. m) (λ _. f.Collect round (objects s.objects)) (monitors s) (λ _. refl) ∙ tuned_assigns mon j q (pos e) in
    let members : members_at after ≡ members_at j = plain_members mid (λ m. m) (λ _. f.Collect round (objects s.objects)) (monitors s) (λ _. refl) ∙ members_at-append j (n.Tuned q (pos e) ∷ []) in
    let same : members_at mid ≡ members_at j = members_at-append j (n.Tuned q (pos e) ∷ []) in
    record {
      tuned = tuned_tuned s j after q (pos e) round list last new (collects_wide s mid round k some of_mid.counted new_mid) (retuned_limits s q e limits r.members r.epsilon) h.tuned;
      standing = standing_agreed s j after (record {
        assigns = assigns;
        members = members;
        force = force_tuned s j after q (pos e) round list last new opened' h.tuned ∙ sym (force_closed s j r.closed h.tuned);
      }) h.standing;
      round = λ _. (
        objects s.objects,
        wide_round s mid round k some of_mid.counted new_mid
            (subst IsAscending (sym same) h.standing.chosen.ascends) (subst (λ ms. All (λ x. x ≤ s.objects) ms) (sym same) h.standing.chosen.within),
      );
      short = short-append mid (wide_collects s round) (short-append j (n.Tuned q (pos e) ∷ []) h.short tt)
          (collects_short round (objects s.objects) (monitors s) (let l = length-objects s.objects in let m = limits.objects in omega (arith, l, m)));
    }

-- ---- the opening

opened_tunings : (rows : List (ℕ × List (ℕ × ℤ))) (members : List ℕ) → tunings (batch (λ (p : ℕ × List (ℕ × ℤ)). p.0) (named (λ _. 1) members (λ p. p.1)) rows) ≡ []
opened_tunings [] members = refl
opened_tunings (p ∷ rows) members = opened_tunings rows members

opened_members : (rows : List (ℕ × List (ℕ × ℤ))) (members : List ℕ) → 0 < length rows → members_at (batch (λ (p : ℕ × List (ℕ × ℤ)). p.0) (named (λ _. 1) members (λ p. p.1)) rows) ≡ members
opened_members [] members some = absurd (omega (arith, some))
opened_members (p ∷ rows) members some = named_members [] (λ (q : ℕ × List (ℕ × ℤ)). q.0) (λ _. 1) members (λ q. q.1) p rows

opened_force : (o : Opening) → in_force o.settings (opened o) ≡ o.settings
unfolding in_force
opened_force o = ap (λ ts. tuned_to o.settings (last_of (filter (λ t. is_over o.settings (opened o) t.round) ts))) (opened_tunings (enumerate_from 1 o.factors) o.members)

pub sized_by : (s : Setup) (j : List Noted) → AreBalanced (table_at s j) → AreSized s j
sized_by s j balanced = record {
  own = λ o r. subst IsFactor (own_is s j o r) (factor_size (table_at s j) 0 o balanced);
  each = λ o mon r m. subst IsFactor (factor_is s j o mon r m) (factor_size (table_at s j) mon o balanced);
}

pub opened_firm : (o : Opening) → IsSetUp o → IsFirm o.settings (opened o)
opened_firm o set =
    let s = o.settings in
    let j = opened o in
    let some : 0 < length (enumerate_from 1 o.factors) =
    (let a = ap length (numbered_factors 1 o.factors) in let b = length-map (enumerate_from 1 o.factors) (λ (p : ℕ × List (ℕ × ℤ)). p.0) in let c = length-range_with_len 1 (length o.factors) in let d = set.factors in let m = set.limits.some_monitor in omega (arith, a, b, c, d, m)) in
    let members = opened_members (enumerate_from 1 o.factors) o.members some in
    let force = opened_force o in
    let list = opened_tunings (enumerate_from 1 o.factors) o.members in
    record {
      tuned = subst (λ ts. EachTuning (IsOpened s (last_round j) (is_wide s j)) ts) (sym list) tt;
      standing = record {
        chosen = subst (λ (x : Setup). IsChosen s x.k (members_at j)) (sym force) (subst (λ ms. IsChosen s s.k ms) (sym members) (record { count = set.count; ascends = set.ascends; within = set.within }));
        sizes = sized_by s j set.table;
        own = λ t q in' out r.
            let t_in = subst (λ ms. Contains ms t) members in' in
            let t_of = object_of s o.members [] t set.ascends set.within t_in in
            let holds = set.own t q t_in (λ found. out (subst (λ ms. Contains ms q) (sym members) found)) r.from_one (let w = r.within in let l = rows_count s j in omega (arith, w, l)) in
            let of_t = own_is s j t t_of in
            let of_q = own_is s j q r in
            let same : (in_force s j).epsilon ≡ s.epsilon = ap (λ (x : Setup). x.epsilon) force in
            omega (arith, ints, holds, of_t, of_q, same);
      };
      round = no_round s j (opened_closed o);
      short = set.changes;
    }

-- ---- every legal journal

record IsSound (s : Setup) (j : List Noted) : Type 0 where
  order : IsOrderly s j
  firm : IsFirm s j

sound_parts : (s : Setup) (k : ℕ) → IsWithinLimits s → s.monitors ≡ suc k → FrameTurn s (IsSound s)
sound_parts s k limits some = record {
  demands = λ before from frame range none h. record {
    order = orderly_demanded s before from frame k some range none h.order;
    firm = firm_demanded s before from frame k limits some range none h.order h.firm;
  };
  closes = λ j h. record { order = orderly_same s j (j ++ closing s j) (same_closing s j) h.order; firm = firm_same s j (j ++ closing s j) (same_closing s j) (short-append j (closing s j) h.firm.short (closing_short s j)) h.firm };
  tunes = λ before q epsilon accepted h.
      let e = accepted.0 in
      record {
        order = (orderly_parts s k some).tunes before q epsilon accepted h.order;
        firm = subst (λ (z : ℤ). IsFirm s (before ++ n.Tuned q z ∷ [] ++ wide_collects s (rounds s before + 1))) (sym accepted.1)
            (firm_tuned s before k q e limits some (retuned s before q e accepted.2) h.order h.firm);
      };
}

pub legal_firm : (o : Opening) (j : List Noted) → IsSetUp o → IsLegal o j → IsFirm o.settings j
legal_firm o j set legal =
    let s = o.settings in
    let m = one_less s.monitors set.limits.some_monitor in
    (legal_carries o (IsSound s) (by_parts s (IsSound s) (sound_parts s m.0 set.limits m.1)) (record { order = opened_orderly o m.0 m.1 set.factors; firm = opened_firm o set }) j legal).firm
