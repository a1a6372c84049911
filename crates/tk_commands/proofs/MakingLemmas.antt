-- Words of the generator, and the updates that they make.
use Rattle.std.proofs.Common.{◌≡◌, ℕ, ℤ, zero, suc, ◌+◌, ◌-◌, ◌<◌, max, Bool, true, false, ◌==◌, if◌then◌else◌, List, [], ◌∷◌, ◌++◌, map, filter, fold, add-zero, zero-add, refl, sym, ap, ◌∙◌, arith}
use Rattle.std.specs.List.{range_with_len}
use Rattle.std.proofs.lemmas.List.{append_assoc, map-append}
use Rattle.std.proofs.lemmas.List.FromFn.{map-range_with_len_more}
use Rattle.rand_xoshiro.specs.SplitMix64.{mix_u64}
use Rattle.tk_base.specs.declared.ids.Mon.{Mon}
use Rattle.tk_input.specs.Judged.{Assigned, last_monitor}
use Rattle.tk_commands.specs.Generated.{Update, after_one, after_update, changes_at, log_of, logs_made, made, shown, update_at, update_by, word_at}
use Rattle.tk_commands.specs.declared.making.Update.{Update as Made}

abbrev the_update : ℕ → ℕ → ℤ → Update
the_update mon object by = record { mon = mon; object = object; by = by }

-- a word that was drawn
pub drawn : (state word next : ℕ) → (word, next) ≡ mix_u64 state → (word, next) ≡ word_at state
unfolding word_at
drawn state word next is = is

module _ (w a b c d one two three four : ℕ) (e1 : (one, a) ≡ word_at w) (e2 : (two, b) ≡ word_at a) (e3 : (three, c) ≡ word_at b) (e4 : (four, d) ≡ word_at c) where
  at_a : a ≡ after_one w
  at_a = ap (λ (p : ℕ × ℕ). p.1) e1

  at_b : b ≡ after_one (after_one w)
  at_b = ap (λ (p : ℕ × ℕ). p.1) e2 ∙ ap (λ (s : ℕ). after_one s) at_a

  at_c : c ≡ after_one (after_one (after_one w))
  at_c = ap (λ (p : ℕ × ℕ). p.1) e3 ∙ ap (λ (s : ℕ). after_one s) at_b

  -- the state after four words
  pub after_four : d ≡ after_update w
  unfolding after_update
  after_four = ap (λ (p : ℕ × ℕ). p.1) e4 ∙ ap (λ (s : ℕ). after_one s) at_c

  -- the update that they make
  pub by_four : (monitors objects : ℕ) → update_by monitors objects one two three four ≡ update_at monitors objects w
  unfolding update_at
  by_four monitors objects =
      let v1 : one ≡ (word_at w).0 = ap (λ (p : ℕ × ℕ). p.0) e1 in
      let v2 : two ≡ (word_at (after_one w)).0 = ap (λ (p : ℕ × ℕ). p.0) e2 ∙ ap (λ (s : ℕ). (word_at s).0) at_a in
      let v3 : three ≡ (word_at (after_one (after_one w))).0 = ap (λ (p : ℕ × ℕ). p.0) e3 ∙ ap (λ (s : ℕ). (word_at s).0) at_b in
      let v4 : four ≡ (word_at (after_one (after_one (after_one w)))).0 = ap (λ (p : ℕ × ℕ). p.0) e4 ∙ ap (λ (s : ℕ). (word_at s).0) at_c in
      ap (λ (x : ℕ). update_by monitors objects x two three four) v1
      ∙ ap (λ (x : ℕ). update_by monitors objects (word_at w).0 x three four) v2
      ∙ ap (λ (x : ℕ). update_by monitors objects (word_at w).0 (word_at (after_one w)).0 x four) v3
      ∙ ap (λ (x : ℕ). update_by monitors objects (word_at w).0 (word_at (after_one w)).0 (word_at (after_one (after_one w))).0 x) v4

-- updates of the same numbers
pub same : (mon mon' object object' : ℕ) (by by' : ℤ) → mon ≡ mon' → object ≡ object' → by ≡ by'
    → the_update mon object by ≡ the_update mon' object' by'
same mon mon' object object' by by' m o b = ap (λ (x : ℕ). the_update x object by) m ∙ ap (λ (x : ℕ). the_update mon' x by) o ∙ ap (λ (x : ℤ). the_update mon' object' x) b

-- nothing is made where nothing is left
pub made_none : (monitors objects state : ℕ) → made monitors objects 0 state ≡ []
unfolding made
made_none monitors objects state = refl

made_more : (monitors objects n state : ℕ) → made monitors objects (suc n) state ≡ update_at monitors objects state ∷ made monitors objects n (after_update state)
unfolding made
made_more monitors objects n state = refl

-- one more update
pub one_made : (monitors objects count i state next seed : ℕ) (list : List Made) (u : Made) → i < count → shown u ≡ update_at monitors objects state → next ≡ after_update state
    → map shown list ++ made monitors objects (count - i) state ≡ made monitors objects count seed
    → map shown (list ++ u ∷ []) ++ made monitors objects (count - (i + 1)) next ≡ made monitors objects count seed
one_made monitors objects count i state next seed list u within is after before =
    let left : count - i ≡ suc (count - (i + 1)) = omega arith in
    ap (λ (l : List Update). l ++ made monitors objects (count - (i + 1)) next) (map-append shown list (u ∷ []))
    ∙ append_assoc (map shown list) (shown u ∷ []) (made monitors objects (count - (i + 1)) next)
    ∙ ap (λ (x : Update). map shown list ++ (x ∷ made monitors objects (count - (i + 1)) next)) is
    ∙ ap (λ (s : ℕ). map shown list ++ (update_at monitors objects state ∷ made monitors objects (count - (i + 1)) s)) after
    ∙ ap (λ (rest : List Update). map shown list ++ rest) (sym (made_more monitors objects (count - (i + 1)) state))
    ∙ ap (λ (n : ℕ). map shown list ++ made monitors objects n state) (sym left)
    ∙ before

-- ---- the logs of what was made

abbrev change_made : Made → ℕ × ℤ
change_made u = (u.change.obj.0, u.change.by)

abbrev change_shown : Update → ℕ × ℤ
change_shown u = (u.object, u.by)

log_one : (b : Bool) (u : Made) (kept : List Made) (seen : List Update) → map change_made kept ≡ map change_shown seen → map change_made (if b then u ∷ kept else kept) ≡ map change_shown (if b then shown u ∷ seen else seen)
log_one true u kept seen alike = ap (λ (l : List (ℕ × ℤ)). change_made u ∷ l) alike
log_one false u kept seen alike = alike

-- a monitor's log, as contracts see it
pub same_log : (mon : ℕ) (updates : List Made) → log_of mon updates ≡ changes_at mon (map shown updates)
same_log mon [] = refl
same_log mon (u ∷ updates) = log_one (u.mon.0 == mon) u (filter (λ (u : Made). u.mon.0 == mon) updates) (filter (λ (u : Update). u.mon == mon) (map shown updates)) (same_log mon updates)

-- one more log
pub one_log : (j : ℕ) (updates : List Made) (parts : Assigned) (changes : List (ℕ × ℤ)) → parts ≡ logs_made j (map shown updates) → changes ≡ log_of (j + 1) updates
    → parts ++ (record { 0 = j + 1 }, changes) ∷ [] ≡ logs_made (j + 1) (map shown updates)
one_log j updates parts changes before is =
    let log : ℕ → Mon × List (ℕ × ℤ) = λ mon. (record { 0 = mon }, changes_at mon (map shown updates)) in
    ap (λ (l : Assigned). l ++ (record { 0 = j + 1 }, changes) ∷ []) before
    ∙ ap (λ (l : List (ℕ × ℤ)). logs_made j (map shown updates) ++ (record { 0 = j + 1 }, l) ∷ []) (is ∙ same_log (j + 1) updates)
    ∙ sym (map-range_with_len_more log 1 j (j + 1) (omega arith))

last_from : (n m : ℕ) (updates : List Update) → fold (λ (last : ℕ) (p : Mon × List (ℕ × ℤ)). max last p.0.0) m (map (λ mon. (record { 0 = mon }, changes_at mon updates)) (range_with_len (m + 1) n)) ≡ m + n
last_from zero m updates = sym (add-zero m)
last_from (suc n) m updates =
    let greater : max m (m + 1) ≡ m + 1 = omega arith in
    ap (λ (last : ℕ). fold (λ (last : ℕ) (p : Mon × List (ℕ × ℤ)). max last p.0.0) last (map (λ mon. (record { 0 = mon }, changes_at mon updates)) (range_with_len ((m + 1) + 1) n))) greater
    ∙ last_from n (m + 1) updates ∙ omega arith

-- the greatest monitor of so many
pub last_made : (n : ℕ) (updates : List Update) → last_monitor (logs_made n updates) ≡ n
last_made n updates = last_from n 0 updates ∙ zero-add n

-- as many are made as asked for, from equal numbers
pub logs_of_words : (monitors m objects o count n seed : ℕ) (updates : List Update) → monitors ≡ m → objects ≡ o → count ≡ n → updates ≡ made monitors objects count seed → logs_made monitors updates ≡ logs_made m (made m o n seed)
logs_of_words monitors m objects o count n seed updates em eo ec is =
    ap (λ (u : List Update). logs_made monitors u) is
    ∙ ap (λ (x : ℕ). logs_made x (made x objects count seed)) em
    ∙ ap (λ (x : ℕ). logs_made m (made m x count seed)) eo
    ∙ ap (λ (x : ℕ). logs_made m (made m o x seed)) ec
