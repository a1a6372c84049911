-- The reader of a frame's fields is exact for them.
use Rattle.std.proofs.Common.{◌≡◌, ℕ, ◌^◌, ◌<◌, Bool, true, false, cond, ◌&&◌, List, ◌++◌, Some, None, refl, sym, ap, subst, ◌∙◌, arith, inl, inr, ◌⊎◌}
use Rattle.std.specs.Prelude.{nat_lt}
use Rattle.std.proofs.lemmas.Bool.{true≢false, cases_lt, ltb-true, lt-ltb, and_parts}
use Rattle.std.proofs.lemmas.Option.{cond_some}
use Rattle.tk_frames.specs.declared.frame.Frame.{Frame}
use Rattle.tk_frames.specs.declared.frame.Frame.TheVariants as f
use Rattle.tk_frames.specs.declared.kind.Kind.{Kind}
use Rattle.tk_frames.specs.declared.kind.Kind.TheVariants as k
use Rattle.tk_frames.specs.Frame.{kind_of}
use Rattle.tk_frames.specs.Spelling.{fields, IsFrame, IsHello}
use Rattle.tk_frames.specs.Reading.{Found, ◌>>=◌, number_at, both_at, as_at, is_hello, hello_at, report_at, collect_at, values_at, assign_at, settled_at, fields_at}
use Rattle.tk_frames.proofs.Steps.{bind_some, some_is}
use Rattle.tk_frames.proofs.BytesLemmas.{IsBytes}
use Rattle.tk_frames.proofs.ExactLemmas.{IsExact, exact_both}
use Rattle.tk_frames.proofs.FieldLemmas.{exact_number, exact_signed, exact_set, exact_pairs, exact_places, exact_flag}

-- what was read is a frame of this kind, and these are its fields
pub record TakesFrame (version : ℕ) (kind : Kind) (bytes : List ℕ) (found : Frame × List ℕ) : Type 0 where
  pub parts : bytes ≡ fields version found.0 ++ found.1
  pub frame_is : IsFrame found.0
  pub kind_is : kind_of found.0 ≡ kind

-- fields that were read make a frame
made : {X : Type 0} {Fact : X → Type 0} {spell : X → List ℕ} {read : List ℕ → Found X} (version : ℕ) (kind : Kind) (make : X → Frame)
    → ((bytes : List ℕ) (x : X) (rest : List ℕ) → Fact x → bytes ≡ spell x ++ rest → TakesFrame version kind bytes (make x, rest))
    → IsExact Fact spell read → (bytes : List ℕ) (found : Frame × List ℕ) → IsBytes bytes → as_at make read bytes ≡ Some found → TakesFrame version kind bytes found
made {read = read} version kind make makes exact bytes found fits e =
    let a = bind_some (read bytes) (λ x. Some (make x.0, x.1)) found e in
    let t = exact.takes bytes a.0.0 a.0.1 fits a.1 in
    subst (TakesFrame version kind bytes) (some_is (make a.0.0, a.0.1) found a.2) (makes bytes a.0.0 a.0.1 t.1 t.0)

report_takes : (version : ℕ) (bytes : List ℕ) (found : Frame × List ℕ) → IsBytes bytes → report_at version bytes ≡ Some found → TakesFrame version k.Report bytes found
unfolding report_at
report_takes version bytes found fits e = made version k.Report (λ x. f.Report x.0.0.0 x.0.0.1 x.0.1 x.1)
    (λ bytes x rest fact is. record { parts = is; frame_is = (fact.0.0.0, fact.0.0.1, fact.0.1, fact.1); kind_is = refl })
    (exact_both (exact_both (exact_both (exact_number version 8) (exact_signed version)) (exact_set version)) (exact_pairs version)) bytes found fits e

collect_takes : (version : ℕ) (bytes : List ℕ) (found : Frame × List ℕ) → IsBytes bytes → collect_at version bytes ≡ Some found → TakesFrame version k.Collect bytes found
unfolding collect_at
collect_takes version bytes found fits e = made version k.Collect (λ x. f.Collect x.0 x.1)
    (λ bytes x rest fact is. record { parts = is; frame_is = (fact.0, fact.1); kind_is = refl })
    (exact_both (exact_number version 8) (exact_set version)) bytes found fits e

values_takes : (version : ℕ) (bytes : List ℕ) (found : Frame × List ℕ) → IsBytes bytes → values_at version bytes ≡ Some found → TakesFrame version k.Values bytes found
unfolding values_at
values_takes version bytes found fits e = made version k.Values (λ x. f.Values x.0.0.0 x.0.0.1 x.0.1 x.1)
    (λ bytes x rest fact is. record { parts = is; frame_is = (fact.0.0.0, fact.0.0.1, fact.0.1, fact.1); kind_is = refl })
    (exact_both (exact_both (exact_both (exact_number version 8) (exact_number version 8)) (exact_signed version)) (exact_pairs version)) bytes found fits e

assign_takes : (version : ℕ) (bytes : List ℕ) (found : Frame × List ℕ) → IsBytes bytes → assign_at version bytes ≡ Some found → TakesFrame version k.Assign bytes found
unfolding assign_at
assign_takes version bytes found fits e = made version k.Assign (λ x. f.Assign x.0.0 x.0.1 x.1)
    (λ bytes x rest fact is. record { parts = is; frame_is = (fact.0.0, fact.0.1, fact.1); kind_is = refl })
    (exact_both (exact_both (exact_number version 8) (exact_set version)) (exact_pairs version)) bytes found fits e

settled_takes : (version : ℕ) (bytes : List ℕ) (found : Frame × List ℕ) → IsBytes bytes → settled_at version bytes ≡ Some found → TakesFrame version k.Settled bytes found
unfolding settled_at
settled_takes version bytes found fits e = made version k.Settled (λ x. f.Settled x.0.0 x.0.1 x.1)
    (λ bytes x rest fact is. record { parts = is; frame_is = (fact.0.0, fact.1); kind_is = refl })
    (exact_both (exact_both (exact_number version 8) exact_flag) (exact_places version)) bytes found fits e

-- ---- a Hello

hello_tests : (speaks mon : ℕ) → is_hello speaks mon ≡ true → IsHello speaks mon
hello_tests speaks mon e =
    let a = and_parts (nat_lt 0 speaks && nat_lt speaks 3 && nat_lt 0 mon) (nat_lt mon 65) e in
    let b = and_parts (nat_lt 0 speaks && nat_lt speaks 3) (nat_lt 0 mon) a.0 in
    let c = and_parts (nat_lt 0 speaks) (nat_lt speaks 3) b.0 in
    let some : 0 < speaks = ltb-true 0 speaks c.0 in
    let few : speaks < 3 = ltb-true speaks 3 c.1 in
    let version : (speaks ≡ 1) ⊎ (speaks ≡ 2) = elim (cases_lt speaks 2) [
      | inl lt ↦ inl (omega arith)
      | inr ge ↦ inr (omega arith)
    ] in
    let low : 0 < mon = ltb-true 0 mon b.1 in
    let high : mon < 65 = ltb-true mon 65 a.1 in
    (version, low, omega arith)

hello_passes : (speaks mon : ℕ) → IsHello speaks mon → is_hello speaks mon ≡ true
hello_passes speaks mon (version, some, few) =
    let low : nat_lt 0 mon ≡ true = lt-ltb 0 mon some in
    let high : nat_lt mon 65 ≡ true = lt-ltb mon 65 (omega arith) in
    elim version [
      | inl one ↦ rw (one, low, high) refl
      | inr two ↦ rw (two, low, high) refl
    ]

-- a Hello is good or bad
pub hello_decided : (speaks mon : ℕ) → ((IsHello speaks mon → ⊥) → ⊥) → IsHello speaks mon
hello_decided speaks mon good = go (is_hello speaks mon) refl where
  go : (b : Bool) → is_hello speaks mon ≡ b → IsHello speaks mon
  go true e = hello_tests speaks mon e
  go false e = absurd (good (λ hello. true≢false (sym (hello_passes speaks mon hello) ∙ e)))

hello_takes : (version : ℕ) (bytes : List ℕ) (found : Frame × List ℕ) → IsBytes bytes → hello_at bytes ≡ Some found → TakesFrame version k.Hello bytes found
unfolding hello_at
hello_takes version bytes found fits e =
    let exact = exact_both (exact_both (exact_number 1 8) (exact_number 1 1)) (exact_number 1 4) in
    let a = bind_some (both_at (both_at (number_at 1 8) (number_at 1 1)) (number_at 1 4) bytes) (λ x. cond (is_hello x.0.0.1 x.0.1) (Some (f.Hello x.0.0.0 x.0.0.1 (record { 0 = x.0.1 }), x.1)) None) found e in
    let x = a.0.0 in
    let t = exact.takes bytes x a.0.1 fits a.1 in
    let g = cond_some (is_hello x.0.1 x.1) (f.Hello x.0.0 x.0.1 (record { 0 = x.1 }), a.0.1) found a.2 in
    subst (TakesFrame version k.Hello bytes) g.1 (record { parts = t.0; frame_is = (t.1.0.0, hello_tests x.0.1 x.1 g.0); kind_is = refl })

-- what was read is a frame with these fields
pub fields_take : (version : ℕ) (kind : Kind) (bytes : List ℕ) (found : Frame × List ℕ) → IsBytes bytes → fields_at version kind bytes ≡ Some found → TakesFrame version kind bytes found
unfolding fields_at
fields_take version k.Hello bytes found fits e = hello_takes version bytes found fits e
fields_take version k.Report bytes found fits e = report_takes version bytes found fits e
fields_take version k.Collect bytes found fits e = collect_takes version bytes found fits e
fields_take version k.Values bytes found fits e = values_takes version bytes found fits e
fields_take version k.Assign bytes found fits e = assign_takes version bytes found fits e
fields_take version k.Settled bytes found fits e = settled_takes version bytes found fits e
fields_take version k.Stop bytes found fits e = subst (TakesFrame version k.Stop bytes) (some_is (f.Stop, bytes) found e) (record { parts = refl; frame_is = tt; kind_is = refl })

-- ---- what is spelled so is read

remade : {X : Type 0} {Fact : X → Type 0} {spell : X → List ℕ} {read : List ℕ → Found X} (make : X → Frame) → IsExact Fact spell read → (x : X) (rest : List ℕ) → Fact x → as_at make read (spell x ++ rest) ≡ Some (make x, rest)
remade make exact x rest fact = ap (λ r. r >>= λ x. Some (make x.0, x.1)) (exact.again x rest fact)

pub fields_again : (version : ℕ) (frame : Frame) (rest : List ℕ) → IsFrame frame → fields_at version (kind_of frame) (fields version frame ++ rest) ≡ Some (frame, rest)
unfolding fields_at hello_at report_at collect_at values_at assign_at settled_at
fields_again version (f.Hello run speaks mon) rest (small, hello) =
    let exact = exact_both (exact_both (exact_number 1 8) (exact_number 1 1)) (exact_number 1 4) in
    let byte : speaks < 256 ^ 1 = elim hello.0 [
      | inl one ↦ omega arith
      | inr two ↦ omega arith
    ] in
    let few : mon.0 < 256 ^ 4 = omega (arith, hello.2) in
    ap (λ r. r >>= λ x. cond (is_hello x.0.0.1 x.0.1) (Some (f.Hello x.0.0.0 x.0.0.1 (record { 0 = x.0.1 }), x.1)) None) (exact.again ((run, speaks), mon.0) rest ((small, byte), few))
    ∙ ap (λ b. cond b (Some (f.Hello run speaks mon, rest)) None) (hello_passes speaks mon.0 hello)
fields_again version (f.Report seq border failed values) rest (a, b, c, d) = remade (λ x. f.Report x.0.0.0 x.0.0.1 x.0.1 x.1)
    (exact_both (exact_both (exact_both (exact_number version 8) (exact_signed version)) (exact_set version)) (exact_pairs version)) (((seq, border), failed), values) rest (((a, b), c), d)
fields_again version (f.Collect round objects) rest (a, b) = remade (λ x. f.Collect x.0 x.1)
    (exact_both (exact_number version 8) (exact_set version)) (round, objects) rest (a, b)
fields_again version (f.Values round seq border values) rest (a, b, c, d) = remade (λ x. f.Values x.0.0.0 x.0.0.1 x.0.1 x.1)
    (exact_both (exact_both (exact_both (exact_number version 8) (exact_number version 8)) (exact_signed version)) (exact_pairs version)) (((round, seq), border), values) rest (((a, b), c), d)
fields_again version (f.Assign seq members changes) rest (a, b, c) = remade (λ x. f.Assign x.0.0 x.0.1 x.1)
    (exact_both (exact_both (exact_number version 8) (exact_set version)) (exact_pairs version)) ((seq, members), changes) rest ((a, b), c)
fields_again version (f.Settled seq last reached) rest (a, b) = remade (λ x. f.Settled x.0.0 x.0.1 x.1)
    (exact_both (exact_both (exact_number version 8) exact_flag) (exact_places version)) ((seq, last), reached) rest ((a, tt), b)
fields_again version f.Stop rest is = refl
