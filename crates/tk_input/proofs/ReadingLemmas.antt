-- A read of a record takes the first of those that are still to be read.
use Rattle.std.proofs.Common.{◌≡◌, ℕ, suc, zero, ◌+◌, ◌<◌, ◌⊎◌, Bool, true, false, not, List, [], ◌∷◌, ◌++◌, length, Option, Some, None, Result, Ok, Err, refl, sym, ap, ◌∙◌, subst, arith, inl, inr, add-one}
use Rattle.std.specs.Prelude.{IfOk, OnOk, IsSome, MatchBool, MatchResult, is_ok, if◌then◌else◌}
use Rattle.csv.specs.Machine.{Read, ends_at_end, field_after, fields_after, is_end, next_record, step}
use Rattle.csv.specs.Reading.{NextIs, ReadRecord, ReadsNext, Ready, default_config, has_failed, is_flexible, pending_of, reader_trim, records_from, records_next, source_of, took_first}
use Rattle.csv.specs.declared.error.Error.{Error}
use Rattle.csv.specs.declared.parser.Config.{Config}
use Rattle.csv.specs.declared.parser.State.{State}
use Rattle.csv.specs.declared.parser.State.TheVariants as st
use Rattle.csv.specs.declared.reader.Reader.{Reader}
use Rattle.csv.specs.declared.reader.Trim.TheVariants as trim
use Rattle.std.specs.Borrow.{Bor}
use Rattle.tk_base.specs.declared.memory.NoMemory.{NoMemory}
use Rattle.tk_input.specs.Reading.{IsReading, Reads, behind, left_of, records_of}
use Rattle.tk_input.specs.Records.{found_in}

-- a record takes a byte, unless the end of the text ends it
Shrinks : List ℕ → Read → Type 0
Shrinks xs p = (length p.2 < length xs) ⊎ ((p.2 ≡ []) × (p.1 ≡ st.StartRecord))

at_end : (b : Bool) (fields : List (List ℕ)) (p : Read) → (if b then Some (fields, st.StartRecord, []) else None) ≡ Some p → Shrinks [] p
unfolding Shrinks
at_end true fields p is = inr (cc, cc)
at_end false fields p is = absurd (cc)

at_byte : (b : Bool) (c : ℕ) (rest : List ℕ) (here : Read) (later : Option Read) (p : Read) → here.2 ≡ rest → (later ≡ Some p → Shrinks rest p) → (if b then Some here else later) ≡ Some p → Shrinks (c ∷ rest) p
unfolding Shrinks
at_byte true c rest here later p same next is = let taken : p.2 ≡ rest = cc in inl (omega (arith, ap length taken))
at_byte false c rest here later p same next is = elim (next is) [
  | inl shorter ↦ inl (omega arith)
  | inr ends ↦ inr ends
]

shrinks : (cfg : Config) (s : State) (fields : List (List ℕ)) (field xs : List ℕ) (p : Read) → next_record cfg s fields field xs ≡ Some p → Shrinks xs p
unfolding next_record
shrinks cfg s fields field [] p is = at_end (ends_at_end s) (fields ++ (field ∷ [])) p is
shrinks cfg s fields field (c ∷ rest) p is =
    at_byte (is_end (step cfg s c).1) c rest (fields_after (step cfg s c).1 fields field, (step cfg s c).0, rest)
    (next_record cfg (step cfg s c).0 (fields_after (step cfg s c).1 fields field) (field_after (step cfg s c).1 c field) rest) p refl
    (shrinks cfg (step cfg s c).0 (fields_after (step cfg s c).1 fields field) (field_after (step cfg s c).1 c field) rest p) is

-- nothing is left after the last record
pub no_record : (cfg : Config) (n : ℕ) → records_from cfg n st.StartRecord [] ≡ []
unfolding next_record records_from
no_record cfg zero = refl
no_record cfg (suc n) = refl

same_next : (cfg : Config) (n m : ℕ) (xs : List ℕ) (o : Option Read) → ((p : Read) → o ≡ Some p → Shrinks xs p) → ((s : State) (ys : List ℕ) → length ys < length xs → records_from cfg n s ys ≡ records_from cfg m s ys) → records_next (records_from cfg n) o ≡ records_next (records_from cfg m) o
unfolding Shrinks
same_next cfg n m xs None small later = refl
same_next cfg n m xs (Some p) small later = ap (λ rest. p.0 ∷ rest) (elim (small p refl) [
  | inl shorter ↦ later p.1 p.2 shorter
  | inr ends ↦ rw (ends.0, ends.1) (no_record cfg n ∙ sym (no_record cfg m))
])

-- more turns than bytes give the same records
pub enough : (cfg : Config) (n m : ℕ) (s : State) (xs : List ℕ) → length xs < n → length xs < m → records_from cfg n s xs ≡ records_from cfg m s xs
unfolding records_from
enough cfg zero m s xs a b = absurd (omega arith)
enough cfg (suc n) zero s xs a b = absurd (omega arith)
enough cfg (suc n) (suc m) s xs a b =
    same_next cfg n m xs (next_record cfg s [] [] xs) (shrinks cfg s [] [] xs) (λ s2 ys shorter. enough cfg n m s2 ys (omega arith) (omega arith))

rest_same : (cfg : Config) (xs : List ℕ) (p : Read) → Shrinks xs p → records_from cfg (length xs) p.1 p.2 ≡ records_from cfg (length p.2 + 1) p.1 p.2
unfolding Shrinks
rest_same cfg xs p (inl shorter) = enough cfg (length xs) (length p.2 + 1) p.1 p.2 shorter (omega arith)
rest_same cfg xs p (inr ends) = rw (ends.0, ends.1) (no_record cfg (length xs) ∙ sym (no_record cfg (0 + 1)))

pub first_found : (cfg : Config) (s s2 : State) (xs ys : List ℕ) (fields : List (List ℕ)) (o : Option Read) → next_record cfg s [] [] xs ≡ o → NextIs o true fields s2 ys → records_from cfg (length xs + 1) s xs ≡ fields ∷ records_from cfg (length ys + 1) s2 ys
unfolding records_from
first_found cfg s s2 xs ys fields None is next = absurd (cc)
first_found cfg s s2 xs ys fields (Some p) is next =
    let (found, fields_is, s2_is, ys_is) = next in
    rw add-one
    (ap (λ (o : Option Read). records_next (records_from cfg (length xs)) o) is
    ∙ ap (λ rest. p.0 ∷ rest) (rest_same cfg xs p (shrinks cfg s [] [] xs p is))
    ∙ ap (λ (f : List (List ℕ)). f ∷ records_from cfg (length p.2 + 1) p.1 p.2) (sym fields_is)
    ∙ ap (λ (z : State). fields ∷ records_from cfg (length p.2 + 1) z p.2) (sym s2_is)
    ∙ ap (λ (zs : List ℕ). fields ∷ records_from cfg (length zs + 1) s2 zs) (sym ys_is))

first_missing : (cfg : Config) (s s2 : State) (xs ys : List ℕ) (fields : List (List ℕ)) (o : Option Read) → next_record cfg s [] [] xs ≡ o → NextIs o false fields s2 ys → records_from cfg (length xs + 1) s xs ≡ []
unfolding records_from
first_missing cfg s s2 xs ys fields None is next = rw add-one (ap (λ (o : Option Read). records_next (records_from cfg (length xs)) o) is)
first_missing cfg s s2 xs ys fields (Some p) is next = let found = next.0 in absurd (cc)

some_read : (s s2 : State) (before after : Option (List ℕ)) (fields : List (List ℕ)) → ReadsNext default_config s before after true fields s2 → IsSome before → IsSome after × (records_of s before ≡ fields ∷ records_of s2 after)
some_read s s2 None after fields reads known = absurd (cc)
some_read s s2 (Some xs) None fields reads known = absurd reads
some_read s s2 (Some xs) (Some ys) fields reads known = (refl, first_found default_config s s2 xs ys fields (next_record default_config s [] [] xs) refl reads)

none_read : (s s2 : State) (before after : Option (List ℕ)) (fields : List (List ℕ)) → ReadsNext default_config s before after false fields s2 → records_of s before ≡ []
none_read s s2 None after fields reads = refl
none_read s s2 (Some xs) None fields reads = absurd reads
none_read s s2 (Some xs) (Some ys) fields reads = first_missing default_config s s2 xs ys fields (next_record default_config s [] [] xs) refl reads

-- past a byte order mark the bytes that are read are those in the buffer and behind it
pending_is : (r : Reader (Bor (List ℕ))) → r.bom_checked ≡ true → pending_of (behind r.rdr) r ≡ source_of behind r
pending_is r checked = rw checked refl

-- what a read leaves, and what it gave
pub next_reads : (old new : Reader (Bor (List ℕ))) (outcome : Result Bool Error) (fields : List (List ℕ)) → Reads old
    → IfOk outcome (λ found. (reader_trim old ≡ trim.None) → Ready old → ReadRecord behind old new found fields)
    → ((reader_trim old ≡ trim.None) → OnOk outcome (took_first new ≡ true))
    → OnOk outcome (is_flexible new ≡ is_flexible old)
    → OnOk outcome (has_failed new ≡ has_failed old)
    → IsReading (not (found_in outcome)) new × IfOk outcome (λ found. MatchBool found (left_of false old ≡ fields ∷ left_of (not found) new) (left_of false old ≡ []))
next_reads old new (Err e) fields was reads ready flexible goes = (tt, tt)
next_reads old new (Ok false) fields was reads ready flexible goes =
    let taken = reads was.trim was.ready in
    let next : ReadsNext default_config old.state (source_of behind old) (pending_of (behind new.rdr) new) false fields new.state = subst (λ (cfg : Config). ReadsNext cfg old.state (source_of behind old) (pending_of (behind new.rdr) new) false fields new.state) was.config taken.0 in
    (tt, none_read old.state new.state (source_of behind old) (pending_of (behind new.rdr) new) fields next)
next_reads old new (Ok true) fields was reads ready flexible goes =
    let taken = reads was.trim was.ready in
    let next : ReadsNext default_config old.state (source_of behind old) (pending_of (behind new.rdr) new) true fields new.state = subst (λ (cfg : Config). ReadsNext cfg old.state (source_of behind old) (pending_of (behind new.rdr) new) true fields new.state) was.config taken.0 in
    let same = pending_is new taken.1 in
    let found = some_read old.state new.state (source_of behind old) (pending_of (behind new.rdr) new) fields next was.known in (
      record {
        config = taken.2 ∙ was.config;
        trim = taken.3 ∙ was.trim;
        flexible = flexible ∙ was.flexible;
        goes = goes ∙ was.goes;
        ready = inl (ready was.trim);
        known = subst (λ (o : Option (List ℕ)). IsSome o) same found.0;
      },
      found.1 ∙ ap (λ (o : Option (List ℕ)). fields ∷ records_of new.state o) same,
    )

answer : (outcome : Result Bool Error) (r : Result Bool NoMemory) (ended more : Bool) (old new : Reader (Bor (List ℕ))) (shown : List (List (List ℕ))) (fields : List (List ℕ)) → ended ≡ false → left_of ended old ≡ shown → more ≡ found_in outcome
    → MatchResult outcome (λ found. r ≡ Ok found) (λ e. Unit {0}) → is_ok r ≡ is_ok outcome
    → IfOk outcome (λ found. MatchBool found (left_of false old ≡ fields ∷ left_of (not found) new) (left_of false old ≡ []))
    → IfOk r (λ found. MatchBool found (shown ≡ fields ∷ left_of (not more) new) (shown ≡ []))
answer (Err e) (Ok found) ended more old new shown fields open_still is tells same kind next = absurd (cc)
answer (Err e) (Err n) ended more old new shown fields open_still is tells same kind next = tt
answer (Ok found) (Err n) ended more old new shown fields open_still is tells same kind next = absurd (cc)
answer (Ok false) (Ok told) ended more old new shown fields open_still is tells same kind next =
    let alike : told ≡ false = cc in
    rw alike (sym is ∙ ap (λ (b : Bool). left_of b old) open_still ∙ next)
answer (Ok true) (Ok told) ended more old new shown fields open_still is tells same kind next =
    let alike : told ≡ true = cc in
    rw alike (sym is ∙ ap (λ (b : Bool). left_of b old) open_still ∙ next ∙ ap (λ (b : Bool). fields ∷ left_of (not b) new) (sym tells))

no_error : {T E : Type 0} (r : Result T E) (f : E → Type 0) (P : T → Type 0) → MatchResult r P f → MatchResult r P (λ e. Unit {0})
no_error (Ok x) f P h = h
no_error (Err e) f P h = tt

still_reads : (ended : Bool) (r : Reader (Bor (List ℕ))) → ended ≡ false → IsReading ended r → Reads r
still_reads true r e reads = absurd (cc)
still_reads false r e reads = reads

-- what the next record is, as it is answered
pub next_shown : (old new : Reader (Bor (List ℕ))) (outcome : Result Bool Error) (r : Result Bool NoMemory) (f : Error → Type 0) (ended more : Bool) (shown : List (List (List ℕ))) (fields : List (List ℕ)) → ended ≡ false → IsReading ended old → left_of ended old ≡ shown → more ≡ found_in outcome
    → MatchResult outcome (λ found. r ≡ Ok found) f → is_ok r ≡ is_ok outcome
    → IfOk outcome (λ found. (reader_trim old ≡ trim.None) → Ready old → ReadRecord behind old new found fields)
    → ((reader_trim old ≡ trim.None) → OnOk outcome (took_first new ≡ true))
    → OnOk outcome (is_flexible new ≡ is_flexible old)
    → OnOk outcome (has_failed new ≡ has_failed old)
    → IfOk r (λ found. MatchBool found (shown ≡ fields ∷ left_of (not more) new) (shown ≡ []))
next_shown old new outcome r f ended more shown fields open_still was is tells same kind reads ready flexible goes =
    answer outcome r ended more old new shown fields open_still is tells (no_error outcome f (λ found. r ≡ Ok found) same) kind
    (next_reads old new outcome fields (still_reads ended old open_still was) reads ready flexible goes).1

same_found : (outcome : Result Bool Error) (r : Result Bool NoMemory) (f : Error → Type 0) → MatchResult outcome (λ found. r ≡ Ok found) f → is_ok r ≡ is_ok outcome → found_in r ≡ found_in outcome
same_found (Ok found) r f same kind = ap (λ (o : Result Bool NoMemory). found_in o) same
same_found (Err e) (Ok found) f same kind = absurd (cc)
same_found (Err e) (Err n) f same kind = refl

-- where no record was found, none is left
pub none_shown : (new : Reader (Bor (List ℕ))) (outcome : Result Bool Error) (r : Result Bool NoMemory) (f : Error → Type 0) (more : Bool) → more ≡ found_in outcome
    → MatchResult outcome (λ found. r ≡ Ok found) f → is_ok r ≡ is_ok outcome → found_in r ≡ false → left_of (not more) new ≡ []
none_shown new outcome r f more tells same kind none =
    ap (λ (b : Bool). left_of (not b) new) (tells ∙ sym (same_found outcome r f same kind) ∙ none)
