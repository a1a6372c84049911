-- What a read of a file in memory gives, and what it leaves of the counts.
use Rattle.std.proofs.Common.{◌≡◌, ◌≢◌, ◌<◌, ◌≤◌, ℕ, max, List, Bool, true, false, length, Option, Some, None, Result, Ok, Err, Vec, ap, refl, ◌∙◌, arith}
use Rattle.std.specs.Prelude.{IfOk, IfErr, IfSome, IsErrOf, OnOk, is_err, if◌then◌else◌, nat_lt}
use Rattle.std.specs.Option.{option_map_or}
use Rattle.std.proofs.lemmas.Bool.{ltb-true, ltb-false}
use Rattle.tk_input.specs.MapFiles.{Faults, TakesNoMore, given, longest_after}
use Rattle.tk_input.specs.Tallies.{Count, Notes, faults_of, longest_of}
use Rattle.tk_input.specs.declared.files.FileFault.{FileFault}
use Rattle.tk_input.specs.declared.files.FileFault.TheVariants.{Failed, NoMemory, TooLong}

-- what holds of a result that is no error
pub on_ok : {T E : Type 0} (r : Result T E) (P : Type 0) → is_err r ≡ false → OnOk r P → P
on_ok (Ok x) P none holds = holds
on_ok (Err e) P none holds = absurd (cc)

-- a fault that is handed on
pub same_fault : {S T E : Type 0} (r : Result S E) (s : Result T E) (e f : E) → r ≡ Err e → s ≡ Err e → s ≡ Err f → r ≡ Err f
same_fault r (Ok x) e f was is so = absurd (cc)
same_fault {S} {T} {E} r (Err d) e f was is so = let same : e ≡ f = cc in was ∙ ap (λ (x : E). Err x) same

pub no_fault : {T E : Type 0} (r : Result T E) (x : T) (e : E) → r ≡ Ok x → r ≡ Err e → ⊥
no_fault (Ok y) x e is so = absurd (cc)
no_fault (Err d) x e is so = absurd (cc)

-- the counts of a name that was noted
pub faults_now : (old new : List Count) (name : List ℕ) (f l : ℕ) → Notes old new name f l → faults_of new name ≡ f
faults_now old new name f l notes = ap (λ (o : Option Count). option_map_or (λ c. c.faults) o 0) notes.counted

pub longest_now : (old new : List Count) (name : List ℕ) (f l : ℕ) → Notes old new name f l → longest_of new name ≡ l
longest_now old new name f l notes = ap (λ (o : Option Count). option_map_or (λ c. c.longest) o 0) notes.counted

-- what is noted behind the taking of the room
pub noted_behind : (f l : ℕ → ℕ) (before between after : List Count) (name : List ℕ)
    → Notes before between name (faults_of before name) (longest_of before name)
    → Notes between after name (f (faults_of between name)) (l (longest_of between name))
    → Notes before after name (f (faults_of before name)) (l (longest_of before name))
noted_behind f l before between after name first second = record {
  counted = second.counted
      ∙ ap (λ (n : ℕ). Some (record { name = name; faults = f n; longest = l (longest_of between name) })) (faults_now before between name _ _ first)
      ∙ ap (λ (n : ℕ). Some (record { name = name; faults = f (faults_of before name); longest = l n })) (longest_now before between name _ _ first);
  others = λ other apart. second.others other apart ∙ first.others other apart;
}

-- the counts of another name
pub faults_beside : (old new : List Count) (name other : List ℕ) (f l : ℕ) → Notes old new name f l → other ≢ name → faults_of new other ≡ faults_of old other
faults_beside old new name other f l notes apart = ap (λ (o : Option Count). option_map_or (λ c. c.faults) o 0) (notes.others other apart)

pub longest_beside : (old new : List Count) (name other : List ℕ) (f l : ℕ) → Notes old new name f l → other ≢ name → longest_of new other ≡ longest_of old other
longest_beside old new name other f l notes apart = ap (λ (o : Option Count). option_map_or (λ c. c.longest) o 0) (notes.others other apart)

pub more_taken : {A : Type 0} (r : Result (Vec ℕ A) FileFault) (old new : ℕ) → new ≡ longest_after r old → old ≤ new
more_taken (Ok v) old new is = omega (arith, is)
more_taken (Err Failed) old new is = omega (arith, is)
more_taken (Err TooLong) old new is = omega (arith, is)
more_taken (Err NoMemory) old new is = omega (arith, is)

pub copy_taken : {A : Type 0} (r : Result (Vec ℕ A) FileFault) (old new : ℕ) → new ≡ longest_after r old → IfOk r (λ v. length v.items ≤ new)
copy_taken (Ok v) old new is = omega (arith, is)
copy_taken (Err e) old new is = tt

pub limit_taken : {A : Type 0} (r : Result (Vec ℕ A) FileFault) (old new : ℕ) → new ≡ longest_after r old → IsErrOf r TooLong → 67108864 < new
limit_taken (Ok v) old new is long = absurd (cc)
limit_taken (Err Failed) old new is long = absurd (cc)
limit_taken (Err TooLong) old new is long = omega (arith, is)
limit_taken (Err NoMemory) old new is long = absurd (cc)

-- a content that is given is whole and within the limit
pub record IsWhole (file : Option (List ℕ)) (bytes : List ℕ) : Type 0 where
  pub same : file ≡ Some bytes
  pub short : length bytes ≤ 67108864

whole_by : (b : Bool) (told bytes : List ℕ) → nat_lt 67108864 (length told) ≡ b → (if b then Err TooLong else Ok told) ≡ Ok bytes → IsWhole (Some told) bytes
whole_by true told bytes is gives = absurd (cc)
whole_by false told bytes is gives =
    let same : told ≡ bytes = cc in
    record { same = ap (λ (bs : List ℕ). Some bs) same; short = omega (arith, ltb-false 67108864 (length told) is, ap (λ (bs : List ℕ). length bs) same) }

pub given_whole : (fails : Bool) (file : Option (List ℕ)) (bytes : List ℕ) → given fails file ≡ Ok bytes → IsWhole file bytes
given_whole true file bytes gives = absurd (cc)
given_whole false None bytes gives = absurd (cc)
given_whole false (Some told) bytes gives = whole_by (nat_lt 67108864 (length told)) told bytes refl gives

long_by : (b : Bool) (told : List ℕ) → nat_lt 67108864 (length told) ≡ b → (if b then Err TooLong else Ok told) ≡ Err TooLong → 67108864 < length told
long_by true told is gives = ltb-true 67108864 (length told) is
long_by false told is gives = absurd (cc)

pub given_long : (fails : Bool) (file : Option (List ℕ)) → given fails file ≡ Err TooLong → IfSome file (λ told. 67108864 < length told)
given_long true file gives = absurd (cc)
given_long false None gives = tt
given_long false (Some told) gives = long_by (nat_lt 67108864 (length told)) told refl gives

-- what the result of a read tells of the content
pub copy_same : {A : Type 0} (r : Result (Vec ℕ A) FileFault) (fails : Bool) (file : Option (List ℕ)) → IfOk r (λ v. given fails file ≡ Ok v.items) → IfOk r (λ v. IfSome file (λ told. v.items ≡ told))
copy_same (Ok v) fails file gives = rw (given_whole fails file v.items gives).same refl
copy_same (Err e) fails file gives = tt

pub copy_short : {A : Type 0} (r : Result (Vec ℕ A) FileFault) (fails : Bool) (file : Option (List ℕ)) → IfOk r (λ v. given fails file ≡ Ok v.items) → IfOk r (λ v. length v.items ≤ 67108864)
copy_short (Ok v) fails file gives = (given_whole fails file v.items gives).short
copy_short (Err e) fails file gives = tt

pub content_long : {A : Type 0} (r : Result (Vec ℕ A) FileFault) (fails : Bool) (file : Option (List ℕ)) → IfErr r (λ e. Faults e (given fails file)) → IsErrOf r TooLong → IfSome file (λ told. 67108864 < length told)
content_long (Ok v) fails file gives long = absurd (cc)
content_long (Err Failed) fails file gives long = absurd (cc)
content_long (Err TooLong) fails file gives long = given_long fails file gives
content_long (Err NoMemory) fails file gives long = absurd (cc)

within : (file : Option (List ℕ)) (old new : ℕ) → new ≤ old → TakesNoMore file old new
within None old new below = tt
within (Some told) old new below = omega (arith, below)

limit_within : (file : Option (List ℕ)) (old new : ℕ) → IfSome file (λ told. 67108864 < length told) → new ≡ max old 67108865 → TakesNoMore file old new
limit_within None old new long is = tt
limit_within (Some told) old new long is = omega (arith, is, long)

-- no read takes more than the content
pub takes_no_more : {A : Type 0} (r : Result (Vec ℕ A) FileFault) (fails : Bool) (file : Option (List ℕ)) (old new : ℕ) → new ≡ longest_after r old
    → IfOk r (λ v. given fails file ≡ Ok v.items) → IfErr r (λ e. Faults e (given fails file)) → TakesNoMore file old new
takes_no_more (Ok v) fails file old new is gives faults = rw (given_whole fails file v.items gives).same (omega (arith, is))
takes_no_more (Err Failed) fails file old new is gives faults = within file old new (omega (arith, is))
takes_no_more (Err TooLong) fails file old new is gives faults = limit_within file old new (given_long fails file faults) is
takes_no_more (Err NoMemory) fails file old new is gives faults = within file old new (omega (arith, is))
