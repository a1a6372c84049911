-- What is meant by bytes that were read is no file that cannot be read.
use Rattle.std.proofs.Common.{◌≡◌, ℕ, Bool, true, false, if◌then◌else◌, List, [], ◌∷◌, Option, Some, None, Result, Ok, Err, inl, inr}
use Rattle.std.specs.Prelude.{◌&&◌, nat_le, nat_lt}
use Rattle.tk_base.specs.Settings.{Setup}
use Rattle.tk_input.specs.Catalog.{catalog_of}
use Rattle.tk_input.specs.Judged.{Assigned}
use Rattle.tk_input.specs.Logs.{LogSet}
use Rattle.tk_window.specs.TickEnds.{Sources, parts_in}
use Rattle.tk_words.specs.Words.{SourceWords}
use Rattle.tk_load.specs.Faults.{Fault, after, bad_whole, catalog_fault, logs_fault, setting_fault, telling}
use Rattle.tk_load.specs.Faults.Fault.{Unread}
use Rattle.tk_load.specs.declared.changes.Together.{Together}
use Rattle.tk_load.specs.Input.{ends_with, joined, limits_asked, order_of_bytes, together, width_in}
use Rattle.tk_load.specs.Reads.{FileReads}
use Rattle.tk_load.specs.declared.status.InputKind.TheVariants.{BadWidth}
use Rattle.tk_load.proofs.FailLemmas.{IsOther}
use Rattle.tk_load.proofs.UnreadLemmas.{catalog_other, either, logs_other, not_bytes, not_telling}

-- a fault that is told as another
pub telling_other : {V E : Type 0} (fault : E → Fault) (r : Result V E) → ((n : List ℕ) (e : E) → fault e ≡ Unread n → ⊥) → IsOther (telling fault r)
telling_other fault r other = λ n. not_telling n fault r (other n)

-- rules one after the other
pub after_other : {V W : Type 0} (first : Result V Fault) (next : V → Result W Fault) → IsOther first → ((x : V) → IsOther (next x)) → IsOther (after first next)
after_other first next one more = λ n is. elim (either n first next is) [
  | inl lost ↦ one n lost
  | inr found ↦ more found.0 n found.2
]

-- what is found is no fault
pub fine_other : {V : Type 0} (x : V) → IsOther (Ok x)
fine_other x = λ n is. cc (is)

pub names_other : (file bytes : List ℕ) → IsOther (telling (catalog_fault file) (catalog_of bytes))
names_other file bytes = telling_other (catalog_fault file) (catalog_of bytes) (λ n. catalog_other n file)

pub joined_other : (logs : Assigned) (objects : ℕ) → IsOther (joined logs objects)
joined_other logs objects = telling_other logs_fault _ (λ n. logs_other n)

pub together_other : (width : Option ℕ) (logs : Sources) (objects : ℕ) → IsOther (together width logs objects)
together_other width logs objects =
    after_other (joined (parts_in logs) objects) (λ (all : LogSet). Ok (with_ends all)) (joined_other (parts_in logs) objects) (λ (all : LogSet). fine_other (with_ends all))
  where
    with_ends : LogSet → Together
    with_ends all = record { logs = all; ends = ends_with width logs }

tested_other : {V : Type 0} (good : Bool) (x : V) → IsOther (if good then Ok x else Err (bad_whole BadWidth))
tested_other true x = fine_other x
tested_other false x = λ n is. cc (is)

width_other : (width : Option ℕ) → IsOther (width_in width)
width_other None = fine_other None
width_other (Some width) = tested_other (nat_lt 0 width && nat_le width 1000000) (Some width)

pub limits_other : (words : SourceWords) (names : List (List ℕ)) → IsOther (limits_asked words names)
limits_other words names =
    after_other _ _ (telling_other setting_fault _ (λ n e is. cc (is))) (λ settings.
    after_other _ _ (width_other words.width) (λ tested. fine_other _))

pub order_bytes_other : (reads : FileReads) (settings : Setup) (name bytes : List ℕ) → IsOther (order_of_bytes settings name bytes)
order_bytes_other reads settings name bytes = λ n. not_bytes n reads settings name bytes
