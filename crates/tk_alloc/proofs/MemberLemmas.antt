-- Membership as a test.
use Rattle.std.proofs.Common.{◌≡◌, ℕ, List, Contains, Bool, true, false, refl, sym}
use Rattle.std.specs.Prelude.{◌↔◌, IsTrue}
use Rattle.std.proofs.lemmas.Bool.{false_from_ne_true, true≢false}
use Rattle.tk_base.specs.Objects.{is_in}
use Rattle.tk_base.proofs.MemberLemmas.{contained_is_in, is_in_contained}

-- a test that says whether an object is contained
pub is_in_from : (xs : List ℕ) (o : ℕ) (b : Bool) → IsTrue b ↔ Contains xs o → b ≡ is_in xs o
is_in_from xs o true h = sym (contained_is_in xs o (h.0 refl))
is_in_from xs o false h = sym (false_from_ne_true (is_in xs o) (λ e. true≢false (sym (h.1 (is_in_contained xs o e)))))
