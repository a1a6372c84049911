use Rattle.std.proofs.Common.{◌≡◌, ◌+◌, ◌≤◌, ℕ, List, ◌++◌, length, take, drop, refl, sym, ap, ◌∙◌, subst, arith, vec_capacity}
use Rattle.std.specs.Global.{Vec}
use Rattle.tk_journal.specs.Publishing.{published_in}
use Rattle.tk_journal.specs.declared.noted.Noted.{Noted}
use Rattle.tk_coord.specs.Journal.{AreIndexed, HasRoom, IsIndex}
use Rattle.tk_coord.proofs.PlaceLemmas.{no_room, written_back}
use Rattle.tk_coord.proofs.journal.Journal.reserve.Goals as goal

-- what is noted of entries is noted of the same ones, in the same lists
noted_of_same : (sent : List (Vec ℕ)) {entries old : List Noted} {places published : List ℕ} → entries ≡ old → places ≡ published → AreIndexed old sent → IsIndex published_in old published
    → AreIndexed entries sent × IsIndex published_in entries places
noted_of_same sent {entries} {old} {places} {published} same sets frames index =
    (subst (λ (es : List Noted). AreIndexed es sent) (sym same) frames, subst (λ (es : List Noted). IsIndex published_in es places) (sym same) (subst (IsIndex published_in old) (sym sets) index))

-- a list has room for none more
fits : {X : Type 0} (v : Vec X) → length v.items + 0 ≤ vec_capacity v
fits v = omega (arith, v.ok.0, v.ok.1)

pub invariant_of-self : goal.invariant_of-self
invariant_of-self c =
    let f = c.self.inside in
    let noted = noted_of_same f.sent.items c.reserve.ensures.items refl c.self.invariant.3 c.self.invariant.4 in
    (fits c.reserve.new.self, fits f.published, no_room f.sent.items, noted.0, noted.1)

pub invariant_of-self-in_err-reserve-2 : goal.invariant_of-self-in_err-reserve-2
invariant_of-self-in_err-reserve-2 c =
    let noted = noted_of_same c.self.inside.sent.items c.reserve.ensures.items c.reserve-2.ensures.items c.self.invariant.3 c.self.invariant.4 in
    (fits c.reserve.new.self, fits c.reserve-2.new.self, no_room c.self.inside.sent.items, noted.0, noted.1)

-- the lists of places are those that were written back
back : (old new lent : List (Vec ℕ)) (n : ℕ) → n ≡ length old → lent ≡ old → length new ≡ length lent → take n (new ++ drop (length new) old) ≡ new
back old new lent n size same count = written_back new old n (count ∙ ap length same ∙ sym size)

pub invariant_of-self-in_err-reserve_each : goal.invariant_of-self-in_err-reserve_each
invariant_of-self-in_err-reserve_each c =
    let f = c.self.inside in
    let is = back f.sent.items c.reserve_each.new.sent c.as_mut_slice.result.now f.sent.len f.sent.ok.0 c.as_mut_slice.ensures.value c.reserve_each.ensures.same in
    let kept = c.reserve_each.ensures.kept f.entries.items (rw c.as_mut_slice.ensures.value c.self.invariant.3) in
    let noted = noted_of_same _ c.reserve.ensures.items c.reserve-2.ensures.items (subst (AreIndexed f.entries.items) (sym is) kept) c.self.invariant.4 in
    (fits c.reserve.new.self, fits c.reserve-2.new.self, no_room _, noted.0, noted.1)

pub invariant_of-self-2 : goal.invariant_of-self-2
invariant_of-self-2 c =
    let f = c.self.inside in
    let is = back f.sent.items c.reserve_each.new.sent c.as_mut_slice.result.now f.sent.len f.sent.ok.0 c.as_mut_slice.ensures.value c.reserve_each.ensures.same in
    let kept = c.reserve_each.ensures.kept f.entries.items (rw c.as_mut_slice.ensures.value c.self.invariant.3) in
    let noted = noted_of_same _ c.reserve.ensures.items c.reserve-2.ensures.items (subst (AreIndexed f.entries.items) (sym is) kept) c.self.invariant.4 in (
      omega (arith, c.in_ok-reserve.ensures.ok, c.reserve.new.self.ok.0),
      omega (arith, c.in_ok-reserve-2.ensures.ok, c.reserve-2.new.self.ok.0),
      subst (HasRoom c.args.more) (sym is) c.in_ok-reserve_each.ensures.room,
      noted.0,
      noted.1,
    )
