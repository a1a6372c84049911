use Rattle.std.proofs.Common.{◌≡◌, ℕ, List, suc, [], refl, sym, subst, arith}
use Rattle.std.specs.Global.{Vec}
use Rattle.std.proofs.lemmas.List.Elements.{All-push}
use Rattle.tk_journal.specs.Links.{sent_to}
use Rattle.tk_coord.specs.Journal.{IsIndex}
use Rattle.tk_coord.proofs.ElementLemmas.{all_read}
use Rattle.tk_coord.proofs.journal.no_places.Goals as goal

pub loop-j-preserved : goal.loop-j-preserved
loop-j-preserved c = record {
  len = omega (arith, c.push_reserved.ensures.len, c.loop-j.invariant.len);
  room = omega (arith, c.push_reserved.ensures.capacity, c.loop-j.invariant.room);
  none = rw c.push_reserved.ensures.items (All-push (λ (v : Vec ℕ). v.items ≡ []) c.loop-j.sent.items c.new.result c.loop-j.invariant.none c.new.ensures.items);
}

pub returns-clause-sent : goal.returns-clause-sent
returns-clause-sent c = λ j v there.
    subst (λ (l : List ℕ). IsIndex (sent_to (suc j)) [] l) (sym (all_read (λ (v : Vec ℕ). v.items ≡ []) c.loop-j.sent.items j v c.loop-j.invariant.none there))
    (record { count = refl; each = λ i below. absurd (omega (arith, below)) })
