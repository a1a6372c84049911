-- One connection more that was left, and the last one.
use Rattle.std.proofs.Common.{◌≡◌, ℕ, zero, suc, List, [], ◌∷◌, ◌++◌, length, Option, refl, ap, sym, subst, ◌∙◌, append_assoc, append-nil}
use Rattle.std.specs.List.{AllByRecursion}
use Rattle.tk_input.specs.Sink.{Grows}
use Rattle.tk_wire.specs.Meanings.{raised_by}
use Rattle.tk_watch.specs.Connections.{GrowsAs, IsSo, Nothing, Past, Writes, number_after, pasts_text, said_of, said_text}
use Rattle.tk_watch.specs.Passing.{ClosesWith, GoesOn, IsUnreached, PassesOn}
use Rattle.tk_watch.specs.Watch.{Named}
use Rattle.tk_watch.specs.declared.cause.Cause.{Cause}
use Rattle.tk_watch.specs.declared.verdict.Verdict.{Verdict}
use Rattle.tk_watch.specs.declared.verdict.Verdict.TheVariants as v
use Rattle.tk_ledger.proofs.SinkLemmas.{grows_more, grows_none}
use Rattle.tk_watch.proofs.SinkLemmas.{grows_as_more}

abbrev IsPast : (W : Type 0) → Named → Past → Type 0
IsPast W named p = IsSo W named (said_of p)

number_raised : (number n : ℕ) → number_after (raised_by 1 number) n ≡ raised_by 1 (number_after number n)
number_raised number zero = refl
number_raised number (suc n) = number_raised (raised_by 1 number) n

number_more : (number : ℕ) (ps : List Past) (p : Past) → number_after number (length (ps ++ p ∷ [])) ≡ raised_by 1 (number_after number (length ps))
number_more number [] p = refl
number_more number (q ∷ ps) p = number_more (raised_by 1 number) ps p

pasts_more : (number : ℕ) (ps : List Past) (p : Past)
    → pasts_text number (ps ++ p ∷ []) ≡ pasts_text number ps ++ said_text (number_after number (length ps)) (said_of p)
pasts_more number [] p = append-nil (said_text number (said_of p))
pasts_more number (q ∷ ps) p =
    ap (λ (text : List ℕ). said_text number (said_of q) ++ text) (pasts_more (raised_by 1 number) ps p)
    ∙ sym (append_assoc (said_text number (said_of q)) (pasts_text (raised_by 1 number) ps) _)

each_more : (W : Type 0) (named : Named) (ps : List Past) (p : Past) → AllByRecursion (IsPast W named) ps → IsPast W named p → AllByRecursion (IsPast W named) (ps ++ p ∷ [])
each_more W named [] p each is = (is, tt)
each_more W named (q ∷ ps) p each is = (each.0, each_more W named ps p each.1 is)

-- no connection was made yet
pub goes_first : (W : Type 0) (named : Named) (a : Option (List ℕ)) → GoesOn W named 1 a a
goes_first W named a = record { pasts = []; each = tt; numbered = refl; text = grows_none a }

-- one more was left
pub goes_on : (W : Type 0) (named : Named) (number next : ℕ) (cause : Cause) (a b c : Option (List ℕ)) → next ≡ raised_by 1 number → GoesOn W named number a b → PassesOn W named number cause b c → GoesOn W named next a c
goes_on W named number next cause a b c raised goes passes =
    let p : Past = record { counts = passes.counts; ticks = passes.ticks; cause = cause } in
    let numbered : Grows b c (said_text (number_after 1 (length goes.pasts)) (said_of p)) = subst (λ (n : ℕ). Grows b c (said_text n (said_of p))) goes.numbered passes.text in
    record {
      pasts = goes.pasts ++ p ∷ [];
      each = each_more W named goes.pasts p goes.each passes.is;
      numbered = raised ∙ ap (raised_by 1) goes.numbered ∙ sym (number_more 1 goes.pasts p);
      text = subst (Grows a c) (sym (pasts_more 1 goes.pasts p)) (grows_more a b c _ _ goes.text numbered);
    }

-- the last one
pub closes : (W : Type 0) (named : Named) (number : ℕ) (verdict : Verdict) (a b c : Option (List ℕ)) → GoesOn W named number a b → ClosesWith W named number verdict b c → Writes W named verdict a c
closes W named number verdict a b c goes last = record {
  pasts = goes.pasts;
  last = last.last;
  each = goes.each;
  is = last.is;
  fits = last.fits;
  text = grows_as_more verdict a b c _ _ goes.text (subst (λ (n : ℕ). GrowsAs verdict b c (said_text n last.last)) goes.numbered last.text);
}

-- of a dial that nobody answered nothing was said
pub unreached_closes : (W : Type 0) (named : Named) (number : ℕ) (verdict : Verdict) (a : Option (List ℕ)) → IsUnreached verdict → ClosesWith W named number verdict a a
unreached_closes W named number v.Done a is = absurd is
unreached_closes W named number v.WriteFault a is = absurd is
unreached_closes W named number v.LinkFault a is = record { last = Nothing; is = tt; fits = refl; text = grows_none a }
unreached_closes W named number (v.Fed fault) a is = record { last = Nothing; is = tt; fits = tt; text = grows_none a }
unreached_closes W named number v.NoMemory a is = record { last = Nothing; is = tt; fits = tt; text = grows_none a }

-- where the process ended before any connection nothing was said
pub writes_nothing : (W : Type 0) (named : Named) (a : Option (List ℕ)) → Writes W named v.NoMemory a a
writes_nothing W named a = record { pasts = []; last = Nothing; each = tt; is = tt; fits = tt; text = grows_none a }
