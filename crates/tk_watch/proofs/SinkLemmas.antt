-- What is written piece by piece.
use Rattle.std.proofs.Common.{ℕ, List, ◌++◌, Option}
use Rattle.tk_input.specs.Sink.{Grows}
use Rattle.tk_ledger.proofs.SinkLemmas.{front_more, grows_more}
use Rattle.tk_watch.specs.declared.verdict.Verdict.{Verdict}
use Rattle.tk_watch.specs.declared.verdict.Verdict.TheVariants as v
use Rattle.tk_watch.specs.Connections.{GrowsAs}

-- a text, and the next as a verdict has it
pub grows_as_more : (verdict : Verdict) (a b c : Option (List ℕ)) (x y : List ℕ) → Grows a b x → GrowsAs verdict b c y → GrowsAs verdict a c (x ++ y)
grows_as_more v.Done a b c x y first second = grows_more a b c x y first second
grows_as_more v.WriteFault a b c x y first second = front_more a b c x y first second
grows_as_more v.LinkFault a b c x y first second = grows_more a b c x y first second
grows_as_more (v.Fed fault) a b c x y first second = grows_more a b c x y first second
grows_as_more v.NoMemory a b c x y first second = grows_more a b c x y first second
