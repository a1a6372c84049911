-- The word that a line has for a cause.
use Rattle.std.specs.Prelude.{ℕ, List, codes}
use Rattle.tk_watch.specs.declared.cause.Cause.{Cause}
use Rattle.tk_watch.specs.declared.cause.Cause.TheVariants as c

-- the word for a cause
abbrev pub word_of : Cause → List ℕ
word_of c.Link = codes "link"
word_of c.Refused = codes "refused"
word_of c.Bad = codes "bad"
word_of c.Full = codes "full"
word_of c.Memory = codes "memory"
