use Rattle.std.proofs.Common.{◌≡◌, true, false, sym}
use Rattle.std.proofs.lemmas.Bool.{cond-true, cond-false}
use Rattle.std.specs.Prelude.{bytes_eq, codes}
use Rattle.tk_words.proofs.forms.yes.Goals as goal

pub returns-then-eq : goal.returns-then-eq
returns-then-eq c =
    let is : bytes_eq c.args.text.now (codes "yes") ≡ true = cc in
    sym (cond-true _ _ _ is)

pub returns-else-eq : goal.returns-else-eq
returns-else-eq c =
    let other : bytes_eq c.args.text.now (codes "yes") ≡ false = cc in
    sym (cond-false _ _ _ other)
