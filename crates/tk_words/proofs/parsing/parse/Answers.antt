use Rattle.std.proofs.Common.{◌≡◌, map, string_bytes}
use Rattle.clap.specs.Words.{app_of, found_of, rows_of}
use Rattle.tk_words.specs.declared.fault.WordsFault.TheVariants.{Usage}
use Rattle.tk_words.proofs.FoundLemmas.{first_holds, found, refused}
use Rattle.tk_words.proofs.parsing.parse.Goals as goal

pub returns-in-Ok-clause-ok : goal.returns-in-Ok-clause-ok
returns-in-Ok-clause-ok c =
    found (app_of c.args.command) (map string_bytes c.args.words.now) (rows_of (found_of c.in-Ok.matches)) (c.in-Ok.ensures.kinds c.requires) (c.in-Ok.ensures.matches (first_holds _ _ c.requires)).0

pub returns-in-Err-clause-usage : goal.returns-in-Err-clause-usage
returns-in-Err-clause-usage c = λ usage.
    let same : c.fault_of.result ≡ Usage = cc in
    refused (app_of c.args.command) (map string_bytes c.args.words.now) c.in-Err.error (c.fault_of.ensures same) (c.in-Err.ensures.kinds c.requires)
