use Rattle.tk_input.proofs.CatalogLemmas.{catalogue_again, catalogue_read}
use Rattle.tk_input.proofs.laws.a_catalogue_is_of_its_names.Goals as goal

pub returns-clause-read : goal.returns-clause-read
returns-clause-read c = catalogue_read

pub returns-clause-made : goal.returns-clause-made
returns-clause-made c = catalogue_again
