use Rattle.tk_load.proofs.reading.names_of.Goals as goal

pub returns-in-Ok-clause-named : goal.returns-in-Ok-clause-named
returns-in-Ok-clause-named c = c.a_catalogue_is_of_its_names.ensures.read c.args.bytes.now c.in-Ok.names c.in-Ok.ensures.ok
