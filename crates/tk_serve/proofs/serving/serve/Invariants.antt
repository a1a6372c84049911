use Rattle.tk_serve.proofs.serving.serve.Given as goal

-- the name of the port that is given
abbrev pub ghosts-serve_as : goal.ghosts-serve_as
ghosts-serve_as g a = record { settings = a.port.monitor.settings; setup = a.port.monitor.setup; version = a.port.link.version }
