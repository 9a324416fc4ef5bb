use Rattle.kr_threads.proofs.run.run_compared.Given as goal

-- this engine's row, its opening, and its table
abbrev pub ghosts-run_named : goal.ghosts-run_named
ghosts-run_named g a = record { places = a.row; opening = a.opening.now; table = g.P.Protocol.table a.protocol.now }
