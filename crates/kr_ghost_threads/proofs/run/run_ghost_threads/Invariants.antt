use Rattle.kr_ghost_threads.proofs.run.run_ghost_threads.Given as goal

-- this run's opening, and its table
abbrev pub ghosts-run_named : goal.ghosts-run_named
ghosts-run_named g a = record { opening = a.opening.now; table = g.P.GhostProtocol.ghosts a.protocol.now }
