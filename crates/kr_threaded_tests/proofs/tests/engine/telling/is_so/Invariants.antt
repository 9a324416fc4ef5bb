use Rattle.kr_threaded_tests.proofs.tests.engine.telling.is_so.Given as goal

-- this engine's row, its opening and its table
abbrev pub ghosts-is_so_of : goal.ghosts-is_so_of
ghosts-is_so_of g a = record { places = a.row; opening = a.opening.now; table = g.P.Protocol.table a.protocol }
