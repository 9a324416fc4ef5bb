use Rattle.kr_model.specs.Kvl.{kvl}
use Rattle.kr_memory_tests.proofs.tests.seats.in_an_engine.Given as goal

-- this engine's row, its opening and its table
abbrev pub ghosts-inserts : goal.ghosts-inserts
ghosts-inserts g a = record { places = a.row; opening = a.opening.now; table = kvl }
