use Rattle.kr_model.specs.Kvl.{kvl}
use Rattle.kr_threaded_tests.proofs.tests.engine.cores.plays.Given as goal

-- this core's row, its opening and its table
abbrev pub ghosts-has_answers : goal.ghosts-has_answers
ghosts-has_answers a = record { places = a.row.now; opening = a.opening.now; table = kvl }
