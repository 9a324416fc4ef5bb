use Rattle.kr_model.specs.KvlUpdate.{kvl_update}
use Rattle.kr_threaded_tests.proofs.tests.threads.soak.eight_threads.Given as goal

-- this engine's row, its opening and its table
abbrev pub ghosts-soaked : goal.ghosts-soaked
ghosts-soaked g a = record { places = a.row; opening = a.opening.now; table = kvl_update }
