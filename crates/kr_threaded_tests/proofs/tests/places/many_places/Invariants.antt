use Rattle.std.proofs.Common.{[]}
use Rattle.kr_model.specs.Kvl.{kvl}
use Rattle.kr_threaded_tests.proofs.tests.places.many_places.Given as goal

-- the name of this row, before any step
abbrev pub ghosts-many_places_of : goal.ghosts-many_places_of
ghosts-many_places_of g a = record { places = a.row; opening = []; table = kvl }
