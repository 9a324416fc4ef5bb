use Rattle.kr_model.specs.Kvl.{kvl}
use Rattle.kr_model.specs.KvlUpdate.{kvl_update}
use Rattle.kr_model.specs.Im.{im}
use Rattle.kr_model.specs.RangeKey.{range_key}
use Rattle.kr_model.proofs.Bundled.{kvl_lawful, kvl_covered, kvl_update_lawful, kvl_update_covered, im_lawful, im_covered, range_key_lawful, range_key_covered}
use Rattle.kr_theorem.proofs.run.Runs.{runs_are_serial}
use Rattle.kr_theorem.proofs.bundled_runs_are_serial.Goals as goal

pub returns-clause-kvl : goal.returns-clause-kvl
returns-clause-kvl c = runs_are_serial kvl kvl_lawful kvl_covered

pub returns-clause-kvl_update : goal.returns-clause-kvl_update
returns-clause-kvl_update c = runs_are_serial kvl_update kvl_update_lawful kvl_update_covered

pub returns-clause-im : goal.returns-clause-im
returns-clause-im c = runs_are_serial im im_lawful im_covered

pub returns-clause-range_key : goal.returns-clause-range_key
returns-clause-range_key c = runs_are_serial range_key range_key_lawful range_key_covered
