use Rattle.std.proofs.Common.{refl}
use Rattle.kr_model.specs.Kvl.{kvl}
use Rattle.kr_model.specs.KvlUpdate.{kvl_update}
use Rattle.kr_model.specs.Im.{im}
use Rattle.kr_model.specs.RangeKey.{range_key}
use Rattle.kr_model.proofs.Bundled.{kvl_lawful, kvl_update_lawful, im_lawful, range_key_lawful}
use Rattle.kr_theorem.proofs.Tested.{ordered_by_test}
use Rattle.kr_theorem.proofs.bundled_are_ordered.Goals as goal

pub returns-clause-kvl : goal.returns-clause-kvl
returns-clause-kvl c = ordered_by_test kvl kvl_lawful refl

pub returns-clause-kvl_update : goal.returns-clause-kvl_update
returns-clause-kvl_update c = ordered_by_test kvl_update kvl_update_lawful refl

pub returns-clause-im : goal.returns-clause-im
returns-clause-im c = ordered_by_test im im_lawful refl

pub returns-clause-range_key : goal.returns-clause-range_key
returns-clause-range_key c = ordered_by_test range_key range_key_lawful refl
