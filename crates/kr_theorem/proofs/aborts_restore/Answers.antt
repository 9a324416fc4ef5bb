use Rattle.kr_model.proofs.UndoLaws.{get-restore_all}
use Rattle.kr_theorem.proofs.aborts_restore.Goals as goal

pub returns : goal.returns
returns c = get-restore_all
