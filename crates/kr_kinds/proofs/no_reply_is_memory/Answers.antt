use Rattle.kr_kinds.proofs.Ample.{never_refused_memory}
use Rattle.kr_kinds.proofs.no_reply_is_memory.Goals as goal

pub returns : goal.returns
returns c = never_refused_memory
