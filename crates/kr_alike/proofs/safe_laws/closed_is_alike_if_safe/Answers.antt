use Rattle.kr_alike.proofs.SafeRuns.{closed_is_alike}
use Rattle.kr_alike.proofs.safe_laws.closed_is_alike_if_safe.Goals as goal

pub returns : goal.returns
returns c = closed_is_alike
