use Rattle.kr_alike.proofs.Runs.{closed_is_alike}
use Rattle.kr_alike.proofs.laws.closed_is_alike.Goals as goal

pub returns : goal.returns
returns c = closed_is_alike
