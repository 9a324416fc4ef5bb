use Rattle.std.proofs.Common.{arith, ap}
use Rattle.std.proofs.lemmas.Grind.{common_steps}
use Rattle.kr_ghost_index.proofs.index.GhostIndex.pairs.Goals as goal

pub returns : goal.returns
returns c = let whole = ap (λ x. x.map) c.self.view_is in grind (arith, common_steps)
