-- the reasons so far are of the outcomes so far
use Rattle.std.specs.Prelude.{All}
use Rattle.std.proofs.Common.{◌≡◌, take}
use Rattle.kr_relax_text.specs.Reasons.{IsWrong, IsWrongOnly, judged_in}
use Rattle.kr_relax_text.proofs.reasons.reasons_of.Given as goal

abbrev pub invariant-loop-one : goal.invariant-loop-one
invariant-loop-one g l = (judged_in l.list.items ≡ take l.one-index l.judged) × (All (IsWrong (g.P.IndexProtocol.index l.protocol)) l.list.items × All IsWrongOnly l.list.items)
