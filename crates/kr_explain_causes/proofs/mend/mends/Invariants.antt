use Rattle.kr_explain_causes.specs.Mends.{Accepts, IsOf, MakesSafe, Mends}
use Rattle.kr_explain_causes.proofs.Found.{AreFound}
use Rattle.kr_explain_causes.proofs.Tried.{IsMadeOf}
use Rattle.kr_explain_causes.proofs.mend.mends.Given as goal

-- what was said of the changes so far, all of them made of one
abbrev pub invariant-loop-mode : goal.invariant-loop-mode
invariant-loop-mode g l =
    let p = g.P.Protocol.table l.protocol in
    AreFound (Accepts p) (MakesSafe p) (Mends p l.cause.cases.items l.failed) (IsMadeOf (IsOf l.cause.blame) l.to_any) l.mode-index l.mend
