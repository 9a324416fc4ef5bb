use Rattle.kr_explain_causes.proofs.Found.{AreFound}
use Rattle.kr_explain_causes.proofs.Tried.{IsMadeOf}
use Rattle.kr_ghost_explain.specs.Mends.{Accepts, IsOfBlame, MakesSafe, Mends}
use Rattle.kr_ghost_explain.proofs.mends.mends_by.Given as goal

-- what was said of the changes so far, all of them made of one
abbrev pub invariant-loop-place : goal.invariant-loop-place
invariant-loop-place g l =
    let p = g.P.GhostProtocol.ghosts l.protocol in
    AreFound (Accepts p) (MakesSafe p) (Mends p l.cause.cases.items l.failed) (IsMadeOf (IsOfBlame l.cause.blame) l.to_any) l.place l.mend
