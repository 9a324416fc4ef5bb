use Rattle.std.proofs.Common.{◌≡◌, take, All}
use Rattle.kr_ghost_explain.specs.Blamed.{IsBlamed, cases_of}
use Rattle.kr_ghost_explain.proofs.causes.with_blame.Given as goal

-- the cases so far, each with what is to blame
abbrev pub invariant-loop-case : goal.invariant-loop-case
invariant-loop-case g l = record {
  cases : cases_of l.list.items ≡ take l.case-index l.failed;
  about : All (IsBlamed (g.P.GhostProtocol.ghosts l.protocol)) l.list.items;
}
