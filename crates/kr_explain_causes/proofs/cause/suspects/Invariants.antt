use Rattle.std.proofs.Common.{◌≡◌, take, All}
use Rattle.kr_explain_causes.specs.Causes.{cases_of}
use Rattle.kr_explain_causes.specs.Shares.{IsSuspect}
use Rattle.kr_explain_causes.proofs.cause.suspects.Given as goal

-- the cases so far, each with its reasons
abbrev pub invariant-loop-case : goal.invariant-loop-case
invariant-loop-case g l = record {
  cases : cases_of l.suspects.items ≡ take l.case-index l.failed;
  reasons : All (IsSuspect (g.P.Protocol.table l.protocol)) l.suspects.items;
}
