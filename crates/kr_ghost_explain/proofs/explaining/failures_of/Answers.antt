use Rattle.std.proofs.Common.{rules, List, All, subst}
use Rattle.kr_ghost.specs.declared.cases.FailedCase.{FailedCase}
use Rattle.kr_ghost.specs.Covers.{failed_cases}
use Rattle.kr_ghost_explain.specs.Mends.{IsMended, causes_of}
use Rattle.kr_ghost_explain.proofs.Repairs.{same_causes}
use Rattle.kr_ghost_explain.proofs.explaining.failures_of.Goals as goal

-- the failed cases that were given are those of the table
pub returns-clause-failures : goal.returns-clause-failures
returns-clause-failures g c =
    let p = g.P.GhostProtocol.ghosts c.args.protocol.now in
    let told = c.in_ok-told.told.items in
    record {
      has_cases = search rules;
      has_failed = search rules;
      causes = same_causes p (failed_cases p) c.args.failed.now c.in_ok-causes.causes.items (causes_of told) c.requires.failed c.in_ok-told.ensures.causes c.in_ok-causes.ensures;
      mended = subst (λ (xs : List FailedCase). All (IsMended p xs) told) c.requires.failed c.in_ok-told.ensures.mended;
      wrong = c.requires.wrong;
    }
