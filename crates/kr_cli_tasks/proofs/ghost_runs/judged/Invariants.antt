use Rattle.std.proofs.Common.{take, map, string_bytes}
use Rattle.std.specs.Prelude.{IsTrue}
use Rattle.kr_ghost.specs.Safe.{IsSafeGhost}
use Rattle.kr_cli_tasks.specs.GhostRuns.{AreJudged}
use Rattle.kr_cli_tasks.proofs.ghost_runs.judged.Given as goal

-- The words so far are judged.
abbrev pub invariant-loop-word : goal.invariant-loop-word
invariant-loop-word g l =
    let p = g.P.GhostProtocol.ghosts l.protocol in
    record {
      judged : AreJudged (g.F.Files.may_give l.files) p (map (λ w. w.now) (take l.word-index l.words)) (string_bytes l.text) l.are_serial;
      safe : IsSafeGhost p → IsTrue l.are_serial;
    }
