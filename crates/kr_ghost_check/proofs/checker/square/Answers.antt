use Rattle.std.proofs.Common.{◌≢◌, ◌+◌, ◌-◌, [], rules, arith}
use Rattle.kr_model.specs.Covers.{count_up, modes}
use Rattle.kr_model.proofs.Guarantees.{in_modes}
use Rattle.kr_ghost.specs.Covers.{failure}
use Rattle.kr_ghost_check.specs.Groups.{line, square, failures}
use Rattle.kr_cases.proofs.Counted.{below-more}
use Rattle.kr_cases.proofs.Listed.{list_more, list_gives}
use Rattle.kr_ghost_check.proofs.checker.square.Goals as goal

pub returns-in_err-line-clause-err : goal.returns-in_err-line-clause-err
returns-in_err-line-clause-err g c =
    let p = g.P.GhostProtocol.ghosts c.args.protocol.now in
    let some : failures p (square p c.args.rule c.args.cover) ≢ [] =
    list_gives (failure p) (line p c.args.rule c.args.cover) (modes p.table) c.loop-held.held (in_modes p.table c.loop-held.held (record { some = omega arith; in_range = omega arith })) c.in_err-line.ensures.err in
    search (rules, some)

pub loop-held-preserved : goal.loop-held-preserved
loop-held-preserved g c =
    let p = g.P.GhostProtocol.ghosts c.args.protocol.now in
    list_more (failure p) (line p c.args.rule c.args.cover) c.args.failed.now.items c.loop-held.failed.items c.line.new.failed.items (count_up 1 (c.loop-held.held - 1)) (count_up 1 (c.loop-held.held + 1 - 1)) c.loop-held.held
    (below-more c.loop-held.held (omega arith)) c.loop-held.invariant c.in_ok-line.ensures.ok
