use Rattle.std.proofs.Common.{◌≡◌, ◌≢◌, ◌≤◌, ◌+◌, ◌-◌, [], ◌++◌, map, rules, subst, arith}
use Rattle.kr_model.specs.Covers.{count_up}
use Rattle.kr_ghost.specs.Covers.{failure}
use Rattle.kr_ghost_check.specs.Groups.{case_at, first_own, modes_from, line, failures}
use Rattle.kr_cases.proofs.Listed.{element_more, element_gives}
use Rattle.kr_ghost_check.proofs.Counted.{from-more, all_counted, in_modes_from}
use Rattle.kr_ghost_check.proofs.checker.line.Goals as goal

pub returns-in_err-test-clause-err : goal.returns-in_err-test-clause-err
returns-in_err-test-clause-err g c =
    let p = g.P.GhostProtocol.ghosts c.args.protocol.now in
    let low : first_own c.args.rule ≤ c.loop-own.own = omega arith in
    let some : failures p (line p c.args.rule c.args.cover c.args.held) ≢ [] =
    element_gives (failure p) (case_at p c.args.rule c.args.cover c.args.held) (modes_from p.table (first_own c.args.rule)) c.loop-own.own (in_modes_from p.table (first_own c.args.rule) c.loop-own.own low (omega arith)) c.in_err-test.ensures.err in
    search (rules, some)

pub loop-own-preserved : goal.loop-own-preserved
loop-own-preserved g c =
    let p = g.P.GhostProtocol.ghosts c.args.protocol.now in
    let f = first_own c.args.rule in
    let low : f ≤ c.loop-own.own = omega arith in
    element_more (failure p) (case_at p c.args.rule c.args.cover c.args.held) c.args.failed.now.items c.loop-own.failed.items c.test.new.failed.items (count_up f (c.loop-own.own - f)) (count_up f (c.loop-own.own + 1 - f)) c.loop-own.own
    (from-more f c.loop-own.own low) c.loop-own.invariant c.in_ok-test.ensures.ok

pub returns-clause-ok : goal.returns-clause-ok
returns-clause-ok g c =
    let p = g.P.GhostProtocol.ghosts c.args.protocol.now in
    let f = first_own c.args.rule in
    subst (λ ks. c.loop-own.failed.items ≡ c.args.failed.now.items ++ failures p (map (case_at p c.args.rule c.args.cover c.args.held) ks)) (all_counted p.table f c.loop-own.own (omega arith) (omega arith)) c.loop-own.invariant
