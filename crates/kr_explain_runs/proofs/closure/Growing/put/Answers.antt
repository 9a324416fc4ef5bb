use Rattle.std.proofs.Common.{arith}
use Rattle.std.proofs.lemmas.Grind.{common_steps}
use Rattle.kr_explain_runs.proofs.Reaching.{put_behind}
use Rattle.kr_explain_runs.proofs.closure.Growing.put.Goals as goal

-- the script of the new state leads to it
pub invariant_of-self-then-branch-clause-are_reached : goal.invariant_of-self-then-branch-clause-are_reached
invariant_of-self-then-branch-clause-are_reached g c =
    put_behind (g.P.Protocol.table c.args.self.now.protocol.now) _ c.args.self.now.reached.items c.push.new.self.items c.args.reached c.args.self.now.are_reached (c.in_ok-is_reached.ensures c.if-branch.true) c.push.ensures.items

pub invariant_of-self-then-branch-clause-few : goal.invariant_of-self-then-branch-clause-few
invariant_of-self-then-branch-clause-few g c = grind (arith, common_steps)
