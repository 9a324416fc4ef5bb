use Rattle.kr_ghost_explain.proofs.Sharing.{fewer_left, shared_next}
use Rattle.kr_ghost_explain.proofs.causes.ghost_causes.Goals as goal

-- the first case of what is left goes to a cause
pub loop-alloc-smaller : goal.loop-alloc-smaller
loop-alloc-smaller g c = fewer_left c.loop-alloc.left.items c.deref.result.now c.in_ok-cause.field-0.rest.items c.in_ok-cause.field-0.cause.cases.items c.deref.ensures.value c.in_ok-cause.ensures.same c.in_ok-cause.ensures.some

-- one cause more
pub loop-alloc-preserved : goal.loop-alloc-preserved
loop-alloc-preserved g c = shared_next (g.P.GhostProtocol.ghosts c.args.protocol.now) c.args.failed.now c.loop-alloc.causes.items c.push.new.self.items c.in_ok-cause.field-0.cause c.loop-alloc.left.items c.deref.result.now c.in_ok-cause.field-0.rest.items c.deref.ensures.value c.loop-alloc.invariant c.in_ok-cause.ensures.same c.in_ok-cause.ensures.some c.in_ok-cause.ensures.about c.in_ok-push.ensures.items
