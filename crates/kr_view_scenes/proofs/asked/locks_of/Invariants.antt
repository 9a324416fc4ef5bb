use Rattle.kr_model.specs.Locks.{AreWithin}
use Rattle.kr_view_scenes.proofs.asked.locks_of.Given as goal

-- the locks so far are of modes of the protocol
abbrev pub invariant-loop-lock : goal.invariant-loop-lock
invariant-loop-lock g l = AreWithin (g.P.Protocol.table l.protocol).count l.locks
