use Rattle.std.specs.Prelude.{refl}
use Rattle.kr_ghost_explain.proofs.Sharing.{about_next, blamed_next}
use Rattle.kr_ghost_explain.proofs.causes.with_blame.Goals as goal

-- one case more, with what is to blame
pub loop-case-preserved : goal.loop-case-preserved
loop-case-preserved g c = record {
  cases = blamed_next c.args.failed.now c.loop-case.case-index _ c.loop-case.list.items c.push.new.self.items _ c.loop-case-test.true c.loop-case.invariant.cases c.in_ok-push.ensures.items refl;
  about = about_next (g.P.GhostProtocol.ghosts c.args.protocol.now) c.loop-case.list.items c.push.new.self.items _ c.loop-case.invariant.about c.in_ok-push.ensures.items c.blame.ensures;
}
