use Rattle.std.proofs.Common.{◌≡◌, ℕ, length, get_or, subst, arith}
use Rattle.kr_ghost_decide.specs.Holds.{fact}
use Rattle.kr_kinds.specs.Kinds.{Leaves}
use Rattle.kr_relax_core.specs.Finding.{FindsPurges}
use Rattle.kr_relax_core.proofs.Finding.{more_none, more_on}
use Rattle.kr_relax_core.proofs.LeavingSpots.{purges_step}
use Rattle.kr_relax_core.proofs.finder.Finder.add_purges.Goals as goal

pub returns-then-not-may_inherit : goal.returns-then-not-may_inherit
returns-then-not-may_inherit g c = record {
  more = more_none (Leaves (g.P.GhostProtocol.ghosts c.args.protocol.now.0)) c.args.self.now c.requires.finding;
  purges = λ j d low may left. absurd (let a = c.may_inherit.ensures.1 may in let b = c.if-not-may_inherit.true in cc);
}

pub loop-at-init : goal.loop-at-init
loop-at-init g c = record { more = more_none (Leaves (g.P.GhostProtocol.ghosts c.args.protocol.now.0)) c.args.self.now c.requires.finding; purges = λ j d low. absurd (omega arith) }

-- one ghost more
pub loop-at-preserved : goal.loop-at-preserved
loop-at-preserved g c =
    let p = g.P.GhostProtocol.ghosts c.args.protocol.now.0 in
    let old = c.loop-at.self in
    let new = c.add_purge.new.self in
    let before = c.loop-at.invariant in
    let found = c.in_ok-add_purge.ensures in
    let more = found.more in
    record {
      more = more_on (Leaves p) c.args.self.now old new before.more more;
      purges = purges_step p old.spots.items new.spots.items c.args.pairs.now (fact c.args.pair) c.loop-at.at _ c.loop-at-test.true more.kept before.purges found.purge;
    }
