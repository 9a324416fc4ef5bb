use Rattle.std.proofs.Common.{◌≡◌, ℕ, ◌<◌, List, All, length, get_or, sym, subst, arith}
use Rattle.kr_ghost_decide.specs.declared.hold.Pair.{Pair}
use Rattle.kr_ghost_decide.specs.Found.{IsReached}
use Rattle.kr_ghost_decide.specs.Holds.{fact}
use Rattle.kr_kinds.specs.Kinds.{Leaves}
use Rattle.kr_relax_core.specs.Finding.{FindsAll, FindsEach}
use Rattle.kr_relax_core.proofs.LeavingSpots.{all_met, each_step}
use Rattle.kr_relax_core.proofs.leaving.leaving_spots.Goals as goal

pub loop-at-init : goal.loop-at-init
loop-at-init g c = record { finding = c.in_ok-finder.ensures; each = λ i d low. absurd (omega arith) }

pub add_all-requires : goal.add_all-requires
add_all-requires g c =
    let p = g.P.GhostProtocol.ghosts c.args.protocol.now.0 in
    let every = c.in_ok-pairs.ensures in
    let before = c.loop-at.invariant in
    record {
      finding = before.finding;
      all = subst (All (λ (q : Pair). IsReached p (fact q))) (sym c.deref.ensures.value) every.reached;
      reached = subst (λ (q : Pair). IsReached p (fact q)) (sym c.index.ensures) (every.reached c.loop-at.at _ (omega (arith, c.len-at-end.ensures, c.loop-at-test.true)));
    }

-- one pair more
pub loop-at-preserved : goal.loop-at-preserved
loop-at-preserved g c =
    let p = g.P.GhostProtocol.ghosts c.args.protocol.now.0 in
    let old = c.loop-at.finder.spots.items in
    let new = c.add_all.new.self.spots.items in
    let pairs = c.in_ok-pairs.pairs.items in
    let before = c.loop-at.invariant in
    let found = c.in_ok-add_all.ensures in
    let more = found.more in
    let all : FindsAll p new pairs (fact c.index.result.now) = subst (λ (l : List Pair). FindsAll p new l (fact c.index.result.now)) c.deref.ensures.value found.all in
    record {
      finding = more.finding;
      each = each_step p old new pairs c.loop-at.at _ (omega (arith, c.len-at-end.ensures, c.loop-at-test.true)) more.kept before.each (subst (λ (q : Pair). FindsAll p new pairs (fact q)) c.index.ensures all);
    }

-- all pairs have been followed
pub returns : goal.returns
returns g c =
    let p = g.P.GhostProtocol.ghosts c.args.protocol.now.0 in
    let pairs = c.in_ok-pairs.pairs.items in
    let before = c.loop-at.invariant in
    let finding = before.finding in
    let end : c.loop-at.at ≡ length pairs = omega (arith, c.len-at-end.ensures) in
    record { met = all_met p pairs c.loop-at.finder c.in_ok-pairs.ensures finding (subst (FindsEach p c.loop-at.finder.spots.items pairs) end before.each); apart = finding.apart }
