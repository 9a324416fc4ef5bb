use Rattle.std.proofs.Common.{sym, subst}
use Rattle.kr_model.specs.Safe.{Beside}
use Rattle.kr_decide.specs.Pairs.{pair_at}
use Rattle.kr_relax_core.specs.declared.finder.Finder.{Finder}
use Rattle.kr_relax_core.specs.Finding.{FindsMore, FindsAt}
use Rattle.kr_relax_core.proofs.Finding.{more_none, more_on}
use Rattle.kr_relax_core.proofs.GoneSpots.{nexts_step}
use Rattle.kr_kinds.specs.Kinds.{Gone}
use Rattle.kr_relax_core.proofs.finder.Finder.add_pair.Goals as goal
use Rattle.kr_relax_core.proofs.finder.Finder.add_pair.Goals.{then-is_free+in_ok-add_request, else-is_free}

pub add_request-requires : goal.add_request-requires
add_request-requires g c =
    let p = g.P.Protocol.table c.args.protocol.now.0 in
    let pairs = c.args.pairs.now in
    let at = c.loop-at.at in
    let every = c.requires.pairs in
    let more = c.loop-at.invariant.more in
    record {
      finding = more.finding;
      own = c.requires.own;
      other = c.requires.other;
      next = every.own at;
      beside = c.requires.beside;
      alone = subst (Beside p (pair_at pairs at).own) (c.is_free.ensures.0 c.if-is_free.true) (every.beside at c.loop-at-test.true);
    }

pub loop-at-preserved : goal.loop-at-preserved
loop-at-preserved g c =
    let p = g.P.Protocol.table c.args.protocol.now.0 in
    let r = c.args.row in
    let s = c.args.side in
    let pairs = c.args.pairs.now in
    let at = c.loop-at.at in
    let x = c.args.pair.own in
    let y = c.args.pair.other in
    let old = c.loop-at.self in
    let new = c.if-is_free.self in
    let before = c.loop-at.invariant in
    elim c.if-is_free.branch [
      | then-is_free+in_ok-add_request w ↦
          let more : FindsMore (Gone p) old new = subst (FindsMore (Gone p) old) (sym w.self-is) w.in_ok-add_request.ensures.more in
          record {
            more = more_on (Gone p) c.args.self.now old new before.more more;
            nexts = nexts_step p old.spots.items new.spots.items r s pairs at x y more.kept before.nexts
                (λ e. subst (λ (f : Finder). FindsAt p f.spots.items r s x y (pair_at pairs at).own) (sym w.self-is) w.in_ok-add_request.ensures.at);
          }
      | else-is_free w ↦
          let finding = before.more in
          let more : FindsMore (Gone p) old new = subst (FindsMore (Gone p) old) (sym w.self-is) (more_none (Gone p) old finding.finding) in
          record {
            more = more_on (Gone p) c.args.self.now old new before.more more;
            nexts = nexts_step p old.spots.items new.spots.items r s pairs at x y more.kept before.nexts (λ e. absurd (let a = c.is_free.ensures.1 e in let b = w.if-is_free.false in cc));
          }
    ]
