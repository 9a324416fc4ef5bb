use Rattle.std.proofs.Common.{◌≡◌, ◌≤◌, true, false, sym, subst, arith}
use Rattle.std.specs.Prelude.{Contains}
use Rattle.kr_ghost.specs.Safe.{Hold, Beside, free}
use Rattle.kr_ghost_decide.specs.Holds.{fact, hold}
use Rattle.kr_kinds.specs.Kinds.{Leaves}
use Rattle.kr_relax_core.specs.declared.place.Place.TheVariants as place
use Rattle.kr_relax_core.specs.declared.place.Spot.{Spot}
use Rattle.kr_relax_core.specs.Finding.{IsLeft}
use Rattle.kr_relax_core.specs.Met.{IsMetSpot, purged, spot}
use Rattle.kr_relax_core.proofs.Finding.{more_none}
use Rattle.kr_relax_core.proofs.finder.Finder.add_purge.Goals as goal

pub add-requires : goal.add-requires
add-requires g c =
    let p = g.P.GhostProtocol.ghosts c.args.protocol.now.0 in
    let laws = g.met.P.GhostProtocol.lawful_ghosts c.args.protocol.now.0 in
    let pair = c.args.pair in
    let below = c.args.below in
    let reached = c.requires.reached in
    let under = c.requires.below in
    let may = c.requires.inherits in
    let left : IsLeft (fact below) = c.is_left.ensures.0 c.if-not-is_left.false in
    let at : Beside p pair.present (hold pair.own) free = subst (Beside p pair.present (hold pair.own)) may.alone reached.beside in
    let on : Beside p below.present (hold below.own) free = subst (Beside p below.present (hold below.own)) left.alone under.beside in
    let ghost : Beside p false (hold below.own) free = subst (λ b. Beside p b (hold below.own) free) left.gone on in
    let met : IsMetSpot (Leaves p) (spot place.Purge pair.own.mode below.own.mode 0) = purged pair.present (hold pair.own) (hold below.own) may.inherits at may.stays ghost left.stays left.unchanged in
    let few : p.table.count ≤ 15 = let t = laws.table in t.few in
    record {
      finding = c.requires.finding;
      met = subst (IsMetSpot (Leaves p)) (sym c.spot-spot.ensures) met;
      own = subst (λ (x : Spot). x.request.own ≤ p.table.count) (sym c.spot-spot.ensures) reached.own;
      next = subst (λ (x : Spot). x.request.next ≤ p.table.count) (sym c.spot-spot.ensures) under.own;
      held = subst (λ (x : Spot). x.held ≤ p.table.count) (sym c.spot-spot.ensures) (omega arith);
      few = few;
    }

pub returns-clause-purge : goal.returns-clause-purge
returns-clause-purge g c = λ may left. subst (Contains c.add.new.self.spots.items) c.spot-spot.ensures c.in_ok-add.ensures.at
