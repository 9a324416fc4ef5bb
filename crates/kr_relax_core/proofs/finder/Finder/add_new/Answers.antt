use Rattle.std.proofs.Common.{◌≡◌, ◌≤◌, false, sym, subst, arith}
use Rattle.std.specs.Prelude.{Contains}
use Rattle.kr_model.specs.declared.Row.TheVariants as row
use Rattle.kr_model.specs.declared.Side.TheVariants.{Current}
use Rattle.kr_ghost.specs.Safe.{Hold, Beside, free}
use Rattle.kr_ghost_decide.specs.Holds.{hold}
use Rattle.kr_kinds.specs.Kinds.{Leaves}
use Rattle.kr_relax_core.specs.declared.place.Place.TheVariants as place
use Rattle.kr_relax_core.specs.declared.place.Spot.{Spot}
use Rattle.kr_relax_core.specs.Met.{IsMetSpot, on_new_key, spot}
use Rattle.kr_relax_core.proofs.Finding.{more_none}
use Rattle.kr_relax_core.proofs.finder.Finder.add_new.Goals as goal

pub add-requires : goal.add-requires
add-requires g c =
    let p = g.P.GhostProtocol.ghosts c.args.protocol.now.0 in
    let laws = g.met.P.GhostProtocol.lawful_ghosts c.args.protocol.now.0 in
    let pair = c.args.pair in
    let reached = c.requires.reached in
    let alone : hold pair.other ≡ free = c.is_free.ensures.0 c.if-not-is_free.false in
    let stays : pair.own.rolling ≡ false = c.if-pair.false in
    let met : IsMetSpot (Leaves p) (spot (place.Row row.Insert Current) 0 pair.own.mode 0) = on_new_key pair.present (hold pair.own) (subst (Beside p pair.present (hold pair.own)) alone reached.beside) stays in
    let few : p.table.count ≤ 15 = let t = laws.table in t.few in
    record {
      finding = c.requires.finding;
      met = subst (IsMetSpot (Leaves p)) (sym c.spot-spot.ensures) met;
      own = subst (λ (x : Spot). x.request.own ≤ p.table.count) (sym c.spot-spot.ensures) (omega arith);
      next = subst (λ (x : Spot). x.request.next ≤ p.table.count) (sym c.spot-spot.ensures) reached.own;
      held = subst (λ (x : Spot). x.held ≤ p.table.count) (sym c.spot-spot.ensures) (omega arith);
      few = few;
    }

pub returns-clause-new : goal.returns-clause-new
returns-clause-new g c = λ alone stays. subst (Contains c.add.new.self.spots.items) c.spot-spot.ensures c.in_ok-add.ensures.at
