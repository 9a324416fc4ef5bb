use Rattle.std.proofs.Common.{◌≡◌, ◌∙◌, ℕ, ◌≤◌, true, sym, subst, arith}
use Rattle.std.specs.Prelude.{Contains}
use Rattle.kr_ghost.specs.Safe.{MayAsk}
use Rattle.kr_ghost_decide.specs.Holds.{asking, fact, hold}
use Rattle.kr_ghost_decide.proofs.Moved.{may_back}
use Rattle.kr_kinds.specs.Kinds.{Leaves}
use Rattle.kr_relax_core.specs.declared.place.Place.{Place}
use Rattle.kr_relax_core.specs.declared.place.Spot.{Spot}
use Rattle.kr_relax_core.specs.Met.{IsMetSpot, asks, place_of, spot}
use Rattle.kr_relax_core.proofs.LeavingSpots.{ask_found}
use Rattle.kr_relax_core.proofs.finder.Finder.add_ask.Goals as goal

pub add-requires : goal.add-requires
add-requires g c =
    let p = g.P.GhostProtocol.ghosts c.args.protocol.now.0 in
    let laws = g.met.P.GhostProtocol.lawful_ghosts c.args.protocol.now.0 in
    let pair = c.args.pair in
    let reached = c.requires.reached in
    let may : MayAsk p pair.present (hold pair.own) (asking c.args.ask) = may_back p pair.present (hold pair.own) (asking c.args.ask) (sym c.may_ask.ensures ∙ c.if-not-may_ask.false) in
    let met : IsMetSpot (Leaves p) (spot c.place_of-place.result pair.own.mode 0 pair.other.mode) =
    subst (λ (x : Place). IsMetSpot (Leaves p) (spot x pair.own.mode 0 pair.other.mode)) (sym c.place_of-place.ensures) (asks (asking c.args.ask) pair.present (hold pair.own) (hold pair.other) reached.beside may) in
    let few : p.table.count ≤ 15 = let t = laws.table in t.few in
    record {
      finding = c.requires.finding;
      met = subst (IsMetSpot (Leaves p)) (sym c.spot-spot.ensures) met;
      own = subst (λ (x : Spot). x.request.own ≤ p.table.count) (sym c.spot-spot.ensures) reached.own;
      next = subst (λ (x : Spot). x.request.next ≤ p.table.count) (sym c.spot-spot.ensures) (omega arith);
      held = subst (λ (x : Spot). x.held ≤ p.table.count) (sym c.spot-spot.ensures) reached.other;
      few = few;
    }

pub returns-clause-ask : goal.returns-clause-ask
returns-clause-ask g c =
    let p = g.P.GhostProtocol.ghosts c.args.protocol.now.0 in
    ask_found p c.add.new.self.spots.items (fact c.args.pair) (asking c.args.ask) c.place_of-place.result _ c.spot-spot.ensures c.place_of-place.ensures c.in_ok-add.ensures.at
