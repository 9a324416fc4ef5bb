use Rattle.std.proofs.Common.{◌≡◌, ℕ, ◌≤◌, refl, sym, subst, rules, arith}
use Rattle.std.specs.Prelude.{Contains}
use Rattle.kr_model.specs.Safe.{MayAsk, MayBeside}
use Rattle.kr_relax_core.specs.declared.place.Place.TheVariants as place
use Rattle.kr_relax_core.specs.Met.{IsMetGone, spot}
use Rattle.kr_relax_core.proofs.finder.Finder.add_request.Goals as goal

pub add-requires : goal.add-requires
add-requires g c =
    let p = g.P.Protocol.table c.args.protocol.now.0 in
    let laws = g.met.P.Protocol.lawful c.args.protocol.now.0 in
    let next = c.next_mode-next.ensures in
    let asks : MayAsk p c.args.row c.args.side c.args.own c.args.next = search (rules, c.may_ask.ensures) in
    let beside : MayBeside p c.args.row c.args.side c.args.other = search (rules, c.may_beside.ensures) in
    let met : IsMetGone p c.args.row c.args.side c.args.own.mode c.next_mode-next.result c.args.other.mode = record { first = c.args.own; second = c.args.other; above = c.args.next; beside = c.requires.beside; alone = c.requires.alone; asks = asks; may_beside = beside; own_mode = refl; above_mode = sym next.value; held_mode = refl } in
    record { finding = c.requires.finding; met = met; own = c.requires.own; next = omega (arith, next.within, c.requires.next); held = c.requires.other; few = laws.few }

pub returns-clause-at : goal.returns-clause-at
returns-clause-at g c = λ asks beside.
    let next = c.next_mode-next.ensures in
    subst (λ (k : ℕ). Contains c.add.new.self.spots.items (spot (place.Row c.args.row c.args.side) c.args.own.mode k c.args.other.mode)) next.value c.in_ok-add.ensures.at
