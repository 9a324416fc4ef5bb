use Rattle.std.proofs.Common.{◌≡◌, ap, refl, rules, false, set}
use Rattle.kr_alike.specs.Marks.{is_marked}
use Rattle.kr_alike.proofs.Growing.{mark_passed}
use Rattle.kr_alike.proofs.found.Found.mark.Goals as goal

pub returns-then-not-index : goal.returns-then-not-index
returns-then-not-index g c =
    let p = g.P.Protocol.table c.args.first.now in
    let q = g.Q.Protocol.table c.args.second.now in
    let w = c.args.coming.now in
    let unmarked : is_marked c.args.self.now.marks.items c.args.own c.args.other ≡ false = search rules in
    mark_passed p q w (g.met.P.Protocol.lawful c.args.first.now) (g.met.Q.Protocol.lawful c.args.second.now) c.args.self.now _ c.args.own c.args.other c.requires.found c.requires.own c.requires.other c.requires.reached
    unmarked (ap (λ i. set c.args.self.now.marks.items i _) c.place-place.ensures) refl
