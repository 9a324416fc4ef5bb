use Rattle.std.proofs.Common.{◌≡◌, rules, IsTrue, Bool, true, false, refl}
use Rattle.kr_model.specs.Protocol.{Protocol}
use Rattle.kr_alike.specs.Marks.{has}
use Rattle.kr_alike.proofs.decision.alike_where.Goals as goal

unless_false : (b : Bool) → (b ≡ false → ⊥) → IsTrue b
unless_false true never = refl
unless_false false never = absurd (never refl)

pub returns : goal.returns
returns g c =
    let p : Protocol = g.P.Protocol.table c.args.first.now in
    let q : Protocol = g.Q.Protocol.table c.args.second.now in
    let updates : p.updates ≡ q.updates = search rules in
    let marks = c.close.new.self.marks.items in (
      λ is. record { updates = updates; has = has p q marks; closed = c.close.ensures.closed is },
      λ some. unless_false c.close.result (λ e. c.close.ensures.none e some),
    )
