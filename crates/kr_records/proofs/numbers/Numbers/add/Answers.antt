use Rattle.std.proofs.Common.{◌≡◌, ℕ, ◌++◌, ◌∷◌, [], List, Some, false, length, ap, ◌∙◌, sym, subst, cond, arith}
use Rattle.std.specs.HashMap.{get}
use Rattle.std.specs.Prelude.{nat_eq}
use Rattle.kr_records.specs.declared.numbers.Number.{Number}
use Rattle.kr_records.specs.Numbers.{begun_by, was_begun, ArePlaces}
use Rattle.kr_records.proofs.Begun.{places_more, same_places}
use Rattle.kr_records.proofs.numbers.Numbers.add.Goals as goal

pub invariant_of-self-in_err-insert : goal.invariant_of-self-in_err-insert
invariant_of-self-in_err-insert c =
    same_places c.self.inside.places c.insert.new.self c.reserve.new.self.items c.in_err-insert.ensures.err
    (subst (λ (ns : List Number). ArePlaces c.self.inside.places ns) (sym c.reserve.ensures.items) c.self.invariant)

pub invariant_of-self-2 : goal.invariant_of-self-2
invariant_of-self-2 c =
    let ns = c.self.inside.list.items in
    let n : Number = record { txn = c.args.txn; seat = c.args.seat; end = Some c.args.end } in
    let new : was_begun (begun_by ns) c.args.txn ≡ false = ap (λ (v : List Number). was_begun (begun_by v) c.args.txn) c.self.view_is ∙ c.requires in
    let same : length c.reserve.new.self.items ≡ length ns = ap (λ (l : List Number). length l) c.reserve.ensures.items in
    let here : c.len.result ≡ length ns = omega (arith, c.len.ensures, same) in
    let is : (u : ℕ) → get nat_eq c.insert.new.self u ≡ cond (nat_eq c.args.txn u) (Some (length ns)) (get nat_eq c.self.inside.places u) =
    λ u. c.in_ok-insert.ensures.updates.0 u ∙ ap (λ (k : ℕ). cond (nat_eq c.args.txn u) (Some k) (get nat_eq c.self.inside.places u)) here in
    subst (λ (l : List Number). ArePlaces c.insert.new.self l) (sym (c.push_reserved.ensures.items ∙ ap (λ (l : List Number). l ++ n ∷ []) c.reserve.ensures.items))
    (places_more c.self.inside.places c.insert.new.self ns n c.self.invariant new is)
