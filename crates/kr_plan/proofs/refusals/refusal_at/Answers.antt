use Rattle.std.proofs.Common.{false, Some, [], ap, ap₂, sym, ◌∙◌, refl, length}
use Rattle.std.specs.Prelude.{nat_le}
use Rattle.kr_txn.specs.Standings.{number_of, active_of, entries}
use Rattle.kr_txn.proofs.Lists.{found}
use Rattle.kr_plan.specs.Refusals.{refusal_in}
use Rattle.kr_plan.proofs.Refused.{refusal_is, scanning, unchanged}
use Rattle.kr_plan.proofs.refusals.refusal_at.Goals as goal

pub returns : goal.returns
returns g c =
    let p = g.P.Protocol.table c.args.protocol.now in
    let at = c.requires in
    let x = c.index-active-place.result in
    c.standing_refusal.ensures ∙ ap (λ v. refusal_in v x.rolling c.is_some-is_scanning.result c.is_empty-is_unchanged.result c.args.op) c.updates-updates.ensures
    ∙ ap₂ (λ b u. refusal_in p.updates x.rolling b u c.args.op) (c.is_some-is_scanning.ensures ∙ sym (scanning x.scan)) (c.is_empty-is_unchanged.ensures ∙ unchanged x.changes)
    ∙ sym (refusal_is p [] [] c.args.ended.now.numbers (entries c.args.active.now) c.args.txn c.args.op false (sym c.has.ensures ∙ c.if-has.false) (Some (active_of x))
    (found number_of active_of c.args.txn c.args.active.now c.args.place at.within at.others at.here x ∙ ap (λ z. Some (active_of z)) (sym c.index-active-place.is)) (nat_le 64 (length (entries c.args.active.now))) refl)
