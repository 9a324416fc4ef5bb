use Rattle.std.proofs.Common.{◌≡◌, ℕ, true, false, None, [], ap, sym, ◌∙◌, length, arith, ◌≤◌, ◌<◌}
use Rattle.std.specs.Prelude.{nat_le}
use Rattle.std.proofs.lemmas.Bool.Decides.{nat_tests}
use Rattle.kr_txn.specs.Standings.{number_of, active_of, entries}
use Rattle.kr_txn.proofs.Lists.{not_found, length_entries}
use Rattle.kr_plan.specs.Refusals.{scan_refusal}
use Rattle.kr_plan.proofs.Refused.{refusal_is}
use Rattle.kr_plan.proofs.refusals.refusal.Goals as goal

le_true : (a b : ℕ) → a ≤ b → nat_le a b ≡ true
le_true a b h = grind (arith, nat_tests)

le_false : (a b : ℕ) → b < a → nat_le a b ≡ false
le_false a b h = grind (arith, nat_tests)

pub returns-then-active-ge64 : goal.returns-then-active-ge64
returns-then-active-ge64 g c =
    let p = g.P.Protocol.table c.args.protocol.now in
    sym (refusal_is p [] [] c.args.ended.now.numbers (entries c.args.active.now) c.args.txn c.args.op false (sym c.has.ensures ∙ c.if-has.false) None (not_found number_of active_of c.args.txn c.args.active.now c.in-None.ensures.none) true
    (ap (nat_le 64) (length_entries number_of active_of c.args.active.now) ∙ le_true 64 (length c.args.active.now) c.if-active-ge64.true))

pub returns-else-active-ge64 : goal.returns-else-active-ge64
returns-else-active-ge64 g c =
    let p = g.P.Protocol.table c.args.protocol.now in
    c.scan_refusal.ensures ∙ ap (λ v. scan_refusal v false true c.args.op) c.updates.ensures
    ∙ sym (refusal_is p [] [] c.args.ended.now.numbers (entries c.args.active.now) c.args.txn c.args.op false (sym c.has.ensures ∙ c.if-has.false) None (not_found number_of active_of c.args.txn c.args.active.now c.in-None.ensures.none) false
    (ap (nat_le 64) (length_entries number_of active_of c.args.active.now) ∙ le_false 64 (length c.args.active.now) c.if-active-ge64.false))
