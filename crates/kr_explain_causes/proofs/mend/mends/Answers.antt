use Rattle.std.proofs.Common.{List, ap, subst, arith, length}
use Rattle.kr_model.specs.declared.FailedCase.{FailedCase}
use Rattle.kr_explain_causes.specs.Mends.{Accepts, IsOf, MakesSafe, Mends, Tells}
use Rattle.kr_explain_causes.proofs.Found.{are_of_entry, are_told, found_next, found_none}
use Rattle.kr_explain_causes.proofs.Tried.{IsMadeOf, made_with, of_with}
use Rattle.kr_explain_causes.proofs.mend.mends.Goals as goal

pub loop-mode-init : goal.loop-mode-init
loop-mode-init g c =
    let p = g.P.Protocol.table c.args.protocol.now in
    found_none (Accepts p) (MakesSafe p) (Mends p c.args.cause.now.cases.items c.args.failed.now) (IsMadeOf (IsOf c.args.cause.now.blame) c.change_of-to_any.result) c.none-mend.result c.none-mend.ensures.accepted c.none-mend.ensures.safe c.none-mend.ensures.mended

-- what was said of one change more
pub loop-mode-preserved : goal.loop-mode-preserved
loop-mode-preserved g c =
    let p = g.P.Protocol.table c.args.protocol.now in
    let b = c.args.cause.now.blame in
    let cases = c.args.cause.now.cases.items in
    let failed = c.args.failed.now in
    let t = c.change_of-to_any.result in
    let change = c.with_mode-change.result in
    let told = subst (λ (xs : List FailedCase). Tells p xs failed change c.in_ok-verdict.verdict) c.deref.ensures.value c.in_ok-verdict.ensures in
    found_next (Accepts p) (MakesSafe p) (Mends p cases failed) (IsMadeOf (IsOf b) t) c.loop-mode.mode-index c.loop-mode.mend c.put.new.self change c.in_ok-verdict.verdict c.loop-mode.invariant told
    (made_with (IsOf b) _ t change c.with_mode-change.ensures (of_with b _ t c.change_of-to_any.ensures)) c.in_ok-put.ensures

-- the changes that are named mend
pub returns-clause-mends : goal.returns-clause-mends
returns-clause-mends g c =
    let p = g.P.Protocol.table c.args.protocol.now in
    let l = c.loop-mode in
    let told = c.best.ensures in
    are_told (Accepts p) (MakesSafe p) (Mends p c.args.cause.now.cases.items c.args.failed.now) (IsMadeOf (IsOf c.args.cause.now.blame) c.change_of-to_any.result) l.mode-index l.mend c.best.result l.invariant told.accepted told.safe told.mended

-- they are all made of one change
pub returns-clause-of_one_entry : goal.returns-clause-of_one_entry
returns-clause-of_one_entry g c =
    let p = g.P.Protocol.table c.args.protocol.now in
    let l = c.loop-mode in
    let told = c.best.ensures in
    are_of_entry (Accepts p) (MakesSafe p) (Mends p c.args.cause.now.cases.items c.args.failed.now) (IsOf c.args.cause.now.blame) c.change_of-to_any.result l.mode-index l.mend c.best.result l.invariant told.accepted told.safe told.mended
    (omega (arith, l.auto.mode-index-end, ap length c.deref-mode-items.ensures.value, c.in_ok-trials.ensures))
