use Rattle.std.proofs.Common.{List, subst, arith}
use Rattle.kr_ghost.specs.declared.cases.FailedCase.{FailedCase}
use Rattle.kr_explain_causes.proofs.Found.{are_of_entry, are_told, found_next, found_none}
use Rattle.kr_explain_causes.proofs.Tried.{IsMadeOf, made_with}
use Rattle.kr_ghost_explain.specs.Mends.{Accepts, IsOfBlame, MakesSafe, Mends, TellsChange}
use Rattle.kr_ghost_explain.proofs.Tried.{of_with}
use Rattle.kr_ghost_explain.proofs.mends.mends_by.Goals as goal

pub loop-place-init : goal.loop-place-init
loop-place-init g c =
    let p = g.P.GhostProtocol.ghosts c.args.protocol.now in
    found_none (Accepts p) (MakesSafe p) (Mends p c.args.cause.now.cases.items c.args.failed.now) (IsMadeOf (IsOfBlame c.args.cause.now.blame) c.args.to_any) c.none-mend.result c.none-mend.ensures.accepted c.none-mend.ensures.safe c.none-mend.ensures.mended

-- what was said of one change more
pub loop-place-preserved : goal.loop-place-preserved
loop-place-preserved g c =
    let p = g.P.GhostProtocol.ghosts c.args.protocol.now in
    let b = c.args.cause.now.blame in
    let cases = c.args.cause.now.cases.items in
    let failed = c.args.failed.now in
    let t = c.args.to_any in
    let change = c.with_mode-change.result in
    let told = subst (λ (xs : List FailedCase). TellsChange p xs failed change c.in_ok-verdict.verdict) c.deref.ensures.value c.in_ok-verdict.ensures in
    found_next (Accepts p) (MakesSafe p) (Mends p cases failed) (IsMadeOf (IsOfBlame b) t) c.loop-place.place c.loop-place.mend c.put.new.self change c.in_ok-verdict.verdict c.loop-place.invariant told
    (made_with (IsOfBlame b) _ t change c.with_mode-change.ensures (of_with b _ t c.requires)) c.in_ok-put.ensures

-- the changes that are named mend
pub returns-clause-mends : goal.returns-clause-mends
returns-clause-mends g c =
    let p = g.P.GhostProtocol.ghosts c.args.protocol.now in
    let l = c.loop-place in
    let told = c.best.ensures in
    are_told (Accepts p) (MakesSafe p) (Mends p c.args.cause.now.cases.items c.args.failed.now) (IsMadeOf (IsOfBlame c.args.cause.now.blame) c.args.to_any) l.place l.mend c.best.result l.invariant told.accepted told.safe told.mended

-- they are all made of one change
pub returns-clause-of_one_entry : goal.returns-clause-of_one_entry
returns-clause-of_one_entry g c =
    let p = g.P.GhostProtocol.ghosts c.args.protocol.now in
    let l = c.loop-place in
    let told = c.best.ensures in
    are_of_entry (Accepts p) (MakesSafe p) (Mends p c.args.cause.now.cases.items c.args.failed.now) (IsOfBlame c.args.cause.now.blame) c.args.to_any l.place l.mend c.best.result l.invariant told.accepted told.safe told.mended
    (omega (arith, l.auto.place-end, c.trials-place-end.ensures))
