use Rattle.std.proofs.Common.{refl, ap, sym, ◌∙◌, subst, option_map, unwrap_or}
use Rattle.kr_model.specs.State.{idle}
use Rattle.kr_txn.specs.Standings.{active_of, number_of, scan_of}
use Rattle.kr_txn.proofs.Lists.{found, not_found}
use Rattle.kr_ghost_machine.specs.Sights.{HasRange}
use Rattle.kr_ghost_machine.proofs.sights.range_left.Goals as goal

pub returns-in-Some-scan-clause-some : goal.returns-in-Some-scan-clause-some
returns-in-Some-scan-clause-some c =
    let at = c.in-Some.ensures.some in
    let is = ap (λ o. (unwrap_or o idle).scan) (found number_of active_of c.args.txn c.args.active.now c.in-Some.place at.within at.others at.here c.index-active-place.result) ∙ ap (option_map scan_of) c.in-Some-scan.is in
    subst (HasRange (c.in-Some-scan.scan.lo, c.in-Some-scan.scan.hi)) (sym is) (refl, refl)

pub returns-in-None-scan-clause-none : goal.returns-in-None-scan-clause-none
returns-in-None-scan-clause-none c =
    let at = c.in-Some.ensures.some in
    ap (λ o. (unwrap_or o idle).scan) (found number_of active_of c.args.txn c.args.active.now c.in-Some.place at.within at.others at.here c.index-active-place.result) ∙ ap (option_map scan_of) c.in-None-scan.is

pub returns-in-None-clause-none : goal.returns-in-None-clause-none
returns-in-None-clause-none c = ap (λ o. (unwrap_or o idle).scan) (not_found number_of active_of c.args.txn c.args.active.now c.in-None.ensures.none)
