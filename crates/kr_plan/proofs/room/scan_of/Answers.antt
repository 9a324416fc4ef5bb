use Rattle.std.proofs.Common.{sym, ap, ◌∙◌, unwrap_or, option_map}
use Rattle.kr_model.specs.State.{idle}
use Rattle.kr_txn.specs.Standings.{number_of, active_of, scan_of}
use Rattle.kr_txn.proofs.Lists.{found, not_found}
use Rattle.kr_plan.proofs.room.scan_of.Goals as goal

pub returns-in-Some : goal.returns-in-Some
returns-in-Some c =
    let at = c.in-Some.ensures.some in
    ap (option_map scan_of) c.as_ref.ensures.value ∙ sym (ap (λ o. (unwrap_or o idle).scan) (found number_of active_of c.args.txn c.args.active.now c.in-Some.i at.within at.others at.here c.index-active-i.result))

pub returns-in-None : goal.returns-in-None
returns-in-None c = sym (ap (λ o. (unwrap_or o idle).scan) (not_found number_of active_of c.args.txn c.args.active.now c.in-None.ensures.none))
