use Rattle.std.proofs.Common.{List, Some, None, length, ◌==◌, ◌∙◌, ap, sym, refl}
use Rattle.kr_model.specs.declared.Op.{Op}
use Rattle.kr_workers.proofs.Wants.{hand_found, empty_is}
use Rattle.kr_workers.proofs.undoing.is_empty.Goals as goal

pub returns-in-Some : goal.returns-in-Some
returns-in-Some c =
    let found = hand_found c.args.hands.now c.args.txn (Some c.in-Some.ops.now) c.in-Some.ensures.value in
    let is = empty_is c.in-Some.ops.now.items c.is_empty.result (c.is_empty.ensures ∙ ap (λ (os : List Op). length os == 0) c.as_slice.ensures.value) in
    (λ yes. found ∙ is.0 yes, λ none. is.1 (sym found ∙ none))

pub returns-in-None : goal.returns-in-None
returns-in-None c = (λ yes. hand_found c.args.hands.now c.args.txn None c.in-None.ensures.value, λ none. refl)
