use Rattle.std.proofs.Common.{◌≡◌, take, Some, ◌-◌, ◌∙◌, ap, sym, refl, subst, arith}
use Rattle.std.specs.Prelude.{IsSome}
use Rattle.std.specs.BTreeMap.{get}
use Rattle.std.specs.Ordering.{nat_cmp}
use Rattle.std.proofs.lemmas.List.{get_or_default}
use Rattle.kr_model.specs.declared.Event.{Event}
use Rattle.kr_model.specs.declared.Op.TheVariants.{Go}
use Rattle.kr_workers.specs.Follows.{ops_of}
use Rattle.kr_workers.specs.Dealt.{hand_in}
use Rattle.kr_workers.proofs.Wants.{hand_found, hand_put, hand_beside, if_none}
use Rattle.kr_workers.proofs.Undone.{run_taken, none_there}
use Rattle.kr_workers.proofs.undoing.undo_run.Goals as goal

abbrev nobody : Event
nobody = record { txn = 0; op = Go }

pub returns-in_err-start-clause-others : goal.returns-in_err-start-clause-others
returns-in_err-start-clause-others c =
    let m = c.args.hands.now in
    let events = c.args.events.now in
    if_none c.from_residual.result _ (λ all. c.in_err-start.ensures.others (sym (hand_found m _ (Some c.in-Some.ops.now) c.in-Some.ensures.value)
    ∙ subst (λ (e : Event). hand_in m e.txn ≡ ops_of e.txn (take c.args.end events)) (get_or_default events (c.args.end - 1) nobody _ (omega (arith, c.requires.0, c.requires.1))) all))

pub returns-in-Some-clause-taken : goal.returns-in-Some-clause-taken
returns-in-Some-clause-taken c =
    let m = c.args.hands.now in
    let v = c.take_run.new.ops in
    let w = c.get_mut.follows.lender v in
    let put = ((c.get_mut.follows.holds v).3 (subst IsSome c.in-Some.ensures.value refl)).0 in
    run_taken _ c.in_ok-start.start c.args.end c.args.events.now m w c.in-Some.ops.now.items v.items c.in_ok-start.ensures.run
    (hand_found m _ (Some c.in-Some.ops.now) c.in-Some.ensures.value) (hand_put m w _ v put) (hand_beside m w _ v put) c.in_ok-start.ensures.taken

pub returns-clause-others : goal.returns-clause-others
returns-clause-others c =
    let events = c.args.events.now in
    none_there c.args.end events nobody c.args.hands.now c.requires.0 c.requires.1
    (c.in_default.ensures.value ∙ ap (λ (e : Event). get nat_cmp c.args.hands.now e.txn) (get_or_default events (c.args.end - 1) _ nobody (omega (arith, c.requires.0, c.requires.1))))
