use Rattle.std.proofs.Common.{None, Some, List, ap, ◌∙◌, sym, refl, subst}
use Rattle.std.specs.Prelude.{IsSome}
use Rattle.kr_model.specs.declared.Op.{Op}
use Rattle.kr_workers.specs.Follows.{closed, done_from}
use Rattle.kr_workers.specs.Dealt.{hand_in}
use Rattle.kr_workers.proofs.Hands.{Hands}
use Rattle.kr_workers.proofs.Wants.{hand_found, hand_put, hand_beside}
use Rattle.kr_workers.proofs.wanted.want_of.Goals as goal

pub returns-in_ok-want-clause-own : goal.returns-in_ok-want-clause-own
returns-in_ok-want-clause-own c =
    let t = c.args.txn in
    let m = c.args.hands.now in
    let v = c.want.new.ops in
    hand_put m (c.get_mut.follows.lender v) t v ((c.get_mut.follows.holds v).3 (subst IsSome c.in-Some.ensures.value refl)).0
    ∙ c.in_ok-want.ensures
    ∙ ap (λ (os : List Op). closed (done_from c.args.faults.now t 1 os)) (sym (hand_found m t (Some c.in-Some.ops.now) c.in-Some.ensures.value))

pub returns-in_ok-want-clause-others : goal.returns-in_ok-want-clause-others
returns-in_ok-want-clause-others c = λ u other.
    let v = c.want.new.ops in
    hand_beside c.args.hands.now (c.get_mut.follows.lender v) c.args.txn v ((c.get_mut.follows.holds v).3 (subst IsSome c.in-Some.ensures.value refl)).0 u other

pub returns-in_default-clause-own : goal.returns-in_default-clause-own
returns-in_default-clause-own c =
    let t = c.args.txn in
    let m = c.args.hands.now in
    ap (λ (x : Hands). hand_in x t) c.get_mut.follows.holds-at-none
    ∙ hand_found m t None c.in_default.ensures.value
    ∙ ap (λ (os : List Op). closed (done_from c.args.faults.now t 1 os)) (sym (hand_found m t None c.in_default.ensures.value))
