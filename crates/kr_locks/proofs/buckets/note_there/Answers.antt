use Rattle.std.proofs.Common.{◌≡◌, [], ◌∷◌, true, ap, sym, ◌∙◌, subst, refl}
use Rattle.std.specs.Prelude.{IsSome, List}
use Rattle.kr_model.specs.declared.Name.{Name}
use Rattle.kr_locks.specs.Noted.{names_in}
use Rattle.kr_locks.proofs.BucketLaws.{is_in}
use Rattle.kr_locks.proofs.NotedLaws.{in_longer, in_last, still_noted, now_noted}
use Rattle.kr_locks.proofs.buckets.note_there.Goals as goal

pub returns-in_err-push-clause-kept : goal.returns-in_err-push-clause-kept
returns-in_err-push-clause-kept c t n here =
    still_noted c.args.held.now (c.get_mut.follows.lender c.push.new.self) c.args.txn c.push.new.self ((c.get_mut.follows.holds c.push.new.self).3 (subst IsSome c.in-Some.ensures.value refl)).0
    (λ x h. subst (λ (l : List Name). is_in x l ≡ true) (sym (ap names_in c.in-Some.ensures.value) ∙ sym c.in_err-push.ensures.items) h) t n here

pub returns-in-Some-clause-kept : goal.returns-in-Some-clause-kept
returns-in-Some-clause-kept c t n here =
    still_noted c.args.held.now (c.get_mut.follows.lender c.push.new.self) c.args.txn c.push.new.self ((c.get_mut.follows.holds c.push.new.self).3 (subst IsSome c.in-Some.ensures.value refl)).0
    (λ x h. subst (λ (l : List Name). is_in x l ≡ true) (sym c.in_ok-push.ensures.items) (in_longer x c.in-Some.list.now.items (c.args.name ∷ []) (subst (λ (l : List Name). is_in x l ≡ true) (sym (ap names_in c.in-Some.ensures.value)) h))) t n here

pub returns-in-Some-clause-noted : goal.returns-in-Some-clause-noted
returns-in-Some-clause-noted c _ =
    now_noted c.args.held.now (c.get_mut.follows.lender c.push.new.self) c.args.txn c.push.new.self ((c.get_mut.follows.holds c.push.new.self).3 (subst IsSome c.in-Some.ensures.value refl)).0 c.args.name
    (subst (λ (l : List Name). is_in c.args.name l ≡ true) (sym c.in_ok-push.ensures.items) (in_last c.args.name c.in-Some.list.now.items))
