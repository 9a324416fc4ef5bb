use Rattle.std.specs.List.{list_any}
use Rattle.std.specs.Prelude.{◌==◌, ℕ, Bool, true, false, [], length, vec_len}
use Rattle.std.proofs.Common.{◌≡◌, sym, ◌∙◌, ap, subst, arith}
use Rattle.std.proofs.lemmas.Grind.{common_steps}
use Rattle.std.proofs.lemmas.Bool.Decides.{nat_tests}
use Rattle.std.proofs.lemmas.List.{nil_from_length}
use Rattle.kr_model.specs.Locks.{add_once}
use Rattle.kr_model.proofs.Numbers.{AreBelow}
use Rattle.kr_txn.specs.EndedNumbers.{EndedNumbers, union, AreEnded}
use Rattle.kr_txn.proofs.Lists.{on_ok}
use Rattle.kr_txn.proofs.Unions.{add_once-there, union-add, union-end, ended-add, rises-union}
use Rattle.kr_txn.proofs.ended.Ended.add.Goals as goal

is_none : (n : ℕ) (b : Bool) → b ≡ (n == 0) → b ≡ true → n ≡ 0
is_none n b e t = grind (arith, nat_tests)

pub invariant_of-self-then-not-has : goal.invariant_of-self-then-not-has
invariant_of-self-then-not-has c =
    let xs = c.settle.new.recent.items in
    let ys = c.settle.new.settled.items in
    let among : ℕ → Bool = λ v. v == c.args.txn in
    let missing : list_any among (union xs ys) ≡ false =
    ap (list_any among) c.settle.ensures.numbers ∙ ap (λ (v : EndedNumbers). list_any among v.numbers) c.self.view_is ∙ sym c.has.ensures ∙ c.if-not-has.true in
    (subst (AreEnded ys) (sym (on_ok c.put_once.result c.put_once.ensures.items (c.put_once.ensures.has_room c.settle.ensures.place))) (ended-add c.args.txn ys xs c.settle.ensures.ended missing), λ _. omega (arith, c.settle.ensures.place, c.put_once.ensures.capacity))

pub returns-then-is_past-clause-numbers : goal.returns-then-is_past-clause-numbers
returns-then-is_past-clause-numbers c =
    let xs = c.self.inside.recent.items in
    let ys = c.self.inside.settled.items in
    let empty : vec_len c.self.inside.recent ≡ 0 = is_none (vec_len c.self.inside.recent) c.is_empty.result c.is_empty.ensures c.if-is_empty.true in
    let none : xs ≡ [] = nil_from_length xs (omega (arith, empty)) in
    let below : AreBelow c.args.txn ys (length ys) = subst (λ l. AreBelow c.args.txn l (length l)) c.deref.ensures.value (c.is_past.ensures c.if-is_past.true) in
    ap (union xs) c.push_reserved.ensures.items ∙ union-end c.args.txn xs ys none below ∙ ap (λ (v : EndedNumbers). add_once c.args.txn v.numbers) c.self.view_is

pub returns-then-not-has-clause-numbers : goal.returns-then-not-has-clause-numbers
returns-then-not-has-clause-numbers c =
    let xs = c.settle.new.recent.items in
    let ys = c.settle.new.settled.items in
    ap (λ l. union l ys) (on_ok c.put_once.result c.put_once.ensures.items (c.put_once.ensures.has_room c.settle.ensures.place)) ∙ union-add c.args.txn xs ys c.settle.ensures.ended.settled_rise
    ∙ ap (add_once c.args.txn) c.settle.ensures.numbers ∙ ap (λ (v : EndedNumbers). add_once c.args.txn v.numbers) c.self.view_is

pub returns-else-not-has-clause-numbers : goal.returns-else-not-has-clause-numbers
returns-else-not-has-clause-numbers c =
    let xs = c.self.inside.recent.items in
    let ys = c.self.inside.settled.items in
    let among : ℕ → Bool = λ v. v == c.args.txn in
    let numbers = ap (λ (v : EndedNumbers). v.numbers) c.self.view_is in
    let there : list_any among (union xs ys) ≡ true = ap (list_any among) numbers ∙ sym c.has.ensures ∙ c.if-not-has.false in
    let kept = add_once-there c.args.txn (union xs ys) (rises-union xs ys c.self.invariant.0.settled_rise) there in
    sym numbers ∙ kept ∙ ap (add_once c.args.txn) numbers

pub invariant_of-self : goal.invariant_of-self
invariant_of-self c = grind (arith, common_steps)

pub returns-then-is_past-clause-room : goal.returns-then-is_past-clause-room
returns-then-is_past-clause-room c = grind (arith, common_steps)

pub returns-then-not-has-clause-room : goal.returns-then-not-has-clause-room
returns-then-not-has-clause-room c = grind (arith, common_steps)

pub returns-else-not-has-clause-room : goal.returns-else-not-has-clause-room
returns-else-not-has-clause-room c = grind (arith, common_steps)
