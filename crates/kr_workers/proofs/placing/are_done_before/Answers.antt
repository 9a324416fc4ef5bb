use Rattle.std.proofs.Common.{◌≡◌, ◌+◌, ◌-◌, ◌<◌, ◌≤◌, ℕ, Option, sym, subst, arith}
use Rattle.std.proofs.lemmas.Bool.Decides.{nat_tests}
use Rattle.std.specs.Prelude.{nat_eq, nat_lt, true}
use Rattle.kr_workers.specs.Placed.{AreDoneBefore}
use Rattle.kr_workers.proofs.Counts.{number_found, none_found, never}
use Rattle.kr_workers.proofs.placing.are_done_before.Goals as goal

is_next : (it n : ℕ) → n < it → nat_eq (it - 1) n ≡ true → it ≡ n + 1
is_next it n more same = grind (arith, nat_tests)

next_is : (it n : ℕ) → it ≡ n + 1 → nat_eq (it - 1) n ≡ true
next_is it n is = grind (arith, nat_tests)

not_next : (it n : ℕ) → it ≤ n → it ≡ n + 1 → ⊥
not_next it n less is = omega arith

not_more : (it n : ℕ) → it ≤ n → nat_lt n it ≡ true → ⊥
not_more it n less more = grind (arith, nat_tests)

pub returns-then-it-number : goal.returns-then-it-number
returns-then-it-number c =
    let es = c.args.events.now in
    let found = number_found es c.in-Some.place c.args.txn c.in-Some-number_at.it (c.args.number + 1) c.number_at.result c.number_at.ensures c.in-Some-number_at.is in (
      λ same. subst (λ (o : Option ℕ). AreDoneBefore es o c.args.txn c.args.number) (sym c.in-Some.is) (found.0 (is_next _ _ c.if-it-number.true same)),
      λ done. next_is _ _ (found.1 (subst (λ (o : Option ℕ). AreDoneBefore es o c.args.txn c.args.number) c.in-Some.is done)),
    )

pub returns-else-it-number : goal.returns-else-it-number
returns-else-it-number c =
    let es = c.args.events.now in
    let found = number_found es c.in-Some.place c.args.txn c.in-Some-number_at.it (c.args.number + 1) c.number_at.result c.number_at.ensures c.in-Some-number_at.is in (
      λ more. absurd (not_more _ _ c.if-it-number.false more),
      λ done. absurd (not_next _ _ c.if-it-number.false (found.1 (subst (λ (o : Option ℕ). AreDoneBefore es o c.args.txn c.args.number) c.in-Some.is done))),
    )

pub returns-in-None : goal.returns-in-None
returns-in-None c =
    let es = c.args.events.now in
    never (AreDoneBefore es c.args.next c.args.txn c.args.number)
    (λ done. none_found es c.in-Some.place c.args.txn (c.args.number + 1) c.number_at.result c.number_at.ensures c.in-None.is (subst (λ (o : Option ℕ). AreDoneBefore es o c.args.txn c.args.number) c.in-Some.is done))
