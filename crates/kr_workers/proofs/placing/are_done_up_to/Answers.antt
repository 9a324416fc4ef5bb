use Rattle.std.proofs.Common.{ℕ, Option, sym, subst}
use Rattle.std.proofs.lemmas.Bool.{eqb-true, eq-eqb}
use Rattle.kr_workers.specs.Placed.{AreDoneUpTo}
use Rattle.kr_workers.proofs.Counts.{number_found, none_found, never}
use Rattle.kr_workers.proofs.placing.are_done_up_to.Goals as goal

pub returns-in-Some-number_at : goal.returns-in-Some-number_at
returns-in-Some-number_at c =
    let es = c.args.events.now in
    let found = number_found es c.in-Some.place c.args.txn c.in-Some-number_at.it c.args.number c.number_at.result c.number_at.ensures c.in-Some-number_at.is in (
      λ same. subst (λ (o : Option ℕ). AreDoneUpTo es o c.args.txn c.args.number) (sym c.in-Some.is) (found.0 (eqb-true _ _ same)),
      λ done. eq-eqb _ _ (found.1 (subst (λ (o : Option ℕ). AreDoneUpTo es o c.args.txn c.args.number) c.in-Some.is done)),
    )

pub returns-in-None : goal.returns-in-None
returns-in-None c =
    let es = c.args.events.now in
    never (AreDoneUpTo es c.args.last c.args.txn c.args.number)
    (λ done. none_found es c.in-Some.place c.args.txn c.args.number c.number_at.result c.number_at.ensures c.in-None.is (subst (λ (o : Option ℕ). AreDoneUpTo es o c.args.txn c.args.number) c.in-Some.is done))
