use Rattle.std.proofs.Common.{◌≡◌, [], ◌∷◌, Some, None, ap, sym, ◌∙◌, subst, refl}
use Rattle.kr_locks.specs.Buckets.{Holders, locks_of, without}
use Rattle.kr_locks.proofs.NameLaws.{IsChangedAt, holders_found, written_in, holders_after, left_from, unchanged}
use Rattle.std.proofs.Common.{length}
use Rattle.std.proofs.lemmas.Bool.Decides.{nat_tests}
use Rattle.std.proofs.Common.{arith}
use Rattle.std.specs.Prelude.{◌==◌, true}
use Rattle.kr_locks.proofs.names.leave.Goals as goal

empty_of : (hs : Holders) → (length hs == 0) ≡ true → hs ≡ []
empty_of [] e = refl
empty_of (h ∷ hs) e = absurd (grind (arith, nat_tests))

pub returns-in-Some-clause-in_order : goal.returns-in-Some-clause-in_order
returns-in-Some-clause-in_order c = (written_in c.args.names.now (c.get_mut.follows.lender c.forget.new.self) c.args.name c.key_of.result c.in-Some.bucket.now c.forget.new.self c.key_of.ensures c.requires c.in-Some.ensures.value (c.get_mut.follows.holds c.forget.new.self)).after

pub returns-in-Some-clause-locks : goal.returns-in-Some-clause-locks
returns-in-Some-clause-locks c =
    let es = c.args.names.now.entries in
    let found = holders_found c.args.names.now c.args.name c.key_of.result (Some c.in-Some.bucket.now) c.key_of.ensures c.in-Some.ensures.value in
    let changed = written_in c.args.names.now (c.get_mut.follows.lender c.forget.new.self) c.args.name c.key_of.result c.in-Some.bucket.now c.forget.new.self c.key_of.ensures c.requires c.in-Some.ensures.value (c.get_mut.follows.holds c.forget.new.self) in
    left_from es _ c.args.name c.args.txn (subst (λ (hs : Holders). IsChangedAt es (c.get_mut.follows.lender c.forget.new.self).entries c.args.name hs) (c.forget.ensures ∙ ap (without c.args.txn) (sym found)) changed)

pub returns-in-Some-clause-empty : goal.returns-in-Some-clause-empty
returns-in-Some-clause-empty c is_so =
    let changed = written_in c.args.names.now (c.get_mut.follows.lender c.forget.new.self) c.args.name c.key_of.result c.in-Some.bucket.now c.forget.new.self c.key_of.ensures c.requires c.in-Some.ensures.value (c.get_mut.follows.holds c.forget.new.self) in
    holders_after c.args.names.now.entries _ c.args.name _ changed ∙ empty_of c.forget.new.self (sym c.is_empty.ensures ∙ is_so)

pub returns-clause-locks : goal.returns-clause-locks
returns-clause-locks c =
    let es = c.args.names.now.entries in
    let found = holders_found c.args.names.now c.args.name c.key_of.result None c.key_of.ensures c.in_default.ensures.value in
    ap (λ m. locks_of m.entries) c.get_mut.follows.holds-at-none ∙ left_from es es c.args.name c.args.txn (record {
      before = c.requires;
      after = c.requires;
      holders = λ x. unchanged es c.args.name c.args.txn found x;
    })
