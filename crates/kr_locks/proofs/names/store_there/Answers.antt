use Rattle.std.proofs.Common.{Some, None, ap, sym, ◌∙◌, subst}
use Rattle.std.specs.FinMap.{find, put}
use Rattle.std.specs.Ordering.{nat_cmp}
use Rattle.kr_locks.specs.Buckets.{Holders}
use Rattle.kr_locks.proofs.NameLaws.{IsChangedAt, holders_found, written_in, same_at, kept_at, find-locks_of}
use mathlib.Core.Bool.{false≢true}
use Rattle.std.specs.Prelude.{OnErr, Result}
use Rattle.std.proofs.Common.{Ok, Err}
use Rattle.kr_locks.proofs.names.store_there.Goals as goal

on_err : {A E P : Type 0} (r : Result A E) → P → OnErr r P
on_err (Ok x) p = tt
on_err (Err e) p = p

pub returns-in_err-keep-clause-in_order : goal.returns-in_err-keep-clause-in_order
returns-in_err-keep-clause-in_order c = (written_in c.args.names.now (c.get_mut.follows.lender c.keep.new.self) c.args.name c.key_of.result c.in-Some.bucket.now c.keep.new.self c.key_of.ensures c.requires c.in-Some.ensures.value (c.get_mut.follows.holds c.keep.new.self)).after

pub returns-in_err-keep-clause-err : goal.returns-in_err-keep-clause-err
returns-in_err-keep-clause-err c =
    let found = holders_found c.args.names.now c.args.name c.key_of.result (Some c.in-Some.bucket.now) c.key_of.ensures c.in-Some.ensures.value in
    on_err c.from_residual.result (same_at c.args.names.now.entries _ c.args.name _ (written_in c.args.names.now (c.get_mut.follows.lender c.keep.new.self) c.args.name c.key_of.result c.in-Some.bucket.now c.keep.new.self c.key_of.ensures c.requires c.in-Some.ensures.value (c.get_mut.follows.holds c.keep.new.self)) (c.in_err-keep.ensures.err ∙ sym found))

pub returns-in_err-keep-clause-there : goal.returns-in_err-keep-clause-there
returns-in_err-keep-clause-there c some =
    let found = holders_found c.args.names.now c.args.name c.key_of.result (Some c.in-Some.bucket.now) c.key_of.ensures c.in-Some.ensures.value in
    absurd (false≢true (c.in_err-keep.ensures.there (λ none. some (find-locks_of c.args.names.now.entries c.requires c.args.name c.args.txn ∙ ap (find nat_cmp c.args.txn) found ∙ none))))

pub returns-in-Some-clause-in_order : goal.returns-in-Some-clause-in_order
returns-in-Some-clause-in_order c = (written_in c.args.names.now (c.get_mut.follows.lender c.keep.new.self) c.args.name c.key_of.result c.in-Some.bucket.now c.keep.new.self c.key_of.ensures c.requires c.in-Some.ensures.value (c.get_mut.follows.holds c.keep.new.self)).after

pub returns-in-Some-clause-stored : goal.returns-in-Some-clause-stored
returns-in-Some-clause-stored c _ =
    let es = c.args.names.now.entries in
    let found = holders_found c.args.names.now c.args.name c.key_of.result (Some c.in-Some.bucket.now) c.key_of.ensures c.in-Some.ensures.value in
    let changed = written_in c.args.names.now (c.get_mut.follows.lender c.keep.new.self) c.args.name c.key_of.result c.in-Some.bucket.now c.keep.new.self c.key_of.ensures c.requires c.in-Some.ensures.value (c.get_mut.follows.holds c.keep.new.self) in
    kept_at es _ c.args.name c.args.txn c.args.mode (subst (λ (hs : Holders). IsChangedAt es (c.get_mut.follows.lender c.keep.new.self).entries c.args.name hs) (c.in_ok-keep.ensures.ok ∙ ap (put nat_cmp c.args.txn c.args.mode) (sym found)) changed)

pub returns-clause-absent : goal.returns-clause-absent
returns-clause-absent c _ = holders_found c.args.names.now c.args.name c.key_of.result None c.key_of.ensures c.in_default.ensures.value
