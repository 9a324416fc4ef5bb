use Rattle.std.proofs.Common.{Some, ap, sym, ◌∙◌, subst}
use Rattle.std.specs.FinMap.{put}
use Rattle.std.specs.Ordering.{nat_cmp}
use Rattle.kr_locks.specs.Buckets.{Holders}
use Rattle.kr_locks.proofs.NameLaws.{IsChangedAt, changed_in, kept_at}
use Rattle.kr_locks.proofs.names.store_new.Goals as goal

pub returns-clause-in_order : goal.returns-clause-in_order
returns-clause-in_order c = (changed_in c.args.names.now c.insert.new.self c.args.name c.key_of.result (Some c.of_one.result) c.key_of.ensures c.requires.in_order c.in_ok-insert.ensures.unique c.in_ok-insert.ensures.updates.0).after

pub returns-clause-ok : goal.returns-clause-ok
returns-clause-ok c =
    let es = c.args.names.now.entries in
    let changed = changed_in c.args.names.now c.insert.new.self c.args.name c.key_of.result (Some c.of_one.result) c.key_of.ensures c.requires.in_order c.in_ok-insert.ensures.unique c.in_ok-insert.ensures.updates.0 in
    kept_at es _ c.args.name c.args.txn c.args.mode (subst (λ (hs : Holders). IsChangedAt es c.insert.new.self.entries c.args.name hs) (c.of_one.ensures ∙ ap (put nat_cmp c.args.txn c.args.mode) (sym c.requires.absent)) changed)
