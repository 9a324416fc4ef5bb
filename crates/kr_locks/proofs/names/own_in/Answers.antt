use Rattle.std.proofs.Common.{Some, None, ap, sym, ◌∙◌, unwrap_or}
use Rattle.std.specs.FinMap.{find}
use Rattle.std.specs.Ordering.{nat_cmp}
use Rattle.kr_locks.proofs.NameLaws.{holders_found, find-locks_of}
use Rattle.kr_locks.proofs.names.own_in.Goals as goal

pub returns-in-Some : goal.returns-in-Some
returns-in-Some c =
    let es = c.args.names.now.entries in
    c.own.ensures.mode ∙ sym (ap (λ o. unwrap_or o 0) (find-locks_of es c.requires c.args.name c.args.txn ∙ ap (find nat_cmp c.args.txn) (holders_found c.args.names.now c.args.name c.key_of.result (Some c.in-Some.bucket.now) c.key_of.ensures c.in-Some.ensures.value)))

pub returns-in-None : goal.returns-in-None
returns-in-None c =
    let es = c.args.names.now.entries in
    sym (ap (λ o. unwrap_or o 0) (find-locks_of es c.requires c.args.name c.args.txn ∙ ap (find nat_cmp c.args.txn) (holders_found c.args.names.now c.args.name c.key_of.result None c.key_of.ensures c.in-None.ensures.value)))
