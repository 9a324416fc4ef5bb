use Rattle.std.proofs.Common.{rules}
use Rattle.std.proofs.lemmas.Fn.{always_returns_same}
use Rattle.kr_model.specs.Locks.{holder_cmp}
use Rattle.kr_locks.proofs.Places.{searched}
use Rattle.kr_locks.proofs.list.search.Goals as goal

pub returns : goal.returns
returns c =
    let facts = c.binary_search_by.ensures in
    searched c.args.held.now (c.args.name, c.args.txn) c.binary_search_by.result c.requires facts.bound (facts.position (λ l. holder_cmp l.0 (c.args.name, c.args.txn)) (always_returns_same _ _ _ (λ a r f called. (search rules, search rules))))
