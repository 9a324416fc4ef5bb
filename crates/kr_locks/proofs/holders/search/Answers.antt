use Rattle.std.proofs.Common.{rules}
use Rattle.std.proofs.lemmas.List.Sorted.{answers_always}
use Rattle.kr_locks.proofs.HolderPlaces.{searched}
use Rattle.kr_locks.proofs.holders.search.Goals as goal

pub returns : goal.returns
returns c =
    let facts = c.binary_search_by_key.ensures in
    searched c.args.holders.now c.args.txn c.binary_search_by_key.result c.requires facts.bound (facts.position (λ h. h.0) (answers_always _ _ _ (λ f a r g called. search rules)))
