-- What holds where a mode was raised.
use Rattle.std.proofs.Common.{◌≡◌, ◌≤◌, ◌<◌, ℕ, refl, Result, Ok, Err, IfOk}
use Rattle.kr_model.specs.Protocol.{Protocol, IsLawful}
use Rattle.kr_model.specs.declared.Name.{Name}
use Rattle.kr_model.specs.Locks.{Locks, own, keep_or_drop, AreWithin, HasNoNone, IsLocks}
use Rattle.kr_model.proofs.Keep.{Held, held_facts}

pub raised : {E : Type 0} (p : Protocol) (old real : Locks) (t : ℕ) (n : Name) (q : ℕ) (r : Result ℕ E) → IsLawful p → AreWithin p.count old → HasNoNone old → IsLocks old → 0 < q → q ≤ p.count
    → IfOk r (λ was. was ≡ own old t n) → IfOk r (λ was. real ≡ keep_or_drop old t n (p.convert was q)) → IfOk r (λ was. Held p old real t n q was)
raised p old real t n q (Ok was) laws within no_none in_order some few is real_is = held_facts p old real t n q was (p.convert was q) laws within no_none in_order some few is refl real_is
raised p old real t n q (Err e) laws within no_none in_order some few is real_is = tt
