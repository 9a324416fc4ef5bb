-- Cycles of the same blockers, told in another way.
use Rattle.std.proofs.Common.{◌≡◌, ℕ, List, [], ◌∷◌, subst}
use Rattle.std.specs.List.{Contains}
use Rattle.kr_deadlock.specs.Waits.{IsChain, AreBlocked, IsCycle}

module _ (f g : ℕ → List ℕ) (same : (t : ℕ) → f t ≡ g t) where
  chain_same : (t : ℕ) (ts : List ℕ) (end : ℕ) → IsChain f t ts end → IsChain g t ts end
  chain_same t [] end c = subst (λ (us : List ℕ). Contains us end) (same t) c
  chain_same t (u ∷ us) end c = (subst (λ (vs : List ℕ). Contains vs u) (same t) c.0, chain_same u us end c.1)

  blocked_same : (ts : List ℕ) (end : ℕ) → AreBlocked f ts end → AreBlocked g ts end
  blocked_same [] end b = b
  blocked_same (t ∷ ts) end b = chain_same t ts end b

  pub IsCycle-same : (asker : ℕ) (cycle : List ℕ) → IsCycle f asker cycle → IsCycle g asker cycle
  IsCycle-same asker cycle c = record { first = c.first; distinct = c.distinct; blocked = blocked_same cycle asker c.blocked }
