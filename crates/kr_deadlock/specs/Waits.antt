-- Who blocks whom, and what a cycle is.
use Rattle.std.specs.Prelude.{◌≡◌, ℕ, ◌==◌, List, [], ◌∷◌, if◌then◌else◌, Some, slice_get, nat_eq}
use Rattle.std.specs.List.{Contains, IsDistinct}
use Rattle.kr_deadlock.specs.declared.Waiting.{Waiting}

-- who blocks t: the blockers of its first entry, nobody where it has no entry
abbrev pub blockers_of : List Waiting → ℕ → List ℕ
blockers_of [] t = []
blockers_of (w ∷ ws) t = if w.txn == t then w.blockers.items else blockers_of ws t

-- t is blocked by the first of us, each of us by the next, and the last by `end`
abbrev pub IsChain : (ℕ → List ℕ) → ℕ → List ℕ → ℕ → Type 0
IsChain blockers t [] end = Contains (blockers t) end
IsChain blockers t (u ∷ us) end = Contains (blockers t) u × IsChain blockers u us end

-- each is blocked by the next, the last by `end`
abbrev pub AreBlocked : (ℕ → List ℕ) → List ℕ → ℕ → Type 0
AreBlocked blockers [] end = ⊥
AreBlocked blockers (t ∷ ts) end = IsChain blockers t ts end

-- distinct transactions, the requester first, each blocked by the next, the last by the requester
pub record IsCycle (blockers : ℕ → List ℕ) (asker : ℕ) (cycle : List ℕ) : Type 0 where
  pub first : slice_get cycle 0 ≡ Some asker
  pub distinct : IsDistinct nat_eq cycle
  pub blocked : AreBlocked blockers cycle asker
