-- Where all that was found is followed, there is no cycle.
use Rattle.std.proofs.Common.{◌≡◌, ℕ, ◌+◌, ◌<◌, List, [], ◌∷◌, length, Some, ⊎_elim, sym, refl, ap, subst, arith}
use Rattle.std.specs.List.{Contains, slice_get}
use Rattle.std.specs.BTreeMap.{BTreeMap}
use Rattle.std.proofs.lemmas.Bool.{cases_lt}
use Rattle.kr_deadlock.specs.declared.Waiting.{Waiting}
use Rattle.kr_deadlock.specs.declared.Found.{Found}
use Rattle.kr_deadlock.specs.Waits.{blockers_of, IsChain, AreBlocked, IsCycle}
use Rattle.kr_deadlock.specs.Search.{found_at, blockers_at, IsSearch, AreFollowed, AreFollowedBelow, GoesOn}

nobody_blocks : (us : List ℕ) (u : ℕ) → us ≡ [] → Contains us u → ⊥
nobody_blocks us u none c = let in' : c.0 < length us = c.1 in let empty : length us ≡ 0 = ap length none in omega arith

no_chain : (ws : List Waiting) (t : ℕ) (ts : List ℕ) (end : ℕ) → blockers_of ws t ≡ [] → IsChain (blockers_of ws) t ts end → ⊥
no_chain ws t [] end none c = nobody_blocks (blockers_of ws t) end none c
no_chain ws t (u ∷ us) end none c = nobody_blocks (blockers_of ws t) u none c.0

no_cycle_from : (ws : List Waiting) (asker : ℕ) (cycle : List ℕ) → ((ts : List ℕ) → IsChain (blockers_of ws) asker ts asker → ⊥) → slice_get cycle 0 ≡ Some asker → AreBlocked (blockers_of ws) cycle asker → ⊥
no_cycle_from ws asker [] never first blocked = blocked
no_cycle_from ws asker (t ∷ ts) never first blocked = let is : t ≡ asker = cc in never ts (subst (λ (u : ℕ). IsChain (blockers_of ws) u ts asker) is blocked)

-- a requester that nobody blocks
pub no_cycle_alone : (ws : List Waiting) (asker : ℕ) → blockers_of ws asker ≡ [] → (cycle : List ℕ) → IsCycle (blockers_of ws) asker cycle → ⊥
no_cycle_alone ws asker none cycle c = no_cycle_from ws asker cycle (λ ts. no_chain ws asker ts asker none) c.first c.blocked

module _ {ws : List Waiting} {asker : ℕ} {fs : List Found} {m : BTreeMap ℕ ℕ} (s : IsSearch ws asker fs m) (all : AreFollowedBelow ws asker fs m (length fs)) where
  never : (t : ℕ) (ts : List ℕ) → (k : ℕ) × (k < length fs) × ((found_at fs k).txn ≡ t) → IsChain (blockers_of ws) t ts asker → ⊥
  never t [] f c = (all f.0 f.1 asker (subst (λ (v : ℕ). Contains (blockers_of ws v) asker) (sym f.2) c)).0 refl
  never t (u ∷ us) f c =
      ⊎_elim
      (λ g. never u us g c.1)
      (λ none. no_chain ws u us asker none c.1)
      (s.others u (all f.0 f.1 u (subst (λ (v : ℕ). Contains (blockers_of ws v) u) (sym f.2) c.0)).1)

  pub no_cycle : (cycle : List ℕ) → IsCycle (blockers_of ws) asker cycle → ⊥
  no_cycle cycle c = no_cycle_from ws asker cycle (λ ts. never asker ts (0, s.tree.nonempty, s.tree.first)) c.first c.blocked

-- one more found transaction is followed
pub followed_next : (ws : List Waiting) (asker n : ℕ) {fs fs' : List Found} {m m' : BTreeMap ℕ ℕ} → AreFollowedBelow ws asker fs m n → GoesOn fs m fs' m' → n < length fs → AreFollowed asker m' (blockers_at ws fs n) → AreFollowedBelow ws asker fs' m' (n + 1)
followed_next ws asker n {fs} {fs'} {m} {m'} before goes_on l now k b u c =
    let in' : k < length fs = omega arith in
    let was : Contains (blockers_at ws fs k) u = subst (λ (f : Found). Contains (blockers_of ws f.txn) u) (goes_on.kept k in') c in
    ⊎_elim
    (λ below. ((before k below u was).0, goes_on.gone u (before k below u was).1))
    (λ past. let last : k ≡ n = omega arith in now u (subst (λ (j : ℕ). Contains (blockers_at ws fs j) u) last was))
    (cases_lt k n)
