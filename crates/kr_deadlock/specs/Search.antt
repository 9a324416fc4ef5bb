-- What the search keeps.
use Rattle.std.specs.Prelude.{◌≡◌, ℕ, ◌+◌, ◌<◌, ◌≤◌, List, [], length, Option, None, Some, MatchOption, slice_index_or, slice_get, nat_eq, false, ◌⊎◌}
use Rattle.std.specs.List.{Contains, IsDistinct, list_any}
use Rattle.std.specs.Ordering.{nat_cmp}
use Rattle.std.specs.BTreeMap.{get, btree_map_len, BTreeMap}
use Rattle.kr_deadlock.specs.declared.Waiting.{Waiting}
use Rattle.kr_deadlock.specs.declared.Found.{Found}
use Rattle.kr_deadlock.specs.Waits.{blockers_of, AreBlocked}

-- the entry at this place has these blockers
pub record IsPlace (ws : List Waiting) (blockers : List ℕ) (place : ℕ) : Type 0 where
  pub within : place < length ws
  pub blockers_are : (w : Waiting) → (slice_index_or ws place w).blockers.items ≡ blockers

-- the place of these blockers, if there are any
abbrev pub HasPlace : List Waiting → List ℕ → Option ℕ → Type 0
HasPlace ws blockers place = MatchOption place (blockers ≡ []) (IsPlace ws blockers)

abbrev pub ArePlaces : List Waiting → BTreeMap ℕ ℕ → Type 0
ArePlaces ws m = (t : ℕ) → HasPlace ws (blockers_of ws t) (get nat_cmp m t)

abbrev pub nobody : Found
nobody = record { txn = 0; place = 0; from = 0 }

abbrev pub found_at : List Found → ℕ → Found
found_at fs k = slice_index_or fs k nobody

abbrev pub blockers_at : List Waiting → List Found → ℕ → List ℕ
blockers_at ws fs k = blockers_of ws (found_at fs k).txn

-- each found transaction but the first, which is the requester, blocks one found before it
pub record IsTree (ws : List Waiting) (asker : ℕ) (fs : List Found) : Type 0 where
  pub nonempty : 0 < length fs
  pub first : (found_at fs 0).txn ≡ asker
  pub before : (k : ℕ) → 0 < k → k < length fs → (found_at fs k).from < k
  pub blocks : (k : ℕ) → 0 < k → k < length fs → Contains (blockers_at ws fs (found_at fs k).from) (found_at fs k).txn
  pub apart : (j k : ℕ) → j < k → k < length fs → (found_at fs j).txn ≡ (found_at fs k).txn → ⊥

-- the found transactions, and the places of the others that wait
pub record IsSearch (ws : List Waiting) (asker : ℕ) (fs : List Found) (m : BTreeMap ℕ ℕ) : Type 0 where
  pub tree : IsTree ws asker fs
  pub placed : (k : ℕ) → k < length fs → IsPlace ws (blockers_at ws fs k) (found_at fs k).place
  pub gone : (k : ℕ) → k < length fs → get nat_cmp m (found_at fs k).txn ≡ None
  pub places : (t p : ℕ) → get nat_cmp m t ≡ Some p → IsPlace ws (blockers_of ws t) p
  pub others : (t : ℕ) → get nat_cmp m t ≡ None → ((k : ℕ) × (k < length fs) × ((found_at fs k).txn ≡ t)) ⊎ (blockers_of ws t ≡ [])

-- none of these is the requester or waits unfound
abbrev pub AreFollowed : ℕ → BTreeMap ℕ ℕ → List ℕ → Type 0
AreFollowed asker m us = (u : ℕ) → Contains us u → (u ≡ asker → ⊥) × (get nat_cmp m u ≡ None)

abbrev pub AreFollowedBelow : List Waiting → ℕ → List Found → BTreeMap ℕ ℕ → ℕ → Type 0
AreFollowedBelow ws asker fs m n = (k : ℕ) → k < n → AreFollowed asker m (blockers_at ws fs k)

-- what was found stays, and what was gone stays gone
pub record GoesOn (fs : List Found) (m : BTreeMap ℕ ℕ) (fs' : List Found) (m' : BTreeMap ℕ ℕ) : Type 0 where
  pub longer : length fs ≤ length fs'
  pub size : length fs' + btree_map_len m' ≡ length fs + btree_map_len m
  pub kept : (k : ℕ) → k < length fs → found_at fs' k ≡ found_at fs k
  pub gone : (t : ℕ) → get nat_cmp m t ≡ None → get nat_cmp m' t ≡ None

-- the search that began at fs₀ and m₀ has come past these blockers
pub record IsFollowing (ws : List Waiting) (asker : ℕ) (fs₀ : List Found) (m₀ : BTreeMap ℕ ℕ) (fs : List Found) (m : BTreeMap ℕ ℕ) (past : List ℕ) : Type 0 where
  pub search : IsSearch ws asker fs m
  pub goes_on : GoesOn fs₀ m₀ fs m
  pub followed : AreFollowed asker m past

-- the distinct transactions from the requester to the found one at k
pub record IsPath (ws : List Waiting) (asker : ℕ) (fs : List Found) (k : ℕ) (path : List ℕ) : Type 0 where
  pub first : slice_get path 0 ≡ Some asker
  pub distinct : IsDistinct nat_eq path
  pub leads : (u : ℕ) → Contains (blockers_at ws fs k) u → AreBlocked (blockers_of ws) path u

-- distinct transactions that lead from the found one at k to the one at `last`, none of which was found before k
pub record IsWay (ws : List Waiting) (fs : List Found) (k last : ℕ) (way : List ℕ) : Type 0 where
  pub first : slice_get way 0 ≡ Some (found_at fs k).txn
  pub distinct : IsDistinct nat_eq way
  pub earlier : (j : ℕ) → j < k → list_any (nat_eq (found_at fs j).txn) way ≡ false
  pub leads : (u : ℕ) → Contains (blockers_at ws fs last) u → AreBlocked (blockers_of ws) way u
