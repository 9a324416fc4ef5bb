-- What it is for a transaction to come to a state under a table: a script leads to it.
use Rattle.std.specs.Prelude.{◌≡◌, ℕ, Bool, true, List, [], ◌∷◌, IsTrue, All, is_some, if◌then◌else◌}
use Rattle.kr_model.specs.declared.Event.{Event}
use Rattle.kr_model.specs.declared.Name.TheVariants.{Key}
use Rattle.kr_model.specs.Protocol.{Protocol}
use Rattle.kr_model.specs.Map.{Map, IsMap, get, at}
use Rattle.kr_model.specs.Locks.{own}
use Rattle.kr_model.specs.State.{start}
use Rattle.kr_model.specs.Run.{Trace, run, replies_of, is_granted}
use Rattle.kr_explain_runs.specs.declared.keys.TheConstants.{K, B, P, A, Y}
use Rattle.kr_explain_runs.specs.declared.state.State.{State}

-- The index of the keys that are present, each with the value 0.
abbrev pub standing : List (ℕ × Bool) → Map
standing [] = []
standing (e ∷ es) = if e.1 then (e.0, 0) ∷ standing es else standing es

-- The index of a state: Y is present, and of the four keys below it those that the state says.
abbrev pub index_of : State → Map
index_of s = standing ((K, s.k) ∷ (B, s.b) ∷ (P, s.p) ∷ (A, s.a) ∷ (Y, true) ∷ [])

-- Two indexes are alike at a point: it is a present key in both or in neither, and the least present key not below it is the same.
pub record AreAlikeAt (m n : Map) (k : ℕ) : Type 0 where
  pub present : is_some (get m k) ≡ is_some (get n k)
  pub name : at m k ≡ at n k

-- The points at and below A that the steps of a script name, and those above the ones that they delete.
abbrev pub points : List ℕ
points = 10 ∷ 11 ∷ 12 ∷ 15 ∷ 16 ∷ 17 ∷ 20 ∷ []

-- A run ends in the state: all its steps were granted; then the index is like the state's, and transaction 1 has the state's modes on A and on Y.
pub record EndsIn (s : State) (r : Trace) : Type 0 where
  pub granted : All (λ reply. IsTrue (is_granted reply)) (replies_of r.history)
  pub alike : All (AreAlikeAt r.state.map (index_of s)) points
  pub on_a : own r.state.locks 1 (Key A) ≡ s.on_a
  pub on_y : own r.state.locks 1 (Key Y) ≡ s.on_y

-- The script of these steps leads from the opening map to the state.
pub record Leads (p : Protocol) (opening : Map) (events : List Event) (s : State) : Type 0 where
  -- the keys of the opening map rise strictly
  pub is_map : IsMap opening
  pub ends : EndsIn s (run p (start opening) events)

-- Some script leads to the state.
abbrev pub IsReached : Protocol → State → Type 0
IsReached p s = ∥ ((opening : Map) × ((events : List Event) × Leads p opening events s)) ∥₁
