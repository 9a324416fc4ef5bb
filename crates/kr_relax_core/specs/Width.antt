-- How much more a changed table grants.
use Rattle.std.specs.Prelude.{◌≡◌, ℕ, true, false, List, All, Contains, length}
use Rattle.kr_kinds.specs.Kinds.{IndexProtocol}
use Rattle.kr_change.specs.declared.change.Change.{Change}
use Rattle.kr_change.specs.GhostChanges.{changed_index}
use Rattle.kr_relax_core.specs.declared.place.Spot.{Spot}
use Rattle.kr_relax_core.specs.Met.{IsMetSpot, is_blocked_at, AreApart}
use Rattle.kr_relax_core.specs.Twins.{AreTwins}

-- Two transactions come to this request beside this lock under p, which blocks it; and q grants it with some twins of the modes.
pub record IsGained (p q : IndexProtocol) (x : Spot) : Type 0 where
  pub own : ℕ
  pub next : ℕ
  pub held : ℕ
  pub met : IsMetSpot p x
  pub own_twin : AreTwins p q x.request.own own
  pub next_twin : AreTwins p q x.request.next next
  pub held_twin : AreTwins p q x.held held
  pub blocked : is_blocked_at p x.request.place x.request.own x.request.next x.held ≡ true
  pub granted : is_blocked_at q x.request.place own next held ≡ false

-- There are n of these requests beside locks: a list has exactly these, each once, and its length is n.
pub record AreGained (p q : IndexProtocol) (n : ℕ) : Type 0 where
  pub spots : List Spot
  pub apart : AreApart spots
  pub each : All (IsGained p q) spots
  pub all : (x : Spot) → IsGained p q x → Contains spots x
  pub number : length spots ≡ n

-- The width of a change: of the requests beside locks that p blocks, how many the changed table grants.
abbrev pub IsWidth : IndexProtocol → Change → ℕ → Type 0
IsWidth p c n = AreGained p (changed_index p c) n
