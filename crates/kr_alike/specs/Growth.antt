-- What is known of a set of marks while it grows.
use Rattle.std.specs.Prelude.{◌≡◌, ℕ, ◌+◌, ◌<◌, ◌≤◌, Bool, true, false, IsTrue, List, length, cond}
use Rattle.std.specs.List.{sum_by}
use Rattle.kr_model.specs.Protocol.{Protocol}
use Rattle.kr_alike.specs.declared.modes.Modes.{Modes}
use Rattle.kr_alike.specs.declared.found.Found.{Found}
use Rattle.kr_alike.specs.declared.coming.Coming.{Coming}
use Rattle.kr_model.specs.declared.Row.{Row}
use Rattle.kr_model.specs.declared.Side.{Side}
use Rattle.kr_alike.specs.Closed.{none, IsClosedFor, HasClosedSetFor}
use Rattle.kr_alike.specs.Marks.{is_within, is_marked, comes}

-- A request comes.
abbrev pub Comes : Coming → Row → Side → ℕ → ℕ → ℕ → Type 0
Comes w r s x n y = IsTrue (comes w r s x n y)

-- Each closed set has what two transactions hold.
abbrev pub IsReached : Protocol → Protocol → Coming → Modes → Modes → Type 0
IsReached p q w x y = (has : Modes → Modes → Bool) → IsClosedFor p q (Comes w) (λ x y. IsTrue (has x y)) → IsTrue (has x y)

-- How many places aren't marked.
abbrev pub left : List Bool → ℕ
left marks = sum_by (λ b. cond b 0 1) marks

-- All that is marked is reached, and the marks are counted.
pub record IsFound (p q : Protocol) (w : Coming) (f : Found) : Type 0 where
  pub size : length f.marks.items ≡ 65536
  pub some : 0 < f.count
  pub total : f.count + left f.marks.items ≡ 65536
  pub start : IsTrue (is_marked f.marks.items none none)
  pub reached : (x y : Modes) → IsTrue (is_within p q x) → IsTrue (is_within p q y) → IsTrue (is_marked f.marks.items x y) → IsReached p q w x y

-- What a part of a pass comes to. Where it ends early, no set is closed; and where it goes on and nothing is new, the marks were such as they had to be.
pub record IsPassed (p q : Protocol) (w : Coming) (Met : List Bool → Type 0) (old new : Found) (goes_on : Bool) : Type 0 where
  pub found : IsFound p q w new
  pub more : old.count ≤ new.count
  pub ends : goes_on ≡ false → HasClosedSetFor p q (Comes w) → ⊥
  pub same : goes_on ≡ true → new.count ≡ old.count → (new.marks.items ≡ old.marks.items) × Met old.marks.items
