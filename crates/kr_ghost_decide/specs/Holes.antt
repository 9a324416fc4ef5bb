-- Where a lock doesn't block what it has to keep out.
use Rattle.std.specs.Prelude.{◌≡◌, ℕ, ◌<◌, Bool, true, false, ◌&&◌, not, List, slice_index_or, Option, Some, None}
use Rattle.kr_ghost.specs.Protocol.{GhostProtocol}
use Rattle.kr_ghost.specs.Safe.{Ask, MayAsk, keeps_out, is_blocked, Beside, IsSafeGhost}
use Rattle.kr_ghost_decide.specs.declared.ask.Ask.TheVariants as ask
use Rattle.kr_ghost_decide.specs.declared.decision.Hole.{Hole}
use Rattle.kr_ghost_decide.specs.Holds.{hold, asking, Fact}
use Rattle.kr_ghost_decide.specs.Ways.{asks, may_ask}
use Rattle.kr_ghost_decide.specs.Found.{found_at}

-- Two transactions can have these lock states on one name, and the first comes to request what the second has to keep out, and its lock doesn't block.
pub record IsHole (p : GhostProtocol) (h : Hole) : Type 0 where
  pub beside : Beside p h.present (hold h.own) (hold h.other)
  pub may : MayAsk p h.present (hold h.own) (asking h.ask)
  pub due : keeps_out h.present (hold h.other) (asking h.ask) ≡ true
  pub gets_through : is_blocked p (hold h.own) (hold h.other) (asking h.ask) ≡ false

-- A hole, or nothing where the protocol is safe.
abbrev pub Tells : GhostProtocol → Option Hole → Type 0
Tells p None = IsSafeGhost p
Tells p (Some h) = IsHole p h

-- Whether the request is let through.
abbrev pub is_hole : GhostProtocol → Fact → Ask → Bool
is_hole p f a = may_ask p f.present f.own a && (keeps_out f.present f.other a && not (is_blocked p f.own f.other a))

-- None of the first n requests is.
abbrev pub HasNoHole : GhostProtocol → ℕ → Fact → Type 0
HasNoHole p n f = (k : ℕ) → k < n → is_hole p f (asking (slice_index_or asks k ask.FetchHit)) ≡ false

abbrev pub HaveNoHole : GhostProtocol → Option Fact → Type 0
HaveNoHole p None = Unit {0}
HaveNoHole p (Some f) = HasNoHole p 13 f

-- And none at the first n pairs that are marked.
abbrev pub NoHoles : GhostProtocol → ℕ → List Bool → Type 0
NoHoles p n marks = (k : ℕ) → k < n → HaveNoHole p (found_at marks k)
