-- States that may stand, as contracts see them.
use Rattle.std.specs.Prelude.{◌≡◌, ℕ, List, [], ◌∷◌, ◌++◌, All, Bool, Option, Some, None, length, map}
use Rattle.kr_model.specs.Locks.{Locks}
use Rattle.kr_model.specs.Map.{Map}
use Rattle.kr_ghost.specs.Protocol.{GhostProtocol}
use Rattle.kr_ghost.specs.State.{GhostState}
use Rattle.kr_trace_lines.specs.declared.deviation.Deviation.{Deviation}
use Rattle.kr_trace_lines.specs.declared.deviation.DeviationKind.{DeviationKind}
use Rattle.kr_trace_follow.specs.Lines.{Line}
use Rattle.kr_trace_follow.specs.declared.scans.Progress.{Progress}
use Rattle.kr_ghost_follow.specs.Points.{Point}
use Rattle.kr_ghost_follow.specs.Reached.{IsReached}
use Rattle.kr_ghost_follow.specs.Following.{IsDeviation}

-- A state's protocol, and where the lines have led.
pub record Sits (P : Type 0) : Type 0 where
  pub protocol : P
  pub point : Point

-- A point of these parts.
abbrev pub point : GhostState → List Progress → Locks → ℕ → Point
point s scans waiting queued = record { state = s; scans = scans; waiting = waiting; queued = queued }

-- It has this protocol, and a run with purges leads to its point along the lines.
pub record IsStanding {P : Type 0} (ghosts : P → GhostProtocol) (q : P) (opening : Map) (lines : List Line) (x : Sits P) : Type 0 where
  pub same : x.protocol ≡ q
  pub reached : IsReached (ghosts q) opening lines x.point

-- The deviation of a line.
abbrev pub deviation_of : Line → DeviationKind → Deviation
deviation_of l k = record { line = l.number; kind = k }

-- A state has taken one more line: it stands, or the line differs in this way.
abbrev pub Took : {P : Type 0} → (P → GhostProtocol) → P → Map → List Line → Line → Sits P → Option DeviationKind → Type 0
Took ghosts q opening lines l x None = IsStanding ghosts q opening (lines ++ l ∷ []) x
Took ghosts q opening lines l x (Some k) = IsDeviation (ghosts q) opening (lines ++ l ∷ []) (let at = x.point in at.queued) (deviation_of l k)

-- Followed lines: the states stand, of which the first has so many queued lines; or a line deviates.
abbrev pub AreFollowed : {P : Type 0} → (P → GhostProtocol) → P → Map → List Line → Sits P → List (Sits P) → ℕ → Option Deviation → Type 0
AreFollowed ghosts q opening lines first others queued None =
    IsStanding ghosts q opening lines first × (All (IsStanding ghosts q opening lines) others × (queued ≡ (let at = first.point in at.queued)))
AreFollowed ghosts q opening lines first others queued (Some d) = IsDeviation (ghosts q) opening lines queued d

-- The points that stand: none where a line deviates.
abbrev pub points_of : {P : Type 0} → Option Deviation → Sits P → List (Sits P) → List Point
points_of None first others = first.point ∷ map (λ x. x.point) others
points_of (Some d) first others = []

-- A follower as contracts see it: the first of its states and the others; how many lines were queued on the way to the first; the deviation, where none stands; the line before which states were first left out, if any were; and whether it was given up, for want of memory.
pub record Follows (P : Type 0) : Type 0 where
  pub first : Sits P
  pub others : List (Sits P)
  pub queued : ℕ
  pub found : Option Deviation
  pub cut : Option ℕ
  pub lost : Bool

-- It has followed these lines from the opening map under this protocol.
abbrev pub HasFollowed : {P : Type 0} → (P → GhostProtocol) → P → Map → List Line → Follows P → Type 0
HasFollowed ghosts q opening lines f = AreFollowed ghosts q opening lines f.first f.others f.queued f.found

-- How many states stand.
abbrev pub states_of : {P : Type 0} → Follows P → ℕ
states_of f = length (points_of f.found f.first f.others)
