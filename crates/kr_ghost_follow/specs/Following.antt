-- The points that stand beside the lines of a trace, or the first line beside which none does.
use Rattle.std.specs.Prelude.{◌≡◌, ℕ, List, [], ◌∷◌, ◌++◌, All, Option, Some, None}
use Rattle.kr_model.specs.Map.{Map}
use Rattle.kr_ghost.specs.Protocol.{GhostProtocol}
use Rattle.kr_trace_lines.specs.declared.deviation.Deviation.{Deviation}
use Rattle.kr_trace_follow.specs.Lines.{Line}
use Rattle.kr_trace_follow.specs.Since.{Since}
use Rattle.kr_ghost_follow.specs.Points.{Point, kind_at, point_after}
use Rattle.kr_ghost_follow.specs.Reached.{IsReached}

-- The first point has so many queued lines, and there is one.
abbrev pub FirstQueued : List Point → ℕ → Type 0
FirstQueued [] n = ⊥
FirstQueued (x ∷ xs) n = n ≡ x.queued

-- The deviation is that of one of the lines at a point to which a run with purges leads along those before it.
pub record IsDeviation (p : GhostProtocol) (opening : Map) (lines : List Line) (queued : ℕ) (d : Deviation) : Type 0 where
  pub before : List Line
  pub line : Line
  pub rest : List Line
  pub place : lines ≡ before ++ line ∷ rest
  pub at : Point
  pub reached : IsReached p opening before at
  pub since : Since
  pub differs : kind_at p since at line ≡ Some d.kind
  pub numbered : d.line ≡ line.number
  pub counts : queued ≡ (let after = point_after p at line in after.queued)

-- Some points stand, and a run with purges leads to each of them along the lines; or a line deviates, and none stands.
abbrev pub Stand : GhostProtocol → Map → List Line → List Point → ℕ → Option Deviation → Type 0
Stand p opening lines points queued None = FirstQueued points queued × All (IsReached p opening lines) points
Stand p opening lines points queued (Some d) = (points ≡ []) × IsDeviation p opening lines queued d
