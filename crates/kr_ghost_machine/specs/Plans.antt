-- What an operation requests.
use Rattle.std.specs.Prelude.{ℕ, suc, List, [], Option, Some, None}
use Rattle.kr_model.specs.declared.Op.{Op}
use Rattle.kr_model.specs.declared.Op.TheVariants as op
use Rattle.kr_model.specs.declared.Row.TheVariants as row
use Rattle.kr_model.specs.Locks.{Request, own}
use Rattle.kr_model.specs.State.{Scan, standing}
use Rattle.kr_ghost.specs.Protocol.{GhostProtocol}
use Rattle.kr_ghost.specs.State.{GhostState, name_from, stand}
use Rattle.kr_ghost.specs.Step.{insert_requests, keyed_requests, look_requests}

-- What the scan that has this left requests, if there is one.
abbrev pub scan_requests : GhostProtocol → GhostState → Option Scan → List Request
scan_requests p s None = []
scan_requests p s (Some c) = look_requests p (name_from s c.lo) c.hi

-- The requests of the operation o of t, where no refusal applies; one that ends its transaction or undoes a change requests nothing.
abbrev pub requests_of : GhostProtocol → GhostState → ℕ → Op → List Request
requests_of p s t (op.Fetch k) = keyed_requests p row.FetchHit k (name_from s k) (stand s k)
requests_of p s t (op.Scan lo hi) = scan_requests p s (Some (record { lo = lo; hi = hi; rows = [] }))
requests_of p s t op.Go = scan_requests p s (standing s.state t).scan
requests_of p s t (op.Insert k v) = insert_requests p k (name_from s k) (own s.state.locks t (name_from s k)) (name_from s (suc k)) (stand s k)
requests_of p s t (op.Delete k) = keyed_requests p row.Delete k (name_from s k) (stand s k)
requests_of p s t (op.Update k v) = keyed_requests p row.Update k (name_from s k) (stand s k)
requests_of p s t op.Commit = []
requests_of p s t op.Abort = []
requests_of p s t op.Back = []
