-- What a run leaves.
use Rattle.std.proofs.Common.{◌≡◌, ◌≤◌, ℕ, List, [], All, map, subst, ap₂, ◌∙◌, Result, Ok, Err, IfOk}
use Rattle.kr_model.specs.Map.{Map, IsMap}
use Rattle.kr_model.specs.State.{start}
use Rattle.kr_model.specs.Run.{programs}
use Rattle.kr_model.specs.Log.{no_log, log_after}
use Rattle.kr_model.specs.Serial.{AreSerial, IsSerialRun}
use Rattle.kr_ghost.specs.declared.moves.Move.{Move}
use Rattle.kr_ghost.specs.Protocol.{GhostProtocol, IsLawfulGhost}
use Rattle.kr_ghost.specs.State.{GhostState, opened}
use Rattle.kr_ghost.specs.Run.{run}
use Rattle.kr_ghost.specs.Safe.{IsSafeGhost}
use Rattle.kr_ghost.proofs.Runs.{safe_runs_are_serial}
use Rattle.kr_ghost_run.specs.declared.ran.GhostRan.{GhostRan}
use Rattle.kr_ghost_run.specs.Ran.{IsGhostRan, answers}
use Rattle.kr_ghost_run.proofs.Logs.{programs_of_run}

-- A machine over an index of these pairs, with no ghosts, is at the start of a run from this opening map.
pub starts_at : (opening m : Map) (ghosts : List ℕ) (s : GhostState) → s ≡ record { state = start m; ghosts = ghosts } → m ≡ opening → ghosts ≡ [] → s ≡ opened opening
starts_at opening m ghosts s is pairs none = is ∙ ap₂ (λ (x : Map) (y : List ℕ). let z : GhostState = record { state = start x; ghosts = y } in z) pairs none

-- What a run leaves, put together, where its machine has this protocol and this opening map.
pub ghost_ran : {E : Type 0} (p q : GhostProtocol) (opening : Map) (s : GhostState) (moves : List Move) (r : Result GhostRan E) → q ≡ p → s ≡ opened opening
    → IfOk r (λ ran. ran.answers ≡ answers q s moves)
    → IfOk r (λ ran. ran.programs ≡ (let t = run q s moves in let log = log_after no_log t.history in log.committed))
    → IfOk r (λ ran. ran.index ≡ (let t = run q s moves in let z = t.last in z.state.map))
    → IfOk r (λ ran. ran.ghosts ≡ (let t = run q s moves in let z = t.last in z.ghosts))
    → IfOk r (λ ran. ran.locks ≡ (let t = run q s moves in let z = t.last in z.state.locks))
    → IfOk r (λ ran. All (λ l. l.1 ≤ q.table.count) ran.locks)
    → IfOk r (λ ran. ran.unfinished ≡ (let t = run q s moves in let z = t.last in map (λ a. a.0) z.state.active))
    → IfOk r (λ ran. IsGhostRan p opening moves ran)
ghost_ran p q opening s moves (Ok ran) same starts told committed index ghosts locks modes unfinished = record {
  answers = told ∙ ap₂ (λ (x : GhostProtocol) (y : GhostState). answers x y moves) same starts;
  programs = committed ∙ ap₂ (λ (x : GhostProtocol) (y : GhostState). let t = run x y moves in let log = log_after no_log t.history in log.committed) same starts ∙ programs_of_run p opening moves;
  index = index ∙ ap₂ (λ (x : GhostProtocol) (y : GhostState). let t = run x y moves in let z = t.last in z.state.map) same starts;
  ghosts = ghosts ∙ ap₂ (λ (x : GhostProtocol) (y : GhostState). let t = run x y moves in let z = t.last in z.ghosts) same starts;
  locks = locks ∙ ap₂ (λ (x : GhostProtocol) (y : GhostState). let t = run x y moves in let z = t.last in z.state.locks) same starts;
  modes = subst (λ (x : GhostProtocol). All (λ l. l.1 ≤ x.table.count) ran.locks) same modes;
  unfinished = unfinished ∙ ap₂ (λ (x : GhostProtocol) (y : GhostState). let t = run x y moves in let z = t.last in map (λ a. a.0) z.state.active) same starts;
}
ghost_ran p q opening s moves (Err e) same starts told committed index ghosts locks modes unfinished = tt

-- What commits in a run under a safe protocol is serializable.
pub safe_programs : (p : GhostProtocol) → IsLawfulGhost p → IsSafeGhost p → (opening : Map) (moves : List Move) → IsMap opening
    → AreSerial opening (let r = run p (opened opening) moves in programs r.history)
safe_programs p laws safe opening moves sorted =
    let r = run p (opened opening) moves in
    let last = r.last in
    let serial : IsSerialRun opening (record { history = r.history; state = last.state }) = safe_runs_are_serial p laws safe opening moves sorted in
    serial.0
