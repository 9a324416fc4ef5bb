-- The theorem of either kind, from those of the two.
use Rattle.std.proofs.Common.{[], ◌∷◌, refl, ap, sym, subst}
use Rattle.kr_model.specs.declared.Event.{Event}
use Rattle.kr_model.specs.Map.{Map}
use Rattle.kr_model.specs.Protocol.{Protocol}
use Rattle.kr_model.specs.Step as gone
use Rattle.kr_model.specs.Serial.{IsSerialRun}
use Rattle.kr_theorem.proofs.run.Runs as without
use Rattle.kr_theorem.proofs.safe.AllCases as gone_cases
use Rattle.kr_ghost.specs.declared.moves.Move.TheVariants.{Attempt, Purge}
use Rattle.kr_ghost.specs.Protocol.{GhostProtocol}
use Rattle.kr_ghost.specs.State.{opened}
use Rattle.kr_ghost.specs.Step as ghost
use Rattle.kr_ghost.specs.Run.{GhostTrace}
use Rattle.kr_ghost.proofs.Runs as with
use Rattle.kr_ghost.proofs.AllCases as ghost_cases
use Rattle.kr_kinds.specs.Kinds.{IndexProtocol, Gone, Leaves, IsLawfulIndex, IsCoveredIndex, IsSafeIndex}
use Rattle.kr_kinds.specs.Runs.{RunsAreSerial, steps_in, AreRunsOfSteps, AreRunsWithGhosts}

-- A step more in front of a run.
abbrev more : Event → ghost.Outcome → GhostTrace → GhostTrace
more e o rest = record { history = (e, o.0) ∷ rest.history; last = rest.last }

pub of_steps : (p : Protocol) → AreRunsOfSteps p
of_steps p s [] = refl
of_steps p s (Attempt e ∷ moves) =
    let o = gone.step p s.state e.txn e.op in
    let there : ghost.Outcome = (o.0, record { state = o.1; ghosts = s.ghosts }) in
    ap (λ rest. more e there rest) (of_steps p there.1 moves)
of_steps p s (Purge k ∷ moves) = of_steps p s moves

pub with_ghosts : (p : GhostProtocol) → AreRunsWithGhosts p
with_ghosts p s [] = refl
with_ghosts p s (Attempt e ∷ moves) = let o = ghost.step p s e.txn e.op in ap (λ rest. more e o rest) (with_ghosts p o.1 moves)
with_ghosts p s (Purge k ∷ moves) = with_ghosts p (ghost.purged p s k) moves

-- That a run is serializable is a fact of its history and of the state that it ends in.
abbrev IsSerial : Map → GhostTrace → Type 0
IsSerial opening r = let last = r.last in IsSerialRun opening (record { history = r.history; state = last.state })

pub safe_runs_are_serial : (p : IndexProtocol) → IsLawfulIndex p → IsSafeIndex p → RunsAreSerial p
safe_runs_are_serial (Gone p) laws safe opening moves is_map =
    subst (λ r. IsSerial opening r) (sym (of_steps p (opened opening) moves)) (without.safe_runs_are_serial p laws safe opening (steps_in moves) is_map)
safe_runs_are_serial (Leaves p) laws safe opening moves is_map =
    subst (λ r. IsSerial opening r) (sym (with_ghosts p (opened opening) moves)) (with.safe_runs_are_serial p laws safe opening moves is_map)

pub covered_is_safe : (p : IndexProtocol) → IsLawfulIndex p → IsCoveredIndex p → IsSafeIndex p
covered_is_safe (Gone p) laws covered = gone_cases.covered_is_safe p laws covered
covered_is_safe (Leaves p) laws covered = ghost_cases.covered_is_safe p laws covered
