-- A run under a protocol of either kind, by its kind.
use Rattle.std.proofs.Common.{◌≡◌, ◌≤◌, true, false, List, All, map, sym, ap, ap₂, ◌∙◌, subst, Result, Ok, Err, IfOk}
use Rattle.kr_model.specs.Map.{Map}
use Rattle.kr_model.specs.Protocol.{Protocol, IsLawful}
use Rattle.kr_model.specs.Run.{programs}
use Rattle.kr_model.specs.Log.{no_log, log_after}
use Rattle.kr_model.proofs.LogLaws.{log_of_run}
use Rattle.kr_ghost.specs.declared.moves.Move.{Move}
use Rattle.kr_ghost.specs.Protocol.{GhostProtocol, IsLawfulGhost}
use Rattle.kr_ghost.specs.Run.{GhostTrace}
use Rattle.kr_ghost.specs.State.{GhostState, opened}
use Rattle.kr_ghost_run.specs.declared.ran.GhostRan.{GhostRan}
use Rattle.kr_ghost_run.proofs.Logs as ghost_logs
use Rattle.kr_kinds.specs.Kinds.{IndexProtocol, Gone, Leaves, HasTables, IsLawfulIndex, leaves_ghosts, table_of}
use Rattle.kr_kinds.specs.Runs.{run, steps_in}
use Rattle.kr_kinds.proofs.Serial as serial
use Rattle.kr_stepping.specs.Answers.{answers}
use Rattle.kr_stepping.specs.Ran.{IsIndexRan}

-- A protocol that isn't of the one kind is of the other.
pub is_gone : (x : IndexProtocol) (p : Protocol) (g : GhostProtocol) → HasTables x p g → leaves_ghosts x ≡ false → Gone p ≡ x
is_gone (Gone q) p g same h = ap Gone (sym same)
is_gone (Leaves q) p g same h = absurd (cc)

pub is_leaving : (x : IndexProtocol) (p : Protocol) (g : GhostProtocol) → HasTables x p g → leaves_ghosts x ≡ true → Leaves g ≡ x
is_leaving (Gone q) p g same h = absurd (cc)
is_leaving (Leaves q) p g same h = ap Leaves (sym same)

-- The laws of its kind are those that its tables keep.
pub is_lawful : (x : IndexProtocol) (p : Protocol) (g : GhostProtocol) → HasTables x p g → IsLawful p → IsLawfulGhost g → IsLawfulIndex x
is_lawful (Gone q) p g same laws more = subst (λ z. IsLawful z) (sym same) laws
is_lawful (Leaves q) p g same laws more = subst (λ z. IsLawfulGhost z) (sym same) more

-- Its table is that which the protocol has.
pub same_table : (x : IndexProtocol) (p : Protocol) (g : GhostProtocol) → HasTables x p g → g.table ≡ p → table_of x ≡ p
same_table (Gone q) p g has same = has
same_table (Leaves q) p g has same = ap (λ (h : GhostProtocol). h.table) has ∙ same

-- The committed programs of a log that went along with a run are those of the run.
abbrev LogTells : GhostTrace → Type 0
LogTells r = let log = log_after no_log r.history in log.committed ≡ programs r.history

pub programs_of_run : (p : IndexProtocol) (opening : Map) (moves : List Move) → LogTells (run p (opened opening) moves)
programs_of_run (Gone p) opening moves =
    let k = log_of_run p opening (steps_in moves) in
    subst LogTells (sym (serial.of_steps p (opened opening) moves)) k.committed
programs_of_run (Leaves p) opening moves = subst LogTells (sym (serial.with_ghosts p (opened opening) moves)) (ghost_logs.programs_of_run p opening moves)

-- What a run leaves, put together, where its machine has this protocol and this opening map.
pub index_ran : {E : Type 0} (p q : IndexProtocol) (opening : Map) (s : GhostState) (moves : List Move) (r : Result GhostRan E) → q ≡ p → s ≡ opened opening
    → IfOk r (λ ran. ran.answers ≡ answers q s moves)
    → IfOk r (λ ran. ran.programs ≡ (let t = run q s moves in let log = log_after no_log t.history in log.committed))
    → IfOk r (λ ran. ran.index ≡ (let t = run q s moves in let z = t.last in z.state.map))
    → IfOk r (λ ran. ran.ghosts ≡ (let t = run q s moves in let z = t.last in z.ghosts))
    → IfOk r (λ ran. ran.locks ≡ (let t = run q s moves in let z = t.last in z.state.locks))
    → IfOk r (λ ran. All (λ l. l.1 ≤ (table_of q).count) ran.locks)
    → IfOk r (λ ran. ran.unfinished ≡ (let t = run q s moves in let z = t.last in map (λ a. a.0) z.state.active))
    → IfOk r (λ ran. IsIndexRan p opening moves ran)
index_ran p q opening s moves (Ok ran) same starts told committed index ghosts locks modes unfinished = record {
  answers = told ∙ ap₂ (λ (x : IndexProtocol) (y : GhostState). answers x y moves) same starts;
  programs = committed ∙ ap₂ (λ (x : IndexProtocol) (y : GhostState). let t = run x y moves in let log = log_after no_log t.history in log.committed) same starts ∙ programs_of_run p opening moves;
  index = index ∙ ap₂ (λ (x : IndexProtocol) (y : GhostState). let t = run x y moves in let z = t.last in z.state.map) same starts;
  ghosts = ghosts ∙ ap₂ (λ (x : IndexProtocol) (y : GhostState). let t = run x y moves in let z = t.last in z.ghosts) same starts;
  locks = locks ∙ ap₂ (λ (x : IndexProtocol) (y : GhostState). let t = run x y moves in let z = t.last in z.state.locks) same starts;
  modes = subst (λ (x : IndexProtocol). All (λ l. l.1 ≤ (table_of x).count) ran.locks) same modes;
  unfinished = unfinished ∙ ap₂ (λ (x : IndexProtocol) (y : GhostState). let t = run x y moves in let z = t.last in map (λ a. a.0) z.state.active) same starts;
}
index_ran p q opening s moves (Err e) same starts told committed index ghosts locks modes unfinished = tt
