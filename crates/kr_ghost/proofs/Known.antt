-- What is known of a run so far, and how each kind of event keeps it.
use Rattle.std.specs.Prelude.{◌≡◌, ℕ, false, List, [], ◌∷◌, ◌++◌, ◌≤◌}
use Rattle.std.specs.Ordering.{nat_cmp}
use Rattle.std.specs.FinMap.{put}
use Rattle.kr_model.specs.declared.Name.{Name}
use Rattle.kr_model.specs.declared.Op.{Op}
use Rattle.kr_model.specs.declared.Reply.{Reply}
use Rattle.kr_model.specs.Map.{Map, IsMap}
use Rattle.kr_model.specs.Locks.{Locks, own}
use Rattle.kr_model.specs.State.{Active, has_ended, standing}
use Rattle.kr_model.specs.Step.{ended_with}
use Rattle.kr_model.specs.Run.{Entry, is_committed, is_granted, committed}
use Rattle.kr_model.specs.Serial.{AreAnswered, map_left}
use Rattle.kr_model.proofs.Requests.{AreLocks, released_locks}
use Rattle.kr_theorem.proofs.step.Parts.{Part, Parts, blank, with_part}
use Rattle.kr_theorem.proofs.run.Reading.{entry, ReadsAs}
use Rattle.kr_theorem.proofs.run.Programs.{Programs, Fixed, txns, joined, state_after}
use Rattle.kr_ghost.specs.Protocol.{GhostProtocol}
use Rattle.kr_ghost.specs.State.{GhostState, named}
use Rattle.kr_ghost.specs.Step.{Outcome}
use Rattle.std.proofs.Common.{◌∙◌}
use Rattle.kr_ghost.proofs.Names.{IsMap-named}
use Rattle.kr_ghost.proofs.Holding.{Holds}
use Rattle.kr_ghost.proofs.Guarded.{Guarded}
use Rattle.kr_ghost.proofs.Invariant.{Invariant}
use Rattle.kr_ghost.proofs.Sim.{Sim}
use Rattle.kr_ghost.proofs.Told as told

-- After this history, in this state: the part and the lock states of each transaction, and the programs committed so far.
-- The programs are serializable, and the invariant holds with the map that they leave as the committed one.
pub record Known (p : GhostProtocol) (opening : Map) (h : List Entry) (s : GhostState) : Type 0 where
  pub part : Parts
  pub done : Programs
  pub answered : AreAnswered opening (joined done)
  pub hold : Holds
  pub inv : Invariant s.state.map (named s.state.map s.ghosts) hold part (map_left opening (joined done))
  pub sim : Sim p s.state.map (named s.state.map s.ghosts) s.state.locks part hold
  pub locks : AreLocks p.table s.state.locks
  pub told : told.Told h s.state part done

module _ (p : GhostProtocol) (opening : Map) (h : List Entry) (s : GhostState) (g : Known p opening h s) where
  -- The names are a map, and the lock states guard what is read and changed on them.
  pub names_map : IsMap (named s.state.map s.ghosts)
  names_map = let i = g.inv in IsMap-named s.state.map s.ghosts i.is_map

  pub guards : Guarded (named s.state.map s.ghosts) g.hold g.part
  guards = let i = g.inv in i.guarded

  -- Each lock is a mode or none.
  pub range : (t : ℕ) (n : Name) → own s.state.locks t n ≤ p.table.count
  range t n = let k = g.locks in k.within t n

  -- A transaction that doesn't roll back does so on no name.
  pub not_rolling : (t : ℕ) → (g.part t).rolling ≡ false → (n : Name) → (g.hold t n).rolling ≡ false
  not_rolling t unrolled n = let z = g.sim in z.rolls t n ∙ unrolled

  -- The state and the part of a live transaction have the same changes, and both roll back or neither.
  pub same_changes : (t : ℕ) → has_ended s.state t ≡ false → (standing s.state t).changes ≡ (g.part t).changes
  same_changes t live = let w = g.told in let z = w.stands t live in z.changes

  pub same_rolling : (t : ℕ) → has_ended s.state t ≡ false → (standing s.state t).rolling ≡ (g.part t).rolling
  same_rolling t live = let w = g.told in let z = w.stands t live in z.rolling

-- What is known after one more event of t, with this reply and state.
abbrev pub KnownAfter : GhostProtocol → Map → List Entry → ℕ → Op → Outcome → Type 0
KnownAfter p opening h t o out = Known p opening (h ++ entry t o out.0 ∷ []) out.1

module _ (p : GhostProtocol) (opening : Map) (h : List Entry) (s : GhostState) (g : Known p opening h s) (t : ℕ) (o : Op) (a : Reply) where
  -- An event that changes nothing.
  pub stays : is_granted a ≡ false → is_committed a ≡ false → KnownAfter p opening h t o (a, s)
  stays no_grant no_commit = record {
    part = g.part;
    done = g.done;
    answered = g.answered;
    hold = g.hold;
    inv = g.inv;
    sim = g.sim;
    locks = g.locks;
    told = told.stays h s.state g.part g.done g.told t o a no_grant no_commit;
  }

  -- A granted operation of t.
  pub goes : (m : Map) (ghosts : List ℕ) (l : Locks) (x : Active) (q : Part) (hold : Holds) → has_ended s.state t ≡ false → is_committed a ≡ false
      → Invariant m (named m ghosts) hold (with_part g.part t q) (map_left opening (joined g.done))
      → Sim p m (named m ghosts) l (with_part g.part t q) hold
      → AreLocks p.table l
      → (q.rolling ≡ false → ReadsAs t (h ++ entry t o a ∷ []) q.program q.scan)
      → told.Stands q x
      → KnownAfter p opening h t o (a, record { state = state_after s.state m l (put nat_cmp t x s.state.active); ghosts = ghosts })
  goes m ghosts l x q hold live no_commit inv sim locks reads stands = record {
    part = with_part g.part t q;
    done = g.done;
    answered = g.answered;
    hold = hold;
    inv = inv;
    sim = sim;
    locks = locks;
    told = told.goes h s.state g.part g.done g.told t o a live m l x q no_commit reads stands;
  }

  -- The end of t.
  pub ends : (m : Map) (ghosts : List ℕ) (done : Programs) (hold : Holds) → has_ended s.state t ≡ false
      → AreAnswered opening (joined done)
      → Invariant m (named m ghosts) hold (with_part g.part t blank) (map_left opening (joined done))
      → Sim p m (named m ghosts) (ended_with s.state t m).locks (with_part g.part t blank) hold
      → Fixed done (h ++ entry t o a ∷ []) (ended_with s.state t m)
      → txns done ≡ committed (h ++ entry t o a ∷ [])
      → KnownAfter p opening h t o (a, record { state = ended_with s.state t m; ghosts = ghosts })
  ends m ghosts done hold live answered inv sim fixed order = record {
    part = with_part g.part t blank;
    done = done;
    answered = answered;
    hold = hold;
    inv = inv;
    sim = sim;
    locks = released_locks p.table s.state.locks t g.locks;
    told = told.ends h s.state g.part g.done g.told t o a live m done fixed order;
  }
