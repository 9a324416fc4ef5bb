-- What holds where an operation begins: its transaction is live, doesn't roll back, and has no scan in progress.
use Rattle.std.specs.Prelude.{◌≡◌, ℕ, true, false, ◌&&◌, List, [], ◌∷◌, ◌++◌, None}
use Rattle.std.proofs.Common.{subst, ◌≢◌}
use Rattle.kr_model.specs.declared.Name.{Name}
use Rattle.kr_model.specs.declared.Op.{Op}
use Rattle.kr_model.specs.declared.Reply.{Reply}
use Rattle.kr_model.specs.Locks.{Locks, own, blockers, kept}
use Rattle.kr_model.specs.Map.{Map}
use Rattle.kr_model.specs.State.{has_ended, standing}
use Rattle.kr_model.specs.Run.{Entry, is_operation, is_granted, answer_of}
use Rattle.kr_theorem.proofs.run.Reading.{entry, ReadsAs, reads_answer}
use Rattle.kr_theorem.proofs.step.Parts.{Scanned}
use Rattle.kr_ghost.specs.Protocol.{GhostProtocol, IsLawfulGhost}
use Rattle.kr_ghost.specs.State.{GhostState, named}
use Rattle.kr_ghost.specs.Step.{on}
use Rattle.kr_ghost.specs.Safe.{free, Ask, asked, keeps_out, MayAsk, IsSafeGhost}
use Rattle.kr_ghost.proofs.Grants.{Free, unblocked}
use Rattle.kr_ghost.proofs.Locking.{ask_mode}
use Rattle.kr_ghost.proofs.Sim.{status}
use Rattle.kr_ghost.proofs.Asked.{clash}
use Rattle.kr_ghost.proofs.Known.{Known, range}

-- The locks of the run after t's request a on the name n.
abbrev pub locks_after : GhostProtocol → GhostState → ℕ → Name → Ask → Locks
locks_after p s t n a = kept p.table s.state.locks t (on n (asked p a (own s.state.locks t n)))

module _ (p : GhostProtocol) (opening : Map) (h : List Entry) (s : GhostState) (g : Known p opening h s) where
  -- Where nobody blocks a request, no other's lock conflicts with it.
  pub free_one : IsLawfulGhost p → (t : ℕ) (n : Name) (a : Ask)
      → blockers p.table s.state.locks t (on n (asked p a (own s.state.locks t n))) ≡ []
      → Free p.table (own s.state.locks) t n (asked p a (own s.state.locks t n))
  free_one laws t n a free =
      let o = own s.state.locks t n in
      let k = g.locks in
      unblocked p.table laws.table s.state.locks t (on n (asked p a o)) k.within free n (asked p a o) (ask_mode p laws a o (range p opening h s g t n)) (λ r i. i)

-- Under a lawful and safe protocol, t is live, doesn't roll back, and has no scan in progress.
pub record Turn (p : GhostProtocol) (opening : Map) (h : List Entry) (s : GhostState) (g : Known p opening h s) (t : ℕ) : Type 0 where
  pub laws : IsLawfulGhost p
  pub safe : IsSafeGhost p
  pub live : has_ended s.state t ≡ false
  pub unrolled : (g.part t).rolling ≡ false
  pub quiet : (g.part t).scan ≡ None
  pub idle : (standing s.state t).scan ≡ None

module _ (p : GhostProtocol) (opening : Map) (h : List Entry) (s : GhostState) (g : Known p opening h s) (t : ℕ) (turn : Turn p opening h s g t) where
  -- Nobody else protects what the request isn't let in for.
  pub kept_out : (n : Name) (a : Ask) → MayAsk p (status s.state.map n) (g.hold t n) a
      → Free p.table (own s.state.locks) t n (asked p a (own s.state.locks t n))
      → (u : ℕ) → u ≢ t → keeps_out (status s.state.map n) (g.hold u n) a ≡ true → ⊥
  kept_out n a may free u ne keeps =
      clash p turn.safe s.state.map (named s.state.map s.ghosts) s.state.locks g.part g.hold g.sim t n a may free u ne keeps

  -- A granted operation is the next of the program, and no scan is in progress.
  pub reads_one : (o : Op) (a : Reply) → (is_operation o && is_granted a) ≡ true → ((f : List Entry) → answer_of t o a f ≡ a)
      → ReadsAs t (h ++ entry t o a ∷ []) ((g.part t).program ++ (o, a) ∷ []) None
  reads_one o a d same =
      let w = g.told in
      reads_answer t h o a (g.part t).program d same (subst (λ z. ReadsAs t h (g.part t).program z) turn.quiet (w.reads t turn.live turn.unrolled))

  -- So no scan has looked at a point.
  pub unscanned : (y : ℕ) → Scanned (g.part t).scan y → ⊥
  unscanned y sc = subst (λ z. Scanned z y) turn.quiet sc
