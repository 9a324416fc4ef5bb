-- A granted operation that changes nothing keeps what is known of the run.
use Rattle.std.specs.Prelude.{◌≡◌, ℕ, false, List, [], ◌∷◌, ◌++◌, None, refl, ◌⊎◌}
use Rattle.std.specs.Ordering.{nat_cmp}
use Rattle.std.specs.FinMap.{put}
use Rattle.std.proofs.Common.{sym, subst}
use Rattle.kr_model.specs.declared.Op.{Op}
use Rattle.kr_model.specs.declared.Reply.{Reply}
use Rattle.kr_model.specs.Protocol.{Protocol, IsLawful}
use Rattle.kr_model.specs.Locks.{Request, kept}
use Rattle.kr_model.specs.Map.{Map}
use Rattle.kr_model.specs.State.{State, Active, has_ended}
use Rattle.kr_model.specs.Run.{Entry, is_committed}
use Rattle.kr_model.specs.Serial.{map_left}
use Rattle.kr_theorem.proofs.gaps.Undo.{InsertedIn}
use Rattle.kr_theorem.proofs.step.Guarded.{Taken}
use Rattle.kr_theorem.proofs.step.Parts.{Part, Points, Touched, Scanned, finished, with_part}
use Rattle.kr_theorem.proofs.step.Replay.{answer, after_op}
use Rattle.kr_theorem.proofs.step.Invariant.{Invariant}
use Rattle.kr_theorem.proofs.step.ReadRows.{MayTouch}
use Rattle.kr_theorem.proofs.step.ReadKeeps.{read_keeps}
use Rattle.kr_theorem.proofs.run.Reading.{entry, ReadsAs}
use Rattle.kr_theorem.proofs.run.Programs.{StandsScan, joined, state_after}
use Rattle.kr_model.specs.Safe.{IsSafe}
use Rattle.kr_theorem.proofs.safe.Shape.{shape}
use Rattle.kr_theorem.proofs.safe.Holding.{Holds, modes}
use Rattle.kr_theorem.proofs.safe.Sim.{Sim}
use Rattle.kr_theorem.proofs.run.Known.{Known, KnownAfter, goes}

module _ (p : Protocol) (laws : IsLawful p) (safe : IsSafe p) (opening : Map) (h : List Entry) (s : State) (g : Known p opening h s) (t : ℕ) (live_t : has_ended s t ≡ false) (unrolled : (g.part t).rolling ≡ false) where
  abbrev c : Map
  c = map_left opening (joined g.done)

  -- An operation that changes nothing is done; it may be the whole of a scan.
  pub read_done : (o d : Op) (a : Reply) (rs : List Request) (x : Active) (New : ℕ → Type 0) (hold' : Holds)
      → Taken shape (modes g.hold) (modes hold') t
      → ((q : Part) → q.moved ≡ (g.part t).moved → q.rolling ≡ (g.part t).rolling → ((k : ℕ) → InsertedIn q.changes k → InsertedIn (g.part t).changes k) → Sim p s.map (kept p s.locks t rs) (with_part g.part t q) hold')
      → after_op s.map d ≡ s.map
      → a ≡ answer s.map d
      → ((q : ℕ) → Scanned (g.part t).scan q → Points d q)
      → ((q : ℕ) → Points d q → (Touched (g.part t) q) ⊎ New q)
      → MayTouch shape s.map (modes hold') g.part t New
      → ReadsAs t (h ++ entry t o a ∷ []) ((g.part t).program ++ (d, a) ∷ []) None
      → x.scan ≡ None → x.changes ≡ (g.part t).changes → x.rolling ≡ (g.part t).rolling → is_committed a ≡ false
      → KnownAfter p opening h t o (a, state_after s s.map (kept p s.locks t rs) (put nat_cmp t x s.active))
  read_done o d a rs x New hold' k sim still a_is inside new may reads no_scan_now same_changes same_rolling no_commit =
      let was = g.part t in
      let q : Part = finished was d a was.changes was.moved in
      let i = read_keeps shape s.map (modes g.hold) g.part c g.inv t (modes hold') k New may d still inside new in
      goes p opening h s s.map (kept p s.locks t rs) x t o a g q hold' live_t no_commit
      (subst (λ z. Invariant shape s.map (modes hold') (with_part g.part t (finished was d z was.changes was.moved)) c) (sym a_is) i)
      (sim q refl refl (λ k h. h))
      (λ live. reads)
      (record { scan = subst (λ z. StandsScan None z) (sym no_scan_now) tt; changes = same_changes; rolling = same_rolling })
