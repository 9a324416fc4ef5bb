-- A granted read of one key keeps what is known of the run: of a key that is a name, or of one in a gap.
use Rattle.std.specs.Prelude.{◌≡◌, ℕ, Bool, true, false, ◌&&◌, List, [], None, refl}
use Rattle.std.specs.Ordering.{nat_cmp}
use Rattle.std.specs.FinMap.{put}
use Rattle.std.proofs.Common.{sym, ◌∙◌, ap, subst, inl, inr, ⊎_elim, ◌≢◌, true≢false}
use Rattle.kr_model.specs.declared.Name.{Name}
use Rattle.kr_model.specs.declared.Name.TheVariants.{Key}
use Rattle.kr_model.specs.declared.Op.{Op}
use Rattle.kr_model.specs.declared.Reply.{Reply}
use Rattle.kr_model.specs.Locks.{Locks, own, blockers}
use Rattle.kr_model.specs.Map.{Map, IsMap, at}
use Rattle.kr_model.specs.State.{standing}
use Rattle.kr_model.specs.Run.{Entry, is_operation, is_granted, is_committed, answer_of}
use Rattle.kr_model.specs.Serial.{map_left}
use Rattle.kr_theorem.proofs.gaps.Gaps.{has}
use Rattle.kr_theorem.proofs.run.Programs.{joined, state_after}
use Rattle.kr_theorem.proofs.step.Parts.{Part, Points, Changed, finished, with_part}
use Rattle.kr_theorem.proofs.step.Replay.{answer, after_op}
use Rattle.kr_theorem.proofs.step.ReadKeeps.{reading}
use Rattle.kr_ghost.specs.Protocol.{GhostProtocol}
use Rattle.kr_ghost.specs.State.{GhostState, named}
use Rattle.kr_ghost.specs.Step.{on}
use Rattle.kr_ghost.specs.declared.cases.Cover.TheVariants.{ReadKey, ReadGap}
use Rattle.kr_ghost.specs.Safe.{KeyUse, Hold, is_read, Ask, asked, MayAsk, present_after, and_read, key_after, gap_after, after}
use Rattle.kr_ghost.proofs.Grants.{Free}
use Rattle.kr_ghost.proofs.Holding.{Holds, Protects, with_hold, hold_here, read_reads, is_of_key, changed_keeps_out, olds, olds_at, Fits, fits_read}
use Rattle.kr_ghost.proofs.Guarded.{read_cover, Guarded, Taken, covered_name, covered_gap, read_step}
use Rattle.kr_ghost.proofs.Invariant.{Invariant, read_keeps, reading_touches}
use Rattle.kr_ghost.proofs.Locking.{ask_mode, one_locks, not_key, not_at}
use Rattle.kr_ghost.proofs.Sim.{status, Sim}
use Rattle.kr_ghost.proofs.Asked.{asked_taken, asked_sim}
use Rattle.kr_ghost.proofs.Told.{StandsScan}
use Rattle.kr_ghost.proofs.Known.{Known, KnownAfter, goes, names_map, guards, range, not_rolling, same_changes, same_rolling}
use Rattle.kr_ghost.proofs.Turn.{locks_after, free_one, Turn, kept_out, reads_one, unscanned}

module _ (p : GhostProtocol) (opening : Map) (h : List Entry) (s : GhostState) (g : Known p opening h s) (t : ℕ) (turn : Turn p opening h s g t) where
  abbrev c : Map
  c = map_left opening (joined g.done)

  abbrev m : Map
  m = s.state.map

  abbrev e : Map
  e = named s.state.map s.ghosts

  abbrev l : Locks
  l = s.state.locks

  abbrev z : Sim p m e l g.part g.hold
  z = g.sim

  he : IsMap e
  he = names_map p opening h s g

  -- A point is read under a lock on a name, which protects it from then on.
  read : (o : Op) (a : Reply) (n : Name) (r : Ask) (k : ℕ) → MayAsk p (status m n) (g.hold t n) r → present_after (status m n) r ≡ status m n
      → Fits (olds_at (g.part t).changes n) (key_after (status m n) (g.hold t n).key r)
      → (free : Free p.table (own l) t n (asked p r (own l t n)))
      → after_op m o ≡ m → a ≡ answer m o → ((y : ℕ) → Points o y → y ≡ k)
      → (is_operation o && is_granted a) ≡ true → ((f : List Entry) → answer_of t o a f ≡ a) → is_committed a ≡ false
      → ((y : ℕ) → has e y ≡ false → Key y ≢ n)
      → Protects (read_cover (has e k)) (with_hold g.hold t n (after p (status m n) (g.hold t n) r) t (at e k))
      → ((u : ℕ) → u ≢ t → Changed (g.part u) k → ⊥)
      → KnownAfter p opening h t o (a, record { state = state_after s.state m (locks_after p s t n r) (put nat_cmp t (standing s.state t) s.state.active); ghosts = s.ghosts })
  read o a n r k may stays_so fits free still a_is points granted same no_commit name covers unchanged =
      let i = g.inv in
      let q : Part = reading m (g.part t) o in
      let modes = ask_mode p turn.laws r (own l t n) (range p opening h s g t n) in
      let hold' : Holds = with_hold g.hold t n (after p (status m n) (g.hold t n) r) in
      let taken : Taken g.hold hold' t =
      asked_taken p turn.laws m m e e l (range p opening h s g) g.part g.hold z t q n r may modes free (sym stays_so) (λ x ne. refl) (λ y none. none) name refl fits (λ x ne. refl) in
      let guarded : Guarded e hold' (with_part g.part t q) = read_step e e he he g.hold hold' g.part t q (guards p opening h s g) taken (λ y. y ≡ k) (λ y. refl)
      (λ y touch. ⊎_elim (λ old. inl old) (λ here. inr (points y here)) (reading_touches m e g.hold g.part c i t e hold' turn.unrolled o y touch))
      (λ y changed. changed)
      (λ y is. subst (λ z. Protects (read_cover (has e z)) (hold' t (at e z))) (sym is) covers)
      (λ u y ne is changed. unchanged u ne (subst (λ z. Changed (g.part u) z) is changed)) in
      goes p opening h s g t o a m s.ghosts (locks_after p s t n r) (standing s.state t) (finished (g.part t) o a (g.part t).changes (g.part t).moved) hold' turn.live no_commit
      (subst (λ z. Invariant m e hold' (with_part g.part t (finished (g.part t) o z (g.part t).changes (g.part t).moved)) c) (sym a_is)
      (read_keeps m e g.hold g.part c i t e hold' turn.unrolled o still (λ y sc. absurd (unscanned p opening h s g t turn y sc)) guarded))
      (asked_sim p turn.laws m m e e l (range p opening h s g) g.part g.hold z t (finished (g.part t) o a (g.part t).changes (g.part t).moved) n r may modes free
      (sym stays_so) (λ x ne. refl) (λ y none. none) name refl fits (λ x ne. refl))
      (one_locks p turn.laws l g.locks t n (asked p r (own l t n)) modes)
      (λ x. reads_one p opening h s g t turn o a granted same)
      (record { scan = subst (λ z. StandsScan None z) (sym turn.idle) tt; changes = same_changes p opening h s g t turn.live; rolling = same_rolling p opening h s g t turn.live })

  -- A key that is a name is read.
  pub hit_granted : (o : Op) (a : Reply) (k : ℕ) (r : Ask) → has e k ≡ true → MayAsk p (has m k) (g.hold t (Key k)) r → present_after (has m k) r ≡ has m k
      → key_after (has m k) (g.hold t (Key k)).key r ≡ and_read (g.hold t (Key k)).key
      → is_of_key r ≡ true
      → after_op m o ≡ m → a ≡ answer m o → ((y : ℕ) → Points o y → y ≡ k)
      → (is_operation o && is_granted a) ≡ true → ((f : List Entry) → answer_of t o a f ≡ a) → is_committed a ≡ false
      → Free p.table (own l) t (Key k) (asked p r (own l t (Key k)))
      → KnownAfter p opening h t o (a, record { state = state_after s.state m (locks_after p s t (Key k) r) (put nat_cmp t (standing s.state t) s.state.active); ghosts = s.ghosts })
  hit_granted o a k r there may stays_so reads of_key still a_is points granted same no_commit grant =
      let w = guards p opening h s g in
      let state : Hold = after p (has m k) (g.hold t (Key k)) r in
      let self : Protects ReadKey state = ap is_read reads ∙ read_reads (g.hold t (Key k)).key in
      read o a (Key k) r k may stays_so (subst (λ x. Fits (olds (g.part t).changes k) x) (sym reads) (fits_read (olds (g.part t).changes k) (g.hold t (Key k)).key (z.fits t (Key k)))) grant
      still a_is points granted same no_commit (λ y none. not_key e k y there none)
      (covered_name e (with_hold g.hold t (Key k) state) he t k there (subst (λ x. Protects ReadKey x) (sym (hold_here g.hold t (Key k) state)) self))
      (λ u ne changed. kept_out p opening h s g t turn (Key k) r may grant u ne (changed_keeps_out (has m k) (g.hold u (Key k)) r of_key (w.change u k changed)))

  -- Granted where nobody blocks it.
  pub hit : (o : Op) (a : Reply) (k : ℕ) (r : Ask) → has e k ≡ true → MayAsk p (has m k) (g.hold t (Key k)) r → present_after (has m k) r ≡ has m k
      → key_after (has m k) (g.hold t (Key k)).key r ≡ and_read (g.hold t (Key k)).key
      → is_of_key r ≡ true
      → after_op m o ≡ m → a ≡ answer m o → ((y : ℕ) → Points o y → y ≡ k)
      → (is_operation o && is_granted a) ≡ true → ((f : List Entry) → answer_of t o a f ≡ a) → is_committed a ≡ false
      → blockers p.table l t (on (Key k) (asked p r (own l t (Key k)))) ≡ []
      → KnownAfter p opening h t o (a, record { state = state_after s.state m (locks_after p s t (Key k) r) (put nat_cmp t (standing s.state t) s.state.active); ghosts = s.ghosts })
  hit o a k r there may stays_so reads of_key still a_is points granted same no_commit free =
      hit_granted o a k r there may stays_so reads of_key still a_is points granted same no_commit (free_one p opening h s g turn.laws t (Key k) r free)

  -- A key that is no name is looked for.
  pub miss : (o : Op) (a : Reply) (k : ℕ) (r : Ask) → has e k ≡ false → ((b : Bool) (x : Hold) → x.rolling ≡ false → MayAsk p b x r)
      → ((b : Bool) → present_after b r ≡ b) → ((b : Bool) (u : KeyUse) → key_after b u r ≡ u) → ((b : Bool) → gap_after b r ≡ true)
      → after_op m o ≡ m → a ≡ answer m o → ((y : ℕ) → Points o y → y ≡ k)
      → (is_operation o && is_granted a) ≡ true → ((f : List Entry) → answer_of t o a f ≡ a) → is_committed a ≡ false
      → blockers p.table l t (on (at e k) (asked p r (own l t (at e k)))) ≡ []
      → KnownAfter p opening h t o (a, record { state = state_after s.state m (locks_after p s t (at e k) r) (put nat_cmp t (standing s.state t) s.state.active); ghosts = s.ghosts })
  miss o a k r absent may stays_so untouched reads still a_is points granted same no_commit free =
      let w = guards p opening h s g in
      let n = at e k in
      let x : Hold = g.hold t n in
      let state : Hold = after p (status m n) x r in
      read o a n r k (may (status m n) x (not_rolling p opening h s g t turn.unrolled n)) (stays_so (status m n))
      (subst (λ u. Fits (olds_at (g.part t).changes n) u) (sym (untouched (status m n) x.key)) (z.fits t n))
      (free_one p opening h s g turn.laws t n r free) still a_is points granted same no_commit (λ y none. not_at e he k y none)
      (covered_gap e (with_hold g.hold t n state) t k n absent refl (subst (λ x. Protects ReadGap x) (sym (hold_here g.hold t n state)) (reads x.gap)))
      (λ u ne changed. true≢false (sym (w.named u k changed) ∙ absent))
