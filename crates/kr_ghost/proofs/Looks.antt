-- A step of a scan keeps what is known of the run.
use Rattle.std.specs.Prelude.{◌≡◌, ℕ, suc, ◌≤◌, ◌<◌, Bool, true, false, ◌==◌, nat_le, if◌then◌else◌, List, [], ◌∷◌, ◌++◌, Option, Some, None, refl, ◌⊎◌}
use Rattle.std.specs.Ordering.{nat_cmp}
use Rattle.std.specs.FinMap.{put}
use Rattle.std.proofs.Common.{sym, ◌∙◌, ap, subst, arith, inl, inr, ⊎_elim, ◌≢◌, true≢false}
use Rattle.std.proofs.lemmas.Bool.{cases_lt}
use Rattle.std.proofs.lemmas.Bool.Decides.{nat_tests}
use Rattle.kr_model.specs.declared.Name.{Name}
use Rattle.kr_model.specs.declared.Name.TheVariants.{Key, End}
use Rattle.kr_model.specs.declared.Row.TheVariants as row
use Rattle.kr_model.specs.declared.Op.{Op}
use Rattle.kr_model.specs.declared.Op.TheVariants as op
use Rattle.kr_model.specs.declared.Reply.TheVariants as reply
use Rattle.kr_model.specs.Locks.{Locks, own, blockers}
use Rattle.kr_model.specs.Map.{Map, IsMap, get, at, pairs_between}
use Rattle.kr_model.specs.State.{Active, Scan, has_ended, standing}
use Rattle.kr_model.specs.Step.{effect, scan_ended}
use Rattle.kr_model.specs.Run.{Entry}
use Rattle.kr_model.specs.Serial.{map_left}
use Rattle.kr_theorem.proofs.gaps.Gaps.{has, Reach, at-key, at-unique, reach-at}
use Rattle.kr_theorem.proofs.gaps.Maps.{none_has, between_nothing, between_none}
use Rattle.kr_theorem.proofs.run.Actives.{or_right}
use Rattle.kr_theorem.proofs.run.Programs.{joined, state_after}
use Rattle.kr_theorem.proofs.run.Reading.{entry, ReadsAs}
use Rattle.kr_theorem.proofs.step.Invariant.{HasRead}
use Rattle.kr_theorem.proofs.step.Parts.{Progress, Part, Touched, Scanned, Changed, finished, with_part}
use Rattle.kr_theorem.proofs.step.ReadKeeps.{reading, scanning}
use Rattle.kr_theorem.proofs.step.Scans.{LooksFrom, one_more, no_more, from_in_range, scanned_below, below_scanned, gap_reach}
use Rattle.kr_ghost.specs.Protocol.{GhostProtocol, IsLawfulGhost}
use Rattle.kr_ghost.specs.State.{GhostState, named, among}
use Rattle.kr_ghost.specs.Step.{on, current, next, look_requests, granted_or_blocked, after_effect, rows_with, name_read, looked, attempted_scan}
use Rattle.kr_ghost.specs.declared.cases.Cover.TheVariants.{ReadKey, ReadGap}
use Rattle.kr_ghost.specs.Safe.{Hold, Ask, ScanName, ScanStop, asked, MayAsk, present_after, key_after, after, IsSafeGhost}
use Rattle.kr_ghost.proofs.Names.{has-named, key_is, same_of}
use Rattle.kr_ghost.proofs.Grants.{Free}
use Rattle.kr_ghost.proofs.Holding.{Holds, Protects, with_hold, hold_here, read_reads, changed_keeps_out, olds_at, Fits, fits_read}
use Rattle.kr_ghost.proofs.Guarded.{read_cover, Guarded, covered_name, covered_gap, read_step}
use Rattle.kr_ghost.proofs.Invariant.{Invariant, read_keeps, reading_touches, going_keeps, going_touches}
use Rattle.kr_ghost.proofs.Locking.{ask_mode, one_locks, not_key, not_at}
use Rattle.kr_ghost.proofs.Sim.{status, Sim}
use Rattle.kr_ghost.proofs.Asked.{clash, asked_taken, asked_sim}
use Rattle.kr_ghost.proofs.Known.{Known, KnownAfter, stays, goes, names_map, guards, range, not_rolling, same_changes, same_rolling}
use Rattle.kr_ghost.proofs.Turn.{locks_after, free_one}

-- Tests on numbers and names.
le_of : (q k : ℕ) → nat_le q k ≡ true → q ≤ k
le_of q k h = grind (arith, nat_tests)

above_of : (q k : ℕ) → nat_le q k ≡ false → k < q
above_of q k h = grind (arith, nat_tests)

below_of : (q k : ℕ) → q ≤ k → (q == k) ≡ false → q < k
below_of q k le h = grind (arith, nat_tests)

end_not_key : (x : ℕ) → End ≡ Key x → ⊥
end_not_key x e = cc

module _ (p : GhostProtocol) (laws : IsLawfulGhost p) (safe : IsSafeGhost p) (opening : Map) (h : List Entry) (s : GhostState) (g : Known p opening h s) (t : ℕ)
    (live : has_ended s.state t ≡ false) (unrolled : (g.part t).rolling ≡ false)
    (o : Op) (c : Scan) (low : ℕ) (f : LooksFrom (g.part t).scan low c.hi c.lo c.rows)
    (rows_read : (rows : List (ℕ × ℕ)) → ReadsAs t (h ++ entry t o (reply.Rows rows) ∷ []) ((g.part t).program ++ (op.Scan low c.hi, reply.Rows rows) ∷ []) None)
    (going_read : (k last : ℕ) (pairs : List (ℕ × ℕ)) → ReadsAs t (h ++ entry t o (reply.Going k) ∷ []) (g.part t).program (Some (record { low = low; high = c.hi; last = last; pairs = pairs }))) where
  abbrev committed_map : Map
  committed_map = map_left opening (joined g.done)

  abbrev m : Map
  m = s.state.map

  abbrev e : Map
  e = named s.state.map s.ghosts

  abbrev l : Locks
  l = s.state.locks

  he : IsMap e
  he = names_map p opening h s g

  abbrev ended_scan : Active
  ended_scan = record (standing s.state t) { scan = None }

  no_value : (y : ℕ) → has e y ≡ false → get m y ≡ None
  no_value y none = none_has m y (or_right (among s.ghosts y) (has m y) (sym (has-named m s.ghosts y) ∙ none))

  in_scope : (low ≤ c.lo) × (c.lo ≤ c.hi)
  in_scope = let i = g.inv in from_in_range low c.hi c.lo c.rows m (g.part t).scan f (i.scan t)

  -- The lock states after it.
  abbrev held : Name → Ask → Holds
  held n a = with_hold g.hold t n (after p (status m n) (g.hold t n) a)

  -- A step that reads the points from where the scan looks up to `upto`, under a lock on a name.
  module _ (n : Name) (a : Ask) (may : MayAsk p (status m n) (g.hold t n) a) (stays_so : present_after (status m n) a ≡ status m n)
      (fits : Fits (olds_at (g.part t).changes n) (key_after (status m n) (g.hold t n).key a))
      (free : Free p.table (own l) t n (asked p a (own l t n))) (upto : ℕ)
      (name : (y : ℕ) → has e y ≡ false → Key y ≢ n)
      (covers : (y : ℕ) → c.lo ≤ y → y ≤ upto → Protects (read_cover (has e y)) (held n a t (at e y)))
      (unchanged : (u y : ℕ) → u ≢ t → c.lo ≤ y → y ≤ upto → Changed (g.part u) y → ⊥) where
    guarded : (q : Part) → q.rolling ≡ (g.part t).rolling → q.changes ≡ (g.part t).changes
        → ((y : ℕ) → Touched q y → (Touched (g.part t) y) ⊎ ((c.lo ≤ y) × (y ≤ upto))) → ((y : ℕ) → Changed q y → Changed (g.part t) y) → Guarded e (held n a) (with_part g.part t q)
    guarded q rolling same touched changed =
        read_step e e he he g.hold (held n a) g.part t q (guards p opening h s g)
        (asked_taken p laws m m e e l (range p opening h s g) g.part g.hold g.sim t q n a may (ask_mode p laws a (own l t n) (range p opening h s g t n)) free
        (sym stays_so) (λ x ne. refl) (λ y none. none) name rolling (fits_q q same) (λ x ne. ap (λ cs. olds_at cs x) same))
        (λ y. (c.lo ≤ y) × (y ≤ upto)) (λ y. refl)
        touched changed (λ y here. covers y here.0 here.1) (λ u y ne here. unchanged u y ne here.0 here.1)
      where
        fits_q : (q : Part) → q.changes ≡ (g.part t).changes → Fits (olds_at q.changes n) (key_after (status m n) (g.hold t n).key a)
        fits_q q same = subst (λ cs. Fits (olds_at cs n) (key_after (status m n) (g.hold t n).key a)) (sym same) fits

    sim_after : (q : Part) → q.rolling ≡ (g.part t).rolling → q.changes ≡ (g.part t).changes → Sim p m e (locks_after p s t n a) (with_part g.part t q) (held n a)
    sim_after q rolling same =
        asked_sim p laws m m e e l (range p opening h s g) g.part g.hold g.sim t q n a may (ask_mode p laws a (own l t n) (range p opening h s g t n)) free (sym stays_so)
        (λ x ne. refl) (λ y none. none) name rolling
        (subst (λ cs. Fits (olds_at cs n) (key_after (status m n) (g.hold t n).key a)) (sym same) fits) (λ x ne. ap (λ cs. olds_at cs x) same)

    -- The scan ends with these rows.
    done : (rows : List (ℕ × ℕ)) → c.hi ≤ upto → upto ≤ c.hi → rows ≡ pairs_between m low c.hi
        → KnownAfter p opening h t o (reply.Rows rows, record { state = state_after s.state m (locks_after p s t n a) (put nat_cmp t ended_scan s.state.active); ghosts = s.ghosts })
    done rows over upper are =
        let i = g.inv in
        let d : Op = op.Scan low c.hi in
        let hold' : Holds = held n a in
        let q : Part = reading m (g.part t) d in
        let old : (y : ℕ) → Scanned (g.part t).scan y → (low ≤ y) × (y ≤ c.hi) = λ y sc. let z = scanned_below low c.hi c.lo c.rows (g.part t).scan f y sc in (z.0, omega (arith, z.1, in_scope.1)) in
        let touched : (y : ℕ) → Touched q y → (Touched (g.part t) y) ⊎ ((c.lo ≤ y) × (y ≤ upto)) = λ y touch. ⊎_elim (λ before. inl before)
        (λ here. ⊎_elim (λ lt. inl (inr (inl (below_scanned low c.hi c.lo c.rows (g.part t).scan f y here.0 lt)))) (λ ge. inr (ge, omega (arith, here.1, over))) (cases_lt y c.lo))
        (reading_touches m e g.hold g.part committed_map i t e hold' unrolled d y touch) in
        goes p opening h s g t o (reply.Rows rows) m s.ghosts (locks_after p s t n a) ended_scan (finished (g.part t) d (reply.Rows rows) (g.part t).changes (g.part t).moved) hold' live refl
        (subst (λ z. Invariant m e hold' (with_part g.part t (finished (g.part t) d (reply.Rows z) (g.part t).changes (g.part t).moved)) committed_map) (sym are)
        (read_keeps m e g.hold g.part committed_map i t e hold' unrolled d refl old (guarded q refl refl touched (λ y changed. changed))))
        (sim_after (finished (g.part t) d (reply.Rows rows) (g.part t).changes (g.part t).moved) refl refl)
        (one_locks p laws l g.locks t n (asked p a (own l t n)) (ask_mode p laws a (own l t n) (range p opening h s g t n)))
        (λ x. rows_read rows)
        (record { scan = tt; changes = same_changes p opening h s g t live; rolling = same_rolling p opening h s g t live })

    -- It goes on above a name, with these rows.
    goes_on : (rows : List (ℕ × ℕ)) → c.lo ≤ upto → upto < c.hi → rows ≡ pairs_between m low upto
        → KnownAfter p opening h t o (
          reply.Going upto,
          record {
            state = state_after s.state m (locks_after p s t n a)
                (put nat_cmp t (record (standing s.state t) { scan = Some (record { lo = suc upto; hi = c.hi; rows = rows }) }) s.state.active);
            ghosts = s.ghosts;
          },
        )
    goes_on rows from lt are =
        let i = g.inv in
        let pr : Progress = record { low = low; high = c.hi; last = upto; pairs = rows } in
        let hold' : Holds = held n a in
        let q : Part = scanning (g.part t) pr in
        let touched : (y : ℕ) → Touched q y → (Touched (g.part t) y) ⊎ ((c.lo ≤ y) × (y ≤ upto)) = λ y touch. ⊎_elim (λ before. inl before)
        (λ here. ⊎_elim (λ less. inl (inr (inl (below_scanned low c.hi c.lo c.rows (g.part t).scan f y here.0 less)))) (λ ge. inr (ge, here.1)) (cases_lt y c.lo))
        (going_touches m e g.hold g.part committed_map i t e hold' unrolled pr y touch) in
        goes p opening h s g t o (reply.Going upto) m s.ghosts (locks_after p s t n a)
        (record (standing s.state t) { scan = Some (record { lo = suc upto; hi = c.hi; rows = rows }) }) q hold' live refl
        (going_keeps m e g.hold g.part committed_map i t e hold' unrolled pr
        (λ y sc. let z = scanned_below low c.hi c.lo c.rows (g.part t).scan f y sc in (z.0, omega (arith, z.1, from)))
        (omega (arith, in_scope.0, from), lt, are)
        (guarded q refl refl touched (λ y changed. changed)))
        (sim_after q refl refl)
        (one_locks p laws l g.locks t n (asked p a (own l t n)) (ask_mode p laws a (own l t n) (range p opening h s g t n)))
        (λ x. going_read upto upto rows)
        (record { scan = (omega arith, refl, refl); changes = same_changes p opening h s g t live; rolling = same_rolling p opening h s g t live })

  -- No name up to the upper end is left.
  stop : ((x : ℕ) → at e c.lo ≡ Key x → c.hi < x) → blockers p.table l t (on (at e c.lo) (next p row.ScanStop)) ≡ []
      → KnownAfter p opening h t o (reply.Rows c.rows, record { state = state_after s.state m (locks_after p s t (at e c.lo) ScanStop) (put nat_cmp t ended_scan s.state.active); ghosts = s.ghosts })
  stop far free =
      let i = g.inv in
      let w = guards p opening h s g in
      let z = g.sim in
      let n = at e c.lo in
      let state : Hold = after p (status m n) (g.hold t n) ScanStop in
      let reach : (y : ℕ) → c.lo ≤ y → y ≤ c.hi → (Reach e c.lo y) × (has e y ≡ false) = λ y a b. gap_reach e he c.lo c.hi y far a b in
      done n ScanStop (not_rolling p opening h s g t unrolled n) refl (z.fits t n) (free_one p opening h s g laws t n ScanStop free) c.hi (λ y none. not_at e he c.lo y none)
      (λ y a b.
      let r = reach y a b in
      covered_gap e (held n ScanStop) t y n r.1 (sym (reach-at e c.lo y he r.0)) (subst (λ x. Protects ReadGap x) (sym (hold_here g.hold t n state)) refl))
      (λ u y ne a b changed. let r = reach y a b in true≢false (sym (w.named u y changed) ∙ r.1))
      c.rows (omega arith) (omega arith)
      (no_more low c.hi c.lo c.rows m i.is_map (g.part t).scan f (i.scan t) (λ y a b. let r = reach y a b in no_value y r.1))

  -- A name within the range is looked at.
  module _ (x : ℕ) (found : at e c.lo ≡ Key x) (upper : x ≤ c.hi) (free : blockers p.table l t (on (Key x) (current p row.ScanKey)) ≡ []) where
    key : (c.lo ≤ x) × (has e x ≡ true) × ((y : ℕ) → c.lo ≤ y → y < x → has e y ≡ false)
    key = at-key e c.lo x he found

    abbrev state_x : Hold
    state_x = after p (has m x) (g.hold t (Key x)) ScanName

    grant_x : Free p.table (own l) t (Key x) (asked p ScanName (own l t (Key x)))
    grant_x = free_one p opening h s g laws t (Key x) ScanName free

    fits_x : Fits (olds_at (g.part t).changes (Key x)) (key_after (has m x) (g.hold t (Key x)).key ScanName)
    fits_x = let z = g.sim in fits_read (olds_at (g.part t).changes (Key x)) (g.hold t (Key x)).key (z.fits t (Key x))

    covers : (y : ℕ) → c.lo ≤ y → y ≤ x → Protects (read_cover (has e y)) (held (Key x) ScanName t (at e y))
    covers y a b = ⊎_elim
        (λ lt. covered_gap e (held (Key x) ScanName) t y (Key x) (key.2 y a lt) (at-unique e y x he (b, λ z low high. key.2 z (omega (arith, a, low)) high) key.1)
        (subst (λ z. Protects ReadGap z) (sym (hold_here g.hold t (Key x) state_x)) refl))
        (λ ge.
        let is : y ≡ x = omega (arith, b, ge) in
        subst (λ z. Protects (read_cover (has e z)) (held (Key x) ScanName t (at e z))) (sym is)
        (covered_name e (held (Key x) ScanName) he t x key.1 (subst (λ z. Protects ReadKey z) (sym (hold_here g.hold t (Key x) state_x)) (read_reads (g.hold t (Key x)).key))))
        (cases_lt y x)

    unchanged : (u y : ℕ) → u ≢ t → c.lo ≤ y → y ≤ x → Changed (g.part u) y → ⊥
    unchanged u y ne a b changed =
        let w = guards p opening h s g in
        ⊎_elim
        (λ lt. true≢false (sym (w.named u y changed) ∙ key.2 y a lt))
        (λ ge.
        let is : y ≡ x = omega (arith, b, ge) in
        clash p safe m e l g.part g.hold g.sim t (Key x) ScanName (not_rolling p opening h s g t unrolled (Key x)) grant_x u ne
        (changed_keeps_out (has m x) (g.hold u (Key x)) ScanName refl (w.change u x (subst (λ z. Changed (g.part u) z) is changed))))
        (cases_lt y x)

    none_below : (y : ℕ) → c.lo ≤ y → y < x → get m y ≡ None
    none_below y a b = no_value y (key.2 y a b)

    none_upto : (y : ℕ) → c.lo ≤ y → y ≤ x → get m x ≡ None → get m y ≡ None
    none_upto y a b none = ⊎_elim (λ lt. none_below y a lt) (λ ge. let is : y ≡ x = omega (arith, b, ge) in ap (get m) is ∙ none) (cases_lt y x)

    -- A ghost adds no row.
    ghost_rows : (sc : Option Progress) → LooksFrom sc low c.hi c.lo c.rows → HasRead m sc → get m x ≡ None → c.rows ≡ pairs_between m low x
    ghost_rows None from read none = let i = g.inv in from.2 ∙ between_nothing m low x i.is_map (λ y a b. none_upto y (omega (arith, from.0, a)) b none)
    ghost_rows (Some r) from read none =
        let i = g.inv in
        from.3 ∙ read.2 ∙ ap (λ z. pairs_between m z r.last) from.0
        ∙ sym (between_none m low r.last x i.is_map (omega (arith, from.2, key.0)) (λ y a b d. none_upto y (omega (arith, from.2, b)) d none))

    rows_are : (w : Option ℕ) → get m x ≡ w → rows_with c.rows x w ≡ pairs_between m low x
    rows_are (Some v) there = let i = g.inv in one_more low c.hi c.lo c.rows m i.is_map (g.part t).scan f (i.scan t) x v key.0 there none_below
    rows_are None none = let i = g.inv in ghost_rows (g.part t).scan f (i.scan t) none

    abbrev rows : List (ℕ × ℕ)
    rows = rows_with c.rows x (get m x)

    name_decided : (b : Bool) → (x == c.hi) ≡ b
        → KnownAfter p opening h t o (after_effect p s t (on (Key x) (current p row.ScanKey)) (if b then scan_ended m (standing s.state t) rows
        else effect (reply.Going x) m (record (standing s.state t) { scan = Some (record { lo = suc x; hi = c.hi; rows = rows }) })) s.ghosts)
    name_decided true is =
        let last : x ≡ c.hi = same_of x c.hi is in
        done (Key x) ScanName (not_rolling p opening h s g t unrolled (Key x)) refl fits_x grant_x x (λ y none. not_key e x y key.1 none) covers unchanged rows
        (omega (arith, last)) upper (rows_are (get m x) refl ∙ ap (λ z. pairs_between m low z) last)
    name_decided false is =
        goes_on (Key x) ScanName (not_rolling p opening h s g t unrolled (Key x)) refl fits_x grant_x x (λ y none. not_key e x y key.1 none) covers unchanged rows key.0
        (below_of x c.hi upper is) (rows_are (get m x) refl)

  -- By the name that is looked at and by who conflicts --

  key_decided : (k : ℕ) (b : Bool) → nat_le k c.hi ≡ b → at e c.lo ≡ Key k → blockers p.table l t (if b then on (Key k) (current p row.ScanKey) else on (Key k) (next p row.ScanStop)) ≡ []
      → KnownAfter p opening h t o (after_effect p s t (if b then on (Key k) (current p row.ScanKey) else on (Key k) (next p row.ScanStop))
      (if b then name_read m (standing s.state t) c.hi k (rows_with c.rows k (get m k)) else scan_ended m (standing s.state t) c.rows) s.ghosts)
  key_decided k true is found free = name_decided k found (le_of k c.hi is) free (k == c.hi) refl
  key_decided k false is found free =
      subst (λ n. blockers p.table l t (on n (next p row.ScanStop)) ≡ [] → KnownAfter p opening h t o
      (reply.Rows c.rows, record { state = state_after s.state m (locks_after p s t n ScanStop) (put nat_cmp t ended_scan s.state.active); ghosts = s.ghosts })) found
      (stop (λ x at_x. let same = key_is k x (sym found ∙ at_x) in let far = above_of k c.hi is in omega (arith, same, far))) free

  look_decided : (n : Name) (bs : List ℕ) → at e c.lo ≡ n → blockers p.table l t (look_requests p n c.hi) ≡ bs
      → KnownAfter p opening h t o (granted_or_blocked p s t (look_requests p n c.hi) (looked m (standing s.state t) c n) s.ghosts bs)
  look_decided n (u ∷ us) found b = stays p opening h s g t o (reply.Blocked (u ∷ us)) refl refl
  look_decided End [] found free =
      subst (λ n. blockers p.table l t (on n (next p row.ScanStop)) ≡ [] → KnownAfter p opening h t o
      (reply.Rows c.rows, record { state = state_after s.state m (locks_after p s t n ScanStop) (put nat_cmp t ended_scan s.state.active); ghosts = s.ghosts })) found
      (stop (λ x is. absurd (end_not_key x (sym found ∙ is)))) free
  look_decided (Key k) [] found free = key_decided k (nat_le k c.hi) refl found free

  -- A step of a scan, granted or blocked.
  pub looks : KnownAfter p opening h t o (attempted_scan p s t (Some c))
  looks = look_decided (at e c.lo) (blockers p.table l t (look_requests p (at e c.lo) c.hi)) refl refl
