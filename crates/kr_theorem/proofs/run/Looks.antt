-- A step of a scan keeps what is known of the run.
use Rattle.std.specs.Prelude.{◌≡◌, ℕ, suc, ◌≤◌, ◌<◌, Bool, true, false, ◌==◌, nat_le, if◌then◌else◌, List, [], ◌∷◌, ◌++◌, Option, Some, None, refl, is_some, unwrap_or}
use Rattle.std.specs.Ordering.{nat_cmp}
use Rattle.std.specs.FinMap.{put}
use Rattle.std.proofs.lemmas.Bool.Decides.{nat_tests}
use Rattle.std.proofs.lemmas.Bool.{cases_lt}
use Rattle.std.proofs.Common.{sym, ◌∙◌, ap, subst, arith, inl, inr, ⊎_elim}
use Rattle.kr_model.specs.declared.Name.{Name}
use Rattle.kr_model.specs.declared.Name.TheVariants.{Key, End}
use Rattle.kr_model.specs.declared.Row.TheVariants as row
use Rattle.kr_model.specs.declared.Side.TheVariants.{Current, Next}
use Rattle.kr_model.specs.declared.Op.{Op}
use Rattle.kr_model.specs.declared.Op.TheVariants as op
use Rattle.kr_model.specs.declared.Reply.TheVariants as reply
use Rattle.kr_model.specs.Protocol.{Protocol, IsLawful}
use Rattle.kr_model.specs.Locks.{Request, own, blockers, kept}
use Rattle.kr_model.specs.Map.{Map, get, at, pairs_between}
use Rattle.kr_model.specs.State.{State, Active, Scan, has_ended, standing}
use Rattle.kr_model.specs.Plan.{Access, access, look_access}
use Rattle.kr_model.specs.Step.{granted_or_blocked, after_effect, looked, row_read, scan_ended, effect, name_after, name_to_look, attempted_scan}
use Rattle.kr_model.specs.Run.{Entry}
use Rattle.kr_model.specs.Serial.{map_left}
use Rattle.kr_model.proofs.Guarantees.{in_left}
use Rattle.kr_theorem.proofs.gaps.Gaps.{at-key, has}
use Rattle.kr_theorem.proofs.gaps.Undo.{InsertedIn}
use Rattle.kr_theorem.proofs.step.Covers.{Granted}
use Rattle.kr_theorem.proofs.step.Guarded.{Taken}
use Rattle.kr_theorem.proofs.gaps.Maps.{has-get, none_has}
use Rattle.kr_theorem.proofs.step.Parts.{Progress, Part, with_part}
use Rattle.kr_theorem.proofs.step.ReadRows.{MayTouch, key_touches, stop_touches}
use Rattle.kr_theorem.proofs.step.ReadKeeps.{scanning, going_keeps}
use Rattle.kr_model.proofs.Requests.{request_at}
use Rattle.kr_theorem.proofs.run.Grants.{requests_of, granted_at}
use Rattle.kr_theorem.proofs.step.Scans.{LooksFrom, one_more, no_more, from_in_range, scanned_below, below_scanned, gap_reach}
use Rattle.kr_theorem.proofs.run.Reading.{entry, ReadsAs}
use Rattle.kr_theorem.proofs.run.Programs.{joined, state_after}
use Rattle.kr_model.specs.Safe.{IsSafe}
use Rattle.kr_theorem.proofs.safe.Shape.{shape, shape_covered, same_asks}
use Rattle.kr_theorem.proofs.safe.Holding.{Holds, modes}
use Rattle.kr_theorem.proofs.safe.Placed.{at_stands, stands_kept}
use Rattle.kr_theorem.proofs.safe.Kept.{kept_append}
use Rattle.kr_theorem.proofs.safe.Sim.{Sim, row_holds, row_granted, row_taken, row_after, row_sim}
use Rattle.kr_theorem.proofs.run.Known.{Known, KnownAfter, stays, goes}
use Rattle.kr_theorem.proofs.run.ReadDone.{read_done}

-- The name after the row read last.
name_after_last : (m : Map) (lo : ℕ) (rows : List (ℕ × ℕ)) (x v : ℕ) → name_after m lo (rows ++ (x, v) ∷ []) ≡ at m (suc x)
name_after_last m lo [] x v = refl
name_after_last m lo (e ∷ []) x v = refl
name_after_last m lo (e ∷ f ∷ es) x v = name_after_last m lo (f ∷ es) x v

-- Tests on numbers and names.
some_value : (o : Option ℕ) → is_some o ≡ true → o ≡ Some (unwrap_or o 0)
some_value (Some v) h = refl
some_value None h = absurd (cc)

le_of : (q k : ℕ) → nat_le q k ≡ true → q ≤ k
le_of q k h = grind (arith, nat_tests)

above_of : (q k : ℕ) → nat_le q k ≡ false → k < q
above_of q k h = grind (arith, nat_tests)

same_of : (q k : ℕ) → (q == k) ≡ true → q ≡ k
same_of q k h = grind (arith, nat_tests)

below_of : (q k : ℕ) → q ≤ k → (q == k) ≡ false → q < k
below_of q k le h = grind (arith, nat_tests)

key_is : (x y : ℕ) → Key x ≡ Key y → x ≡ y
key_is x y e = cc

end_not_key : (x : ℕ) → End ≡ Key x → ⊥
end_not_key x e = cc

module _ (p : Protocol) (laws : IsLawful p) (safe : IsSafe p) (opening : Map) (h : List Entry) (s : State) (g : Known p opening h s) (t : ℕ) (live_t : has_ended s t ≡ false) (unrolled : (g.part t).rolling ≡ false)
    (o : Op) (c : Scan) (from : ℕ) (f : LooksFrom (g.part t).scan c.lo c.hi from c.rows)
    (rows_read : (rows : List (ℕ × ℕ)) → ReadsAs t (h ++ entry t o (reply.Rows rows) ∷ []) ((g.part t).program ++ (op.Scan c.lo c.hi, reply.Rows rows) ∷ []) None)
    (going_read : (k last : ℕ) (pairs : List (ℕ × ℕ)) → ReadsAs t (h ++ entry t o (reply.Going k) ∷ []) (g.part t).program (Some (record { low = c.lo; high = c.hi; last = last; pairs = pairs }))) where
  range : (u : ℕ) (name : Name) → own s.locks u name ≤ p.count
  range u name = let k = g.sim in let a = k.locks in a.within u name

  abbrev committed_map : Map
  committed_map = map_left opening (joined g.done)

  same_changes : (standing s t).changes ≡ (g.part t).changes
  same_changes = let z = g.stands t live_t in z.changes

  same_rolling : (standing s t).rolling ≡ (g.part t).rolling
  same_rolling = let z = g.stands t live_t in z.rolling

  abbrev ended_scan : Active
  ended_scan = record (standing s t) { scan = None }

  -- No key up to the upper one is left.
  stop : ((x : ℕ) → at s.map from ≡ Key x → c.hi < x)
      → let rs = request_at (Some (at s.map from)) (p.ask row.ScanStop Next 0) in blockers p s.locks t rs ≡ []
      → KnownAfter p opening h t o (reply.Rows c.rows, state_after s s.map (kept p s.locks t rs) (put nat_cmp t ended_scan s.active))
  stop far free =
      let n = at s.map from in
      let q = p.ask row.ScanStop Next 0 in
      let rs = request_at (Some n) q in
      let i = g.inv in
      let z = g.sim in
      let is = at_stands s.map from i.is_map in
      let ask = stands_kept p s.map g.part g.hold z.placed t n unrolled is in
      let grant = granted_at p laws s.locks t rs free range row.ScanStop Next n 0 (omega arith) (λ r j. j) in
      let low = from_in_range c.lo c.hi from c.rows s.map (g.part t).scan f (i.scan t) in
      let hold' : Holds = row_holds p laws safe s.map s.locks g.part g.hold committed_map i z t unrolled row.ScanStop Next n ask (omega arith) grant in
      let may = stop_touches shape same_asks shape_covered s.map (modes g.hold) g.part committed_map i t (modes hold') from c.hi far
      (row_granted p laws safe s.map s.locks g.part g.hold committed_map i z t unrolled row.ScanStop Next n ask (omega arith) grant tt 0)
      (row_after p laws safe s.map s.locks g.part g.hold committed_map i z t unrolled row.ScanStop Next n ask (omega arith) grant) in
      read_done p laws safe opening h s g t live_t unrolled o (op.Scan c.lo c.hi) (reply.Rows c.rows) rs ended_scan (λ y. (from ≤ y) × (y ≤ c.hi)) hold'
      (row_taken p laws safe s.map s.locks g.part g.hold committed_map i z t unrolled row.ScanStop Next n ask (omega arith) grant)
      (λ x m r older. row_sim p laws safe s.map s.locks g.part g.hold committed_map i z t unrolled row.ScanStop Next n ask (omega arith) grant (λ u ne. tt) is refl refl x m r older)
      refl
      (ap (λ z. reply.Rows z) (no_more c.lo c.hi from c.rows s.map i.is_map (g.part t).scan f (i.scan t) (λ y a b. let z = gap_reach s.map i.is_map from c.hi y far a b in none_has s.map y z.1)))
      (λ y sc. let z = scanned_below c.lo c.hi from c.rows (g.part t).scan f y sc in (z.0, omega (arith, z.1, low.1)))
      (λ y here. ⊎_elim (λ lt. inl (inr (inl (below_scanned c.lo c.hi from c.rows (g.part t).scan f y here.0 lt)))) (λ ge. inr (ge, here.1)) (cases_lt y from))
      may
      (rows_read c.rows) refl same_changes same_rolling refl

  -- A key is read.
  module _ (x v : ℕ) (found : at s.map from ≡ Key x) (there : get s.map x ≡ Some v) (free : blockers p s.locks t (request_at (Some (Key x)) (p.ask row.ScanKey Current 0) ++ []) ≡ []) where
    abbrev key_requests : List Request
    key_requests = request_at (Some (Key x)) (p.ask row.ScanKey Current 0) ++ []

    key_there : has s.map x ≡ true
    key_there = let i = g.inv in let k = at-key s.map from x i.is_map found in k.1

    key_ask : (g.hold t (Key x)).deleted ≡ false
    key_ask = let z = g.sim in stands_kept p s.map g.part g.hold z.placed t (Key x) unrolled key_there

    key_grant : Granted p (own s.locks) t row.ScanKey Current (Key x) 0
    key_grant = granted_at p laws s.locks t key_requests free range row.ScanKey Current (Key x) 0 (omega arith) (λ r j. in_left r (request_at (Some (Key x)) (p.ask row.ScanKey Current 0)) [] j)

    abbrev key_holds : Holds
    key_holds = row_holds p laws safe s.map s.locks g.part g.hold committed_map g.inv g.sim t unrolled row.ScanKey Current (Key x) key_ask (omega arith) key_grant

    key_taken : Taken shape (modes g.hold) (modes key_holds) t
    key_taken = row_taken p laws safe s.map s.locks g.part g.hold committed_map g.inv g.sim t unrolled row.ScanKey Current (Key x) key_ask (omega arith) key_grant

    key_sim : (q : Part) → q.moved ≡ (g.part t).moved → q.rolling ≡ (g.part t).rolling → ((k : ℕ) → InsertedIn q.changes k → InsertedIn (g.part t).changes k) → Sim p s.map (kept p s.locks t key_requests) (with_part g.part t q) key_holds
    key_sim q m r older = subst (λ l. Sim p s.map l (with_part g.part t q) key_holds) (sym (kept_append p s.locks t (request_at (Some (Key x)) (p.ask row.ScanKey Current 0)) []))
        (row_sim p laws safe s.map s.locks g.part g.hold committed_map g.inv g.sim t unrolled row.ScanKey Current (Key x) key_ask (omega arith) key_grant (λ u ne. tt) key_there refl refl q m r older)

    key_may : MayTouch shape s.map (modes key_holds) g.part t (λ y. (from ≤ y) × (y ≤ x))
    key_may = key_touches shape same_asks shape_covered s.map (modes g.hold) g.part committed_map g.inv t (modes key_holds) from x found
        (row_granted p laws safe s.map s.locks g.part g.hold committed_map g.inv g.sim t unrolled row.ScanKey Current (Key x) key_ask (omega arith) key_grant tt 0)
        (row_after p laws safe s.map s.locks g.part g.hold committed_map g.inv g.sim t unrolled row.ScanKey Current (Key x) key_ask (omega arith) key_grant)

    from_to : from ≤ x
    from_to = let i = g.inv in let k = at-key s.map from x i.is_map found in k.0

    rows_are : c.rows ++ (x, v) ∷ [] ≡ pairs_between s.map c.lo x
    rows_are =
        let i = g.inv in
        let k = at-key s.map from x i.is_map found in
        one_more c.lo c.hi from c.rows s.map i.is_map (g.part t).scan f (i.scan t) x v k.0 there (λ q a b. none_has s.map q (k.2 q a b))

    -- The upper key.
    last_key : x ≡ c.hi → KnownAfter p opening h t o (reply.Rows (c.rows ++ (x, v) ∷ []), state_after s s.map (kept p s.locks t key_requests) (put nat_cmp t ended_scan s.active))
    last_key e =
        let i = g.inv in
        read_done p laws safe opening h s g t live_t unrolled o (op.Scan c.lo c.hi) (reply.Rows (c.rows ++ (x, v) ∷ [])) key_requests ended_scan (λ y. (from ≤ y) × (y ≤ x)) key_holds key_taken key_sim refl
        (ap (λ z. reply.Rows z) (rows_are ∙ ap (λ z. pairs_between s.map c.lo z) e))
        (λ y sc. let z = scanned_below c.lo c.hi from c.rows (g.part t).scan f y sc in (z.0, omega (arith, z.1, from_to, e)))
        (λ y here. ⊎_elim (λ lt. inl (inr (inl (below_scanned c.lo c.hi from c.rows (g.part t).scan f y here.0 lt)))) (λ ge. inr (ge, omega (arith, here.1, e))) (cases_lt y from))
        key_may
        (rows_read (c.rows ++ (x, v) ∷ [])) refl same_changes same_rolling refl

    -- A key below it.
    next_key : x < c.hi → KnownAfter p opening h t o (
      reply.Going x,
      state_after s s.map (kept p s.locks t key_requests)
          (put nat_cmp t (record (standing s t) { scan = Some (record { lo = c.lo; hi = c.hi; rows = c.rows ++ (x, v) ∷ [] }) }) s.active),
    )
    next_key lt =
        let i = g.inv in
        let rows : List (ℕ × ℕ) = c.rows ++ (x, v) ∷ [] in
        let pr : Progress = record { low = c.lo; high = c.hi; last = x; pairs = rows } in
        let q : Part = scanning (g.part t) pr in
        let low = from_in_range c.lo c.hi from c.rows s.map (g.part t).scan f (i.scan t) in
        goes p opening h s s.map (kept p s.locks t key_requests) (record (standing s t) { scan = Some (record { lo = c.lo; hi = c.hi; rows = rows }) }) t o (reply.Going x) g q key_holds live_t refl
        (going_keeps shape s.map (modes g.hold) g.part committed_map g.inv t (modes key_holds) key_taken (λ y. (from ≤ y) × (y ≤ x)) key_may pr
        (λ y sc. let z = scanned_below c.lo c.hi from c.rows (g.part t).scan f y sc in (z.0, omega (arith, z.1, from_to)))
        (λ y here. ⊎_elim (λ less. inl (inr (inl (below_scanned c.lo c.hi from c.rows (g.part t).scan f y here.0 less)))) (λ ge. inr (ge, here.1)) (cases_lt y from))
        (omega (arith, low.0, from_to), lt, rows_are))
        (key_sim q refl refl (λ k h. h))
        (λ live. going_read x x rows)
        (record { scan = (refl, refl, refl, λ m. name_after_last m c.lo c.rows x v); changes = same_changes; rolling = same_rolling })

    row_decided : (b : Bool) → (x == c.hi) ≡ b → x ≤ c.hi
        → KnownAfter p opening h t o (after_effect p s t key_requests (if b then scan_ended s.map (standing s t) (c.rows ++ (x, v) ∷ [])
        else effect (reply.Going x) s.map (record (standing s t) { scan = Some (record { lo = c.lo; hi = c.hi; rows = c.rows ++ (x, v) ∷ [] }) })))
    row_decided true e le = last_key (same_of x c.hi e)
    row_decided false e le = next_key (below_of x c.hi le e)

  -- By the name that is looked at and by who conflicts --

  abbrev key_access : Bool → ℕ → Access
  key_access b k = if b then access row.ScanKey (Some (Key k)) None else access row.ScanStop None (Some (Key k))

  key_decided : (k : ℕ) (b : Bool) → nat_le k c.hi ≡ b → at s.map from ≡ Key k → blockers p s.locks t (requests_of p s.locks t (key_access b k)) ≡ []
      → KnownAfter p opening h t o (after_effect p s t (requests_of p s.locks t (key_access b k)) (if b then row_read s.map (standing s t) c k (unwrap_or (get s.map k) 0) else scan_ended s.map (standing s t) c.rows))
  key_decided k true e found free =
      let i = g.inv in
      let z = at-key s.map from k i.is_map found in
      row_decided k (unwrap_or (get s.map k) 0) found (some_value (get s.map k) (sym (has-get s.map k) ∙ z.1)) free (k == c.hi) refl (le_of k c.hi e)
  key_decided k false e found free =
      subst (λ n. blockers p s.locks t (request_at (Some n) (p.ask row.ScanStop Next 0)) ≡ [] → KnownAfter p opening h t o (reply.Rows c.rows, state_after s s.map (kept p s.locks t (request_at (Some n) (p.ask row.ScanStop Next 0))) (put nat_cmp t ended_scan s.active))) found
      (stop (λ x is. let same = key_is k x (sym found ∙ is) in let far = above_of k c.hi e in omega (arith, same, far))) free

  look_decided : (n : Name) (bs : List ℕ) → at s.map from ≡ n → blockers p s.locks t (requests_of p s.locks t (look_access n c.hi)) ≡ bs
      → KnownAfter p opening h t o (granted_or_blocked p s t (requests_of p s.locks t (look_access n c.hi)) (looked s.map (standing s t) c n) bs)
  look_decided n (u ∷ us) found b = stays p opening h s t o (reply.Blocked (u ∷ us)) g refl refl
  look_decided End [] found free =
      subst (λ n. blockers p s.locks t (request_at (Some n) (p.ask row.ScanStop Next 0)) ≡ [] → KnownAfter p opening h t o (reply.Rows c.rows, state_after s s.map (kept p s.locks t (request_at (Some n) (p.ask row.ScanStop Next 0))) (put nat_cmp t ended_scan s.active))) found
      (stop (λ x is. absurd (end_not_key x (sym found ∙ is)))) free
  look_decided (Key k) [] found free = key_decided k (nat_le k c.hi) refl found free

  -- A step of a scan, granted or blocked.
  pub looks : name_to_look s.map c ≡ at s.map from → KnownAfter p opening h t o (attempted_scan p s t (Some c))
  looks is = look_decided (name_to_look s.map c) (blockers p s.locks t (requests_of p s.locks t (look_access (name_to_look s.map c) c.hi))) (sym is) refl
