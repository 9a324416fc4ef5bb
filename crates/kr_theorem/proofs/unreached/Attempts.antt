-- What holds of each state that a run of the twin reaches is kept by a fetch, an insert, a delete, an update, and a scan's look at a name.
use Rattle.std.proofs.Common.{ℕ, ◌≡◌, ◌<◌, ⊎_elim, refl, sym, ap, ◌∙◌, subst, arith, Bool, true, false, List, [], ◌∷◌, ◌++◌, Option, Some, None, is_some}
use Rattle.std.specs.Prelude.{◌==◌, nat_le, if◌then◌else◌, unwrap_or}
use Rattle.std.proofs.lemmas.Bool.{cases_eq}
use Rattle.kr_model.specs.declared.Name.{Name}
use Rattle.kr_model.specs.declared.Name.TheVariants.{Key, End}
use Rattle.kr_model.specs.declared.Op.TheVariants as op
use Rattle.kr_model.specs.declared.Reply.TheVariants as reply
use Rattle.kr_model.specs.declared.Row.TheVariants as row
use Rattle.kr_model.specs.declared.Side.TheVariants.{Current, Next}
use Rattle.kr_model.specs.declared.Span.TheVariants.{Commit}
use Rattle.kr_model.specs.declared.Step.TheVariants as attempt
use Rattle.kr_model.specs.Map.{Map, IsMap, get, set, without, at, after}
use Rattle.kr_model.specs.Locks.{Request, own, keep, kept, blockers}
use Rattle.kr_model.specs.Plan.{access, plan_by, requests}
use Rattle.kr_model.specs.State.{State, Scan, standing}
use Rattle.kr_model.specs.Step.{Effect, effect, fetched, inserted, deleted, updated, looked, row_read, scan_ended, granted_or_blocked, after_effect, attempted, performed}
use Rattle.kr_model.proofs.LockLaws.{own-keep_same}
use Rattle.kr_model.proofs.MapLaws.{IsMap-set, IsMap-without}
use Rattle.kr_theorem.proofs.gaps.Gaps.{has}
use Rattle.kr_theorem.proofs.gaps.Moves.{has_apart, has_here}
use Rattle.kr_theorem.proofs.gaps.Undo.{InsertedIn, inserted_older}
use Rattle.kr_theorem.proofs.safe.Placed.{Stands, at_stands}
use Rattle.kr_theorem.specs.Unreached.{I, K, X}
use Rattle.kr_theorem.proofs.unreached.Unsafe.{twin, twin_after}
use Rattle.kr_theorem.proofs.unreached.Modes.{above_after, after_above, none_beside}
use Rattle.kr_theorem.proofs.unreached.Kept.{IsAsked, AreAsked, kept_holds}
use Rattle.kr_theorem.proofs.unreached.Reached.{Reached}
use Rattle.kr_theorem.proofs.unreached.Granted.{held_alone, held_above, after_granted}

-- Requests --

-- No requests, and one more.
asked_none : (m : Map) → AreAsked m []
asked_none m n q span i = absurd i

asked_more : (m : Map) (n : Name) (q : ℕ) (rs : List Request) → IsAsked m n q Commit → AreAsked m rs → AreAsked m ((n, q, Commit) ∷ rs)
asked_more m n q rs a more x r span i = ⊎_elim (λ e. subst (λ (z : Request). IsAsked m z.0 z.1 z.2) e a) (λ j. more x r span j) i

-- X, of any name; K, of a key that is inserted; and I, of a name of the index.
asks_X : (m : Map) (n : Name) → IsAsked m n X Commit
asks_X m n = record { row = row.FetchHit; side = Current; asks = refl; some = omega arith; within = omega arith; stands = λ e. absurd (omega (arith, e)) }

asks_K : (m : Map) (n : Name) → IsAsked m n K Commit
asks_K m n = record { row = row.Insert; side = Current; asks = refl; some = omega arith; within = omega arith; stands = λ e. absurd (omega (arith, e)) }

asks_I : (m : Map) (n : Name) → Stands m n → IsAsked m n I Commit
asks_I m n there = record { row = row.Insert; side = Next; asks = refl; some = omega arith; within = omega arith; stands = λ e. there }

-- Maps --

-- A name of a map is one still where a key is set, or another key is taken out.
stands_set : (m : Map) (k v : ℕ) (n : Name) → Stands m n → Stands (set m k v) n
stands_set m k v End there = tt
stands_set m k v (Key q) there = ⊎_elim (λ e. ap (has (set m k v)) e ∙ has_here m k (Some v)) (λ other. has_apart m k (Some v) q other ∙ there) (cases_eq q k)

stands_without : (m : Map) (k : ℕ) (n : Name) → (n ≡ Key k → ⊥) → Stands m n → Stands (without m k) n
stands_without m k End other there = tt
stands_without m k (Key q) other there = has_apart m k None q (λ e. other (ap (λ x. Key x) e)) ∙ there

-- Attempts --

module _ (s : State) (was : Reached s) (t : ℕ) where
  -- An attempt that is blocked changes nothing.
  abbrev Keeps : List Request → Effect → Type 0
  Keeps rs e = Reached (let o = granted_or_blocked twin s t rs e (blockers twin s.locks t rs) in o.1)

  unless_blocked : (rs : List Request) (e : Effect) → (blockers twin s.locks t rs ≡ [] → Reached (let o = after_effect twin s t rs e in o.1)) → Keeps rs e
  unless_blocked rs e granted = by (blockers twin s.locks t rs) refl
    where
      by : (us : List ℕ) → blockers twin s.locks t rs ≡ us → Reached (let o = granted_or_blocked twin s t rs e us in o.1)
      by [] none = granted none
      by (u ∷ us) some = was

  -- K or X requested first leaves a mode above I on its name.
  above_first : (n : Name) (q : ℕ) (next : List Request) → I < q → AreAsked s.map next → I < own (kept twin s.locks t ((n, q, Commit) ∷ next)) t n
  above_first n q next above asked =
      let mode = twin_after (own s.locks t n) q in
      kept_holds (λ o. I < o) (keep s.locks t n mode) t n next (λ r span i o h. after_above o r (asked n r span i).some h)
      (subst (λ m. I < m) (sym (own-keep_same s.locks t n mode)) (above_after (own s.locks t n) q above))

  -- One that requests X on a name, and changes no key.
  reads : (n : Name) (e : Effect) → e.map ≡ s.map → e.standing.changes ≡ (standing s t).changes → Keeps ((n, X, Commit) ∷ []) e
  reads n e same unchanged =
      let rs : List Request = (n, X, Commit) ∷ [] in
      let asked = asked_more s.map n X [] (asks_X s.map n) (asked_none s.map) in
      unless_blocked rs e (λ free.
      after_granted s was t rs asked free e (subst (λ m. IsMap m) (sym same) was.is_map)
      (λ k i. held_above s was t rs asked free (Key k) (was.inserted t k (subst (λ l. InsertedIn l k) unchanged i)))
      (λ u x is there. subst (λ m. Stands m x) (sym same) there))

  -- A fetch.
  pub fetch_keeps : (k : ℕ) → Reached (let o = performed twin s t (op.Fetch k) in o.1)
  fetch_keeps k = by (get s.map k)
    where
      by : (o : Option ℕ) → Keeps (requests (plan_by twin s.locks t (if is_some o then access row.FetchHit (Some (Key k)) None else access row.FetchMiss None (Some (at s.map k))))) (fetched s.map (standing s t) o)
      by (Some v) = reads (Key k) (fetched s.map (standing s t) (Some v)) refl refl
      by None = reads (at s.map k) (fetched s.map (standing s t) None) refl refl

  -- An insert of an absent key.
  inserts : (k v : ℕ) → Keeps ((Key k, K, Commit) ∷ (at s.map k, I, Commit) ∷ []) (inserted s.map (standing s t) k v None)
  inserts k v =
      let next : List Request = (at s.map k, I, Commit) ∷ [] in
      let rs : List Request = (Key k, K, Commit) ∷ next in
      let e = inserted s.map (standing s t) k v None in
      let asked_next = asked_more s.map (at s.map k) I [] (asks_I s.map (at s.map k) (at_stands s.map k was.is_map)) (asked_none s.map) in
      let asked = asked_more s.map (Key k) K next (asks_K s.map (Key k)) asked_next in
      let new = above_first (Key k) K next (omega arith) asked_next in
      unless_blocked rs e (λ free.
      after_granted s was t rs asked free e (IsMap-set s.map k v was.is_map)
      (λ q i. ⊎_elim (λ same. subst (λ z. I < own (kept twin s.locks t rs) t (Key z)) (sym same.0) new) (λ older. held_above s was t rs asked free (Key q) (was.inserted t q older)) i)
      (λ u n is there. stands_set s.map k v n there))

  -- An insert: of a present key it goes by a fetch's row.
  pub insert_keeps : (k v : ℕ) → Reached (let o = performed twin s t (op.Insert k v) in o.1)
  insert_keeps k v = by (get s.map k)
    where
      by : (o : Option ℕ) → Keeps (requests (plan_by twin s.locks t (if is_some o then access row.FetchHit (Some (Key k)) None else access row.Insert (Some (Key k)) (Some (at s.map k))))) (inserted s.map (standing s t) k v o)
      by (Some w) = reads (Key k) (inserted s.map (standing s t) k v (Some w)) refl refl
      by None = inserts k v

  -- A delete of a present key: its transaction has X there, so nobody has I.
  deletes : (k w : ℕ) → Keeps ((Key k, X, Commit) ∷ (after s.map k, X, Commit) ∷ []) (deleted s.map (standing s t) k (Some w))
  deletes k w =
      let next : List Request = (after s.map k, X, Commit) ∷ [] in
      let rs : List Request = (Key k, X, Commit) ∷ next in
      let e = deleted s.map (standing s t) k (Some w) in
      let asked_next = asked_more s.map (after s.map k) X [] (asks_X s.map (after s.map k)) (asked_none s.map) in
      let asked = asked_more s.map (Key k) X next (asks_X s.map (Key k)) asked_next in
      let new = above_first (Key k) X next (omega arith) asked_next in
      unless_blocked rs e (λ free.
      after_granted s was t rs asked free e (IsMap-without s.map k was.is_map)
      (λ q i. held_above s was t rs asked free (Key q) (was.inserted t q (inserted_older k w (standing s t).changes q i)))
      (λ u n is there. stands_without s.map k n
      (λ same. none_beside (λ v. own (kept twin s.locks t rs) v (Key k)) t u (λ other some. held_alone s was t rs asked free t u (Key k) other some) new (subst (λ z. own (kept twin s.locks t rs) u z ≡ I) same is))
      there))

  -- A delete: of an absent key it goes by a fetch's row.
  pub delete_keeps : (k : ℕ) → Reached (let o = performed twin s t (op.Delete k) in o.1)
  delete_keeps k = by (get s.map k)
    where
      by : (o : Option ℕ) → Keeps (requests (plan_by twin s.locks t (if is_some o then access row.Delete (Some (Key k)) (Some (after s.map k)) else access row.FetchMiss None (Some (at s.map k))))) (deleted s.map (standing s t) k o)
      by (Some w) = deletes k w
      by None = reads (at s.map k) (deleted s.map (standing s t) k None) refl refl

  -- An update requests nothing; the twin refuses it.
  pub update_keeps : (k v : ℕ) → Reached (let o = performed twin s t (op.Update k v) in o.1)
  update_keeps k v = by (get s.map k)
    where
      by : (o : Option ℕ) → Keeps (requests (plan_by twin s.locks t (if is_some o then access row.Update (Some (Key k)) None else access row.FetchMiss None (Some (at s.map k))))) (updated s.map (standing s t) k v o)
      by (Some w) =
          let e = updated s.map (standing s t) k v (Some w) in
          unless_blocked [] e (λ free.
          after_granted s was t [] (asked_none s.map) free e (IsMap-set s.map k v was.is_map)
          (λ q i. was.inserted t q (inserted_older k w (standing s t).changes q i))
          (λ u n is there. stands_set s.map k v n there))
      by None = reads (at s.map k) (updated s.map (standing s t) k v None) refl refl

  -- A scan's look at a name.
  pub look_keeps : (c : Scan) (n : Name) → Reached (let o = attempted twin s t (attempt.Look n c.hi) (looked s.map (standing s t) c n) in o.1)
  look_keeps c End = reads End (looked s.map (standing s t) c End) refl refl
  look_keeps c (Key k) = by (nat_le k c.hi)
    where
      by_end : (b : Bool) → Keeps ((Key k, X, Commit) ∷ []) (if b then scan_ended s.map (standing s t) (c.rows ++ (k, unwrap_or (get s.map k) 0) ∷ []) else effect (reply.Going k) s.map (record (standing s t) { scan = Some (record { lo = c.lo; hi = c.hi; rows = c.rows ++ (k, unwrap_or (get s.map k) 0) ∷ [] }) }))
      by_end true = reads (Key k) (scan_ended s.map (standing s t) (c.rows ++ (k, unwrap_or (get s.map k) 0) ∷ [])) refl refl
      by_end false = reads (Key k) (effect (reply.Going k) s.map (record (standing s t) { scan = Some (record { lo = c.lo; hi = c.hi; rows = c.rows ++ (k, unwrap_or (get s.map k) 0) ∷ [] }) })) refl refl

      by : (b : Bool) → Keeps (requests (plan_by twin s.locks t (if b then access row.ScanKey (Some (Key k)) None else access row.ScanStop None (Some (Key k))))) (if b then row_read s.map (standing s t) c k (unwrap_or (get s.map k) 0) else scan_ended s.map (standing s t) c.rows)
      by true = by_end (k == c.hi)
      by false = reads (Key k) (scan_ended s.map (standing s t) c.rows) refl refl
