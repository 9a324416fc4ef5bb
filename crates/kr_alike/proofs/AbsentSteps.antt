-- What is held on absent keys, and on keys that another has inserted, after each step under a safe table.
use Rattle.std.proofs.Common.{ℕ, suc, ◌≡◌, ◌≢◌, ◌⊎◌, inl, inr, ⊎_elim, refl, sym, ap, ◌∙◌, Bool, true, false, subst, true≢false, [], ◌∷◌, ◌++◌, List, Option, Some, None}
use Rattle.std.specs.Prelude.{if◌then◌else◌, not, cond, ◌==◌, nat_le, is_some, unwrap_or}
use Rattle.std.specs.Ordering.{nat_cmp}
use Rattle.std.specs.FinMap.{find}
use Rattle.std.proofs.lemmas.Bool.{cases_Bool, cases_eq}
use Rattle.kr_model.specs.declared.Name.{Name}
use Rattle.kr_model.specs.declared.Name.TheVariants.{Key, End}
use Rattle.kr_model.specs.declared.Row.TheVariants as row
use Rattle.kr_model.specs.declared.Side.TheVariants.{Current, Next}
use Rattle.kr_model.specs.declared.Op.{Op}
use Rattle.kr_model.specs.declared.Op.TheVariants as op
use Rattle.kr_model.specs.declared.Reply.TheVariants as reply
use Rattle.kr_model.specs.declared.Refusal.{Refusal}
use Rattle.kr_model.specs.declared.Step.{Step}
use Rattle.kr_model.specs.declared.Step.TheVariants as attempt
use Rattle.kr_model.specs.Protocol.{Protocol, IsLawful}
use Rattle.kr_model.specs.Covers.{conflicts_with}
use Rattle.kr_model.specs.Map.{Map, Changes, get, set, at, after, restore_all}
use Rattle.kr_model.specs.Locks.{Request, own, release, blockers}
use Rattle.kr_model.specs.Plan.{access, access_of}
use Rattle.kr_model.specs.State.{State, Scan, start, idle, standing}
use Rattle.kr_model.specs.Step.{Effect, effect, Outcome, scan_ended, fetched, inserted, deleted, updated, looked, row_read, name_to_look, after_effect, attempted, attempted_scan, granted_or_blocked, ended_with, one_taken_back, performed, unless_refused, refusal_of, step}
use Rattle.kr_model.specs.Run.{Entry}
use Rattle.kr_model.specs.Safe.{IsSafe}
use Rattle.kr_model.proofs.Guarantees.{in_left}
use Rattle.kr_model.proofs.Requests.{request_at}
use Rattle.kr_model.proofs.Actives.{tied, find_put_same, find_put_other, find_filter, find_filter_other}
use Rattle.kr_model.proofs.LockLaws.{own-release_other}
use Rattle.kr_theorem.proofs.gaps.Gaps.{has}
use Rattle.kr_theorem.proofs.gaps.Maps.{has_none, has_some}
use Rattle.kr_theorem.proofs.gaps.Undo.{ChangedIn, InsertedIn, inserted_older, inserted_changed, restore_here}
use Rattle.kr_theorem.proofs.gaps.Moves.{has_apart, has_here, back_inserted, undone_inserted}
use Rattle.kr_theorem.proofs.step.Parts.{changed_touched}
use Rattle.kr_theorem.proofs.safe.Holding.{open_of, alone_live}
use Rattle.kr_theorem.proofs.safe.Placed.{at_stands, stands_kept}
use Rattle.kr_theorem.proofs.safe.Sim.{rolls}
use Rattle.kr_theorem.proofs.run.Grants.{requests_of, granted_at}
use Rattle.kr_theorem.proofs.run.Known.{Known}
use Rattle.kr_alike.proofs.Steps.{IsForward, IsAllowed, allowed}
use Rattle.kr_alike.specs.Coming.{LetsInDelete, MayBeLeft}
use Rattle.kr_alike.proofs.Absent.{Left, kept_other, released, none_left, changes_are, left_by_own, live_absent, live_inserted}

-- After some history.
abbrev pub Reached : Protocol → Map → State → Type 0
Reached p opening s = (h : List Entry) × Known p opening h s

module _ (p : Protocol) (laws : IsLawful p) (safe : IsSafe p) (opening : Map) (h : List Entry) (s : State) (g : Known p opening h s) (left : Left p s) (t : ℕ) where
  -- A key goes where a transaction takes its changes back, or deletes it; of another that holds a lock on it the lock may be left.
  goes_left : (m : Map) → ((u k : ℕ) → u ≢ t → has s.map k ≡ true → has m k ≡ false → MayBeLeft p (own s.locks u (Key k)))
      → (u k : ℕ) → u ≢ t → has m k ≡ false → (ChangedIn (standing s u).changes k → ⊥) → MayBeLeft p (own s.locks u (Key k))
  goes_left m goes u k ne none unchanged = ⊎_elim (λ there. goes u k ne there none) (λ was. left.absent u k was unchanged) (cases_Bool (has s.map k))

  -- An end --

  module _ (m : Map) (goes : (k : ℕ) → has s.map k ≡ true → has m k ≡ false → InsertedIn (standing s t).changes k) where
    end_same : (u : ℕ) → u ≢ t → let z = ended_with s t m in standing z u ≡ standing s u
    end_same u ne = ap (λ o. unwrap_or o idle) (find_filter_other s.active t u ne)

    end_none : let z = ended_with s t m in (standing z t).changes ≡ []
    end_none = ap (λ o. let a = unwrap_or o idle in a.changes) (find_filter s.active t t ∙ ap (λ b. cond (not b) (find nat_cmp t s.active) None) (tied t))

    pub end_left : Left p (ended_with s t m)
    end_left = record {
      absent = λ u k none unchanged. ⊎_elim
          (λ e. none_left p laws _ (ap (λ v. own (release s.locks t) v (Key k)) e ∙ released s.locks t (Key k)))
          (λ ne. subst (λ o. MayBeLeft p o) (sym (own-release_other s.locks t u (Key k) ne))
          (goes_left m (λ v j nv there gone. left.inserted t v j nv (goes j there gone)) u k ne none (λ c. unchanged (subst (λ a. ChangedIn a.changes k) (sym (end_same u ne)) c))))
          (cases_eq u t);
      inserted = λ w u k ne is. ⊎_elim
          (λ e. none_left p laws _ (ap (λ v. own (release s.locks t) v (Key k)) e ∙ released s.locks t (Key k)))
          (λ nu. subst (λ o. MayBeLeft p o) (sym (own-release_other s.locks t u (Key k) nu))
          (⊎_elim
          (λ e. absurd (subst (λ l. InsertedIn l k) (ap (λ v. let z = ended_with s t m in (standing z v).changes) e ∙ end_none) is))
          (λ nw. left.inserted w u k ne (subst (λ a. InsertedIn a.changes k) (end_same w nw) is))
          (cases_eq w t)))
          (cases_eq u t);
    }

  -- A change undone --

  module _ (c : ℕ × Option ℕ) (cs : Changes) (is : (standing s t).changes ≡ c ∷ cs) where
    abbrev after_back : State
    after_back = let o = one_taken_back s t (c ∷ cs) in o.1

    back_same : (u : ℕ) → u ≢ t → standing after_back u ≡ standing s u
    back_same u ne = ap (λ o. unwrap_or o idle) (find_put_other s.active t u _ ne)

    back_here : (standing after_back t).changes ≡ cs
    back_here = ap (λ o. let a = unwrap_or o idle in a.changes) (find_put_same s.active t _)

    newest : (k : ℕ) → k ≡ c.0 → c.1 ≡ None → InsertedIn (standing s t).changes k
    newest k e f = subst (λ l. InsertedIn l k) (sym is) (inl (e, f))

    none_of : (o : Option ℕ) → is_some o ≡ false → o ≡ None
    none_of None e = refl
    none_of (Some v) e = absurd (true≢false e)

    -- Of its own locks that on the key may be left, where that was inserted.
    own_left : (k : ℕ) → has after_back.map k ≡ false → (ChangedIn cs k → ⊥) → MayBeLeft p (own s.locks t (Key k))
    own_left k none unchanged = ⊎_elim
        (λ e. left_by_own p opening h s g t k (newest k e (none_of c.1 (sym (has_here s.map c.0 c.1) ∙ sym (ap (has after_back.map) e) ∙ none))))
        (λ ne. left.absent t k (sym (has_apart s.map c.0 c.1 k ne) ∙ none) (λ d. ⊎_elim ne unchanged (subst (λ l. ChangedIn l k) is d)))
        (cases_eq k c.0)

    pub back_left : Left p after_back
    back_left = record {
      absent = λ u k none unchanged. ⊎_elim
          (λ e. subst (λ v. MayBeLeft p (own s.locks v (Key k))) (sym e) (own_left k none (λ d. unchanged (subst (λ v. ChangedIn (standing after_back v).changes k) (sym e) (subst (λ l. ChangedIn l k) (sym back_here) d)))))
          (λ ne. goes_left after_back.map (λ v j nv there gone. left.inserted t v j nv (let z = back_inserted s.map c j there gone in newest j z.0 z.1)) u k ne none
          (λ d. unchanged (subst (λ a. ChangedIn a.changes k) (sym (back_same u ne)) d)))
          (cases_eq u t);
      inserted = λ w u k ne d. ⊎_elim
          (λ e. left.inserted w u k ne (subst (λ v. InsertedIn (standing s v).changes k) (sym e) (subst (λ l. InsertedIn l k) (sym is) (inr (subst (λ l. InsertedIn l k) (ap (λ v. (standing after_back v).changes) e ∙ back_here) d)))))
          (λ nw. left.inserted w u k ne (subst (λ a. InsertedIn a.changes k) (back_same w nw) d))
          (cases_eq w t);
    }

  -- A granted attempt --

  -- Its effect, as far as it matters here: it takes away no key but beside locks that let in a delete, and inserts only what is absent.
  record IsFit (e : Effect) : Type 0 where
    rolling : e.standing.rolling ≡ (standing s t).rolling
    goes : (u k : ℕ) → u ≢ t → has s.map k ≡ true → has e.map k ≡ false → LetsInDelete p (own s.locks u (Key k))
    inserts : (k : ℕ) → InsertedIn e.standing.changes k → InsertedIn (standing s t).changes k ⊎ (has s.map k ≡ false)

  module _ (forward : IsForward s t) (rs : List Request) (e : Effect) (fit : IsFit e) where
    abbrev granted : State
    granted = let o = after_effect p s t rs e in o.1

    granted_same : (u : ℕ) → u ≢ t → standing granted u ≡ standing s u
    granted_same u ne = ap (λ o. unwrap_or o idle) (find_put_other s.active t u e.standing ne)

    granted_here : standing granted t ≡ e.standing
    granted_here = ap (λ o. unwrap_or o idle) (find_put_same s.active t e.standing)

    granted_left : Reached p opening granted → Left p granted
    granted_left (h', g') =
        let st = g'.stands t forward.live in
        let live : (g'.part t).rolling ≡ false = sym st.rolling ∙ ap (λ a. a.rolling) granted_here ∙ fit.rolling ∙ forward.unrolled in
        let i = g'.inv in
        let o = i.owned in
        let apart : (u k : ℕ) → u ≢ t → InsertedIn e.standing.changes k → ChangedIn (standing s u).changes k → ⊥ = λ u k ne is d.
        o.alone u t k (λ f. ne (sym f))
        (changed_touched (g'.part t) k (inserted_changed (g'.part t).changes k (subst (λ l. InsertedIn l k) (sym (ap (λ a. a.changes) granted_here) ∙ changes_are p opening h' granted g' t) is)))
        (subst (λ l. ChangedIn l k) (sym (ap (λ a. a.changes) (granted_same u ne)) ∙ changes_are p opening h' granted g' u) d) in
        record {
          absent = λ u k none unchanged. ⊎_elim
              (λ f. subst (λ v. MayBeLeft p (own granted.locks v (Key k))) (sym f) (live_absent p opening h' granted g' laws safe t live k none (λ d. unchanged (subst (λ v. ChangedIn (standing granted v).changes k) (sym f) d))))
              (λ ne. subst (λ m. MayBeLeft p m) (sym (kept_other p s.locks t rs u (Key k) ne))
              (goes_left e.map (λ v j nv there gone. inl (fit.goes v j nv there gone)) u k ne none (λ d. unchanged (subst (λ a. ChangedIn a.changes k) (sym (granted_same u ne)) d))))
              (cases_eq u t);
          inserted = λ w u k ne is. ⊎_elim
              (λ f. subst (λ v. MayBeLeft p (own granted.locks v (Key k))) (sym f) (live_inserted p opening h' granted g' laws safe t live w k (λ z. ne (f ∙ z)) is))
              (λ nu. subst (λ m. MayBeLeft p m) (sym (kept_other p s.locks t rs u (Key k) nu))
              (⊎_elim
              (λ f. let new : InsertedIn e.standing.changes k = subst (λ a. InsertedIn a.changes k) (ap (λ v. standing granted v) f ∙ granted_here) is in
              ⊎_elim (λ old. left.inserted t u k nu old) (λ none. left.absent u k none (apart u k nu new)) (fit.inserts k new))
              (λ nw. left.inserted w u k ne (subst (λ a. InsertedIn a.changes k) (granted_same w nw) is))
              (cases_eq w t)))
              (cases_eq u t);
        }

  attempt_left : IsForward s t → (a : Step) (e : Effect) → (blockers p s.locks t (requests_of p s.locks t (access_of s.map a)) ≡ [] → IsFit e)
      → Reached p opening (let o = attempted p s t a e in o.1) → Left p (let o = attempted p s t a e in o.1)
  attempt_left forward a e fit = by (blockers p s.locks t (requests_of p s.locks t (access_of s.map a))) refl
    where
      rs : List Request
      rs = requests_of p s.locks t (access_of s.map a)

      by : (us : List ℕ) → blockers p s.locks t (requests_of p s.locks t (access_of s.map a)) ≡ us
          → Reached p opening (let o = granted_or_blocked p s t (requests_of p s.locks t (access_of s.map a)) e us in o.1) → Left p (let o = granted_or_blocked p s t (requests_of p s.locks t (access_of s.map a)) e us in o.1)
      by [] none new = granted_left forward rs e (fit none) new
      by (u ∷ us) some new = left

  -- The effects --

  quiet : (e : Effect) → e.map ≡ s.map → e.standing.changes ≡ (standing s t).changes → e.standing.rolling ≡ (standing s t).rolling → IsFit e
  quiet e map changes rolling = record {
    rolling = rolling;
    goes = λ u k ne there gone. absurd (true≢false (sym there ∙ ap (λ m. has m k) (sym map) ∙ gone));
    inserts = λ k is. inl (subst (λ l. InsertedIn l k) changes is);
  }

  fetch_fits : (v : Option ℕ) → IsFit (fetched s.map (standing s t) v)
  fetch_fits (Some v) = quiet (fetched s.map (standing s t) (Some v)) refl refl refl
  fetch_fits None = quiet (fetched s.map (standing s t) None) refl refl refl

  insert_fits : (k v : ℕ) (w : Option ℕ) → get s.map k ≡ w → IsFit (inserted s.map (standing s t) k v w)
  insert_fits k v (Some w) is = quiet (inserted s.map (standing s t) k v (Some w)) refl refl refl
  insert_fits k v None is =
      let new = set s.map k v in
      record {
        rolling = refl;
        goes = λ u j ne there gone. absurd (true≢false (⊎_elim
            (λ e. sym (ap (has new) e ∙ has_some new k v (restore_here s.map k (Some v))) ∙ gone)
            (λ d. sym there ∙ sym (has_apart s.map k (Some v) j d) ∙ gone)
            (cases_eq j k)));
        inserts = λ j z. ⊎_elim (λ e. inr (ap (has s.map) e.0 ∙ has_none s.map k is)) (λ old. inl old) z;
      }

  update_fits : (k v : ℕ) (w : Option ℕ) → get s.map k ≡ w → IsFit (updated s.map (standing s t) k v w)
  update_fits k v None is = quiet (updated s.map (standing s t) k v None) refl refl refl
  update_fits k v (Some w) is =
      let new = set s.map k v in
      record {
        rolling = refl;
        goes = λ u j ne there gone. absurd (true≢false (⊎_elim
            (λ e. sym (ap (has new) e ∙ has_some new k v (restore_here s.map k (Some v))) ∙ gone)
            (λ d. sym there ∙ sym (has_apart s.map k (Some v) j d) ∙ gone)
            (cases_eq j k)));
        inserts = λ j z. inl (inserted_older k w (standing s t).changes j z);
      }

  -- A granted delete lets itself in beside each lock on its key.
  delete_fits : IsForward s t → (k : ℕ) (w : Option ℕ) → get s.map k ≡ w
      → blockers p s.locks t (requests_of p s.locks t (if is_some w then access row.Delete (Some (Key k)) (Some (after s.map k)) else access row.FetchMiss None (Some (at s.map k)))) ≡ []
      → IsFit (deleted s.map (standing s t) k w)
  delete_fits forward k None is unblocked = quiet (deleted s.map (standing s t) k None) refl refl refl
  delete_fits forward k (Some w) is unblocked =
      let x = after s.map k in
      let n = own s.locks t x in
      let a = p.ask row.Delete Current n in
      let b = p.ask row.Delete Next n in
      let sim = g.sim in
      let l = sim.locks in
      let pr = sim.paired in
      let i = g.inv in
      let st = g.stands t forward.live in
      let live : (g.part t).rolling ≡ false = sym st.rolling ∙ forward.unrolled in
      let granted_key = granted_at p laws s.locks t (request_at (Some (Key k)) a ++ request_at (Some x) b) unblocked (λ u z. l.within u z) row.Delete Current (Key k) n (l.within t x)
      (λ r j. in_left r (request_at (Some (Key k)) a) (request_at (Some x) b) j) in
      record {
        rolling = refl;
        goes = λ u j ne there gone. ⊎_elim
            (λ e. subst (λ z. LetsInDelete p (own s.locks u (Key z))) (sym e) (record {
              own = g.hold t (Key k);
              next = g.hold t x;
              own_reached = alone_live p (rolls g.part) s.locks g.hold sim.paired t (Key k) live;
              next_reached = alone_live p (rolls g.part) s.locks g.hold sim.paired t x live;
              asks = (stands_kept p s.map g.part g.hold sim.placed t (Key k) live (has_some s.map k w is), stands_kept p s.map g.part g.hold sim.placed t x live (at_stands s.map (suc k) i.is_map));
              granted = subst (λ o. conflicts_with p (own s.locks u (Key k)) o (p.ask row.Delete Current (g.hold t x).mode) ≡ false) (sym (pr.mode t (Key k)))
                  (subst (λ y. conflicts_with p (own s.locks u (Key k)) (own s.locks t (Key k)) (p.ask row.Delete Current y) ≡ false) (sym (pr.mode t x))
                  (open_of p (own s.locks u (Key k)) (own s.locks t (Key k)) a (λ c. granted_key u ne c)));
            }))
            (λ d. absurd (true≢false (sym there ∙ sym (has_apart s.map k None j d) ∙ gone)))
            (cases_eq j k);
        inserts = λ j z. inl (inserted_older k w (standing s t).changes j z);
      }

  row_fits : (c : Scan) (k v : ℕ) → IsFit (row_read s.map (standing s t) c k v)
  row_fits c k v = by (k == c.hi)
    where
      by : (b : Bool) → IsFit (if b then scan_ended s.map (standing s t) (c.rows ++ (k, v) ∷ []) else effect (reply.Going k) s.map (record (standing s t) { scan = Some (record { lo = c.lo; hi = c.hi; rows = c.rows ++ (k, v) ∷ [] }) }))
      by true = quiet (scan_ended s.map (standing s t) (c.rows ++ (k, v) ∷ [])) refl refl refl
      by false = quiet (effect (reply.Going k) s.map (record (standing s t) { scan = Some (record { lo = c.lo; hi = c.hi; rows = c.rows ++ (k, v) ∷ [] }) })) refl refl refl

  look_fits : (c : Scan) (n : Name) → IsFit (looked s.map (standing s t) c n)
  look_fits c End = quiet (scan_ended s.map (standing s t) c.rows) refl refl refl
  look_fits c (Key k) = by (nat_le k c.hi)
    where
      by : (b : Bool) → IsFit (if b then row_read s.map (standing s t) c k (unwrap_or (get s.map k) 0) else scan_ended s.map (standing s t) c.rows)
      by true = row_fits c k (unwrap_or (get s.map k) 0)
      by false = quiet (scan_ended s.map (standing s t) c.rows) refl refl refl

  -- Each step --

  abbrev Stays : Outcome → Type 0
  Stays o = Reached p opening o.1 → Left p o.1

  scan_left : IsForward s t → (c : Option Scan) → Stays (attempted_scan p s t c)
  scan_left forward None = λ new. left
  scan_left forward (Some c) = let n = name_to_look s.map c in attempt_left forward (attempt.Look n c.hi) (looked s.map (standing s t) c n) (λ none. look_fits c n)

  take_left : (cs : Changes) → (standing s t).changes ≡ cs → Stays (one_taken_back s t cs)
  take_left [] is new = left
  take_left (c ∷ cs) is new = back_left c cs is

  performed_left : (o : Op) → IsAllowed p s t o → Stays (performed p s t o)
  performed_left (op.Fetch k) a = attempt_left (a.forward refl) (attempt.Fetch k) (fetched s.map (standing s t) (get s.map k)) (λ none. fetch_fits (get s.map k))
  performed_left (op.Scan lo hi) a = scan_left (a.forward refl) (Some (record { lo = lo; hi = hi; rows = [] }))
  performed_left op.Go a = scan_left (a.forward refl) (standing s t).scan
  performed_left (op.Insert k v) a = attempt_left (a.forward refl) (attempt.Insert k) (inserted s.map (standing s t) k v (get s.map k)) (λ none. insert_fits k v (get s.map k) refl)
  performed_left (op.Delete k) a = attempt_left (a.forward refl) (attempt.Delete k) (deleted s.map (standing s t) k (get s.map k)) (λ none. delete_fits (a.forward refl) k (get s.map k) refl none)
  performed_left (op.Update k v) a = attempt_left (a.forward refl) (attempt.Update k) (updated s.map (standing s t) k v (get s.map k)) (λ none. update_fits k v (get s.map k) refl)
  performed_left op.Commit a = λ new. end_left s.map (λ k there gone. absurd (true≢false (sym there ∙ gone)))
  performed_left op.Abort a = λ new. end_left (restore_all s.map (standing s t).changes) (λ k there gone. undone_inserted s.map (standing s t).changes k there gone)
  performed_left op.Back a = take_left (standing s t).changes refl

  pub step_left : (o : Op) → Reached p opening (let x = step p s t o in x.1) → Left p (let x = step p s t o in x.1)
  step_left o = by (refusal_of p s t o) refl
    where
      by : (r : Option Refusal) → refusal_of p s t o ≡ r → Stays (unless_refused p s t o r)
      by (Some r) e = λ new. left
      by None e = performed_left o (allowed p s t o e)

-- At the start nobody holds a lock.
pub start_left : (p : Protocol) → IsLawful p → (opening : Map) → Left p (start opening)
start_left p laws opening = record { absent = λ u k none unchanged. none_left p laws 0 refl; inserted = λ w u k ne is. absurd is }
