-- A fetch, an insert, a delete and an update keep what is known of the run.
use Rattle.std.specs.Prelude.{◌≡◌, ℕ, ◌≤◌, true, false, ◌&&◌, if◌then◌else◌, List, [], ◌∷◌, ◌++◌, Option, Some, None, refl, ◌⊎◌, is_some}
use Rattle.std.specs.Ordering.{nat_cmp}
use Rattle.std.specs.FinMap.{put}
use Rattle.std.proofs.Common.{sym, ap, subst, arith, inr}
use Rattle.kr_model.specs.declared.Name.{Name}
use Rattle.kr_model.specs.declared.Name.TheVariants.{Key}
use Rattle.kr_model.specs.declared.Row.TheVariants as row
use Rattle.kr_model.specs.declared.Side.TheVariants.{Current, Next}
use Rattle.kr_model.specs.declared.Step.TheVariants as attempt
use Rattle.kr_model.specs.declared.Op.{Op}
use Rattle.kr_model.specs.declared.Op.TheVariants as op
use Rattle.kr_model.specs.declared.Reply.{Reply}
use Rattle.kr_model.specs.declared.Reply.TheVariants as reply
use Rattle.kr_model.specs.Protocol.{Protocol, IsLawful}
use Rattle.kr_model.specs.Locks.{own, blockers, kept}
use Rattle.kr_model.specs.Map.{Map, IsMap, get, set, without, at, after}
use Rattle.kr_model.specs.State.{State, has_ended, standing}
use Rattle.kr_model.specs.Plan.{access, access_of}
use Rattle.kr_model.specs.Step.{changed, granted_or_blocked, fetched, inserted, deleted, updated, performed}
use Rattle.kr_model.specs.Run.{Entry, is_operation, is_granted, is_committed, answer_of}
use Rattle.kr_model.specs.Serial.{whole_insert, whole_delete, whole_update, found_or_none, map_left}
use Rattle.std.proofs.Common.{◌∙◌, inl, ⊎_elim}
use Rattle.std.proofs.lemmas.Bool.{cases_eq}
use Rattle.kr_model.proofs.Guarantees.{in_left, in_right}
use Rattle.kr_model.proofs.Requests.{request_at}
use Rattle.kr_model.proofs.UndoLaws.{IsMap-restore}
use Rattle.kr_theorem.proofs.gaps.Gaps.{has, Alike}
use Rattle.kr_theorem.proofs.gaps.Maps.{has_none, has_some}
use Rattle.kr_theorem.proofs.gaps.Moves.{has_apart}
use Rattle.kr_theorem.proofs.gaps.Undo.{restore_here, InsertedIn, inserted_older}
use Rattle.kr_theorem.proofs.step.Covers.{Granted}
use Rattle.kr_theorem.proofs.step.Parts.{Part, Points, Moved, Scanned, finished, with_part}
use Rattle.kr_theorem.proofs.step.Replay.{answer, after_op}
use Rattle.kr_theorem.proofs.step.Invariant.{Invariant}
use Rattle.kr_theorem.proofs.step.ReadRows.{hit_touches, miss_touches}
use Rattle.kr_theorem.proofs.step.WriteKeeps.{insert_keeps, delete_keeps, update_keeps}
use Rattle.kr_theorem.proofs.run.Grants.{requests_of, granted_at}
use Rattle.kr_theorem.proofs.run.Reading.{entry, ReadsAs, reads_answer}
use Rattle.kr_theorem.proofs.run.Programs.{StandsScan, joined, state_after}
use Rattle.kr_model.specs.Safe.{IsSafe, MayAsk, free as nothing}
use Rattle.kr_theorem.proofs.safe.Shape.{shape, shape_covered, same_asks}
use Rattle.kr_theorem.proofs.safe.Holding.{Holds, modes}
use Rattle.kr_theorem.proofs.safe.Placed.{at_stands, stands_kept}
use Rattle.kr_theorem.proofs.safe.Kept.{kept_append}
use Rattle.kr_theorem.proofs.safe.Sim.{Sim, sim_keys, row_holds, row_granted, row_taken, row_after, row_sim}
use Rattle.kr_theorem.proofs.safe.Inserts.{now_void, void_inv, void_sim, void_clear, next_granted, insert_holds, insert_taken, insert_after, insert_sim}
use Rattle.kr_theorem.proofs.safe.Deletes.{delete_holds, delete_taken, delete_after, delete_sim, key_granted, above_granted}
use Rattle.kr_theorem.proofs.run.Known.{Known, KnownAfter, stays, goes}
use Rattle.kr_theorem.proofs.run.ReadDone.{read_done}

module _ (p : Protocol) (laws : IsLawful p) (safe : IsSafe p) (opening : Map) (h : List Entry) (s : State) (g : Known p opening h s) (t : ℕ) (live_t : has_ended s t ≡ false) (unrolled : (g.part t).rolling ≡ false) where
  range : (u : ℕ) (name : Name) → own s.locks u name ≤ p.count
  range u name = let k = g.sim in let a = k.locks in a.within u name

  abbrev c : Map
  c = map_left opening (joined g.done)

  module _ (quiet : (g.part t).scan ≡ None) (idle_now : (standing s t).scan ≡ None) where
    -- No scan is in progress.
    reads_one : (o : Op) (a : Reply) → (is_operation o && is_granted a) ≡ true → ((f : List Entry) → answer_of t o a f ≡ a) → ReadsAs t (h ++ entry t o a ∷ []) ((g.part t).program ++ (o, a) ∷ []) None
    reads_one o a d same = reads_answer t h o a (g.part t).program d same (subst (λ z. ReadsAs t h (g.part t).program z) quiet (g.reads t live_t unrolled))

    same_changes : (standing s t).changes ≡ (g.part t).changes
    same_changes = let z = g.stands t live_t in z.changes

    same_rolling : (standing s t).rolling ≡ (g.part t).rolling
    same_rolling = let z = g.stands t live_t in z.rolling

    unscanned : (q : ℕ) → Scanned (g.part t).scan q → ⊥
    unscanned q sc = subst (λ z. Scanned z q) quiet sc

    nothing_scanned : (d : Op) (q : ℕ) → Scanned (g.part t).scan q → Points d q
    nothing_scanned d q sc = absurd (unscanned q sc)

    -- A key that is present is read.
    hit : (o : Op) (a : Reply) (k w : ℕ) → get s.map k ≡ Some w → after_op s.map o ≡ s.map → a ≡ answer s.map o → ((q : ℕ) → Points o q → q ≡ k)
        → (is_operation o && is_granted a) ≡ true → ((f : List Entry) → answer_of t o a f ≡ a) → is_committed a ≡ false
        → let rs = request_at (Some (Key k)) (p.ask row.FetchHit Current 0) ++ [] in blockers p s.locks t rs ≡ []
        → KnownAfter p opening h t o (a, state_after s s.map (kept p s.locks t rs) (put nat_cmp t (standing s t) s.active))
    hit o a k w there still a_is points granted same no_commit free =
        let q = p.ask row.FetchHit Current 0 in
        let rs = request_at (Some (Key k)) q ++ [] in
        let i = g.inv in
        let z = g.sim in
        let is = has_some s.map k w there in
        let ask = stands_kept p s.map g.part g.hold z.placed t (Key k) unrolled is in
        let grant = granted_at p laws s.locks t rs free range row.FetchHit Current (Key k) 0 (omega arith) (λ r j. in_left r (request_at (Some (Key k)) q) [] j) in
        let may = hit_touches shape same_asks shape_covered s.map (modes g.hold) g.part c g.inv t (modes (row_holds p laws safe s.map s.locks g.part g.hold c i z t unrolled row.FetchHit Current (Key k) ask (omega arith) grant)) k is
        (row_granted p laws safe s.map s.locks g.part g.hold c i z t unrolled row.FetchHit Current (Key k) ask (omega arith) grant tt 0)
        (row_after p laws safe s.map s.locks g.part g.hold c i z t unrolled row.FetchHit Current (Key k) ask (omega arith) grant) in
        read_done p laws safe opening h s g t live_t unrolled o o a rs (standing s t) (λ y. y ≡ k) (row_holds p laws safe s.map s.locks g.part g.hold c i z t unrolled row.FetchHit Current (Key k) ask (omega arith) grant)
        (row_taken p laws safe s.map s.locks g.part g.hold c i z t unrolled row.FetchHit Current (Key k) ask (omega arith) grant)
        (λ x m r older. subst (λ l. Sim p s.map l (with_part g.part t x) (row_holds p laws safe s.map s.locks g.part g.hold c i z t unrolled row.FetchHit Current (Key k) ask (omega arith) grant)) (sym (kept_append p s.locks t (request_at (Some (Key k)) q) []))
        (row_sim p laws safe s.map s.locks g.part g.hold c i z t unrolled row.FetchHit Current (Key k) ask (omega arith) grant (λ u ne. tt) is refl refl x m r older))
        still a_is (nothing_scanned o) (λ y here. inr (points y here)) may
        (reads_one o a granted same) idle_now same_changes same_rolling no_commit

    -- A key that is absent is looked for.
    miss : (o : Op) (a : Reply) (k : ℕ) → get s.map k ≡ None → after_op s.map o ≡ s.map → a ≡ answer s.map o → ((q : ℕ) → Points o q → q ≡ k)
        → (is_operation o && is_granted a) ≡ true → ((f : List Entry) → answer_of t o a f ≡ a) → is_committed a ≡ false
        → let rs = request_at (Some (at s.map k)) (p.ask row.FetchMiss Next 0) in blockers p s.locks t rs ≡ []
        → KnownAfter p opening h t o (a, state_after s s.map (kept p s.locks t rs) (put nat_cmp t (standing s t) s.active))
    miss o a k none still a_is points granted same no_commit free =
        let n = at s.map k in
        let q = p.ask row.FetchMiss Next 0 in
        let rs = request_at (Some n) q in
        let i = g.inv in
        let z = g.sim in
        let is = at_stands s.map k i.is_map in
        let ask = stands_kept p s.map g.part g.hold z.placed t n unrolled is in
        let grant = granted_at p laws s.locks t rs free range row.FetchMiss Next n 0 (omega arith) (λ r j. j) in
        let may = miss_touches shape same_asks shape_covered s.map (modes g.hold) g.part c g.inv t (modes (row_holds p laws safe s.map s.locks g.part g.hold c i z t unrolled row.FetchMiss Next n ask (omega arith) grant)) k (has_none s.map k none)
        (row_granted p laws safe s.map s.locks g.part g.hold c i z t unrolled row.FetchMiss Next n ask (omega arith) grant tt 0)
        (row_after p laws safe s.map s.locks g.part g.hold c i z t unrolled row.FetchMiss Next n ask (omega arith) grant) in
        read_done p laws safe opening h s g t live_t unrolled o o a rs (standing s t) (λ y. y ≡ k) (row_holds p laws safe s.map s.locks g.part g.hold c i z t unrolled row.FetchMiss Next n ask (omega arith) grant)
        (row_taken p laws safe s.map s.locks g.part g.hold c i z t unrolled row.FetchMiss Next n ask (omega arith) grant)
        (λ x m r older. row_sim p laws safe s.map s.locks g.part g.hold c i z t unrolled row.FetchMiss Next n ask (omega arith) grant (λ u ne. tt) is refl refl x m r older)
        still a_is (nothing_scanned o) (λ y here. inr (points y here)) may
        (reads_one o a granted same) idle_now same_changes same_rolling no_commit

    -- A key that is absent is inserted.
    new_key : (k v : ℕ) → get s.map k ≡ None
        → let n = own s.locks t (at s.map k) in
        let rs = request_at (Some (Key k)) (p.ask row.Insert Current n) ++ request_at (Some (at s.map k)) (p.ask row.Insert Next n) in
        blockers p s.locks t rs ≡ []
        → KnownAfter p opening h t (op.Insert k v) (reply.Done, state_after s (set s.map k v) (kept p s.locks t rs) (put nat_cmp t (changed (standing s t) k None) s.active))
    new_key k v none free =
        let x = at s.map k in
        let n = own s.locks t x in
        let a = p.ask row.Insert Current n in
        let b = p.ask row.Insert Next n in
        let rs = request_at (Some (Key k)) a ++ request_at (Some x) b in
        let i = g.inv in
        let z = g.sim in
        let pr = z.paired in
        let absent = has_none s.map k none in
        let m' : Map = set s.map k v in
        let hn : IsMap m' = IsMap-restore s.map k (Some v) i.is_map in
        let there : has m' k ≡ true = has_some m' k v (restore_here s.map k (Some v)) in
        let alike : Alike k s.map m' = λ y ne. has_apart s.map k (Some v) y ne in
        let grant_n = granted_at p laws s.locks t rs free range row.Insert Next x n (range t x) (λ r j. in_right r (request_at (Some (Key k)) a) (request_at (Some x) b) j) in
        let grant_k = granted_at p laws s.locks t rs free range row.Insert Current (Key k) n (range t x) (λ r j. in_left r (request_at (Some (Key k)) a) (request_at (Some x) b) j) in
        let first = subst (λ w. Granted p (own s.locks) t row.Insert Next x w) (sym (pr.mode t x)) grant_n in
        let hold2 : Holds = now_void p laws safe s.map s.locks g.part g.hold c i z t unrolled k absent first in
        let inv2 = void_inv p laws safe s.map s.locks g.part g.hold c i z t unrolled k absent first in
        let sim2 = void_sim p laws safe s.map s.locks g.part g.hold c i z t unrolled k absent first in
        let same : (hold2 t x).mode ≡ n = (let w = sim2.paired in w.mode t x) in
        let g_n = subst (λ w. Granted p (own s.locks) t row.Insert Next x w) (sym same) grant_n in
        let g_k = subst (λ w. Granted p (own s.locks) t row.Insert Current (Key k) w) (sym same) grant_k in
        let clear = void_clear p laws safe s.map s.locks g.part g.hold c i z t unrolled k absent first in
        let q : Part = finished (g.part t) (op.Insert k v) reply.Done ((k, None) ∷ (g.part t).changes) (k ∷ (g.part t).moved) in
        let into : (y : ℕ) → Moved q y → (Moved (g.part t) y) ⊎ (y ≡ k) = λ y h. ⊎_elim (λ e. inr e) (λ older. inl older) h in
        let brought : (y : ℕ) → InsertedIn q.changes y → (InsertedIn (g.part t).changes y) ⊎ (y ≡ k) = λ y h. ⊎_elim (λ e. inr e.0) (λ old. inl old) h in
        let hold' : Holds = insert_holds p laws safe s.map m' s.locks g.part hold2 c inv2 sim2 t unrolled k hn absent there alike g_n g_k clear q into (λ y h. inr h) refl brought in
        let a_is : reply.Done ≡ answer s.map (op.Insert k v) = sym (ap (λ o. (whole_insert s.map k v o).0) none) in
        goes p opening h s m' (kept p s.locks t rs) (changed (standing s t) k None) t (op.Insert k v) reply.Done g q hold' live_t refl
        (subst (λ z. Invariant shape m' (modes hold') (with_part g.part t (finished (g.part t) (op.Insert k v) z ((k, None) ∷ (g.part t).changes) (k ∷ (g.part t).moved))) c) (sym a_is)
        (insert_keeps shape s.map (modes hold2) g.part c inv2 t unscanned (modes hold')
        (insert_taken p laws safe s.map m' s.locks g.part hold2 c inv2 sim2 t unrolled k hn absent there alike g_n g_k clear q into (λ y h. inr h) refl brought) shape_covered k v none
        (next_granted p laws safe s.map s.locks g.part hold2 c inv2 sim2 t unrolled k absent g_n)
        (insert_after p laws safe s.map m' s.locks g.part hold2 c inv2 sim2 t unrolled k hn absent there alike g_n g_k clear q into (λ y h. inr h) refl brought)))
        (subst (λ w. Sim p m' (kept p s.locks t (request_at (Some (Key k)) (p.ask row.Insert Current w) ++ request_at (Some x) (p.ask row.Insert Next w))) (with_part g.part t q) hold') same
        (insert_sim p laws safe s.map m' s.locks g.part hold2 c inv2 sim2 t unrolled k hn absent there alike g_n g_k clear q into (λ y h. inr h) refl brought))
        (λ live. reads_one (op.Insert k v) reply.Done refl (λ f. refl))
        (record { scan = subst (λ z. StandsScan None z) (sym idle_now) tt; changes = ap (λ l. (k, None) ∷ l) same_changes; rolling = same_rolling })

    -- A key that is present is deleted.
    gone_key : (k v : ℕ) → get s.map k ≡ Some v
        → let n = own s.locks t (after s.map k) in
        let rs = request_at (Some (Key k)) (p.ask row.Delete Current n) ++ request_at (Some (after s.map k)) (p.ask row.Delete Next n) in
        blockers p s.locks t rs ≡ []
        → KnownAfter p opening h t (op.Delete k) (reply.Deleted v, state_after s (without s.map k) (kept p s.locks t rs) (put nat_cmp t (changed (standing s t) k (Some v)) s.active))
    gone_key k v there free =
        let x = after s.map k in
        let n = own s.locks t x in
        let a = p.ask row.Delete Current n in
        let b = p.ask row.Delete Next n in
        let rs = request_at (Some (Key k)) a ++ request_at (Some x) b in
        let i = g.inv in
        let z = g.sim in
        let pr = z.paired in
        let is = has_some s.map k v there in
        let m' : Map = without s.map k in
        let hn : IsMap m' = IsMap-restore s.map k None i.is_map in
        let gone : has m' k ≡ false = has_none m' k (restore_here s.map k None) in
        let alike : Alike k s.map m' = λ y ne. has_apart s.map k None y ne in
        let grant_n = granted_at p laws s.locks t rs free range row.Delete Next x n (range t x) (λ r j. in_right r (request_at (Some (Key k)) a) (request_at (Some x) b) j) in
        let grant_k = granted_at p laws s.locks t rs free range row.Delete Current (Key k) n (range t x) (λ r j. in_left r (request_at (Some (Key k)) a) (request_at (Some x) b) j) in
        let same : (g.hold t x).mode ≡ n = pr.mode t x in
        let g_n = subst (λ w. Granted p (own s.locks) t row.Delete Next x w) (sym same) grant_n in
        let g_k = subst (λ w. Granted p (own s.locks) t row.Delete Current (Key k) w) (sym same) grant_k in
        let q : Part = finished (g.part t) (op.Delete k) (reply.Deleted v) ((k, Some v) ∷ (g.part t).changes) (k ∷ (g.part t).moved) in
        let into : (y : ℕ) → Moved q y → (Moved (g.part t) y) ⊎ (y ≡ k) = λ y h. ⊎_elim (λ e. inr e) (λ older. inl older) h in
        let older : (y : ℕ) → InsertedIn q.changes y → InsertedIn (g.part t).changes y = λ y h. inserted_older k v (g.part t).changes y h in
        let hold' : Holds = delete_holds p laws safe s.map m' s.locks g.part g.hold c i z t unrolled k hn is gone alike g_k g_n q into (λ y h. inr h) (inl refl) refl older in
        let a_is : reply.Deleted v ≡ answer s.map (op.Delete k) = sym (ap (λ o. (whole_delete s.map k o).0) there) in
        goes p opening h s m' (kept p s.locks t rs) (changed (standing s t) k (Some v)) t (op.Delete k) (reply.Deleted v) g q hold' live_t refl
        (subst (λ z. Invariant shape m' (modes hold') (with_part g.part t (finished (g.part t) (op.Delete k) z ((k, Some v) ∷ (g.part t).changes) (k ∷ (g.part t).moved))) c) (sym a_is)
        (delete_keeps shape s.map (modes g.hold) g.part c i t unscanned (modes hold')
        (delete_taken p laws safe s.map m' s.locks g.part g.hold c i z t unrolled k hn is gone alike g_k g_n q into (λ y h. inr h) (inl refl) refl older) shape_covered k v there
        (key_granted p laws safe s.map m' s.locks g.part g.hold c i z t unrolled k hn is gone alike g_k g_n q into (λ y h. inr h) (inl refl) refl older)
        (above_granted p laws safe s.map m' s.locks g.part g.hold c i z t unrolled k hn is gone alike g_k g_n q into (λ y h. inr h) (inl refl) refl older)
        (delete_after p laws safe s.map m' s.locks g.part g.hold c i z t unrolled k hn is gone alike g_k g_n q into (λ y h. inr h) (inl refl) refl older)))
        (subst (λ w. Sim p m' (kept p s.locks t (request_at (Some (Key k)) (p.ask row.Delete Current w) ++ request_at (Some x) (p.ask row.Delete Next w))) (with_part g.part t q) hold') same
        (delete_sim p laws safe s.map m' s.locks g.part g.hold c i z t unrolled k hn is gone alike g_k g_n q into (λ y h. inr h) (inl refl) refl older))
        (λ live. reads_one (op.Delete k) (reply.Deleted v) refl (λ f. refl))
        (record { scan = subst (λ z. StandsScan None z) (sym idle_now) tt; changes = ap (λ l. (k, Some v) ∷ l) same_changes; rolling = same_rolling })

    -- A key that is present is updated.
    new_value : (k v w : ℕ) → p.updates ≡ true → get s.map k ≡ Some w
        → let rs = request_at (Some (Key k)) (p.ask row.Update Current 0) ++ [] in
        blockers p s.locks t rs ≡ []
        → KnownAfter p opening h t (op.Update k v) (reply.Updated w, state_after s (set s.map k v) (kept p s.locks t rs) (put nat_cmp t (changed (standing s t) k (Some w)) s.active))
    new_value k v w up there free =
        let a = p.ask row.Update Current 0 in
        let rs = request_at (Some (Key k)) a ++ [] in
        let i = g.inv in
        let z = g.sim in
        let is = has_some s.map k w there in
        let m' : Map = set s.map k v in
        let ask : MayAsk p row.Update Current (g.hold t (Key k)) nothing = (stands_kept p s.map g.part g.hold z.placed t (Key k) unrolled is, up) in
        let grant = granted_at p laws s.locks t rs free range row.Update Current (Key k) 0 (omega arith) (λ r j. in_left r (request_at (Some (Key k)) a) [] j) in
        let hold' : Holds = row_holds p laws safe s.map s.locks g.part g.hold c i z t unrolled row.Update Current (Key k) ask (omega arith) grant in
        let q : Part = finished (g.part t) (op.Update k v) (reply.Updated w) ((k, Some w) ∷ (g.part t).changes) (g.part t).moved in
        let a_is : reply.Updated w ≡ answer s.map (op.Update k v) = sym (ap (λ o. (whole_update s.map k v o).0) there) in
        let keys : (y : ℕ) → has m' y ≡ has s.map y = λ y. ⊎_elim (λ e. ap (has m') e ∙ has_some m' k v (restore_here s.map k (Some v)) ∙ sym (ap (has s.map) e ∙ is)) (λ ne. has_apart s.map k (Some v) y ne) (cases_eq y k) in
        goes p opening h s m' (kept p s.locks t rs) (changed (standing s t) k (Some w)) t (op.Update k v) (reply.Updated w) g q hold' live_t refl
        (subst (λ z. Invariant shape m' (modes hold') (with_part g.part t (finished (g.part t) (op.Update k v) z ((k, Some w) ∷ (g.part t).changes) (g.part t).moved)) c) (sym a_is)
        (update_keeps shape s.map (modes g.hold) g.part c i t unscanned (modes hold')
        (row_taken p laws safe s.map s.locks g.part g.hold c i z t unrolled row.Update Current (Key k) ask (omega arith) grant) shape_covered refl k v w there
        (row_granted p laws safe s.map s.locks g.part g.hold c i z t unrolled row.Update Current (Key k) ask (omega arith) grant tt 0)
        (row_after p laws safe s.map s.locks g.part g.hold c i z t unrolled row.Update Current (Key k) ask (omega arith) grant)))
        (sim_keys p s.map m' (kept p s.locks t rs) (with_part g.part t q) hold' i.is_map (IsMap-restore s.map k (Some v) i.is_map) keys
        (subst (λ l. Sim p s.map l (with_part g.part t q) hold') (sym (kept_append p s.locks t (request_at (Some (Key k)) a) []))
        (row_sim p laws safe s.map s.locks g.part g.hold c i z t unrolled row.Update Current (Key k) ask (omega arith) grant (λ u ne. tt) is refl refl q refl refl (λ y h. inserted_older k w (g.part t).changes y h))))
        (λ live. reads_one (op.Update k v) (reply.Updated w) refl (λ f. refl))
        (record { scan = subst (λ z. StandsScan None z) (sym idle_now) tt; changes = ap (λ l. (k, Some w) ∷ l) same_changes; rolling = same_rolling })

    -- By what stands at the key and by who conflicts --

    fetch_decided : (k : ℕ) (v : Option ℕ) (bs : List ℕ) → get s.map k ≡ v
        → blockers p s.locks t (requests_of p s.locks t (if is_some v then access row.FetchHit (Some (Key k)) None else access row.FetchMiss None (Some (at s.map k)))) ≡ bs
        → KnownAfter p opening h t (op.Fetch k) (granted_or_blocked p s t (requests_of p s.locks t (if is_some v then access row.FetchHit (Some (Key k)) None else access row.FetchMiss None (Some (at s.map k)))) (fetched s.map (standing s t) v) bs)
    fetch_decided k v (u ∷ us) e b = stays p opening h s t (op.Fetch k) (reply.Blocked (u ∷ us)) g refl refl
    fetch_decided k (Some w) [] e b = hit (op.Fetch k) (reply.Found w) k w e refl (sym (ap found_or_none e)) (λ q z. z) refl (λ f. refl) refl b
    fetch_decided k None [] e b = miss (op.Fetch k) reply.None k e refl (sym (ap found_or_none e)) (λ q z. z) refl (λ f. refl) refl b

    insert_decided : (k v : ℕ) (w : Option ℕ) (bs : List ℕ) → get s.map k ≡ w
        → blockers p s.locks t (requests_of p s.locks t (if is_some w then access row.FetchHit (Some (Key k)) None else access row.Insert (Some (Key k)) (Some (at s.map k)))) ≡ bs
        → KnownAfter p opening h t (op.Insert k v) (granted_or_blocked p s t (requests_of p s.locks t (if is_some w then access row.FetchHit (Some (Key k)) None else access row.Insert (Some (Key k)) (Some (at s.map k)))) (inserted s.map (standing s t) k v w) bs)
    insert_decided k v w (u ∷ us) e b = stays p opening h s t (op.Insert k v) (reply.Blocked (u ∷ us)) g refl refl
    insert_decided k v (Some w) [] e b =
        hit (op.Insert k v) reply.Duplicate k w e (ap (λ o. (whole_insert s.map k v o).1) e) (sym (ap (λ o. (whole_insert s.map k v o).0) e)) (λ q z. z) refl (λ f. refl) refl b
    insert_decided k v None [] e b = new_key k v e b

    delete_decided : (k : ℕ) (w : Option ℕ) (bs : List ℕ) → get s.map k ≡ w
        → blockers p s.locks t (requests_of p s.locks t (if is_some w then access row.Delete (Some (Key k)) (Some (after s.map k)) else access row.FetchMiss None (Some (at s.map k)))) ≡ bs
        → KnownAfter p opening h t (op.Delete k) (granted_or_blocked p s t (requests_of p s.locks t (if is_some w then access row.Delete (Some (Key k)) (Some (after s.map k)) else access row.FetchMiss None (Some (at s.map k)))) (deleted s.map (standing s t) k w) bs)
    delete_decided k w (u ∷ us) e b = stays p opening h s t (op.Delete k) (reply.Blocked (u ∷ us)) g refl refl
    delete_decided k (Some w) [] e b = gone_key k w e b
    delete_decided k None [] e b =
        miss (op.Delete k) reply.Absent k e (ap (λ o. (whole_delete s.map k o).1) e) (sym (ap (λ o. (whole_delete s.map k o).0) e)) (λ q z. z) refl (λ f. refl) refl b

    update_decided : (k v : ℕ) (w : Option ℕ) (bs : List ℕ) → p.updates ≡ true → get s.map k ≡ w
        → blockers p s.locks t (requests_of p s.locks t (if is_some w then access row.Update (Some (Key k)) None else access row.FetchMiss None (Some (at s.map k)))) ≡ bs
        → KnownAfter p opening h t (op.Update k v) (granted_or_blocked p s t (requests_of p s.locks t (if is_some w then access row.Update (Some (Key k)) None else access row.FetchMiss None (Some (at s.map k)))) (updated s.map (standing s t) k v w) bs)
    update_decided k v w (u ∷ us) up e b = stays p opening h s t (op.Update k v) (reply.Blocked (u ∷ us)) g refl refl
    update_decided k v (Some w) [] up e b = new_value k v w up e b
    update_decided k v None [] up e b =
        miss (op.Update k v) reply.Absent k e (ap (λ o. (whole_update s.map k v o).1) e) (sym (ap (λ o. (whole_update s.map k v o).0) e)) (λ q z. z) refl (λ f. refl) refl b

    -- A fetch, an insert, a delete and an update, granted or blocked.
    pub fetches : (k : ℕ) → KnownAfter p opening h t (op.Fetch k) (performed p s t (op.Fetch k))
    fetches k = fetch_decided k (get s.map k) (blockers p s.locks t (requests_of p s.locks t (access_of s.map (attempt.Fetch k)))) refl refl

    pub inserts : (k v : ℕ) → KnownAfter p opening h t (op.Insert k v) (performed p s t (op.Insert k v))
    inserts k v = insert_decided k v (get s.map k) (blockers p s.locks t (requests_of p s.locks t (access_of s.map (attempt.Insert k)))) refl refl

    pub deletes : (k : ℕ) → KnownAfter p opening h t (op.Delete k) (performed p s t (op.Delete k))
    deletes k = delete_decided k (get s.map k) (blockers p s.locks t (requests_of p s.locks t (access_of s.map (attempt.Delete k)))) refl refl

    pub updates : p.updates ≡ true → (k v : ℕ) → KnownAfter p opening h t (op.Update k v) (performed p s t (op.Update k v))
    updates up k v = update_decided k v (get s.map k) (blockers p s.locks t (requests_of p s.locks t (access_of s.map (attempt.Update k)))) up refl refl
