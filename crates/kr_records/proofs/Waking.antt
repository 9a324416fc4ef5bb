-- What a step's reply says of those who wait.
use Rattle.std.proofs.Common.{◌≡◌, ◌≢◌, ℕ, ◌<◌, ◌≤◌, ◌==◌, ◌||◌, Bool, true, false, not, cond, List, [], ◌∷◌, ◌++◌, Option, Some, None, unwrap_or, refl, ap, sym, ◌∙◌, subst, arith, ⊎_elim, inl, inr}
use Rattle.std.specs.Prelude.{◌⊎◌, nat_le}
use Rattle.std.specs.List.{list_any}
use Rattle.std.specs.FinMap.{find}
use Rattle.std.proofs.lemmas.Bool.{false≢true}
use Rattle.std.proofs.lemmas.Bool.Decides.{eqb_tells}
use Rattle.kr_model.specs.declared.Name.{Name}
use Rattle.kr_model.specs.declared.Name.TheVariants.{Key, End}
use Rattle.kr_model.specs.declared.Span.{Span}
use Rattle.kr_model.specs.declared.Span.TheVariants.{Instant, Commit}
use Rattle.kr_model.specs.declared.Step.{Step}
use Rattle.kr_model.specs.declared.Step.TheVariants as attempt
use Rattle.kr_model.specs.declared.Op.{Op}
use Rattle.kr_model.specs.declared.Op.TheVariants as op
use Rattle.kr_model.specs.declared.Reply.{Reply}
use Rattle.kr_model.specs.declared.Reply.TheVariants as reply
use Rattle.kr_model.specs.declared.Refusal.{Refusal}
use Rattle.kr_model.specs.Protocol.{Protocol, IsLawful, IsMode}
use Rattle.kr_model.specs.Map.{Map, IsMap, Changes, get}
use Rattle.kr_model.specs.Locks.{Locks, Request, holder_cmp, add_once, own, keep, kept, kept_one, release, blockers}
use Rattle.kr_model.specs.Plan.{plan_of, requests, access_of}
use Rattle.kr_model.specs.State.{State, Active, Scan, idle, standing}
use Rattle.kr_model.specs.Step.{Effect, effect, refusal_of, unless_refused, performed, step, after_effect, granted_or_blocked, attempted, attempted_scan, fetched, inserted, deleted, updated, looked, row_read, scan_ended, name_to_look, one_taken_back, ended_with}
use Rattle.kr_model.specs.Run.{is_committed}
use Rattle.kr_model.specs.WellFormed.{IsState}
use Rattle.kr_model.proofs.Actives.{any_add_once, tied, untied, find_put_other, find_filter_other}
use Rattle.kr_model.proofs.LockLaws.{own-keep_same, own-keep_other, own-release_other, find-release, name_or_not}
use Rattle.kr_model.proofs.Requests.{AskModes, AreLocks, asks_by, kept_locks}
use Rattle.kr_model.proofs.WellFormedLaws.{step_keeps_state}
use Rattle.kr_records.specs.Wakes.{KeepsConflicts, keys_of, KeepWaiting, WaitForNoMore, FreesNobody, LeavesKeys, BlocksNobody}
use Rattle.kr_records.proofs.Keys.{keys_set}
use Rattle.kr_records.proofs.Ways.{Stay, waits_still, is_plain, plain_fetch, plain_insert, plain_delete, plain_update, plain_look}

-- Locks --

-- Requests that are granted leave the locks of others.
kept_other : (p : Protocol) (h : Locks) (t v : ℕ) (n : Name) (rs : List Request) → v ≢ t → own (kept p h t rs) v n ≡ own h v n
kept_other p h t v n [] apart = refl
kept_other p h t v n (r ∷ rs) apart = kept_other p (kept_one p h t r.0 r.1 r.2) t v n rs apart ∙ one r.2
  where
    one : (span : Span) → own (kept_one p h t r.0 r.1 span) v n ≡ own h v n
    one Instant = refl
    one Commit = own-keep_other h t r.0 (p.convert (own h t r.0) r.1) v n (λ same_name same. apart same)

-- What conflicts with a request is a mode.
some_mode : (p : Protocol) → IsLawful p → (m held : ℕ) → m ≤ p.count → held ≤ p.count → p.ok m held ≡ false → IsMode p held
some_mode p laws m held within few closed = record { some = ⊎_elim never (λ some. some) (zero_or held); in_range = few }
  where
    zero_or : (k : ℕ) → (k ≡ 0) ⊎ (0 < k)
    zero_or k = grind arith

    never : held ≡ 0 → 0 < held
    never none = absurd (false≢true (sym closed ∙ ap (λ x. p.ok m x) none ∙ laws.ok-none_held m within))

-- And what conflicted with an own lock conflicts with it still.
kept_closed : (p : Protocol) → IsLawful p → KeepsConflicts p → (h : Locks) (t : ℕ) (n : Name) (rs : List Request) (m : ℕ) → AreLocks p h → AskModes p rs → IsMode p m → p.ok m (own h t n) ≡ false → p.ok m (own (kept p h t rs) t n) ≡ false
kept_closed p laws keeps h t n [] m locks modes mode closed = closed
kept_closed p laws keeps h t n (r ∷ rs) m locks modes mode closed =
    kept_closed p laws keeps (kept_one p h t r.0 r.1 r.2) t n rs m (kept_locks p laws h t (r ∷ []) (modes.0, tt) locks) modes.1 mode (one r.2)
  where
    one : (span : Span) → p.ok m (own (kept_one p h t r.0 r.1 span) t n) ≡ false
    one Instant = closed
    one Commit = ⊎_elim here there (name_or_not n r.0)
      where
        here : n ≡ r.0 → p.ok m (own (keep h t r.0 (p.convert (own h t r.0) r.1)) t n) ≡ false
        here same =
            let was : p.ok m (own h t r.0) ≡ false = ap (λ x. p.ok m (own h t x)) (sym same) ∙ closed in
            ap (λ x. p.ok m (own (keep h t r.0 (p.convert (own h t r.0) r.1)) t x)) same ∙ ap (λ x. p.ok m x) (own-keep_same h t r.0 (p.convert (own h t r.0) r.1))
            ∙ keeps m (own h t r.0) r.1 mode (some_mode p laws m (own h t r.0) mode.in_range (locks.within t r.0) was) modes.0 was

        there : (n ≡ r.0 → ⊥) → p.ok m (own (keep h t r.0 (p.convert (own h t r.0) r.1)) t n) ≡ false
        there other = ap (λ x. p.ok m x) (own-keep_other h t r.0 (p.convert (own h t r.0) r.1) t n (λ same_name same. other same_name)) ∙ closed

-- Steps that leave the keys --

-- Whether a step with this reply adds locks at most, or changes the value of a key.
abbrev pub is_quiet : Reply → Bool
is_quiet reply.Committed = false
is_quiet reply.Aborted = false
is_quiet reply.Done = false
is_quiet (reply.Deleted v) = false
is_quiet (reply.Undone n) = false
is_quiet _ = true

same_or_closed : (p : Protocol) → IsLawful p → KeepsConflicts p → (s : State) → IsState p s → (t : ℕ) (rs : List Request) → AskModes p rs → (v : ℕ) (n : Name) (m : ℕ) → IsMode p m → p.ok m (own s.locks v n) ≡ false → p.ok m (own (kept p s.locks t rs) v n) ≡ false
same_or_closed p laws keeps s is t rs modes v n m mode closed = ⊎_elim mine other (eqb_tells v t)
  where
    mine : ((v == t) ≡ true) × (v ≡ t) → p.ok m (own (kept p s.locks t rs) v n) ≡ false
    mine e =
        ap (λ x. p.ok m (own (kept p s.locks t rs) x n)) e.1
        ∙ kept_closed p laws keeps s.locks t n rs m (record { rise = is.are_locks; within = is.within; no_none = is.no_none }) modes mode (ap (λ x. p.ok m (own s.locks x n)) (sym e.1) ∙ closed)

    other : ((v == t) ≡ false) × (v ≢ t) → p.ok m (own (kept p s.locks t rs) v n) ≡ false
    other e = ap (λ x. p.ok m x) (kept_other p s.locks t v n rs e.1) ∙ closed

-- A granted attempt that leaves the keys.
granted_still : (p : Protocol) → IsLawful p → KeepsConflicts p → (s : State) → IsState p s → (t : ℕ) (rs : List Request) (e : Effect) → AskModes p rs → keys_of e.map ≡ keys_of s.map → KeepWaiting p s (after_effect p s t rs e).1 t
granted_still p laws keeps s is t rs e modes keys u o apart full v waits =
    waits_still p laws s (after_effect p s t rs e).1 is u o stay refl (ap (λ x. unwrap_or x idle) (find_put_other s.active t u e.standing apart)) full v waits
  where
    stay : Stay p s (after_effect p s t rs e).1 u
    stay = record {
      keys = keys;
      own_same = λ n. kept_other p s.locks t u n rs apart;
      others = λ w n m away mode closed. same_or_closed p laws keeps s is t rs modes w n m mode closed;
    }

blocked_or_granted : (p : Protocol) → IsLawful p → KeepsConflicts p → (s : State) → IsState p s → (t : ℕ) (rs : List Request) (e : Effect) (bs : List ℕ) → AskModes p rs → (is_quiet e.reply ≡ true → keys_of e.map ≡ keys_of s.map) → is_quiet (granted_or_blocked p s t rs e bs).0 ≡ true → KeepWaiting p s (granted_or_blocked p s t rs e bs).1 t
blocked_or_granted p laws keeps s is t rs e [] modes keys quiet = granted_still p laws keeps s is t rs e modes (keys quiet)
blocked_or_granted p laws keeps s is t rs e (b ∷ bs) modes keys quiet = λ u o apart full v waits. waits

attempt_still : (p : Protocol) → IsLawful p → KeepsConflicts p → (s : State) → IsState p s → (t : ℕ) (a : Step) (e : Effect) → (is_quiet e.reply ≡ true → keys_of e.map ≡ keys_of s.map) → is_quiet (attempted p s t a e).0 ≡ true → KeepWaiting p s (attempted p s t a e).1 t
attempt_still p laws keeps s is t a e keys quiet =
    let rs = requests (plan_of p s.map s.locks t a) in
    blocked_or_granted p laws keeps s is t rs e (blockers p s.locks t rs) (asks_by p laws s.locks is.within t (access_of s.map a)) keys quiet

fetch_keys : (m : Map) (a : Active) (o : Option ℕ) → keys_of (fetched m a o).map ≡ keys_of m
fetch_keys m a (Some v) = refl
fetch_keys m a None = refl

insert_keys : (m : Map) (a : Active) (k v : ℕ) (o : Option ℕ) → is_quiet (inserted m a k v o).reply ≡ true → keys_of (inserted m a k v o).map ≡ keys_of m
insert_keys m a k v (Some w) quiet = refl
insert_keys m a k v None quiet = absurd (false≢true quiet)

delete_keys : (m : Map) (a : Active) (k : ℕ) (o : Option ℕ) → is_quiet (deleted m a k o).reply ≡ true → keys_of (deleted m a k o).map ≡ keys_of m
delete_keys m a k (Some w) quiet = absurd (false≢true quiet)
delete_keys m a k None quiet = refl

update_keys : (m : Map) (a : Active) (k v : ℕ) (o : Option ℕ) → IsMap m → get m k ≡ o → keys_of (updated m a k v o).map ≡ keys_of m
update_keys m a k v (Some w) is there = keys_set m k v w is there
update_keys m a k v None is there = refl

row_keys : (m : Map) (a : Active) (c : Scan) (k v : ℕ) → keys_of (row_read m a c k v).map ≡ keys_of m
row_keys m a c k v = by (k == c.hi)
  where
    by : (b : Bool) → keys_of (cond b (scan_ended m a (c.rows ++ (k, v) ∷ [])) (effect (reply.Going k) m (record a { scan = Some (record { lo = c.lo; hi = c.hi; rows = c.rows ++ (k, v) ∷ [] }) }))).map ≡ keys_of m
    by true = refl
    by false = refl

look_keys : (m : Map) (a : Active) (c : Scan) (n : Name) → keys_of (looked m a c n).map ≡ keys_of m
look_keys m a c End = refl
look_keys m a c (Key k) = by (nat_le k c.hi) (row_keys m a c k (unwrap_or (get m k) 0))
  where
    by : (b : Bool) → keys_of (row_read m a c k (unwrap_or (get m k) 0)).map ≡ keys_of m → keys_of (cond b (row_read m a c k (unwrap_or (get m k) 0)) (scan_ended m a c.rows)).map ≡ keys_of m
    by true read = read
    by false read = refl

scan_still : (p : Protocol) → IsLawful p → KeepsConflicts p → (s : State) → IsState p s → (t : ℕ) (c : Option Scan) → is_quiet (attempted_scan p s t c).0 ≡ true → KeepWaiting p s (attempted_scan p s t c).1 t
scan_still p laws keeps s is t None quiet = λ u o apart full v waits. waits
scan_still p laws keeps s is t (Some c) quiet =
    let n = name_to_look s.map c in
    attempt_still p laws keeps s is t (attempt.Look n c.hi) (looked s.map (standing s t) c n) (λ _. look_keys s.map (standing s t) c n) quiet

back_still : (p : Protocol) (s : State) (t : ℕ) (cs : Changes) → is_quiet (one_taken_back s t cs).0 ≡ true → KeepWaiting p s (one_taken_back s t cs).1 t
back_still p s t [] quiet = λ u o apart full v waits. waits
back_still p s t (c ∷ cs) quiet = absurd (false≢true quiet)

performed_still : (p : Protocol) → IsLawful p → KeepsConflicts p → (s : State) → IsState p s → (t : ℕ) (o : Op) → is_quiet (performed p s t o).0 ≡ true → KeepWaiting p s (performed p s t o).1 t
performed_still p laws keeps s is t (op.Fetch k) quiet = attempt_still p laws keeps s is t (attempt.Fetch k) (fetched s.map (standing s t) (get s.map k)) (λ _. fetch_keys s.map (standing s t) (get s.map k)) quiet
performed_still p laws keeps s is t (op.Scan lo hi) quiet = scan_still p laws keeps s is t (Some (record { lo = lo; hi = hi; rows = [] })) quiet
performed_still p laws keeps s is t op.Go quiet = scan_still p laws keeps s is t (standing s t).scan quiet
performed_still p laws keeps s is t (op.Insert k v) quiet = attempt_still p laws keeps s is t (attempt.Insert k) (inserted s.map (standing s t) k v (get s.map k)) (insert_keys s.map (standing s t) k v (get s.map k)) quiet
performed_still p laws keeps s is t (op.Delete k) quiet = attempt_still p laws keeps s is t (attempt.Delete k) (deleted s.map (standing s t) k (get s.map k)) (delete_keys s.map (standing s t) k (get s.map k)) quiet
performed_still p laws keeps s is t (op.Update k v) quiet = attempt_still p laws keeps s is t (attempt.Update k) (updated s.map (standing s t) k v (get s.map k)) (λ _. update_keys s.map (standing s t) k v (get s.map k) is.is_map refl) quiet
performed_still p laws keeps s is t op.Commit quiet = absurd (false≢true quiet)
performed_still p laws keeps s is t op.Abort quiet = absurd (false≢true quiet)
performed_still p laws keeps s is t op.Back quiet = back_still p s t (standing s t).changes quiet

step_still : (p : Protocol) → IsLawful p → KeepsConflicts p → (s : State) → IsState p s → (t : ℕ) (o : Op) (r : Option Refusal) → is_quiet (unless_refused p s t o r).0 ≡ true → KeepWaiting p s (unless_refused p s t o r).1 t
step_still p laws keeps s is t o (Some r) quiet = λ u o apart full v waits. waits
step_still p laws keeps s is t o None quiet = performed_still p laws keeps s is t o quiet

-- A quiet step lets nobody go on.
pub frees_nobody : (r : Reply) → is_quiet r ≡ true → FreesNobody r
frees_nobody r quiet p laws keeps s is t o here = step_still p laws keeps s is t o (refusal_of p s t o) (ap is_quiet here ∙ quiet)

-- Keys --

-- Whether a step with this reply leaves the keys.
abbrev pub leaves_keys : Reply → Bool
leaves_keys reply.Committed = true
leaves_keys r = is_quiet r

attempt_keys : (p : Protocol) (s : State) (t : ℕ) (rs : List Request) (e : Effect) (bs : List ℕ) → (leaves_keys e.reply ≡ true → keys_of e.map ≡ keys_of s.map) → leaves_keys (granted_or_blocked p s t rs e bs).0 ≡ true → keys_of (granted_or_blocked p s t rs e bs).1.map ≡ keys_of s.map
attempt_keys p s t rs e [] keys leaves = keys leaves
attempt_keys p s t rs e (b ∷ bs) keys leaves = refl

insert_left : (m : Map) (a : Active) (k v : ℕ) (o : Option ℕ) → leaves_keys (inserted m a k v o).reply ≡ true → keys_of (inserted m a k v o).map ≡ keys_of m
insert_left m a k v (Some w) leaves = refl
insert_left m a k v None leaves = absurd (false≢true leaves)

delete_left : (m : Map) (a : Active) (k : ℕ) (o : Option ℕ) → leaves_keys (deleted m a k o).reply ≡ true → keys_of (deleted m a k o).map ≡ keys_of m
delete_left m a k (Some w) leaves = absurd (false≢true leaves)
delete_left m a k None leaves = refl

touch_keys : (p : Protocol) (s : State) (t : ℕ) (a : Step) (e : Effect) → (leaves_keys e.reply ≡ true → keys_of e.map ≡ keys_of s.map) → leaves_keys (attempted p s t a e).0 ≡ true → keys_of (attempted p s t a e).1.map ≡ keys_of s.map
touch_keys p s t a e keys leaves =
    let rs = requests (plan_of p s.map s.locks t a) in
    attempt_keys p s t rs e (blockers p s.locks t rs) keys leaves

scan_keys : (p : Protocol) (s : State) (t : ℕ) (c : Option Scan) → leaves_keys (attempted_scan p s t c).0 ≡ true → keys_of (attempted_scan p s t c).1.map ≡ keys_of s.map
scan_keys p s t None leaves = refl
scan_keys p s t (Some c) leaves =
    let n = name_to_look s.map c in
    touch_keys p s t (attempt.Look n c.hi) (looked s.map (standing s t) c n) (λ _. look_keys s.map (standing s t) c n) leaves

back_keys : (s : State) (t : ℕ) (cs : Changes) → leaves_keys (one_taken_back s t cs).0 ≡ true → keys_of (one_taken_back s t cs).1.map ≡ keys_of s.map
back_keys s t [] leaves = refl
back_keys s t (c ∷ cs) leaves = absurd (false≢true leaves)

performed_keys : (p : Protocol) (s : State) → IsMap s.map → (t : ℕ) (o : Op) → leaves_keys (performed p s t o).0 ≡ true → keys_of (performed p s t o).1.map ≡ keys_of s.map
performed_keys p s is t (op.Fetch k) leaves = touch_keys p s t (attempt.Fetch k) (fetched s.map (standing s t) (get s.map k)) (λ _. fetch_keys s.map (standing s t) (get s.map k)) leaves
performed_keys p s is t (op.Scan lo hi) leaves = scan_keys p s t (Some (record { lo = lo; hi = hi; rows = [] })) leaves
performed_keys p s is t op.Go leaves = scan_keys p s t (standing s t).scan leaves
performed_keys p s is t (op.Insert k v) leaves = touch_keys p s t (attempt.Insert k) (inserted s.map (standing s t) k v (get s.map k)) (insert_left s.map (standing s t) k v (get s.map k)) leaves
performed_keys p s is t (op.Delete k) leaves = touch_keys p s t (attempt.Delete k) (deleted s.map (standing s t) k (get s.map k)) (delete_left s.map (standing s t) k (get s.map k)) leaves
performed_keys p s is t (op.Update k v) leaves = touch_keys p s t (attempt.Update k) (updated s.map (standing s t) k v (get s.map k)) (λ _. update_keys s.map (standing s t) k v (get s.map k) is refl) leaves
performed_keys p s is t op.Commit leaves = refl
performed_keys p s is t op.Abort leaves = absurd (false≢true leaves)
performed_keys p s is t op.Back leaves = back_keys s t (standing s t).changes leaves

step_keys : (p : Protocol) (s : State) → IsMap s.map → (t : ℕ) (o : Op) (r : Option Refusal) → leaves_keys (unless_refused p s t o r).0 ≡ true → keys_of (unless_refused p s t o r).1.map ≡ keys_of s.map
step_keys p s is t o (Some r) leaves = refl
step_keys p s is t o None leaves = performed_keys p s is t o leaves

pub keys_left : (r : Reply) → leaves_keys r ≡ true → LeavesKeys r
keys_left r leaves p s is t o here = step_keys p s is t o (refusal_of p s t o) (ap leaves_keys here ∙ leaves)

-- Commits --

-- Nobody waits for a transaction that released its locks, and for others as before.
released : (p : Protocol) → IsLawful p → (s new : State) → IsState p new → (t : ℕ) → new.locks ≡ release s.locks t → (v : ℕ) (n : Name) (m : ℕ) → IsMode p m → p.ok m (own new.locks v n) ≡ false → p.ok m (own s.locks v n) ≡ false
released p laws s new is t locks v n m mode closed = ⊎_elim mine other (eqb_tells v t)
  where
    none : own (release s.locks t) t n ≡ 0
    none = ap (λ o. unwrap_or o 0) (find-release s.locks t (n, t)) ∙ ap (λ b. unwrap_or (cond (not b) (find holder_cmp (n, t) s.locks) None) 0) (tied t)

    mine : ((v == t) ≡ true) × (v ≡ t) → p.ok m (own s.locks v n) ≡ false
    mine e = absurd (false≢true (sym closed ∙ ap (λ x. p.ok m (own new.locks x n)) e.1 ∙ ap (λ l. p.ok m (own l t n)) locks ∙ ap (λ x. p.ok m x) none ∙ laws.ok-none_held m mode.in_range))

    other : ((v == t) ≡ false) × (v ≢ t) → p.ok m (own s.locks v n) ≡ false
    other e = ap (λ x. p.ok m x) (sym (own-release_other s.locks t v n e.1)) ∙ ap (λ l. p.ok m (own l v n)) (sym locks) ∙ closed

ended_still : (s : State) (t u : ℕ) → u ≢ t → list_any (λ w. w == u) (add_once t s.ended) ≡ list_any (λ w. w == u) s.ended
ended_still s t u apart = any_add_once (λ w. w == u) t s.ended ∙ ap (λ b. b || list_any (λ w. w == u) s.ended) (untied t u (λ same. apart (sym same)))

-- After a commit an operation of another waits for nobody for whom it didn't wait before.
commit_frees : (p : Protocol) → IsLawful p → (s : State) (t : ℕ) → IsState p (ended_with s t s.map) → WaitForNoMore p s (ended_with s t s.map) t
commit_frees p laws s t is u o apart full v waits =
    waits_still p laws (ended_with s t s.map) s is u o stay (sym (ended_still s t u apart)) (sym (ap (λ x. unwrap_or x idle) (find_filter_other s.active t u apart))) full v waits
  where
    stay : Stay p (ended_with s t s.map) s u
    stay = record {
      keys = refl;
      own_same = λ n. sym (own-release_other s.locks t u n apart);
      others = λ w n m away mode closed. released p laws s (ended_with s t s.map) is t refl w n m mode closed;
    }

plain_stays : (r : Reply) → is_plain r ≡ true → is_committed r ≡ false
plain_stays reply.Committed plain = absurd (false≢true plain)
plain_stays _ plain = refl

one_stays : (p : Protocol) (s : State) (t : ℕ) (rs : List Request) (e : Effect) (bs : List ℕ) → is_plain e.reply ≡ true → is_committed (granted_or_blocked p s t rs e bs).0 ≡ false
one_stays p s t rs e [] plain = plain_stays e.reply plain
one_stays p s t rs e (b ∷ bs) plain = refl

touch_stays : (p : Protocol) (s : State) (t : ℕ) (a : Step) (e : Effect) → is_plain e.reply ≡ true → is_committed (attempted p s t a e).0 ≡ false
touch_stays p s t a e plain =
    let rs = requests (plan_of p s.map s.locks t a) in
    one_stays p s t rs e (blockers p s.locks t rs) plain

scan_stays : (p : Protocol) (s : State) (t : ℕ) (c : Option Scan) → is_committed (attempted_scan p s t c).0 ≡ false
scan_stays p s t None = refl
scan_stays p s t (Some c) =
    let n = name_to_look s.map c in
    touch_stays p s t (attempt.Look n c.hi) (looked s.map (standing s t) c n) (plain_look s.map (standing s t) c n)

back_stays : (s : State) (t : ℕ) (cs : Changes) → is_committed (one_taken_back s t cs).0 ≡ false
back_stays s t [] = refl
back_stays s t (c ∷ cs) = refl

-- A commit alone is answered so.
performed_commits : (p : Protocol) (s : State) (t : ℕ) (o : Op) → is_committed (performed p s t o).0 ≡ true → (performed p s t o).1 ≡ ended_with s t s.map
performed_commits p s t (op.Fetch k) h = absurd (false≢true (sym (touch_stays p s t (attempt.Fetch k) (fetched s.map (standing s t) (get s.map k)) (plain_fetch s.map (standing s t) (get s.map k))) ∙ h))
performed_commits p s t (op.Scan lo hi) h = absurd (false≢true (sym (scan_stays p s t (Some (record { lo = lo; hi = hi; rows = [] }))) ∙ h))
performed_commits p s t op.Go h = absurd (false≢true (sym (scan_stays p s t (standing s t).scan) ∙ h))
performed_commits p s t (op.Insert k v) h = absurd (false≢true (sym (touch_stays p s t (attempt.Insert k) (inserted s.map (standing s t) k v (get s.map k)) (plain_insert s.map (standing s t) k v (get s.map k))) ∙ h))
performed_commits p s t (op.Delete k) h = absurd (false≢true (sym (touch_stays p s t (attempt.Delete k) (deleted s.map (standing s t) k (get s.map k)) (plain_delete s.map (standing s t) k (get s.map k))) ∙ h))
performed_commits p s t (op.Update k v) h = absurd (false≢true (sym (touch_stays p s t (attempt.Update k) (updated s.map (standing s t) k v (get s.map k)) (plain_update s.map (standing s t) k v (get s.map k))) ∙ h))
performed_commits p s t op.Commit h = refl
performed_commits p s t op.Abort h = absurd (false≢true h)
performed_commits p s t op.Back h = absurd (false≢true (sym (back_stays s t (standing s t).changes) ∙ h))

step_commits : (p : Protocol) (s : State) (t : ℕ) (o : Op) (r : Option Refusal) → is_committed (unless_refused p s t o r).0 ≡ true → (unless_refused p s t o r).1 ≡ ended_with s t s.map
step_commits p s t o (Some r) h = absurd (false≢true h)
step_commits p s t o None h = performed_commits p s t o h

-- A commit puts nobody in the way of another.
pub blocks_nobody : (r : Reply) → is_committed r ≡ true → BlocksNobody r
blocks_nobody r committed p laws s is t o here =
    let same : (step p s t o).1 ≡ ended_with s t s.map = step_commits p s t o (refusal_of p s t o) (ap is_committed here ∙ committed) in
    subst (λ (x : State). WaitForNoMore p s x t) (sym same) (commit_frees p laws s t (subst (IsState p) same (step_keeps_state p laws s t o is)))

-- The quiet replies --

-- The reply is one of those of a step that adds locks at most, or changes a value.
abbrev pub IsQuiet : Reply → Type 0
IsQuiet r =
    ((v : ℕ) × (r ≡ reply.Found v)) ⊎ ((r ≡ reply.None) ⊎ (((k : ℕ) × (r ≡ reply.Going k)) ⊎ (((rows : List (ℕ × ℕ)) × (r ≡ reply.Rows rows)) ⊎ ((r ≡ reply.Duplicate) ⊎ ((r ≡ reply.Absent)
    ⊎ (((v : ℕ) × (r ≡ reply.Updated v)) ⊎ (((us : List ℕ) × (r ≡ reply.Blocked us)) ⊎ ((x : Refusal) × (r ≡ reply.Refused x)))))))))

quiet_by : (f : Reply → Bool) (r : Reply) → ((v : ℕ) → f (reply.Found v) ≡ true) → f reply.None ≡ true → ((k : ℕ) → f (reply.Going k) ≡ true) → ((rows : List (ℕ × ℕ)) → f (reply.Rows rows) ≡ true) → f reply.Duplicate ≡ true → f reply.Absent ≡ true
    → ((v : ℕ) → f (reply.Updated v) ≡ true) → ((us : List ℕ) → f (reply.Blocked us) ≡ true) → ((x : Refusal) → f (reply.Refused x) ≡ true) → IsQuiet r → f r ≡ true
quiet_by f r a b c d e g h k l (inl x) = ap f x.1 ∙ a x.0
quiet_by f r a b c d e g h k l (inr (inl x)) = ap f x ∙ b
quiet_by f r a b c d e g h k l (inr (inr (inl x))) = ap f x.1 ∙ c x.0
quiet_by f r a b c d e g h k l (inr (inr (inr (inl x)))) = ap f x.1 ∙ d x.0
quiet_by f r a b c d e g h k l (inr (inr (inr (inr (inl x))))) = ap f x ∙ e
quiet_by f r a b c d e g h k l (inr (inr (inr (inr (inr (inl x)))))) = ap f x ∙ g
quiet_by f r a b c d e g h k l (inr (inr (inr (inr (inr (inr (inl x))))))) = ap f x.1 ∙ h x.0
quiet_by f r a b c d e g h k l (inr (inr (inr (inr (inr (inr (inr (inl x)))))))) = ap f x.1 ∙ k x.0
quiet_by f r a b c d e g h k l (inr (inr (inr (inr (inr (inr (inr (inr x)))))))) = ap f x.1 ∙ l x.0

pub quiet_is : (r : Reply) → IsQuiet r → is_quiet r ≡ true
quiet_is r is = quiet_by is_quiet r (λ v. refl) refl (λ k. refl) (λ rows. refl) refl refl (λ v. refl) (λ us. refl) (λ x. refl) is

pub leaves_is : (r : Reply) → IsQuiet r → leaves_keys r ≡ true
leaves_is r is = quiet_by leaves_keys r (λ v. refl) refl (λ k. refl) (λ rows. refl) refl refl (λ v. refl) (λ us. refl) (λ x. refl) is
