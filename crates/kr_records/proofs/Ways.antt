-- Who blocks an operation, before and after a step of another transaction.
use Rattle.std.proofs.Common.{◌≡◌, ◌≢◌, ℕ, ◌≤◌, Bool, true, false, not, cond, List, [], ◌∷◌, ◌++◌, Option, Some, None, is_some, unwrap_or, refl, ap, sym, ◌∙◌, subst, arith}
use Rattle.std.specs.Prelude.{◌&&◌, ◌||◌, ◌==◌, nat_le}
use Rattle.std.specs.List.{list_any, Contains}
use Rattle.std.proofs.lemmas.List.Folds.{list_any_at}
use Rattle.std.proofs.lemmas.List.Elements.{Contains-get_or, Contains-append_right}
use Rattle.std.proofs.lemmas.Bool.Decides.{nat_tests}
use Rattle.kr_model.proofs.Actives.{tied}
use Rattle.std.proofs.lemmas.Bool.{eqb-true, false≢true}
use Rattle.kr_model.specs.declared.Name.{Name}
use Rattle.kr_model.specs.declared.Name.TheVariants.{Key, End}
use Rattle.kr_model.specs.declared.Row.{Row}
use Rattle.kr_model.specs.declared.Row.TheVariants as row
use Rattle.kr_model.specs.declared.Side.TheVariants.{Current, Next}
use Rattle.kr_model.specs.declared.Step.{Step}
use Rattle.kr_model.specs.declared.Step.TheVariants as attempt
use Rattle.kr_model.specs.declared.Op.{Op}
use Rattle.kr_model.specs.declared.Op.TheVariants as op
use Rattle.kr_model.specs.declared.Reply.{Reply}
use Rattle.kr_model.specs.declared.Reply.TheVariants as reply
use Rattle.kr_model.specs.declared.Refusal.{Refusal}
use Rattle.kr_model.specs.declared.Refusal.TheVariants as refusal
use Rattle.kr_model.specs.Protocol.{Protocol, IsLawful, IsMode}
use Rattle.kr_model.specs.Covers.{is_empty}
use Rattle.kr_model.specs.Map.{Map, Changes, get}
use Rattle.kr_model.specs.Locks.{Locks, Request, own, lockers, blockers, conflicts}
use Rattle.kr_model.specs.Plan.{Access, own_next, side_request, plan_by, plan_of, requests, access_of}
use Rattle.kr_model.specs.State.{State, Active, Scan, standing, has_ended}
use Rattle.kr_model.specs.Step.{Effect, effect, is_full, takes_back, goes_on, is_go, is_bad_range, is_update, is_back, refusal_of, unless_refused, performed, step, blockers_in, WaitsFor, granted_or_blocked, attempted, attempted_scan, fetched, inserted, deleted, updated, looked, row_read, scan_ended, name_to_look, one_taken_back}
use Rattle.kr_model.specs.WellFormed.{IsState}
use Rattle.kr_model.proofs.Keep.{kept_mode}
use Rattle.kr_model.proofs.KindsOfSteps.{not_refused}
use Rattle.kr_model.proofs.Requests.{AskModes, asks_by}
use Rattle.kr_model.proofs.RisingNumbers.{has, has-filter, has-lockers}
use Rattle.kr_records.specs.Wakes.{keys_of}
use Rattle.kr_records.proofs.Keys.{access_same, look_same}

-- Refusals --

-- The refusals after that of a full machine, by how the transaction stands.
abbrev later : Protocol → Active → Op → Option Refusal
later p a o =
    cond (a.rolling && not (takes_back o)) (Some refusal.RollingBack)
    (cond (is_some a.scan && not (goes_on o)) (Some refusal.Busy)
    (cond (not (is_some a.scan) && is_go o) (Some refusal.NoScan)
    (cond (is_bad_range o) (Some refusal.BadRange)
    (cond (is_update o && not p.updates) (Some refusal.NoUpdate)
    (cond (is_empty a.changes && is_back o) (Some refusal.NothingLeft) None)))))

abbrev refused_by : Bool → Bool → Option Refusal → Option Refusal
refused_by ended full rest = cond ended (Some refusal.Ended) (cond full (Some refusal.Full) rest)

refused_is : (p : Protocol) (s : State) (u : ℕ) (o : Op) → refusal_of p s u o ≡ refused_by (has_ended s u) (is_full s u) (later p (standing s u) o)
refused_is p s u o = refl

-- What isn't refused isn't refused in another state where the transaction stands as before, and the machine isn't full.
pub stays_free : (p : Protocol) (s new : State) (u : ℕ) (o : Op) → has_ended new u ≡ has_ended s u → is_full new u ≡ false → standing new u ≡ standing s u → refusal_of p s u o ≡ None → refusal_of p new u o ≡ None
stays_free p s new u o ended full stands none =
    let works = not_refused (has_ended s u) refusal.Ended _ none in
    let fits = not_refused (is_full s u) refusal.Full _ works.1 in
    ap (λ b. refused_by b (is_full new u) (later p (standing new u) o)) (ended ∙ works.0)
    ∙ ap (λ b. refused_by false b (later p (standing new u) o)) full ∙ ap (λ a. later p a o) stands ∙ fits.1

-- Who is in the way --

abbrev looks_for : Protocol → State → ℕ → Option Scan → List ℕ
looks_for p s u None = []
looks_for p s u (Some c) = blockers p s.locks u (requests (plan_of p s.map s.locks u (attempt.Look (name_to_look s.map c) c.hi)))

-- Who blocks an operation that isn't refused.
abbrev pub in_way : Protocol → State → ℕ → Op → List ℕ
in_way p s u (op.Fetch k) = blockers p s.locks u (requests (plan_of p s.map s.locks u (attempt.Fetch k)))
in_way p s u (op.Scan lo hi) = looks_for p s u (Some (record { lo = lo; hi = hi; rows = [] }))
in_way p s u op.Go = looks_for p s u (standing s u).scan
in_way p s u (op.Insert k v) = blockers p s.locks u (requests (plan_of p s.map s.locks u (attempt.Insert k)))
in_way p s u (op.Delete k) = blockers p s.locks u (requests (plan_of p s.map s.locks u (attempt.Delete k)))
in_way p s u (op.Update k v) = blockers p s.locks u (requests (plan_of p s.map s.locks u (attempt.Update k)))
in_way p s u op.Commit = []
in_way p s u op.Abort = []
in_way p s u op.Back = []

-- Whether an attempt that is granted may have this reply.
abbrev pub is_plain : Reply → Bool
is_plain (reply.Found v) = true
is_plain reply.None = true
is_plain (reply.Going k) = true
is_plain (reply.Rows rows) = true
is_plain reply.Done = true
is_plain reply.Duplicate = true
is_plain (reply.Deleted v) = true
is_plain reply.Absent = true
is_plain (reply.Updated v) = true
is_plain _ = false

plain_names : (r : Reply) → is_plain r ≡ true → blockers_in r ≡ []
plain_names (reply.Blocked us) plain = absurd (false≢true plain)
plain_names _ plain = refl

named : (p : Protocol) (s : State) (u : ℕ) (rs : List Request) (e : Effect) (bs : List ℕ) → is_plain e.reply ≡ true → blockers_in (granted_or_blocked p s u rs e bs).0 ≡ bs
named p s u rs e [] plain = plain_names e.reply plain
named p s u rs e (b ∷ bs) plain = refl

named_at : (p : Protocol) (s : State) (u : ℕ) (a : Step) (e : Effect) → is_plain e.reply ≡ true → blockers_in (attempted p s u a e).0 ≡ blockers p s.locks u (requests (plan_of p s.map s.locks u a))
named_at p s u a e plain =
    let rs = requests (plan_of p s.map s.locks u a) in
    named p s u rs e (blockers p s.locks u rs) plain

pub plain_fetch : (m : Map) (a : Active) (o : Option ℕ) → is_plain (fetched m a o).reply ≡ true
plain_fetch m a (Some v) = refl
plain_fetch m a None = refl

pub plain_insert : (m : Map) (a : Active) (k v : ℕ) (o : Option ℕ) → is_plain (inserted m a k v o).reply ≡ true
plain_insert m a k v (Some w) = refl
plain_insert m a k v None = refl

pub plain_delete : (m : Map) (a : Active) (k : ℕ) (o : Option ℕ) → is_plain (deleted m a k o).reply ≡ true
plain_delete m a k (Some w) = refl
plain_delete m a k None = refl

pub plain_update : (m : Map) (a : Active) (k v : ℕ) (o : Option ℕ) → is_plain (updated m a k v o).reply ≡ true
plain_update m a k v (Some w) = refl
plain_update m a k v None = refl

plain_row : (m : Map) (a : Active) (c : Scan) (k v : ℕ) → is_plain (row_read m a c k v).reply ≡ true
plain_row m a c k v = by (k == c.hi)
  where
    by : (b : Bool) → is_plain (cond b (scan_ended m a (c.rows ++ (k, v) ∷ [])) (effect (reply.Going k) m (record a { scan = Some (record { lo = c.lo; hi = c.hi; rows = c.rows ++ (k, v) ∷ [] }) }))).reply ≡ true
    by true = refl
    by false = refl

pub plain_look : (m : Map) (a : Active) (c : Scan) (n : Name) → is_plain (looked m a c n).reply ≡ true
plain_look m a c End = refl
plain_look m a c (Key k) = by (nat_le k c.hi) (plain_row m a c k (unwrap_or (get m k) 0))
  where
    by : (b : Bool) → is_plain (row_read m a c k (unwrap_or (get m k) 0)).reply ≡ true → is_plain (cond b (row_read m a c k (unwrap_or (get m k) 0)) (scan_ended m a c.rows)).reply ≡ true
    by true read = read
    by false read = refl

named_scan : (p : Protocol) (s : State) (u : ℕ) (c : Option Scan) → blockers_in (attempted_scan p s u c).0 ≡ looks_for p s u c
named_scan p s u None = refl
named_scan p s u (Some c) =
    let n = name_to_look s.map c in
    named_at p s u (attempt.Look n c.hi) (looked s.map (standing s u) c n) (plain_look s.map (standing s u) c n)

named_back : (s : State) (u : ℕ) (cs : Changes) → blockers_in (one_taken_back s u cs).0 ≡ []
named_back s u [] = refl
named_back s u (c ∷ cs) = refl

named_by : (p : Protocol) (s : State) (u : ℕ) (o : Op) → blockers_in (performed p s u o).0 ≡ in_way p s u o
named_by p s u (op.Fetch k) = named_at p s u (attempt.Fetch k) (fetched s.map (standing s u) (get s.map k)) (plain_fetch s.map (standing s u) (get s.map k))
named_by p s u (op.Scan lo hi) = named_scan p s u (Some (record { lo = lo; hi = hi; rows = [] }))
named_by p s u op.Go = named_scan p s u (standing s u).scan
named_by p s u (op.Insert k v) = named_at p s u (attempt.Insert k) (inserted s.map (standing s u) k v (get s.map k)) (plain_insert s.map (standing s u) k v (get s.map k))
named_by p s u (op.Delete k) = named_at p s u (attempt.Delete k) (deleted s.map (standing s u) k (get s.map k)) (plain_delete s.map (standing s u) k (get s.map k))
named_by p s u (op.Update k v) = named_at p s u (attempt.Update k) (updated s.map (standing s u) k v (get s.map k)) (plain_update s.map (standing s u) k v (get s.map k))
named_by p s u op.Commit = refl
named_by p s u op.Abort = refl
named_by p s u op.Back = named_back s u (standing s u).changes

pub way_of : (p : Protocol) (s : State) (u : ℕ) (o : Op) → refusal_of p s u o ≡ None → blockers_in (step p s u o).0 ≡ in_way p s u o
way_of p s u o none = ap (λ r. blockers_in (unless_refused p s u o r).0) none ∙ named_by p s u o

-- What is refused isn't blocked.
pub not_blocked : (p : Protocol) (s : State) (u : ℕ) (o : Op) (r : Option Refusal) → refusal_of p s u o ≡ r → blockers_in (step p s u o).0 ≢ [] → refusal_of p s u o ≡ None
not_blocked p s u o None is blocked = is
not_blocked p s u o (Some r) is blocked = absurd (blocked (ap (λ x. blockers_in (unless_refused p s u o x).0) is))

-- The same requests --

next_same : (h k : Locks) (u : ℕ) (r : Row) (n : Option Name) → ((x : Name) → own k u x ≡ own h u x) → own_next k u r n ≡ own_next h u r n
next_same h k u row.Insert (Some n) same = same n
next_same h k u row.Delete (Some n) same = same n
next_same h k u _ _ same = refl

by_same : (p : Protocol) (h k : Locks) (u : ℕ) (a : Access) → ((x : Name) → own k u x ≡ own h u x) → plan_by p k u a ≡ plan_by p h u a
by_same p h k u a same = ap (λ o. record { row = a.row; current = side_request a.current (p.ask a.row Current o); next = side_request a.next (p.ask a.row Next o) }) (next_same h k u a.row a.next same)

-- An attempt requests the same where the keys and its transaction's own locks are the same.
plan_same : (p : Protocol) (s new : State) (u : ℕ) (a : Step) → keys_of new.map ≡ keys_of s.map → ((x : Name) → own new.locks u x ≡ own s.locks u x) → plan_of p new.map new.locks u a ≡ plan_of p s.map s.locks u a
plan_same p s new u a keys same = ap (λ x. plan_by p new.locks u x) (access_same new.map s.map a keys) ∙ by_same p s.locks new.locks u (access_of s.map a) same

-- Blockers that stay --

-- Where each lock of another that conflicts with a mode conflicts with it still, and its own locks are the same, an attempt that was blocked is blocked.
pub record Stay (p : Protocol) (s new : State) (u : ℕ) : Type 0 where
  pub keys : keys_of new.map ≡ keys_of s.map
  pub own_same : (n : Name) → own new.locks u n ≡ own s.locks u n
  pub others : (v : ℕ) (n : Name) (m : ℕ) → v ≢ u → IsMode p m → p.ok m (own s.locks v n) ≡ false → p.ok m (own new.locks v n) ≡ false

both_parts : (a b : Bool) → (a && b) ≡ true → (a ≡ true) × (b ≡ true)
both_parts true true h = (refl, refl)
both_parts true false h = absurd (cc)
both_parts false b h = absurd (cc)

not_true : (b : Bool) → not b ≡ true → b ≡ false
not_true true h = absurd (cc)
not_true false h = refl

not_false : (b : Bool) → b ≡ false → not b ≡ true
not_false b h = ap not h

other_of : (v u : ℕ) → not (v == u) ≡ true → v ≢ u
other_of v u h same = grind (arith, nat_tests)

pub or_second : (a b : Bool) → b ≡ true → (a || b) ≡ true
or_second true b h = refl
or_second false b h = h

-- A list has what it contains.
has_of : (us : List ℕ) (v : ℕ) → Contains us v → has us v ≡ true
has_of us v c = list_any_at (λ x. v == x) us c.0 v c.1 (ap (λ x. v == x) c.2 ∙ tied v)

contains_of : (us : List ℕ) (v : ℕ) → has us v ≡ true → Contains us v
contains_of [] v h = absurd (false≢true h)
contains_of (x ∷ xs) v h = by (v == x) refl h (contains_of xs v)
  where
    by : (b : Bool) → (v == x) ≡ b → (b || has xs v) ≡ true → (has xs v ≡ true → Contains xs v) → Contains (x ∷ xs) v
    by true is h later = subst (λ w. Contains (x ∷ xs) w) (sym (eqb-true v x is)) (Contains-get_or (x ∷ xs) 0 x (omega arith))
    by false is h later = Contains-append_right (x ∷ []) xs v (later h)

contains_some : (us : List ℕ) (v : ℕ) → Contains us v → us ≢ []
contains_some us v c none = false≢true (ap (λ l. has l v) (sym none) ∙ has_of us v c)

-- A request that conflicts with the lock of v conflicts with it still.
conflicts_still : (p : Protocol) → IsLawful p → (s new : State) → IsState p s → (u : ℕ) → Stay p s new u → (r : Request) → IsMode p r.1 → (v : ℕ) → conflicts p s.locks u r v ≡ true → conflicts p new.locks u r v ≡ true
conflicts_still p laws s new is u stay r mode v h =
    let parts = both_parts (not (v == u)) (not (p.ok (p.convert (own s.locks u r.0) r.1) (own s.locks v r.0))) h in
    let asked : IsMode p (p.convert (own s.locks u r.0) r.1) = kept_mode p (own s.locks u r.0) r.1 laws (is.within u r.0) mode.some mode.in_range in
    let closed = stay.others v r.0 (p.convert (own s.locks u r.0) r.1) (other_of v u parts.0) asked (not_true (p.ok (p.convert (own s.locks u r.0) r.1) (own s.locks v r.0)) parts.1) in
    ap (λ b. b && not (p.ok (p.convert (own new.locks u r.0) r.1) (own new.locks v r.0))) parts.0
    ∙ ap (λ m. not (p.ok (p.convert m r.1) (own new.locks v r.0))) (stay.own_same r.0)
    ∙ not_false (p.ok (p.convert (own s.locks u r.0) r.1) (own new.locks v r.0)) closed

-- Who conflicts holds a lock.
holds : (p : Protocol) → IsLawful p → (h : Locks) (u : ℕ) (r : Request) (v : ℕ) → p.convert (own h u r.0) r.1 ≤ p.count → conflicts p h u r v ≡ true → has (lockers h) v ≡ true
holds p laws h u r v within c =
    let m = p.convert (own h u r.0) r.1 in
    let parts = both_parts (not (v == u)) (not (p.ok m (own h v r.0))) c in
    has-lockers h v r.0 (λ none. false≢true (sym (not_true (p.ok m (own h v r.0)) parts.1) ∙ ap (λ x. p.ok m x) none ∙ laws.ok-none_held m within))

-- Some request conflicts still, and v holds a lock.
some_still : (p : Protocol) → IsLawful p → (s new : State) → IsState p s → (u : ℕ) → Stay p s new u → (rs : List Request) → AskModes p rs → (v : ℕ) → list_any (λ r. conflicts p s.locks u r v) rs ≡ true
    → (list_any (λ r. conflicts p new.locks u r v) rs ≡ true) × (has (lockers new.locks) v ≡ true)
some_still p laws s new is u stay [] modes v h = absurd (false≢true h)
some_still p laws s new is u stay (r ∷ rs) modes v h = by (conflicts p s.locks u r v) refl h (some_still p laws s new is u stay rs modes.1 v)
  where
    by : (b : Bool) → conflicts p s.locks u r v ≡ b → (b || list_any (λ q. conflicts p s.locks u q v) rs) ≡ true
        → (list_any (λ q. conflicts p s.locks u q v) rs ≡ true → (list_any (λ q. conflicts p new.locks u q v) rs ≡ true) × (has (lockers new.locks) v ≡ true))
        → (list_any (λ q. conflicts p new.locks u q v) (r ∷ rs) ≡ true) × (has (lockers new.locks) v ≡ true)
    by true c h later =
        let still = conflicts_still p laws s new is u stay r modes.0 v c in
        let asked : IsMode p (p.convert (own s.locks u r.0) r.1) = kept_mode p (own s.locks u r.0) r.1 laws (is.within u r.0) modes.0.some modes.0.in_range in
        let within : p.convert (own new.locks u r.0) r.1 ≤ p.count = subst (λ m. p.convert m r.1 ≤ p.count) (sym (stay.own_same r.0)) asked.in_range in
        (ap (λ b. b || list_any (λ q. conflicts p new.locks u q v) rs) still, holds p laws new.locks u r v within still)
    by false c h later =
        let more = later h in
        (or_second (conflicts p new.locks u r v) (list_any (λ q. conflicts p new.locks u q v) rs) more.0, more.1)

-- Each blocker of an attempt blocks it still.
blocked_still : (p : Protocol) → IsLawful p → (s new : State) → IsState p s → (u : ℕ) → Stay p s new u → (a : Step) (v : ℕ) → has (blockers p s.locks u (requests (plan_of p s.map s.locks u a))) v ≡ true → has (blockers p new.locks u (requests (plan_of p new.map new.locks u a))) v ≡ true
blocked_still p laws s new is u stay a v there =
    let rs = requests (plan_of p s.map s.locks u a) in
    let modes : AskModes p rs = asks_by p laws s.locks is.within u (access_of s.map a) in
    let parts = both_parts (has (lockers s.locks) v) (list_any (λ r. conflicts p s.locks u r v) rs) (sym (has-filter (λ w. list_any (λ r. conflicts p s.locks u r w) rs) (lockers s.locks) v) ∙ there) in
    let still = some_still p laws s new is u stay rs modes v parts.1 in
    ap (λ l. has (blockers p new.locks u (requests l)) v) (plan_same p s new u a stay.keys stay.own_same)
    ∙ has-filter (λ w. list_any (λ r. conflicts p new.locks u r w) rs) (lockers new.locks) v ∙ ap (λ b. b && list_any (λ r. conflicts p new.locks u r v) rs) still.1 ∙ still.0

looks_still : (p : Protocol) → IsLawful p → (s new : State) → IsState p s → (u : ℕ) → Stay p s new u → (c : Option Scan) (v : ℕ) → has (looks_for p s u c) v ≡ true → has (looks_for p new u c) v ≡ true
looks_still p laws s new is u stay None v there = there
looks_still p laws s new is u stay (Some c) v there =
    ap (λ n. has (blockers p new.locks u (requests (plan_of p new.map new.locks u (attempt.Look n c.hi)))) v) (look_same new.map s.map c stay.keys)
    ∙ blocked_still p laws s new is u stay (attempt.Look (name_to_look s.map c) c.hi) v there

way_still : (p : Protocol) → IsLawful p → (s new : State) → IsState p s → (u : ℕ) → Stay p s new u → standing new u ≡ standing s u → (o : Op) (v : ℕ) → has (in_way p s u o) v ≡ true → has (in_way p new u o) v ≡ true
way_still p laws s new is u stay stands (op.Fetch k) v there = blocked_still p laws s new is u stay (attempt.Fetch k) v there
way_still p laws s new is u stay stands (op.Scan lo hi) v there = looks_still p laws s new is u stay (Some (record { lo = lo; hi = hi; rows = [] })) v there
way_still p laws s new is u stay stands op.Go v there = ap (λ (a : Active). has (looks_for p new u a.scan) v) stands ∙ looks_still p laws s new is u stay (standing s u).scan v there
way_still p laws s new is u stay stands (op.Insert k w) v there = blocked_still p laws s new is u stay (attempt.Insert k) v there
way_still p laws s new is u stay stands (op.Delete k) v there = blocked_still p laws s new is u stay (attempt.Delete k) v there
way_still p laws s new is u stay stands (op.Update k w) v there = blocked_still p laws s new is u stay (attempt.Update k) v there
way_still p laws s new is u stay stands op.Commit v there = there
way_still p laws s new is u stay stands op.Abort v there = there
way_still p laws s new is u stay stands op.Back v there = there

-- Each for whom an operation waits it waits for still.
pub waits_still : (p : Protocol) → IsLawful p → (s new : State) → IsState p s → (u : ℕ) (o : Op) → Stay p s new u → has_ended new u ≡ has_ended s u → standing new u ≡ standing s u → is_full new u ≡ false → (v : ℕ) → WaitsFor p s u o v → WaitsFor p new u o v
waits_still p laws s new is u o stay ended stands full v waits =
    let free = not_blocked p s u o (refusal_of p s u o) refl (contains_some _ v waits) in
    let was : has (in_way p s u o) v ≡ true = ap (λ l. has l v) (sym (way_of p s u o free)) ∙ has_of _ v waits in
    let now = way_still p laws s new is u stay stands o v was in
    contains_of _ v (ap (λ l. has l v) (way_of p new u o (stays_free p s new u o ended full stands free)) ∙ now)
