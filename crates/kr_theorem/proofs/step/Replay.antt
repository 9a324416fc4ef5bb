-- Replay: a program run whole on a map has its answers by what stands at its own points alone.
use Rattle.std.proofs.Common.{ℕ, List, [], ◌∷◌, ◌++◌, Option, Some, None, ◌==◌, ◌≡◌, ◌≢◌, ◌⊎◌, inr, ⊎_elim, refl, sym, ap, ◌∙◌, subst}
use Rattle.std.proofs.lemmas.Bool.{cases_eq, ne_eqb}
use Rattle.std.specs.Prelude.{if◌then◌else◌}
use Rattle.kr_model.specs.declared.Op.{Op}
use Rattle.kr_model.specs.declared.Op.TheVariants as op
use Rattle.kr_model.specs.declared.Reply.{Reply}
use Rattle.kr_model.specs.declared.Reply.TheVariants as reply
use Rattle.kr_model.specs.Run.{Answered}
use Rattle.kr_model.specs.Serial.{whole, whole_insert, whole_delete, whole_update, found_or_none, AreAnswered, map_left}
use Rattle.kr_model.specs.Map.{Map, IsMap, Changes, get, restore_all}
use Rattle.kr_model.proofs.MapLaws.{get-set, get-without}
use Rattle.kr_model.proofs.MapLaws.{IsMap-set, IsMap-without}
use Rattle.kr_theorem.proofs.gaps.Maps.{between_same}
use Rattle.kr_theorem.proofs.gaps.Undo.{ChangedIn, changed_or_not, restore_all_apart, restore_all_same}
use Rattle.kr_theorem.proofs.step.Parts.{Part, Parts, blank, Points, point_or_not, Touched, Changed, finished, finished_new, with_part, with_other, by_part}

-- The answer of an operation run whole, and the map after it.
abbrev pub answer : Map → Op → Reply
answer m o = (whole m o).0

abbrev pub after_op : Map → Op → Map
after_op m o = (whole m o).1

-- Programs put together --

pub AreAnswered-push : (d : Map) (p : List Answered) (s : Answered) → AreAnswered d p → s.1 ≡ answer (map_left d p) s.0 → AreAnswered d (p ++ s ∷ [])
AreAnswered-push d [] s r a = (a, tt)
AreAnswered-push d (x ∷ p) s r a = (r.0, AreAnswered-push (after_op d x.0) p s r.1 a)

pub map_left-push : (d : Map) (p : List Answered) (s : Answered) → map_left d (p ++ s ∷ []) ≡ after_op (map_left d p) s.0
map_left-push d [] s = refl
map_left-push d (x ∷ p) s = map_left-push (after_op d x.0) p s

IsMap-inserted : (o : Option ℕ) (m : Map) (k v : ℕ) → IsMap m → IsMap (whole_insert m k v o).1
IsMap-inserted None m k v r = IsMap-set m k v r
IsMap-inserted (Some w) m k v r = r

IsMap-deleted : (o : Option ℕ) (m : Map) (k : ℕ) → IsMap m → IsMap (whole_delete m k o).1
IsMap-deleted None m k r = r
IsMap-deleted (Some w) m k r = IsMap-without m k r

IsMap-updated : (o : Option ℕ) (m : Map) (k v : ℕ) → IsMap m → IsMap (whole_update m k v o).1
IsMap-updated None m k v r = r
IsMap-updated (Some w) m k v r = IsMap-set m k v r

pub IsMap-after : (m : Map) (o : Op) → IsMap m → IsMap (after_op m o)
IsMap-after m (op.Fetch k) r = r
IsMap-after m (op.Scan lo hi) r = r
IsMap-after m (op.Insert k v) r = IsMap-inserted (get m k) m k v r
IsMap-after m (op.Delete k) r = IsMap-deleted (get m k) m k r
IsMap-after m (op.Update k v) r = IsMap-updated (get m k) m k v r
IsMap-after m op.Go r = r
IsMap-after m op.Commit r = r
IsMap-after m op.Abort r = r
IsMap-after m op.Back r = r

pub IsMap-map_left : (m : Map) (p : List Answered) → IsMap m → IsMap (map_left m p)
IsMap-map_left m [] r = r
IsMap-map_left m (s ∷ p) r = IsMap-map_left (after_op m s.0) p (IsMap-after m s.0 r)

insert_answer : (o : Option ℕ) (d m : Map) (k v : ℕ) → (whole_insert d k v o).0 ≡ (whole_insert m k v o).0
insert_answer None d m k v = refl
insert_answer (Some w) d m k v = refl

delete_answer : (o : Option ℕ) (d m : Map) (k : ℕ) → (whole_delete d k o).0 ≡ (whole_delete m k o).0
delete_answer None d m k = refl
delete_answer (Some w) d m k = refl

update_answer : (o : Option ℕ) (d m : Map) (k v : ℕ) → (whole_update d k v o).0 ≡ (whole_update m k v o).0
update_answer None d m k v = refl
update_answer (Some w) d m k v = refl

-- An operation reads and changes its points alone.
pub answer_local : (d m : Map) → IsMap d → IsMap m → (o : Op) → ((q : ℕ) → Points o q → get d q ≡ get m q) → answer d o ≡ answer m o
answer_local d m rd rm (op.Fetch k) same = ap found_or_none (same k refl)
answer_local d m rd rm (op.Scan lo hi) same = ap (λ xs. reply.Rows xs) (between_same d m lo hi rd rm (λ q a b. same q (a, b)))
answer_local d m rd rm (op.Insert k v) same = ap (λ o. (whole_insert d k v o).0) (same k refl) ∙ insert_answer (get m k) d m k v
answer_local d m rd rm (op.Delete k) same = ap (λ o. (whole_delete d k o).0) (same k refl) ∙ delete_answer (get m k) d m k
answer_local d m rd rm (op.Update k v) same = ap (λ o. (whole_update d k v o).0) (same k refl) ∙ update_answer (get m k) d m k v
answer_local d m rd rm op.Go same = refl
answer_local d m rd rm op.Commit same = refl
answer_local d m rd rm op.Abort same = refl
answer_local d m rd rm op.Back same = refl

get-inserted_here : (o : Option ℕ) (d m : Map) (k v : ℕ) → get d k ≡ get m k → get (whole_insert d k v o).1 k ≡ get (whole_insert m k v o).1 k
get-inserted_here None d m k v same = get-set d k v k ∙ ap (λ z. if k == k then Some v else z) same ∙ sym (get-set m k v k)
get-inserted_here (Some w) d m k v same = same

get-inserted_apart : (o : Option ℕ) (d : Map) (k v q : ℕ) → q ≢ k → get (whole_insert d k v o).1 q ≡ get d q
get-inserted_apart None d k v q ne = get-set d k v q ∙ ap (λ c. if c then Some v else get d q) (ne_eqb k q (λ e. ne (sym e)))
get-inserted_apart (Some w) d k v q ne = refl

get-deleted_here : (o : Option ℕ) (d m : Map) (k : ℕ) → get d k ≡ get m k → get (whole_delete d k o).1 k ≡ get (whole_delete m k o).1 k
get-deleted_here None d m k same = same
get-deleted_here (Some w) d m k same = get-without d k k ∙ ap (λ z. if k == k then None else z) same ∙ sym (get-without m k k)

get-deleted_apart : (o : Option ℕ) (d : Map) (k q : ℕ) → q ≢ k → get (whole_delete d k o).1 q ≡ get d q
get-deleted_apart None d k q ne = refl
get-deleted_apart (Some w) d k q ne = get-without d k q ∙ ap (λ c. if c then None else get d q) (ne_eqb k q (λ e. ne (sym e)))

get-updated_here : (o : Option ℕ) (d m : Map) (k v : ℕ) → get d k ≡ get m k → get (whole_update d k v o).1 k ≡ get (whole_update m k v o).1 k
get-updated_here None d m k v same = same
get-updated_here (Some w) d m k v same = get-set d k v k ∙ ap (λ z. if k == k then Some v else z) same ∙ sym (get-set m k v k)

get-updated_apart : (o : Option ℕ) (d : Map) (k v q : ℕ) → q ≢ k → get (whole_update d k v o).1 q ≡ get d q
get-updated_apart None d k v q ne = refl
get-updated_apart (Some w) d k v q ne = get-set d k v q ∙ ap (λ c. if c then Some v else get d q) (ne_eqb k q (λ e. ne (sym e)))

pub after_local : (d m : Map) → IsMap d → IsMap m → (o : Op) → ((q : ℕ) → Points o q → get d q ≡ get m q) → (q : ℕ) → Points o q → get (after_op d o) q ≡ get (after_op m o) q
after_local d m rd rm (op.Fetch k) same q here = same q here
after_local d m rd rm (op.Scan lo hi) same q here = same q here
after_local d m rd rm (op.Insert k v) same q here =
    subst (λ z. get (whole_insert d k v (get d k)).1 z ≡ get (whole_insert m k v (get m k)).1 z) (sym here)
    (get-inserted_here (get d k) d m k v (same k refl) ∙ ap (λ o. get (whole_insert m k v o).1 k) (same k refl))
after_local d m rd rm (op.Delete k) same q here =
    subst (λ z. get (whole_delete d k (get d k)).1 z ≡ get (whole_delete m k (get m k)).1 z) (sym here)
    (get-deleted_here (get d k) d m k (same k refl) ∙ ap (λ o. get (whole_delete m k o).1 k) (same k refl))
after_local d m rd rm (op.Update k v) same q here =
    subst (λ z. get (whole_update d k v (get d k)).1 z ≡ get (whole_update m k v (get m k)).1 z) (sym here)
    (get-updated_here (get d k) d m k v (same k refl) ∙ ap (λ o. get (whole_update m k v o).1 k) (same k refl))
after_local d m rd rm op.Go same q here = absurd here
after_local d m rd rm op.Commit same q here = absurd here
after_local d m rd rm op.Abort same q here = absurd here
after_local d m rd rm op.Back same q here = absurd here

pub after_apart : (d : Map) (o : Op) (q : ℕ) → (Points o q → ⊥) → get (after_op d o) q ≡ get d q
after_apart d (op.Fetch k) q out = refl
after_apart d (op.Scan lo hi) q out = refl
after_apart d (op.Insert k v) q out = get-inserted_apart (get d k) d k v q out
after_apart d (op.Delete k) q out = get-deleted_apart (get d k) d k q out
after_apart d (op.Update k v) q out = get-updated_apart (get d k) d k v q out
after_apart d op.Go q out = refl
after_apart d op.Commit q out = refl
after_apart d op.Abort q out = refl
after_apart d op.Back q out = refl

-- Replay --

-- What stood at a key before the changes of the part.
abbrev pub base : Map → Part → ℕ → Option ℕ
base m q k = get (restore_all m q.changes) k

-- In every map that has at the touched points what stood there before the part's changes, the program has its answers. It leaves the present values at the changed
-- keys, and what stood there at all others.
abbrev pub Replays : Map → Part → Type 0
Replays m q = (d : Map) → IsMap d → ((k : ℕ) → Touched q k → get d k ≡ base m q k)
    → AreAnswered d q.program × ((k : ℕ) → Changed q k → get (map_left d q.program) k ≡ get m k) × ((k : ℕ) → (Changed q k → ⊥) → get (map_left d q.program) k ≡ get d k)

-- A step of another, which changes no value at a touched point, keeps it.
pub replays_stable : (m n : Map) (q : Part) → ((k : ℕ) → Changed q k → Touched q k) → ((k : ℕ) → Touched q k → get n k ≡ get m k) → Replays m q → Replays n q
replays_stable m n q held same h d hd agree =
    let t = h d hd (λ k touch. agree k touch ∙ restore_all_same n m q.changes k (inr (same k touch))) in (t.0, λ k b. t.1 k b ∙ sym (same k (held k b)), t.2)

-- A scan that goes on touches more, and changes nothing.
pub replays_going : (m : Map) (q x : Part) → x.program ≡ q.program → x.changes ≡ q.changes → ((k : ℕ) → Touched q k → Touched x k) → Replays m q → Replays m x
replays_going m q x same_program same_changes more h d hd agree =
    let t = h d hd (λ k touch. agree k (more k touch) ∙ ap (λ l. get (restore_all m l) k) same_changes) in
    subst (λ l. AreAnswered d l × ((k : ℕ) → Changed x k → get (map_left d l) k ≡ get m k) × ((k : ℕ) → (Changed x k → ⊥) → get (map_left d l) k ≡ get d k)) (sym same_program)
    (t.0, (λ k b. t.1 k (subst (λ l. ChangedIn l k) same_changes b)), (λ k out. t.2 k (λ b. out (subst (λ l. ChangedIn l k) (sym same_changes) b))))

-- One more operation of its own keeps it, whichever it is: its points are touched now, what stood before the changes is the same as before, and only keys among its
-- points are changed anew.
pub replays_finished : (m : Map) (q : Part) (o : Op) (changes : Changes) (moved : List ℕ) → IsMap m → let x = finished q o (answer m o) changes moved in
    ((k : ℕ) → Touched q k → Touched x k)
    → ((k : ℕ) → base (after_op m o) x k ≡ base m q k)
    → ((k : ℕ) → Changed q k → Changed x k)
    → ((k : ℕ) → Changed x k → (Changed q k) ⊎ Points o k)
    → ((k : ℕ) → (Changed x k → ⊥) → get (after_op m o) k ≡ get m k)
    → Replays m q → Replays (after_op m o) x
replays_finished m q o changes moved hm more same keep made unmade h d hd agree =
    let t = h d hd (λ k touch. agree k (more k touch) ∙ same k) in
    let d1 = map_left d q.program in
    let h1 = IsMap-map_left d q.program hd in
    let local : (k : ℕ) → Points o k → get d1 k ≡ get m k = λ k here. ⊎_elim (λ b. t.1 k b)
    (λ nb. t.2 k nb ∙ agree k (finished_new q o (answer m o) changes moved k here) ∙ same k ∙ restore_all_apart m q.changes k nb) (changed_or_not q.changes k) in
    let out : map_left d (q.program ++ (o, answer m o) ∷ []) ≡ after_op d1 o = map_left-push d q.program (o, answer m o) in (
      AreAnswered-push d q.program (o, answer m o) t.0 (sym (answer_local d1 m h1 hm o local)),
      λ k b. ap (λ z. get z k) out ∙ ⊎_elim (λ here. after_local d1 m h1 hm o local k here)
          (λ far. after_apart d1 o k far ∙ ⊎_elim (λ old. t.1 k old) (λ here. absurd (far here)) (made k b) ∙ sym (after_apart m o k far)) (point_or_not o k),
      λ k nb. let old : Changed q k → ⊥ = λ b. nb (keep k b) in
          ap (λ z. get z k) out ∙ ⊎_elim (λ here. after_local d1 m h1 hm o local k here ∙ unmade k nb ∙ sym (local k here) ∙ t.2 k old)
          (λ far. after_apart d1 o k far ∙ t.2 k old) (point_or_not o k),
    )

-- The committed map --

-- The committed map has at each changed key what stood there before, and at all others what stands there now.
pub record Committed (m c : Map) (part : Parts) : Type 0 where
  pub before : (t k : ℕ) → Changed (part t) k → get c k ≡ base m (part t) k
  pub now : (k : ℕ) → ((t : ℕ) → Changed (part t) k → ⊥) → get c k ≡ get m k

-- At its commit a program has its answers in the committed map, and leaves the next one.
pub commit_serial : (m c : Map) (part : Parts) (t : ℕ) → IsMap c → Replays m (part t) → Committed m c part
    → ((k : ℕ) → Changed (part t) k → Touched (part t) k)
    → ((u k : ℕ) → u ≢ t → Touched (part t) k → Changed (part u) k → ⊥)
    → AreAnswered c (part t).program × Committed m (map_left c (part t).program) (with_part part t blank)
commit_serial m c part t hc h committed held alone =
    let q = part t in
    let agree : (k : ℕ) → Touched q k → get c k ≡ base m q k = λ k touch. ⊎_elim (λ b. committed.before t k b)
    (λ nb. committed.now k (λ u b. ⊎_elim (λ e. nb (subst (λ z. Changed (part z) k) e b)) (λ ne. alone u k ne touch b) (cases_eq u t)) ∙ sym (restore_all_apart m q.changes k nb))
    (changed_or_not q.changes k) in
    let r = h c hc agree in (
      r.0,
      record {
        before = by_part (λ u x. (k : ℕ) → Changed x k → get (map_left c q.program) k ≡ base m x k) part t blank (λ k b. absurd b)
            (λ u ne k b. r.2 k (λ mine. alone u k ne (held k mine) b) ∙ committed.before u k b);
        now = λ k none. ⊎_elim (λ b. r.1 k b)
            (λ nb. r.2 k nb ∙ committed.now k (λ u b. ⊎_elim (λ e. nb (subst (λ z. Changed (part z) k) e b)) (λ ne. none u (subst (λ z. Changed z k) (sym (with_other part t blank u ne)) b)) (cases_eq u t)))
            (changed_or_not q.changes k);
      },
    )
