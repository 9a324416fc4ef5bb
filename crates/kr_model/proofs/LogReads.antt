-- How the operations of a transaction are read from a history so far, and what a granted step adds to them.
use Rattle.std.specs.Prelude.{◌≡◌, ℕ, Bool, true, false, not, ◌==◌, ◌&&◌, cond, nat_le, List, [], ◌∷◌, ◌++◌, Option, Some, None, is_some, unwrap_or, refl, if◌then◌else◌}
use Rattle.std.proofs.lemmas.Bool.Decides.{nat_tests}
use Rattle.std.proofs.Common.{sym, ◌∙◌, ap, ap₂, subst, arith, append_assoc, append-nil}
use Rattle.kr_model.specs.declared.Name.{Name}
use Rattle.kr_model.specs.declared.Name.TheVariants.{Key, End}
use Rattle.kr_model.specs.declared.Op.{Op}
use Rattle.kr_model.specs.declared.Op.TheVariants as op
use Rattle.kr_model.specs.declared.Event.{Event}
use Rattle.kr_model.specs.declared.Reply.{Reply}
use Rattle.kr_model.specs.declared.Reply.TheVariants as reply
use Rattle.kr_model.specs.Map.{Map, get}
use Rattle.kr_model.specs.State.{Active, Scan}
use Rattle.kr_model.specs.Step.{Effect, looked, row_read, fetched, inserted, deleted, updated, is_back}
use Rattle.kr_model.specs.Run.{Entry, Answered, operations_of, answer_of, first_rows, is_rows, is_committed, is_operation, is_granted}
use Rattle.kr_model.specs.Log.{Log, without_backs, last_answered, with_step, step_logged, logged}
use Rattle.kr_model.proofs.Actives.{tied}

abbrev pub event : ℕ → Op → Event
event t o = record { txn = t; op = o }

pub turned : (u t : ℕ) → (u == t) ≡ (t == u)
turned u t = grind (arith, nat_tests)

-- How a history so far reads --

-- The operations of t in a history are these, whatever comes after it; in the midst of a scan the last of them waits for its rows.
abbrev pub ReadsAs : ℕ → List Entry → List Answered → Bool → Type 0
ReadsAs t h os false = (f : List Entry) → operations_of t (h ++ f) ≡ os ++ operations_of t f
ReadsAs t h os true =
    (q : List Answered) × (lo : ℕ) × (hi : ℕ) × (a : Reply) × (os ≡ q ++ (op.Scan lo hi, a) ∷ [])
    × ((f : List Entry) → operations_of t (h ++ f) ≡ q ++ (op.Scan lo hi, first_rows t a f) ∷ operations_of t f)

pub append_entry : (h : List Entry) (x : Entry) (f : List Entry) → (h ++ x ∷ []) ++ f ≡ h ++ x ∷ f
append_entry h x f = append_assoc h (x ∷ []) f

pub append_one : (p : List Answered) (x : Answered) (r : List Answered) → p ++ x ∷ r ≡ (p ++ x ∷ []) ++ r
append_one p x r = sym (append_assoc p (x ∷ []) r)

-- An entry that adds nothing to the operations of t.
abbrev pub IsSilent : ℕ → Entry → Type 0
IsSilent t x = (f : List Entry) → (operations_of t (x ∷ f) ≡ operations_of t f) × ((r : Reply) → first_rows t r (x ∷ f) ≡ first_rows t r f)

-- An entry that gives t no rows.
abbrev pub IsRowless : ℕ → Entry → Type 0
IsRowless t x = (f : List Entry) (r : Reply) → first_rows t r (x ∷ f) ≡ first_rows t r f

pub silent_other : (t : ℕ) (e : Event) (a : Reply) → (e.txn == t) ≡ false → IsSilent t (e, a)
silent_other t e a d f = (
  ap (λ b. cond {A = List Answered} (b && (is_operation e.op && is_granted a)) ((e.op, answer_of t e.op a f) ∷ operations_of t f) (operations_of t f)) d,
  λ r. ap (λ b. cond (b && is_rows a) a (first_rows t r f)) d,
)

and_false : (b c : Bool) → c ≡ false → (b && c) ≡ false
and_false true c h = h
and_false false c h = refl

pub silent_by : (t : ℕ) (e : Event) (a : Reply) → (is_operation e.op && is_granted a) ≡ false → is_rows a ≡ false → IsSilent t (e, a)
silent_by t e a d g f = (
  ap (λ b. cond {A = List Answered} b ((e.op, answer_of t e.op a f) ∷ operations_of t f) (operations_of t f)) (and_false (e.txn == t) (is_operation e.op && is_granted a) d),
  λ r. ap (λ b. cond b a (first_rows t r f)) (and_false (e.txn == t) (is_rows a) g),
)

rows_are_granted : (a : Reply) → is_granted a ≡ false → is_rows a ≡ false
rows_are_granted (reply.Rows rows) h = absurd (cc)
rows_are_granted _ h = refl

pub silent_refused : (t : ℕ) (e : Event) (a : Reply) → is_granted a ≡ false → IsSilent t (e, a)
silent_refused t e a d = silent_by t e a (and_false (is_operation e.op) (is_granted a) d) (rows_are_granted a d)

first_rows_past : (t : ℕ) (x : Entry) (f : List Entry) (r : Reply) (h : List Entry) → IsRowless t x → first_rows t r (h ++ x ∷ f) ≡ first_rows t r (h ++ f)
first_rows_past t x f r [] s = s f r
first_rows_past t x f r ((e, a) ∷ h) s = ap (λ z. cond ((e.txn == t) && is_rows a) a z) (first_rows_past t x f r h s)

answer_past : (t : ℕ) (o : Op) (a : Reply) (x : Entry) (f : List Entry) (h : List Entry) → IsRowless t x → answer_of t o a (h ++ x ∷ f) ≡ answer_of t o a (h ++ f)
answer_past t (op.Scan lo hi) a x f h s = ap (λ z. cond (is_rows a) a z) (first_rows_past t x f a h s)
answer_past t (op.Fetch k) a x f h s = refl
answer_past t op.Go a x f h s = refl
answer_past t (op.Insert k v) a x f h s = refl
answer_past t (op.Delete k) a x f h s = refl
answer_past t (op.Update k v) a x f h s = refl
answer_past t op.Commit a x f h s = refl
answer_past t op.Abort a x f h s = refl
answer_past t op.Back a x f h s = refl

-- A silent entry leaves the operations as they are.
operations_past : (t : ℕ) (x : Entry) (f : List Entry) (h : List Entry) → IsSilent t x → operations_of t (h ++ x ∷ f) ≡ operations_of t (h ++ f)
operations_past t x f [] s = (s f).0
operations_past t x f ((e, a) ∷ h) s =
    ap₂ (λ (z : Reply) (more : List Answered). cond {A = List Answered} ((e.txn == t) && (is_operation e.op && is_granted a)) ((e.op, z) ∷ more) more) (answer_past t e.op a x f h (λ g. (s g).1)) (operations_past t x f h s)

-- One that undoes a change adds nothing but itself.
pub back_past : (t : ℕ) (x : Entry) (h : List Entry) → IsRowless t x → without_backs (operations_of t (x ∷ [])) ≡ [] → without_backs (operations_of t (h ++ x ∷ [])) ≡ without_backs (operations_of t h)
back_past t x [] s e = e
back_past t x ((f, a) ∷ h) s e =
    one ((f.txn == t) && (is_operation f.op && is_granted a)) f.op (answer_of t f.op a (h ++ x ∷ [])) (answer_of t f.op a h) (operations_of t (h ++ x ∷ [])) (operations_of t h)
    (answer_past t f.op a x [] h s ∙ ap (answer_of t f.op a) (append-nil h)) (back_past t x h s e)
  where
    kept : (d : Bool) (o : Op) (a b : Reply) (xs ys : List Answered) → a ≡ b → xs ≡ ys → cond {A = List Answered} d ((o, a) ∷ xs) xs ≡ cond {A = List Answered} d ((o, b) ∷ ys) ys
    kept true o a b xs ys e h = ap₂ (λ (z : Reply) (more : List Answered). let y : Answered = (o, z) in y ∷ more) e h
    kept false o a b xs ys e h = h

    one : (c : Bool) (o : Op) (a b : Reply) (xs ys : List Answered) → a ≡ b → without_backs xs ≡ without_backs ys → without_backs (cond {A = List Answered} c ((o, a) ∷ xs) xs) ≡ without_backs (cond {A = List Answered} c ((o, b) ∷ ys) ys)
    one true o a b xs ys e h = kept (not (is_back o)) o a b (without_backs xs) (without_backs ys) e h
    one false o a b xs ys e h = h

pub operations_kept : (t : ℕ) (x : Entry) (h : List Entry) → IsSilent t x → operations_of t (h ++ x ∷ []) ≡ operations_of t h
operations_kept t x h s = operations_past t x [] h s ∙ ap (operations_of t) (append-nil h)

pub reads_silent : (t : ℕ) (h : List Entry) (x : Entry) (os : List Answered) (b : Bool) → IsSilent t x → ReadsAs t h os b → ReadsAs t (h ++ x ∷ []) os b
reads_silent t h x os false s r = λ f. ap (operations_of t) (append_entry h x f) ∙ r (x ∷ f) ∙ ap (λ z. os ++ z) (s f).0
reads_silent t h x os true s (q, lo, hi, a, e, r) =
    (q, lo, hi, a, e, λ f. ap (operations_of t) (append_entry h x f) ∙ r (x ∷ f) ∙ ap₂ (λ b z. q ++ (op.Scan lo hi, b) ∷ z) ((s f).1 a) (s f).0)

pub own_entry : (t : ℕ) (o : Op) (a : Reply) (f : List Entry) → (is_operation o && is_granted a) ≡ true → operations_of t ((event t o, a) ∷ f) ≡ (o, answer_of t o a f) ∷ operations_of t f
own_entry t o a f d = ap₂ (λ b c. cond {A = List Answered} (b && c) ((o, answer_of t o a f) ∷ operations_of t f) (operations_of t f)) (tied t) d

-- An operation has its answer at once.
reads_answer : (t : ℕ) (h : List Entry) (o : Op) (a : Reply) (os : List Answered) → (is_operation o && is_granted a) ≡ true → ((f : List Entry) → answer_of t o a f ≡ a)
    → ReadsAs t h os false → ReadsAs t (h ++ (event t o, a) ∷ []) (os ++ (o, a) ∷ []) false
reads_answer t h o a os d same r f =
    ap (operations_of t) (append_entry h (event t o, a) f) ∙ r ((event t o, a) ∷ f)
    ∙ ap (λ z. os ++ z) (own_entry t o a f d ∙ ap (λ (z : Reply). let x : Answered = (o, z) in x ∷ operations_of t f) (same f))
    ∙ append_one os (o, a) (operations_of t f)

-- A scan begins.
reads_begins : (t : ℕ) (h : List Entry) (lo hi k : ℕ) (os : List Answered) → ReadsAs t h os false → ReadsAs t (h ++ (event t (op.Scan lo hi), reply.Going k) ∷ []) (os ++ (op.Scan lo hi, reply.Going k) ∷ []) true
reads_begins t h lo hi k os r = (
  os,
  lo,
  hi,
  reply.Going k,
  refl,
  λ f. ap (operations_of t) (append_entry h (event t (op.Scan lo hi), reply.Going k) f) ∙ r ((event t (op.Scan lo hi), reply.Going k) ∷ f)
      ∙ ap (λ z. os ++ z) (own_entry t (op.Scan lo hi) (reply.Going k) f refl),
)

last_of : (q : List Answered) (o : Op) (a b : Reply) → last_answered b (q ++ (o, a) ∷ []) ≡ q ++ (o, b) ∷ []
last_of [] o a b = refl
last_of (x ∷ []) o a b = refl
last_of (x ∷ y ∷ ys) o a b = ap (λ z. x ∷ z) (last_of (y ∷ ys) o a b)

-- A scan has its rows.
reads_ends : (t : ℕ) (h : List Entry) (rows : List (ℕ × ℕ)) (os : List Answered) → ReadsAs t h os true → ReadsAs t (h ++ (event t op.Go, reply.Rows rows) ∷ []) (last_answered (reply.Rows rows) os) false
reads_ends t h rows os (q, lo, hi, a, e, r) f =
    let x : Entry = (event t op.Go, reply.Rows rows) in
    ap (operations_of t) (append_entry h x f) ∙ r (x ∷ f)
    ∙ ap₂ (λ b z. q ++ (op.Scan lo hi, b) ∷ z) (ap (λ b. cond (b && true) (reply.Rows rows) (first_rows t a f)) (tied t)) (ap (λ b. cond {A = List Answered} (b && false) ((op.Go, answer_of t op.Go (reply.Rows rows) f) ∷ operations_of t f) (operations_of t f)) (tied t))
    ∙ append_one q (op.Scan lo hi, reply.Rows rows) (operations_of t f)
    ∙ ap (λ z. z ++ operations_of t f) (sym (ap (last_answered (reply.Rows rows)) e ∙ last_of q (op.Scan lo hi) a (reply.Rows rows)))

-- At the end of the history.
pub reads_whole : (t : ℕ) (h : List Entry) (os : List Answered) (b : Bool) → ReadsAs t h os b → operations_of t h ≡ os
reads_whole t h os false r = ap (operations_of t) (sym (append-nil h)) ∙ r [] ∙ append-nil os
reads_whole t h os true (q, lo, hi, a, e, r) = ap (operations_of t) (sym (append-nil h)) ∙ r [] ∙ sym e

-- No change undone --

-- None of the operations undoes a change.
abbrev pub IsForward : List Answered → Type 0
IsForward [] = Unit {0}
IsForward (x ∷ xs) = (is_back x.0 ≡ false) × IsForward xs

pub forward_kept : (os : List Answered) → IsForward os → without_backs os ≡ os
forward_kept [] h = refl
forward_kept (x ∷ xs) h = ap (λ b. cond {A = List Answered} (not b) (x ∷ without_backs xs) (without_backs xs)) h.0 ∙ ap (λ (l : List Answered). x ∷ l) (forward_kept xs h.1)

forward_append : (os : List Answered) (x : Answered) → IsForward os → is_back x.0 ≡ false → IsForward (os ++ x ∷ [])
forward_append [] x h e = (e, tt)
forward_append (y ∷ ys) x h e = (h.0, forward_append ys x h.1 e)

forward_last : (a : Reply) (os : List Answered) → IsForward os → IsForward (last_answered a os)
forward_last a [] h = tt
forward_last a (x ∷ []) h = (h.0, tt)
forward_last a (x ∷ y ∷ ys) h = (h.0, forward_last a (y ∷ ys) h.1)

pub forward_step : (os : List Answered) (o : Op) (a : Reply) → is_back o ≡ false → IsForward os → IsForward (with_step os o a)
forward_step os op.Go (reply.Rows rows) e h = forward_last (reply.Rows rows) os h
forward_step os op.Go _ e h = h
forward_step os o a e h = forward_append os (o, a) h e

-- What a granted step adds --

-- The step adds to the log and to the operations of its transaction alike; b and c say whether it scans before the step and after it.
pub record Adds (o : Op) (a : Reply) (b c : Bool) : Type 0 where
  pub logs : (l : Log) (t : ℕ) → logged l (event t o, a) ≡ step_logged l t o a
  pub stays : is_committed a ≡ false
  pub forward : is_back o ≡ false
  pub reads : (t : ℕ) (h : List Entry) (os : List Answered) → ReadsAs t h os b → ReadsAs t (h ++ (event t o, a) ∷ []) (with_step os o a) c

-- An operation that has its answer at once.
pub adds_answer : (o : Op) (a : Reply) (b : Bool) → b ≡ false → ((l : Log) (t : ℕ) → logged l (event t o, a) ≡ step_logged l t o a) → is_committed a ≡ false → (is_operation o && is_granted a) ≡ true → is_back o ≡ false
    → ((t : ℕ) (f : List Entry) → answer_of t o a f ≡ a) → ((os : List Answered) → with_step os o a ≡ os ++ (o, a) ∷ []) → Adds o a b false
adds_answer o a b e logs stays operation forward answer with = record {
  logs = logs;
  stays = stays;
  forward = forward;
  reads = λ t h os r. subst (λ z. ReadsAs t (h ++ (event t o, a) ∷ []) z false) (sym (with os)) (reads_answer t h o a os operation (answer t) (subst (λ z. ReadsAs t h os z) e r));
}

pub adds_begins : (lo hi k : ℕ) (b : Bool) → b ≡ false → Adds (op.Scan lo hi) (reply.Going k) b true
adds_begins lo hi k b e = record {
  logs = λ l t. refl;
  stays = refl;
  forward = refl;
  reads = λ t h os r. reads_begins t h lo hi k os (subst (λ z. ReadsAs t h os z) e r);
}

pub adds_goes_on : (k : ℕ) (b : Bool) → b ≡ true → Adds op.Go (reply.Going k) b true
adds_goes_on k b e = record {
  logs = λ l t. refl;
  stays = refl;
  forward = refl;
  reads = λ t h os r. reads_silent t h (event t op.Go, reply.Going k) os true (silent_by t (event t op.Go) (reply.Going k) refl refl) (subst (λ z. ReadsAs t h os z) e r);
}

pub adds_ends : (rows : List (ℕ × ℕ)) (b : Bool) → b ≡ true → Adds op.Go (reply.Rows rows) b false
adds_ends rows b e = record {
  logs = λ l t. refl;
  stays = refl;
  forward = refl;
  reads = λ t h os r. reads_ends t h rows os (subst (λ z. ReadsAs t h os z) e r);
}

-- The effect is logged as it reads.
abbrev pub EffectAdds : Op → Bool → Effect → Type 0
EffectAdds o b e = Adds o e.reply b (is_some e.standing.scan)

pub adds_fetch : (m : Map) (a : Active) (k : ℕ) (r : Option ℕ) (b : Bool) → b ≡ false → is_some a.scan ≡ false → EffectAdds (op.Fetch k) b (fetched m a r)
adds_fetch m a k (Some v) b e f = subst (λ z. Adds (op.Fetch k) (reply.Found v) b z) (sym f) (adds_answer (op.Fetch k) (reply.Found v) b e (λ l t. refl) refl refl refl (λ t g. refl) (λ os. refl))
adds_fetch m a k None b e f = subst (λ z. Adds (op.Fetch k) reply.None b z) (sym f) (adds_answer (op.Fetch k) reply.None b e (λ l t. refl) refl refl refl (λ t g. refl) (λ os. refl))

pub adds_insert : (m : Map) (a : Active) (k v : ℕ) (r : Option ℕ) (b : Bool) → b ≡ false → is_some a.scan ≡ false → EffectAdds (op.Insert k v) b (inserted m a k v r)
adds_insert m a k v (Some w) b e f = subst (λ z. Adds (op.Insert k v) reply.Duplicate b z) (sym f) (adds_answer (op.Insert k v) reply.Duplicate b e (λ l t. refl) refl refl refl (λ t g. refl) (λ os. refl))
adds_insert m a k v None b e f = subst (λ z. Adds (op.Insert k v) reply.Done b z) (sym f) (adds_answer (op.Insert k v) reply.Done b e (λ l t. refl) refl refl refl (λ t g. refl) (λ os. refl))

pub adds_delete : (m : Map) (a : Active) (k : ℕ) (r : Option ℕ) (b : Bool) → b ≡ false → is_some a.scan ≡ false → EffectAdds (op.Delete k) b (deleted m a k r)
adds_delete m a k (Some w) b e f = subst (λ z. Adds (op.Delete k) (reply.Deleted w) b z) (sym f) (adds_answer (op.Delete k) (reply.Deleted w) b e (λ l t. refl) refl refl refl (λ t g. refl) (λ os. refl))
adds_delete m a k None b e f = subst (λ z. Adds (op.Delete k) reply.Absent b z) (sym f) (adds_answer (op.Delete k) reply.Absent b e (λ l t. refl) refl refl refl (λ t g. refl) (λ os. refl))

pub adds_update : (m : Map) (a : Active) (k v : ℕ) (r : Option ℕ) (b : Bool) → b ≡ false → is_some a.scan ≡ false → EffectAdds (op.Update k v) b (updated m a k v r)
adds_update m a k v (Some w) b e f = subst (λ z. Adds (op.Update k v) (reply.Updated w) b z) (sym f) (adds_answer (op.Update k v) (reply.Updated w) b e (λ l t. refl) refl refl refl (λ t g. refl) (λ os. refl))
adds_update m a k v None b e f = subst (λ z. Adds (op.Update k v) reply.Absent b z) (sym f) (adds_answer (op.Update k v) reply.Absent b e (λ l t. refl) refl refl refl (λ t g. refl) (λ os. refl))

-- A scan's step, which ends the scan or goes on with it.
pub adds_looked : (o : Op) (b : Bool) → ((rows : List (ℕ × ℕ)) → Adds o (reply.Rows rows) b false) → ((k : ℕ) → Adds o (reply.Going k) b true)
    → (m : Map) (a : Active) (c : Scan) (n : Name) → EffectAdds o b (looked m a c n)
adds_looked o b ends goes m a c End = ends c.rows
adds_looked o b ends goes m a c (Key k) = by (nat_le k c.hi)
  where
    on : (rows : List (ℕ × ℕ)) (d : Bool) → EffectAdds o b (if d then record { reply = reply.Rows rows; map = m; standing = record a { scan = None } } else record { reply = reply.Going k; map = m; standing = record a { scan = Some (record { lo = c.lo; hi = c.hi; rows = rows }) } })
    on rows true = ends rows
    on rows false = goes k

    by : (d : Bool) → EffectAdds o b (if d then row_read m a c k (unwrap_or (get m k) 0) else record { reply = reply.Rows c.rows; map = m; standing = record a { scan = None } })
    by true = on (c.rows ++ (k, unwrap_or (get m k) 0) ∷ []) (k == c.hi)
    by false = ends c.rows
