-- How a run so far reads: the programs so far, whatever comes after.
use Rattle.std.specs.Prelude.{◌≡◌, ℕ, Bool, true, false, ◌&&◌, cond, List, [], ◌∷◌, ◌++◌, Option, Some, None, map, refl, if◌then◌else◌}
use Rattle.std.specs.List.{flat_map, cons_option}
use Rattle.std.proofs.Common.{sym, ◌∙◌, ap, ap₂, append-nil}
use Rattle.kr_model.specs.declared.Op.{Op}
use Rattle.kr_model.specs.declared.Op.TheVariants as op
use Rattle.kr_model.specs.declared.Reply.{Reply}
use Rattle.kr_model.specs.declared.Reply.TheVariants as reply
use Rattle.kr_model.specs.Run.{Entry, Answered, Program, operations_of, answer_of, first_rows, committed, programs, is_committed, is_operation, is_granted}
use Rattle.kr_model.specs.Serial.{all_operations}
use Rattle.kr_theorem.proofs.step.Parts.{Progress}
use Rattle.kr_model.proofs.Actives.{tied}
use Rattle.kr_model.proofs.LogReads.{IsSilent, append_entry, append_one, own_entry, silent_by}

-- An event of t with its reply.
abbrev pub entry : ℕ → Op → Reply → Entry
entry t o a = (record { txn = t; op = o }, a)

-- However the run goes on, the operations of t are these, then the scan in progress with the first rows to come, and then those that come.
abbrev pub ReadsAs : ℕ → List Entry → List Answered → Option Progress → Type 0
ReadsAs t h p None = (f : List Entry) → operations_of t (h ++ f) ≡ p ++ operations_of t f
ReadsAs t h p (Some s) = (r : Reply) × ((f : List Entry) → operations_of t (h ++ f) ≡ p ++ (op.Scan s.low s.high, first_rows t r f) ∷ operations_of t f)

-- The run reads as before.
pub reads_silent : (t : ℕ) (h : List Entry) (x : Entry) (p : List Answered) (sc : Option Progress) → IsSilent t x → ReadsAs t h p sc → ReadsAs t (h ++ x ∷ []) p sc
reads_silent t h x p None s r = λ f. ap (operations_of t) (append_entry h x f) ∙ r (x ∷ f) ∙ ap (λ z. p ++ z) (s f).0
reads_silent t h x p (Some c) s r = (r.0, λ f. ap (operations_of t) (append_entry h x f) ∙ r.1 (x ∷ f) ∙ ap₂ (λ a z. p ++ (op.Scan c.low c.high, a) ∷ z) ((s f).1 r.0) (s f).0)

-- Entries of t's own --

-- An operation that has its answer at once.
pub reads_answer : (t : ℕ) (h : List Entry) (o : Op) (a : Reply) (p : List Answered) → (is_operation o && is_granted a) ≡ true → ((f : List Entry) → answer_of t o a f ≡ a)
    → ReadsAs t h p None → ReadsAs t (h ++ entry t o a ∷ []) (p ++ (o, a) ∷ []) None
reads_answer t h o a p d same r f =
    ap (operations_of t) (append_entry h (entry t o a) f) ∙ r (entry t o a ∷ f)
    ∙ ap (λ z. p ++ z) (own_entry t o a f d ∙ ap (λ (z : Reply). let x : Answered = (o, z) in x ∷ operations_of t f) (same f))
    ∙ append_one p (o, a) (operations_of t f)

-- A scan begins, goes on, and has its rows.
pub reads_begins : (t : ℕ) (h : List Entry) (lo hi k last : ℕ) (pairs : List (ℕ × ℕ)) (p : List Answered)
    → ReadsAs t h p None → ReadsAs t (h ++ entry t (op.Scan lo hi) (reply.Going k) ∷ []) p (Some (record { low = lo; high = hi; last = last; pairs = pairs }))
reads_begins t h lo hi k last pairs p r = (
  reply.Going k,
  λ f. ap (operations_of t) (append_entry h (entry t (op.Scan lo hi) (reply.Going k)) f) ∙ r (entry t (op.Scan lo hi) (reply.Going k) ∷ f)
      ∙ ap (λ z. p ++ z) (own_entry t (op.Scan lo hi) (reply.Going k) f refl),
)

pub reads_goes_on : (t : ℕ) (h : List Entry) (s : Progress) (lo hi k last : ℕ) (pairs : List (ℕ × ℕ)) (p : List Answered) → s.low ≡ lo → s.high ≡ hi
    → ReadsAs t h p (Some s) → ReadsAs t (h ++ entry t op.Go (reply.Going k) ∷ []) p (Some (record { low = lo; high = hi; last = last; pairs = pairs }))
reads_goes_on t h s lo hi k last pairs p el eh r =
    let x = entry t op.Go (reply.Going k) in
    let q = reads_silent t h x p (Some s) (silent_by t x.0 x.1 refl refl) r in
    (q.0, λ f. q.1 f ∙ ap₂ (λ a b. p ++ (op.Scan a b, first_rows t q.0 f) ∷ operations_of t f) el eh)

pub reads_ends : (t : ℕ) (h : List Entry) (s : Progress) (lo hi : ℕ) (rows : List (ℕ × ℕ)) (p : List Answered) → s.low ≡ lo → s.high ≡ hi
    → ReadsAs t h p (Some s) → ReadsAs t (h ++ entry t op.Go (reply.Rows rows) ∷ []) (p ++ (op.Scan lo hi, reply.Rows rows) ∷ []) None
reads_ends t h s lo hi rows p el eh r f =
    let x = entry t op.Go (reply.Rows rows) in
    ap (operations_of t) (append_entry h x f) ∙ r.1 (x ∷ f)
    ∙ ap₂ (λ a z. p ++ (op.Scan s.low s.high, a) ∷ z) (ap (λ b. cond (b && true) (reply.Rows rows) (first_rows t r.0 f)) (tied t)) (ap (λ b. cond {A = List Answered} (b && false) ((op.Go, answer_of t op.Go (reply.Rows rows) f) ∷ operations_of t f) (operations_of t f)) (tied t))
    ∙ ap₂ (λ a b. p ++ (op.Scan a b, reply.Rows rows) ∷ operations_of t f) el eh
    ∙ append_one p (op.Scan lo hi, reply.Rows rows) (operations_of t f)

-- At the end of the run.
pub reads_whole : (t : ℕ) (h : List Entry) (p : List Answered) → ReadsAs t h p None → operations_of t h ≡ p
reads_whole t h p r = ap (operations_of t) (sym (append-nil h)) ∙ r [] ∙ append-nil p

-- The transactions that committed --

pub committed_append : (h g : List Entry) → committed (h ++ g) ≡ committed h ++ committed g
committed_append [] g = refl
committed_append ((e, a) ∷ h) g = one (is_committed a) e.txn (committed (h ++ g)) (committed h) (committed g) (committed_append h g)
  where
    one : (b : Bool) (t : ℕ) (xs ys zs : List ℕ) → xs ≡ ys ++ zs → cons_option (if b then Some t else None) xs ≡ cons_option (if b then Some t else None) ys ++ zs
    one true t xs ys zs h = ap (λ l. t ∷ l) h
    one false t xs ys zs h = h

pub committed_none : (h : List Entry) (x : Entry) → is_committed x.1 ≡ false → committed (h ++ x ∷ []) ≡ committed h
committed_none h x c = committed_append h (x ∷ []) ∙ ap (λ b. committed h ++ cons_option (if b then Some x.0.txn else None) []) c ∙ append-nil (committed h)

-- The operations of all programs, by the transactions that committed.
all_operations_by : (h : List Entry) (ts : List ℕ) → flat_map (λ (p : Program). p.operations) (map (λ t. let q : Program = record { txn = t; operations = operations_of t h } in q) ts) ≡ flat_map (λ t. operations_of t h) ts
all_operations_by h [] = refl
all_operations_by h (t ∷ ts) = ap (λ l. operations_of t h ++ l) (all_operations_by h ts)

pub all_operations_programs : (h : List Entry) → all_operations (programs h) ≡ flat_map (λ t. operations_of t h) (committed h)
all_operations_programs h = all_operations_by h (committed h)
