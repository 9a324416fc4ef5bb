-- What is told of transactions, and one more step.
use Rattle.std.specs.Prelude.{◌≡◌, ℕ, ◌==◌, Bool, true, false, List, [], ◌∷◌, ◌++◌, Option, None, cond, refl}
use Rattle.std.specs.BTreeMap.{BTreeMap, get, is_at}
use Rattle.std.specs.Map.{lookup}
use Rattle.std.specs.Ordering.{nat_cmp}
use Rattle.std.proofs.Common.{sym, ◌∙◌, ap, ap₂, append_assoc, append-nil, arith}
use Rattle.std.proofs.lemmas.Bool.Decides.{nat_tests}
use Rattle.kr_model.specs.declared.Event.{Event}
use Rattle.kr_trace_lines.specs.declared.observed.Observed.{Observed}
use Rattle.kr_trace_lines.specs.declared.observed.Observed.TheVariants as observed
use Rattle.kr_trace_follow.specs.Lines.{Line}
use Rattle.kr_trace_follow.specs.Programs.{Tale, tale_after, no_tale}
use Rattle.kr_trace_follow.specs.Upwards.{answer_upwards, rows_upwards, upwards}
use Rattle.kr_trace_parts.specs.Tales.{committed_from, committed_with, noted, program_committed, tale_in, told_after, told_of}
use Rattle.kr_trace_parts.specs.declared.tales.Tale.{Tale as Noted}

-- a tale of t beside the others
beside : (f g : ℕ → Tale) → ((u : ℕ) → f u ≡ g u) → (t : ℕ) (h : Tale → Tale) (u : ℕ) → cond (u == t) (h (f t)) (f u) ≡ cond (u == t) (h (g t)) (g u)
beside f g same t h u = ap₂ (λ (x y : Tale). cond (u == t) (h x) y) (same t) (same u)

-- The same is told after a step where the same was told before.
pub told_same : (f g : ℕ → Tale) → ((u : ℕ) → f u ≡ g u) → (e : Event) (o : Observed) (u : ℕ) → told_of f e o u ≡ told_of g e o u
told_same f g same e (observed.Found v) u = beside f g same e.txn (λ x. tale_after x (upwards e.op) (observed.Found v)) u
told_same f g same e observed.None u = beside f g same e.txn (λ x. tale_after x (upwards e.op) observed.None) u
told_same f g same e (observed.Going k) u = beside f g same e.txn (λ x. tale_after x (upwards e.op) (observed.Going k)) u
told_same f g same e (observed.Rows rows) u = beside f g same e.txn (λ x. tale_after x (upwards e.op) (observed.Rows (rows_upwards e.op rows))) u
told_same f g same e observed.Done u = beside f g same e.txn (λ x. tale_after x (upwards e.op) observed.Done) u
told_same f g same e observed.Duplicate u = beside f g same e.txn (λ x. tale_after x (upwards e.op) observed.Duplicate) u
told_same f g same e (observed.Deleted v) u = beside f g same e.txn (λ x. tale_after x (upwards e.op) (observed.Deleted v)) u
told_same f g same e observed.Absent u = beside f g same e.txn (λ x. tale_after x (upwards e.op) observed.Absent) u
told_same f g same e (observed.Updated v) u = beside f g same e.txn (λ x. tale_after x (upwards e.op) (observed.Updated v)) u
told_same f g same e (observed.Undone n) u = same u
told_same f g same e observed.Committed u = beside f g same e.txn (λ x. no_tale) u
told_same f g same e observed.Aborted u = beside f g same e.txn (λ x. no_tale) u
told_same f g same e (observed.Blocked named) u = same u

-- A step that was granted, and ends nothing, adds to what was told of its transaction, and commits nothing.
pub told_granted : (f : ℕ → Tale) (e : Event) (o : Observed) → ((n : Option ℕ) → o ≡ observed.Undone n → ⊥) → (o ≡ observed.Committed → ⊥) → (o ≡ observed.Aborted → ⊥)
    → ((named : List ℕ) → o ≡ observed.Blocked named → ⊥) → ((u : ℕ) → told_of f e o u ≡ cond (u == e.txn) (tale_after (f e.txn) (upwards e.op) (answer_upwards e.op o)) (f u)) × ((x : Tale) → program_committed x o ≡ None)
told_granted f e (observed.Found v) a b c d = (λ u. refl, λ x. refl)
told_granted f e observed.None a b c d = (λ u. refl, λ x. refl)
told_granted f e (observed.Going k) a b c d = (λ u. refl, λ x. refl)
told_granted f e (observed.Rows rows) a b c d = (λ u. refl, λ x. refl)
told_granted f e observed.Done a b c d = (λ u. refl, λ x. refl)
told_granted f e observed.Duplicate a b c d = (λ u. refl, λ x. refl)
told_granted f e (observed.Deleted v) a b c d = (λ u. refl, λ x. refl)
told_granted f e observed.Absent a b c d = (λ u. refl, λ x. refl)
told_granted f e (observed.Updated v) a b c d = (λ u. refl, λ x. refl)
told_granted f e (observed.Undone n) a b c d = absurd (a n refl)
told_granted f e observed.Committed a b c d = absurd (b refl)
told_granted f e observed.Aborted a b c d = absurd (c refl)
told_granted f e (observed.Blocked named) a b c d = absurd (d named refl)

-- What is put in after it was taken out.
pub put_back : (b : Bool) (x z : Tale) → cond b x (cond b no_tale z) ≡ cond b x z
put_back true x z = refl
put_back false x z = refl

-- One more step.
pub told_more : (f : ℕ → Tale) (ls : List Line) (l : Line) (u : ℕ) → told_after f (ls ++ l ∷ []) u ≡ told_of (told_after f ls) l.event l.observed u
told_more f [] l u = refl
told_more f (k ∷ ks) l u = told_more (told_of f k.event k.observed) ks l u

-- One more step commits one more program, or none.
pub committed_more : (f : ℕ → Tale) (ls : List Line) (l : Line)
    → committed_from f (ls ++ l ∷ []) ≡ committed_from f ls ++ committed_with l.event.txn (program_committed (told_after f ls l.event.txn) l.observed)
committed_more f [] l = append-nil (committed_with l.event.txn (program_committed (f l.event.txn) l.observed))
committed_more f (k ∷ ks) l =
    ap (λ z. committed_with k.event.txn (program_committed (f k.event.txn) k.observed) ++ z) (committed_more (told_of f k.event k.observed) ks l)
    ∙ sym (append_assoc (committed_with k.event.txn (program_committed (f k.event.txn) k.observed)) (committed_from (told_of f k.event k.observed) ks) (committed_with l.event.txn (program_committed (told_after (told_of f k.event k.observed) ks l.event.txn) l.observed)))

-- What is noted --

-- where two numbers compare as equal they are the same
same_test : (t u : ℕ) (b c : Bool) → is_at (nat_cmp t) u ≡ b → (u == t) ≡ c → b ≡ c
same_test t u true true e f = refl
same_test t u true false e f = absurd (grind (arith, nat_tests))
same_test t u false true e f = absurd (grind (arith, nat_tests))
same_test t u false false e f = refl

tale_by : (b : Bool) (w o : Option Noted) → tale_in (cond b w o) ≡ cond b (tale_in w) (tale_in o)
tale_by true w o = refl
tale_by false w o = refl

-- One tale was put in or taken out, and the others are as they were.
pub noted_after : (old new : BTreeMap ℕ Noted) (t : ℕ) (w : Option Noted) → ((u : ℕ) → get nat_cmp new u ≡ cond (is_at (nat_cmp t) u) w (get nat_cmp old u))
    → (u : ℕ) → noted new u ≡ cond (u == t) (tale_in w) (noted old u)
noted_after old new t w h u =
    ap tale_in (h u) ∙ tale_by (is_at (nat_cmp t) u) w (get nat_cmp old u)
    ∙ ap (λ b. cond b (tale_in w) (noted old u)) (same_test t u (is_at (nat_cmp t) u) (u == t) refl refl)

-- Nothing is noted of any transaction.
pub none_noted : (m : BTreeMap ℕ Noted) → m.entries ≡ [] → (u : ℕ) → noted m u ≡ no_tale
none_noted m none u = ap (λ es. tale_in (lookup (is_at (nat_cmp u)) es)) none
