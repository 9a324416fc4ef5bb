-- Behind lines without a fault no transaction of the part in progress has committed twice.
use Rattle.std.specs.Prelude.{◌≡◌, ℕ, suc, ◌+◌, ◌==◌, ◌&&◌, ◌||◌, not, Bool, true, false, cond, List, [], ◌∷◌, ◌++◌, Option, Some, None, Result, Ok, Err, length, map, refl}
use Rattle.std.proofs.Common.{sym, ◌∙◌, ap, subst, arith, append-nil}
use Rattle.std.proofs.lemmas.List.{length-append, map-append}
use Rattle.kr_model.specs.Locks.{add_once}
use Rattle.kr_model.proofs.Actives.{any_add_once}
use Rattle.kr_trace_lines.specs.declared.observed.Observed.{Observed}
use Rattle.kr_trace_lines.specs.declared.observed.Observed.TheVariants as observed
use Rattle.kr_trace_follow.specs.Lines.{Line}
use Rattle.kr_trace_follow.specs.Programs.{Tale, no_tale}
use Rattle.kr_trace_lines.specs.declared.faults.LineFault.{LineFault}
use Rattle.kr_trace_lines.specs.declared.faults.LineFault.TheVariants as fault
use Rattle.kr_trace_lines.specs.Lines.{TraceLine, head, step, order}
use Rattle.kr_trace_lines.specs.Parts.{AreAmong, PartLines, after_line, are_distinct, are_in, commits, ends, fault_behind, has, is_order_of, with_commit, with_end}
use Rattle.kr_trace_lines.specs.Reading.{reading_line}
use Rattle.kr_trace_lines.proofs.Distinct.{among-both, among-more, among-not, length_add_once}
use Rattle.kr_trace_parts.specs.Committed.{Committed}
use Rattle.kr_trace_parts.specs.Lines.{is_blank}
use Rattle.kr_trace_parts.specs.Parts.{Led, Part, HaveNoFault, after, after_all, at_start, current_after, fault_in, led_by}
use Rattle.kr_trace_parts.specs.Reading.{CommitOnce}
use Rattle.kr_trace_parts.specs.Tales.{committed_in, committed_with, program_committed, told_after}
use Rattle.kr_trace_parts.proofs.TaleLaws.{committed_more}
use Rattle.kr_trace_parts.proofs.Tests.{both_true, either_false, or_swap, turned}

-- Numbers --

has_more : (ts : List ℕ) (t u : ℕ) → has (ts ++ t ∷ []) u ≡ ((t == u) || has ts u)
has_more [] t u = refl
has_more (x ∷ xs) t u = ap (λ b. (x == u) || b) (has_more xs t u) ∙ or_swap (x == u) (t == u) (has xs u)

pub distinct_more : (ts : List ℕ) (t : ℕ) → are_distinct ts ≡ true → has ts t ≡ false → are_distinct (ts ++ t ∷ []) ≡ true
distinct_more [] t h none = refl
distinct_more (x ∷ xs) t h none =
    let parts = both_true (not (has xs x)) (are_distinct xs) h in
    let apart = either_false (x == t) (has xs t) none in
    let differ : (t == x) ≡ false = turned x t apart.0 in
    ap (λ b. not b && are_distinct (xs ++ t ∷ [])) (has_more xs t x ∙ ap (λ b. b || has xs x) differ)
    ∙ ap (λ b. b && are_distinct (xs ++ t ∷ [])) parts.0
    ∙ distinct_more xs t parts.1 apart.1

-- Orders of the same numbers.
are_in_same : (us vs ts : List ℕ) → ((t : ℕ) → has us t ≡ has vs t) → are_in us ts ≡ are_in vs ts
are_in_same us vs [] same = refl
are_in_same us vs (t ∷ ts) same = ap (λ b. b && are_in us ts) (same t) ∙ ap (λ b. has vs t && b) (are_in_same us vs ts same)

order_same : (us vs ts : List ℕ) → ((t : ℕ) → has us t ≡ has vs t) → length us ≡ length vs → is_order_of us ts ≡ is_order_of vs ts
order_same us vs ts same many =
    ap (λ b. (b && are_distinct ts) && (length ts == length us)) (are_in_same us vs ts same)
    ∙ ap (λ n. (are_in vs ts && are_distinct ts) && (length ts == n)) many

-- Parts --

-- the numbers of the committed transactions of steps
abbrev txns_in : List Line → List ℕ
txns_in steps = map (λ (c : Committed). c.txn) (committed_in steps)

-- the number of who commits with a reply
abbrev txn_with : ℕ → Observed → List ℕ
txn_with t o = cond (commits o) (t ∷ []) []

commits_adds : (t : ℕ) (x : Tale) (o : Observed) → map (λ (c : Committed). c.txn) (committed_with t (program_committed x o)) ≡ txn_with t o
commits_adds t x (observed.Found v) = refl
commits_adds t x observed.None = refl
commits_adds t x (observed.Going k) = refl
commits_adds t x (observed.Rows rows) = refl
commits_adds t x observed.Done = refl
commits_adds t x observed.Duplicate = refl
commits_adds t x (observed.Deleted v) = refl
commits_adds t x observed.Absent = refl
commits_adds t x (observed.Updated v) = refl
commits_adds t x (observed.Undone n) = refl
commits_adds t x observed.Committed = refl
commits_adds t x observed.Aborted = refl
commits_adds t x (observed.Blocked named) = refl

txns_more : (steps : List Line) (l : Line) → txns_in (steps ++ l ∷ []) ≡ txns_in steps ++ txn_with l.event.txn l.observed
txns_more steps l =
    ap (map (λ (c : Committed). c.txn)) (committed_more (λ t. no_tale) steps l)
    ∙ map-append (λ (c : Committed). c.txn) (committed_in steps) (committed_with l.event.txn (program_committed (told_after (λ t. no_tale) steps l.event.txn) l.observed))
    ∙ ap (λ ts. txns_in steps ++ ts) (commits_adds l.event.txn (told_after (λ t. no_tale) steps l.event.txn) l.observed)

-- What is kept of a part's lines is of its committed transactions, and none of them has committed twice.
record KeepsPart (p : PartLines) (ts : List ℕ) (order : Option (List ℕ)) : Type 0 where
  among : AreAmong p.committed p.ended
  same : (t : ℕ) → has p.committed t ≡ has ts t
  many : length p.committed ≡ length ts
  once : are_distinct ts ≡ true
  unordered : p.ordered ≡ false → order ≡ None
  ordered : (us : List ℕ) → order ≡ Some us → is_order_of ts us ≡ true

abbrev Keeps : PartLines → Option Part → Type 0
Keeps p None = Unit {0}
Keeps p (Some s) = KeepsPart p (txns_in s.steps) s.order

no_order : (o : Option (List ℕ)) (ts us : List ℕ) → o ≡ None → o ≡ Some us → is_order_of ts us ≡ true
no_order o ts us none is = absurd (cc)

-- a step may stand only in a part that no order has ended, of a transaction that hasn't ended
may_step : (begun ordered ended : Bool) → cond (not begun) (Some fault.Field) (cond ordered (Some fault.Order) (cond ended (Some fault.Ended) None)) ≡ None → (ordered ≡ false) × (ended ≡ false)
may_step true false false h = (refl, refl)
may_step true false true h = absurd (cc)
may_step true true ended h = absurd (cc)
may_step false ordered ended h = absurd (cc)

may_order : (begun ordered is : Bool) → cond (not begun) (Some fault.Field) (cond ordered (Some fault.Order) (cond is None (Some fault.Order))) ≡ None → is ≡ true
may_order true false true h = refl
may_order true false false h = absurd (cc)
may_order true true is h = absurd (cc)
may_order false ordered is h = absurd (cc)

commit_keeps : (p : PartLines) (ts : List ℕ) (o : Option (List ℕ)) (t : ℕ) → KeepsPart p ts o → p.ordered ≡ false → has p.ended t ≡ false → KeepsPart (with_commit t p) (ts ++ t ∷ []) o
commit_keeps p ts o t h open_ new =
    let none : has p.committed t ≡ false = among-not p.committed p.ended t h.among new in
    let more : length (add_once t p.committed) ≡ length p.committed + 1 = length_add_once t p.committed none in
    let longer : length (ts ++ t ∷ []) ≡ length ts + 1 = length-append ts (t ∷ []) in
    let many : length p.committed ≡ length ts = h.many in
    record {
      among = among-both p.committed p.ended t h.among;
      same = λ u. any_add_once (λ v. v == u) t p.committed ∙ ap (λ b. (t == u) || b) (h.same u) ∙ sym (has_more ts t u);
      many = omega (arith, more, longer, many);
      once = distinct_more ts t h.once (sym (h.same t) ∙ none);
      unordered = h.unordered;
      ordered = λ us is. no_order o (ts ++ t ∷ []) us (h.unordered open_) is;
    }

end_keeps : (p : PartLines) (ts : List ℕ) (o : Option (List ℕ)) (t : ℕ) → KeepsPart p ts o → KeepsPart (with_end t p) ts o
end_keeps p ts o t h = record {
  among = among-more p.committed p.ended t h.among;
  same = h.same;
  many = h.many;
  once = h.once;
  unordered = h.unordered;
  ordered = h.ordered;
}

step_by : (p : PartLines) (ts : List ℕ) (o : Option (List ℕ)) (t : ℕ) (commit end : Bool) → KeepsPart p ts o → p.ordered ≡ false → has p.ended t ≡ false
    → KeepsPart (cond commit (with_commit t p) (cond end (with_end t p) p)) (ts ++ cond commit (t ∷ []) []) o
step_by p ts o t true end h open_ new = commit_keeps p ts o t h open_ new
step_by p ts o t false true h open_ new = subst (λ us. KeepsPart (with_end t p) us o) (sym (append-nil ts)) (end_keeps p ts o t h)
step_by p ts o t false false h open_ new = subst (λ us. KeepsPart p us o) (sym (append-nil ts)) h

line_keeps : (p : PartLines) (s : Option Part) (n : ℕ) (l : TraceLine) → Keeps p s → fault_behind p l ≡ None → Keeps (after_line p l) (current_after n s l)
line_keeps p s n (head opening tests) h none = record {
  among = λ t k. absurd (cc);
  same = λ t. refl;
  many = refl;
  once = refl;
  unordered = λ _. refl;
  ordered = λ us is. absurd (cc);
}
line_keeps p None n (step e o) h none = tt
line_keeps p (Some s) n (step e o) h none =
    let may = may_step p.begun p.ordered (has p.ended e.txn) none in
    let l : Line = record { number = n; event = e; observed = o } in
    subst (λ ts. KeepsPart (after_line p (step e o)) ts s.order) (sym (txns_more s.steps l))
    (step_by p (txns_in s.steps) s.order e.txn (commits o) (ends o) h may.0 may.1)
line_keeps p None n (order ts) h none = tt
line_keeps p (Some s) n (order ts) h none =
    let is : is_order_of p.committed ts ≡ true = may_order p.begun p.ordered (is_order_of p.committed ts) none in
    record {
      among = h.among;
      same = h.same;
      many = h.many;
      once = h.once;
      unordered = λ e. absurd (cc);
      ordered = λ us same. (let own : ts ≡ us = cc in subst (λ vs. is_order_of (txns_in s.steps) vs ≡ true) own (sym (order_same p.committed (txns_in s.steps) ts h.same h.many) ∙ is));
    }

read_keeps : (r : Led) (read : Result TraceLine LineFault) → Keeps r.kept r.current → fault_in r.kept read ≡ None → (let s = led_by r read in Keeps s.kept s.current)
read_keeps r (Ok l) h none = line_keeps r.kept r.current (suc r.count) l h none
read_keeps r (Err f) h none = h

keeps_by : (r : Led) (line : List ℕ) (blank : Bool) → Keeps r.kept r.current → cond blank None (fault_in r.kept (reading_line line)) ≡ None
    → (let s = cond blank (record { count = suc r.count; ended = r.ended; current = r.current; kept = r.kept }) (led_by r (reading_line line)) in Keeps s.kept s.current)
keeps_by r line true h none = h
keeps_by r line false h none = read_keeps r (reading_line line) h none

all_keep : (r : Led) (lines : List (List ℕ)) → Keeps r.kept r.current → HaveNoFault r lines → (let s = after_all r lines in Keeps s.kept s.current)
all_keep r [] h none = h
all_keep r (line ∷ lines) h none = all_keep (after r line) lines (keeps_by r line (is_blank line) h none.0) none.1

commit_once : (p : PartLines) (s : Option Part) → Keeps p s → CommitOnce s
commit_once p None h = tt
commit_once p (Some s) h = record { once = h.once; ordered = λ ts is. h.ordered ts is }

-- No transaction of the part in progress has committed twice.
pub commits_once : (front : List (List ℕ)) → HaveNoFault at_start front → CommitOnce (let r = after_all at_start front in r.current)
commits_once front none = let r : Led = after_all at_start front in commit_once r.kept r.current (all_keep at_start front tt none)
