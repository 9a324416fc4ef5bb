-- Each lock that is held is held since one of the lines that were followed.
use Rattle.std.specs.Prelude.{◌≡◌, ℕ, Bool, true, false, ◌==◌, ◌||◌, cond, List, [], ◌∷◌, Option, Some, None, is_some, unwrap_or, refl}
use Rattle.std.specs.FinMap.{find}
use Rattle.std.specs.List.{list_any}
use Rattle.std.proofs.Common.{sym, ◌∙◌, ap, ap₂, subst, ⊎_elim}
use Rattle.kr_model.specs.declared.Event.{Event}
use Rattle.kr_model.specs.declared.Name.{Name}
use Rattle.kr_model.specs.Protocol.{Protocol}
use Rattle.kr_model.specs.Map.{Map}
use Rattle.kr_model.specs.Locks.{Locks, holder_cmp, own}
use Rattle.kr_model.specs.Run.{run}
use Rattle.kr_model.specs.State.{State}
use Rattle.kr_model.specs.Step.{step}
use Rattle.kr_model.proofs.Actives.{tied, untied}
use Rattle.kr_trace_follow.specs.Deviates.{since_left}
use Rattle.kr_trace_follow.specs.Following.{Point, at_start, point_after, point_left}
use Rattle.kr_trace_follow.specs.Lines.{Line}
use Rattle.kr_trace_follow.specs.Since.{Since, since_after, since_along, lines_of, line_of}
use Rattle.kr_trace_follow.specs.Steps.{first_op, more_steps, queue_for, attempt_at, steps_of, outcome_of}
use Rattle.kr_trace_follow.proofs.SinceLaws.{listed, same_or}
use Rattle.kr_trace_follow.proofs.StepLaws.{all_ran}

-- Each lock that is held is held since a line that passes the test.
abbrev Held : (ℕ → Bool) → Locks → Since → Type 0
Held test h f = (t : ℕ) (n : Name) → (own h t n ≡ 0 → ⊥) → test (f t n) ≡ true

after_held : (test : ℕ → Bool) (line : ℕ) (old new : Locks) (f : Since) → test line ≡ true → Held test old f → Held test new (since_after line old new f)
after_held test line old new f here was t n some = ⊎_elim same other (same_or (own new t n) (own old t n))
  where
    value : (b : Bool) → (own new t n == own old t n) ≡ b → since_after line old new f t n ≡ cond b (f t n) line
    value b e = ap₂ (λ x y. cond x 0 (cond y (f t n) line)) (untied (own new t n) 0 some) e

    same : own new t n ≡ own old t n → test (since_after line old new f t n) ≡ true
    same e = ap test (value true (ap (λ m. own new t n == m) (sym e) ∙ tied (own new t n))) ∙ was t n (λ z. some (e ∙ z))

    other : (own new t n ≡ own old t n → ⊥) → test (since_after line old new f t n) ≡ true
    other d = ap test (value false (untied (own new t n) (own old t n) d)) ∙ here

along_held : (p : Protocol) (test : ℕ → Bool) (line : ℕ) (s : State) (es : List Event) (f : Since) → test line ≡ true → Held test s.locks f
    → Held test (let r = run p s es in let new = r.state in new.locks) (since_along p line s es f)
along_held p test line s [] f here was = was
along_held p test line s (e ∷ es) f here was =
    let done = step p s e.txn e.op in
    let new = done.1 in
    along_held p test line new es (since_after line s.locks new.locks f) here (after_held test line s.locks new.locks f here was)

some_listed : (x : Option ℕ) (line : ℕ) → (unwrap_or x 0 ≡ 0 → ⊥) → cond (is_some x) line 0 ≡ line
some_listed None line some = absurd (some refl)
some_listed (Some m) line some = refl

lists_held : (test : ℕ → Bool) (h : Locks) (f : Since) → Held test h f → Held test h (line_of (lines_of h f))
lists_held test h f held t n some = ap test (listed h f t n ∙ some_listed (find holder_cmp (n, t) h) (f t n) some) ∙ held t n some

-- The same of a point.
abbrev HeldAt : (ℕ → Bool) → Point → Type 0
HeldAt test at = let s = at.state in Held test s.locks (line_of at.since)

line_held : (p : Protocol) (test : ℕ → Bool) (at : Point) (l : Line) → test l.number ≡ true → HeldAt test at → HeldAt test (point_after p at l)
line_held p test at l here was =
    let done = outcome_of p at.waiting at.state l in
    let new = done.1 in
    let f : Since = since_left p at.since at.waiting at.state l in
    let ran = all_ran p (queue_for l.observed at.waiting) l.event.txn (more_steps l.event.op l.observed) (attempt_at at.state (first_op at.state l)) in
    lists_held test new.locks f
    (subst (λ (s : State). Held test s.locks f) ran (along_held p test l.number at.state (steps_of p at.waiting at.state l) (line_of at.since) here was))

-- The number of each of the lines passes the test.
abbrev Pass : (ℕ → Bool) → List Line → Type 0
Pass test [] = Unit {0}
Pass test (l ∷ ls) = (test l.number ≡ true) × Pass test ls

lines_held : (p : Protocol) (test : ℕ → Bool) (at : Point) (lines : List Line) → Pass test lines → HeldAt test at → HeldAt test (point_left p at lines)
lines_held p test at [] pass was = was
lines_held p test at (l ∷ ls) pass was = lines_held p test (point_after p at l) ls pass.1 (line_held p test at l pass.0 was)

-- Whether a number is that of one of the lines.
abbrev is_among : List Line → ℕ → Bool
is_among lines k = list_any (λ l. l.number == k) lines

or_true : (a b : Bool) → b ≡ true → (a || b) ≡ true
or_true true b e = refl
or_true false b e = e

all_pass : (ls : List Line) (all : List Line) → ((k : ℕ) → is_among ls k ≡ true → is_among all k ≡ true) → Pass (is_among all) ls
all_pass [] all h = tt
all_pass (l ∷ ls) all h = (h l.number (ap (λ b. b || is_among ls l.number) (tied l.number)), all_pass ls all (λ k e. h k (or_true (l.number == k) (is_among ls k) e)))

-- Each lock that is held where lines lead is held since one of them.
pub held_since : (p : Protocol) (opening : Map) (lines : List Line) (t : ℕ) (n : Name)
    → (let at = point_left p (at_start opening) lines in let s = at.state in own s.locks t n ≡ 0 → ⊥)
    → list_any (λ l. l.number == (let at = point_left p (at_start opening) lines in line_of at.since t n)) lines ≡ true
held_since p opening lines t n some = lines_held p (is_among lines) (at_start opening) lines (all_pass lines lines (λ k e. e)) (λ u m held. absurd (held refl)) t n some
