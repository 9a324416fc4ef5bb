-- What the proof keeps of each transaction: its program so far, a scan in progress, its changes, and the keys that it moved.
use Rattle.std.proofs.Common.{ℕ, Bool, true, false, List, [], ◌∷◌, ◌++◌, Option, Some, None, ◌≤◌, ◌≡◌, ◌≢◌, ◌⊎◌, inl, inr, ⊎_elim, refl, sym, ap, subst, arith, eqb}
use Rattle.std.specs.Prelude.{if◌then◌else◌}
use Rattle.std.proofs.lemmas.Bool.{cases_lt, cases_eq, eq-eqb, ne_eqb}
use Rattle.kr_model.specs.declared.Op.{Op}
use Rattle.kr_model.specs.declared.Op.TheVariants as op
use Rattle.kr_model.specs.declared.Reply.{Reply}
use Rattle.kr_model.specs.Run.{Answered}
use Rattle.kr_model.specs.Map.{Map, Changes}
use Rattle.kr_theorem.proofs.gaps.Undo.{ChangedIn}
use Rattle.kr_theorem.proofs.gaps.Moves.{MovedIn, moved_by}

-- A scan in progress: its range, the key read last, and the pairs read.
pub record Progress : Type 0 where
  pub low : ℕ
  pub high : ℕ
  pub last : ℕ
  pub pairs : List (ℕ × ℕ)

-- The part of a transaction; moved keys are those that it inserted or deleted. One that rolls back never commits, so nothing is kept of its program.
pub record Part : Type 0 where
  pub program : List Answered
  pub scan : Option Progress
  pub changes : Changes
  pub moved : List ℕ
  pub rolling : Bool

-- The part of a transaction that has done nothing, or has ended.
abbrev pub blank : Part
blank = record { program = []; scan = None; changes = []; moved = []; rolling = false }

-- The part of each transaction.
abbrev pub Parts : Type 0
Parts = ℕ → Part

-- Touched, changed, moved --

-- The points that an operation reads or changes.
abbrev pub Points : Op → ℕ → Type 0
Points (op.Fetch k) q = q ≡ k
Points (op.Scan lo hi) q = (lo ≤ q) × (q ≤ hi)
Points (op.Insert k v) q = q ≡ k
Points (op.Delete k) q = q ≡ k
Points (op.Update k v) q = q ≡ k
Points op.Go q = ⊥
Points op.Commit q = ⊥
Points op.Abort q = ⊥
Points op.Back q = ⊥

pub point_or_not : (o : Op) (q : ℕ) → (Points o q) ⊎ (Points o q → ⊥)
point_or_not (op.Fetch k) q = cases_eq q k
point_or_not (op.Scan lo hi) q = ⊎_elim (λ lt. inr (λ h. omega (arith, h.0, lt))) (λ ge. ⊎_elim (λ lt. inr (λ h. omega (arith, h.1, lt))) (λ le. inl (ge, le)) (cases_lt hi q)) (cases_lt q lo)
point_or_not (op.Insert k v) q = cases_eq q k
point_or_not (op.Delete k) q = cases_eq q k
point_or_not (op.Update k v) q = cases_eq q k
point_or_not op.Go q = inr (λ h. h)
point_or_not op.Commit q = inr (λ h. h)
point_or_not op.Abort q = inr (λ h. h)
point_or_not op.Back q = inr (λ h. h)

-- Some operation of the program has the point.
abbrev pub InProgram : List Answered → ℕ → Type 0
InProgram [] k = ⊥
InProgram (s ∷ p) k = (Points s.0 k) ⊎ InProgram p k

-- The scan in progress has passed the point.
abbrev pub Scanned : Option Progress → ℕ → Type 0
Scanned None k = ⊥
Scanned (Some s) k = (s.low ≤ k) × (k ≤ s.last)

-- Changed by the transaction, and not undone.
abbrev pub Changed : Part → ℕ → Type 0
Changed q k = ChangedIn q.changes k

-- Read or changed by the transaction. Of one that rolls back only the changes left are touched.
abbrev pub Touched : Part → ℕ → Type 0
Touched q k = (InProgram q.program k) ⊎ (Scanned q.scan k ⊎ Changed q k)

-- Inserted or deleted by the transaction.
abbrev pub Moved : Part → ℕ → Type 0
Moved q k = MovedIn q.moved k

pub moved_or_not : (xs : List ℕ) (q : ℕ) → (MovedIn xs q) ⊎ (MovedIn xs q → ⊥)
moved_or_not [] q = inr (λ h. h)
moved_or_not (x ∷ xs) q = ⊎_elim (λ e. inl (inl e)) (λ ne. ⊎_elim (λ h. inl (inr h)) (λ out. inr (λ h. ⊎_elim ne out h)) (moved_or_not xs q)) (cases_eq q x)

-- A changed key is touched.
pub changed_touched : (q : Part) (k : ℕ) → Changed q k → Touched q k
changed_touched q k h = inr (inr h)

pub blank_untouched : (k : ℕ) → Touched blank k → ⊥
blank_untouched k h = ⊎_elim (λ a. a) (λ b. ⊎_elim (λ c. c) (λ d. d) b) h

-- One change undone --

-- The part of a transaction that rolls back and has these changes left in the map m.
abbrev pub rolling_with : Map → Changes → Part
rolling_with m cs = record { program = []; scan = None; changes = cs; moved = moved_by m cs; rolling = true }

-- It touches its changes left, and nothing else.
pub rolling_touched : (m : Map) (cs : Changes) (k : ℕ) → Touched (rolling_with m cs) k → ChangedIn cs k
rolling_touched m cs k h = ⊎_elim (λ a. absurd a) (λ b. ⊎_elim (λ c. absurd c) (λ d. d) b) h

-- One more operation --

-- The part after one more operation with its answer; no scan is in progress then.
abbrev pub finished : Part → Op → Reply → Changes → List ℕ → Part
finished q o a changes moved = record { program = q.program ++ (o, a) ∷ []; scan = None; changes = changes; moved = moved; rolling = q.rolling }

program_more : (p : List Answered) (s : Answered) (k : ℕ) → InProgram (p ++ s ∷ []) k → (InProgram p k) ⊎ Points s.0 k
program_more [] s k h = ⊎_elim (λ here. inr here) (λ none. absurd none) h
program_more (x ∷ p) s k h = ⊎_elim (λ here. inl (inl here)) (λ more. ⊎_elim (λ old. inl (inr old)) (λ new. inr new) (program_more p s k more)) h

program_old : (p : List Answered) (s : Answered) (k : ℕ) → InProgram p k → InProgram (p ++ s ∷ []) k
program_old [] s k h = absurd h
program_old (x ∷ p) s k h = ⊎_elim (λ here. inl here) (λ more. inr (program_old p s k more)) h

program_new : (p : List Answered) (s : Answered) (k : ℕ) → Points s.0 k → InProgram (p ++ s ∷ []) k
program_new [] s k h = inl h
program_new (x ∷ p) s k h = inr (program_new p s k h)

-- It touches what was touched and its own points; what a scan had passed stays touched where those are points of the operation.
pub finished_touches : (q : Part) (o : Op) (a : Reply) (changes : Changes) (moved : List ℕ) → ((k : ℕ) → ChangedIn changes k → (Changed q k) ⊎ Points o k)
    → (k : ℕ) → Touched (finished q o a changes moved) k → (Touched q k) ⊎ Points o k
finished_touches q o a changes moved made k h =
    ⊎_elim (λ tp. ⊎_elim (λ old. inl (inl old)) (λ new. inr new) (program_more q.program (o, a) k tp))
    (λ rest. ⊎_elim (λ none. absurd none) (λ c. ⊎_elim (λ old. inl (inr (inr old))) (λ new. inr new) (made k c)) rest) h

pub finished_new : (q : Part) (o : Op) (a : Reply) (changes : Changes) (moved : List ℕ) (k : ℕ) → Points o k → Touched (finished q o a changes moved) k
finished_new q o a changes moved k h = inl (program_new q.program (o, a) k h)

pub finished_old : (q : Part) (o : Op) (a : Reply) (changes : Changes) (moved : List ℕ) → ((k : ℕ) → Scanned q.scan k → Points o k) → ((k : ℕ) → Changed q k → ChangedIn changes k)
    → (k : ℕ) → Touched q k → Touched (finished q o a changes moved) k
finished_old q o a changes moved inside keep k h =
    ⊎_elim (λ tp. inl (program_old q.program (o, a) k tp)) (λ rest. ⊎_elim (λ sc. finished_new q o a changes moved k (inside k sc)) (λ c. inr (inr (keep k c))) rest) h

-- One part replaced --

-- The parts, with that of t replaced.
abbrev pub with_part : Parts → ℕ → Part → Parts
with_part part t q u = if eqb u t then q else part u

pub with_same : (part : Parts) (t : ℕ) (q : Part) → with_part part t q t ≡ q
with_same part t q = ap (λ b. if b then q else part t) (eq-eqb t t refl)

pub with_other : (part : Parts) (t : ℕ) (q : Part) (u : ℕ) → u ≢ t → with_part part t q u ≡ part u
with_other part t q u ne = ap (λ b. if b then q else part u) (ne_eqb u t ne)

-- What holds of t with its new part, and of each other with its own, holds of all.
pub by_part : (P : ℕ → Part → Type 0) (part : Parts) (t : ℕ) (q : Part) → P t q → ((u : ℕ) → u ≢ t → P u (part u)) → (u : ℕ) → P u (with_part part t q u)
by_part P part t q mine others u = ⊎_elim
    (λ e. subst (λ z. P z (with_part part t q z)) (sym e) (subst (λ z. P t z) (sym (with_same part t q)) mine))
    (λ ne. subst (λ z. P u z) (sym (with_other part t q u ne)) (others u ne))
    (cases_eq u t)

-- What holds of a part after the replacement holds of the new part of t, or of that of another.
pub whose : (P : Part → Type 0) (part : Parts) (t : ℕ) (q : Part) (u : ℕ) → P (with_part part t q u) → ((u ≡ t) × P q) ⊎ ((u ≢ t) × P (part u))
whose P part t q u h = ⊎_elim
    (λ e. inl (e, subst P (with_same part t q) (subst (λ z. P (with_part part t q z)) e h)))
    (λ ne. inr (ne, subst P (with_other part t q u ne) h))
    (cases_eq u t)
