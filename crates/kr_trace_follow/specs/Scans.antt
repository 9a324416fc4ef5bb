-- How far the scans in progress are.
use Rattle.std.specs.Prelude.{◌≡◌, ℕ, not, ◌==◌, List, [], ◌∷◌, ◌++◌, filter, Option, Some, None, if◌then◌else◌}
use Rattle.kr_model.specs.declared.Op.{Op}
use Rattle.kr_model.specs.declared.Op.TheVariants as op
use Rattle.kr_model.specs.declared.Reply.{Reply}
use Rattle.kr_model.specs.declared.Reply.TheVariants as reply
use Rattle.kr_model.specs.Map.{Map, after}
use Rattle.kr_model.specs.State.{Scan, State, standing}
use Rattle.kr_model.specs.Step.{name_to_look}
use Rattle.kr_trace_follow.specs.declared.scans.Progress.{Progress}

-- What is noted of t, if anything is.
abbrev pub noted_of : List Progress → ℕ → Option Progress
noted_of [] t = None
noted_of (x ∷ xs) t = if x.txn == t then Some x else noted_of xs t

-- What is noted without that of t.
abbrev pub forgotten : List Progress → ℕ → List Progress
forgotten xs t = filter (λ x. not (x.txn == t)) xs

-- What is noted where the scan of t over a range has read this key, if there is a range.
abbrev pub noted_at : List Progress → ℕ → Option (ℕ × ℕ) → ℕ → List Progress
noted_at xs t None k = xs
noted_at xs t (Some (lo, hi)) k = forgotten xs t ++ record { txn = t; lo = lo; hi = hi; read = k } ∷ []

-- The range of what is noted.
abbrev pub range_noted : Option Progress → Option (ℕ × ℕ)
range_noted None = None
range_noted (Some x) = Some (x.lo, x.hi)

-- The range of a step of a scan.
abbrev pub range_of : List Progress → ℕ → Op → Option (ℕ × ℕ)
range_of xs t (op.Scan lo hi) = Some (lo, hi)
range_of xs t op.Go = range_noted (noted_of xs t)
range_of xs t _ = None

-- What is noted after a step with this reply.
abbrev pub noted_after : List Progress → ℕ → Op → Reply → List Progress
noted_after xs t o (reply.Going k) = noted_at xs t (range_of xs t o) k
noted_after xs t o (reply.Blocked us) = xs
noted_after xs t o (reply.Refused r) = xs
noted_after xs t o _ = forgotten xs t

-- A scan is as far as it is noted: over this range, and this key is the one that it read last.
pub record IsAt (c : Scan) (x : Progress) : Type 0 where
  pub lo : c.lo ≡ x.lo
  pub hi : c.hi ≡ x.hi
  pub read : (m : Map) → name_to_look m c ≡ after m x.read

-- A scan in progress is noted, and where there is none nothing is.
abbrev pub AreAt : Option Scan → Option Progress → Type 0
AreAt None None = Unit {0}
AreAt (Some c) (Some x) = IsAt c x
AreAt _ _ = ⊥

-- The scans in progress are those that are noted.
abbrev pub AreNoted : State → List Progress → Type 0
AreNoted s xs = (t : ℕ) → AreAt (standing s t).scan (noted_of xs t)
