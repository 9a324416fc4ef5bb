-- What the end of an active transaction is answered, and a change of it undone.
use Rattle.std.specs.Prelude.{◌≡◌, ℕ, ◌-◌, Bool, true, false, not, ◌&&◌, nat_le, IsTrue, [], ◌∷◌, Option, Some, None, length, is_some, if◌then◌else◌, refl}
use Rattle.std.proofs.Common.{◌∙◌, ap, arith, inl, inr}
use Rattle.kr_model.specs.declared.Op.{Op}
use Rattle.kr_model.specs.declared.Op.TheVariants as op
use Rattle.kr_model.specs.declared.Reply.{Reply}
use Rattle.kr_model.specs.declared.Reply.TheVariants as reply
use Rattle.kr_model.specs.declared.Refusal.{Refusal}
use Rattle.kr_model.specs.declared.Refusal.TheVariants as refusal
use Rattle.kr_model.specs.Protocol.{Protocol}
use Rattle.kr_model.specs.Map.{Changes}
use Rattle.kr_model.specs.State.{State, active_of, standing, has_ended, is_scanning, is_rolling, has_nothing_left}
use Rattle.kr_model.specs.Covers.{is_empty}
use Rattle.kr_model.specs.Step.{Outcome, is_full, takes_back, goes_on, is_go, is_bad_range, is_update, is_back, refusal_of, one_taken_back, unless_refused, step, takes_no_memory, IsStep}
use Rattle.kr_model.specs.WellFormed.{IsState}
use Rattle.kr_model.proofs.Actives.{false_true}

module _ (p : Protocol) (s : State) (t : ℕ) (k : IsState p s) (is : IsTrue (is_some (active_of s t))) where
  works : has_ended s t ≡ false
  works = by (has_ended s t) refl
    where
      by : (b : Bool) → has_ended s t ≡ b → b ≡ false
      by true e = absurd (false_true (is_some (active_of s t)) (ap is_some (k.apart t e)) is)
      by false e = refl

  room : is_full s t ≡ false
  room = ap (λ b. not b && nat_le 64 (length s.active)) is

  -- the refusals that are left
  abbrev refusals_left : Op → Option Refusal
  refusals_left o =
      if is_rolling s t && not (takes_back o) then Some refusal.RollingBack
      else if is_scanning s t && not (goes_on o) then Some refusal.Busy
      else if not (is_scanning s t) && is_go o then Some refusal.NoScan
      else if is_bad_range o then Some refusal.BadRange
      else if is_update o && not p.updates then Some refusal.NoUpdate
      else if has_nothing_left s t && is_back o then Some refusal.NothingLeft
      else None

  -- one that is active hasn't ended, and isn't one too many
  left : (o : Op) → refusal_of p s t o ≡ refusals_left o
  left o = ap (λ b. if b then Some refusal.Ended else if is_full s t then Some refusal.Full else refusals_left o) works ∙ ap (λ b. if b then Some refusal.Full else refusals_left o) room

  -- what takes no memory isn't refused it
  had_memory : (o : Op) (r : Reply) (new : State) → takes_no_memory o ≡ true → IsStep p s t o r new → ◌≡◌ {A = Outcome} (r, new) (step p s t o)
  had_memory o r new none (inl e) = e
  had_memory o r new none (inr b) = absurd (may_not (not (is_some (refusal_of p s t o))) (takes_no_memory o) (is_some (active_of s t)) none is b.2)
    where
      may_not : (a b c : Bool) → b ≡ true → c ≡ true → (a && not (b && c)) ≡ true → ⊥
      may_not true true true e f h = cc
      may_not false b c e f h = cc
      may_not a false c e f h = cc
      may_not a b false e f h = cc

  -- its abort is answered Aborted
  pub abort_of_active : (r : Reply) (new : State) → IsStep p s t op.Abort r new → r ≡ reply.Aborted
  abort_of_active r new e = ap (λ (x : Outcome). x.0) (had_memory op.Abort r new refl e ∙ ap (unless_refused p s t op.Abort) (left op.Abort ∙ none (is_rolling s t) (is_scanning s t) (has_nothing_left s t)))
    where
      none : (a b c : Bool) → (if a && false then Some refusal.RollingBack else if b && false then Some refusal.Busy else if not b && false then Some refusal.NoScan else if c && false then Some refusal.NothingLeft else None) ≡ None
      none true true true = refl
      none true true false = refl
      none true false true = refl
      none true false false = refl
      none false true true = refl
      none false true false = refl
      none false false true = refl
      none false false false = refl

  -- its commit is answered Committed, or RollingBack where it has taken a change back, or Busy in the midst of a scan
  pub commit_of_active : (r : Reply) (new : State) → IsStep p s t op.Commit r new → r ≡ (if is_rolling s t then reply.Refused refusal.RollingBack else if is_scanning s t then reply.Refused refusal.Busy else reply.Committed)
  commit_of_active r new e =
      ap (λ (x : Outcome). x.0) (had_memory op.Commit r new refl e ∙ ap (unless_refused p s t op.Commit) (left op.Commit)) ∙ by (is_rolling s t) (is_scanning s t) (has_nothing_left s t)
    where
      by : (a b c : Bool) → (unless_refused p s t op.Commit (if a && true then Some refusal.RollingBack else if b && true then Some refusal.Busy else if not b && false then Some refusal.NoScan else if c && false then Some refusal.NothingLeft else None)).0
          ≡ (if a then reply.Refused refusal.RollingBack else if b then reply.Refused refusal.Busy else reply.Committed)
      by true b c = refl
      by false true c = refl
      by false false true = refl
      by false false false = refl

  -- a change of it undone is answered Undone with the number of those left, or NothingLeft where there is none
  pub back_of_active : (r : Reply) (new : State) → IsStep p s t op.Back r new → r ≡ (if has_nothing_left s t then reply.Refused refusal.NothingLeft else reply.Undone (length (standing s t).changes - 1))
  back_of_active r new e =
      ap (λ (x : Outcome). x.0) (had_memory op.Back r new refl e ∙ ap (unless_refused p s t op.Back) (left op.Back ∙ only (is_rolling s t) (is_scanning s t) (has_nothing_left s t)))
      ∙ answered (has_nothing_left s t) ∙ counted (standing s t).changes
    where
      only : (a b c : Bool) → (if a && false then Some refusal.RollingBack else if b && false then Some refusal.Busy else if not b && false then Some refusal.NoScan else if c && true then Some refusal.NothingLeft else None) ≡ (if c then Some refusal.NothingLeft else None)
      only true true true = refl
      only true true false = refl
      only true false true = refl
      only true false false = refl
      only false true true = refl
      only false true false = refl
      only false false true = refl
      only false false false = refl

      answered : (c : Bool) → (unless_refused p s t op.Back (if c then Some refusal.NothingLeft else None)).0 ≡ (if c then reply.Refused refusal.NothingLeft else (one_taken_back s t (standing s t).changes).0)
      answered true = refl
      answered false = refl

      counted : (cs : Changes) → (if is_empty cs then reply.Refused refusal.NothingLeft else (one_taken_back s t cs).0) ≡ (if is_empty cs then reply.Refused refusal.NothingLeft else reply.Undone (length cs - 1))
      counted [] = refl
      counted (x ∷ xs) = ap reply.Undone (omega arith)
