-- How far the scans in progress are after a step.
use Rattle.std.specs.Prelude.{◌≡◌, ℕ, Bool, true, false, not, ◌==◌, cond, List, [], ◌∷◌, ◌++◌, Option, Some, None, unwrap_or, refl}
use Rattle.std.proofs.Common.{sym, ◌∙◌, ap, subst, inl, inr, arith}
use Rattle.std.proofs.lemmas.Bool.Decides.{nat_tests}
use Rattle.kr_model.specs.declared.Op.{Op}
use Rattle.kr_model.specs.declared.Op.TheVariants as op
use Rattle.kr_model.specs.declared.Refusal.TheVariants as refusal
use Rattle.kr_model.specs.declared.Reply.{Reply}
use Rattle.kr_model.specs.declared.Reply.TheVariants as reply
use Rattle.kr_model.specs.Protocol.{Protocol}
use Rattle.kr_model.specs.Map.{Map, after}
use Rattle.kr_model.specs.State.{Scan, State, idle, standing}
use Rattle.kr_model.specs.Step.{Outcome, step, IsStep, name_to_look}
use Rattle.kr_model.proofs.Actives.{tied, untied}
use Rattle.kr_model.proofs.KindsOfSteps.{kind_of}
use Rattle.kr_trace_follow.specs.declared.scans.Progress.{Progress}
use Rattle.kr_trace_follow.specs.Scans.{noted_of, forgotten, noted_at, range_noted, range_of, noted_after, IsAt, AreAt, AreNoted}
use Rattle.kr_trace_follow.proofs.ScanSteps.{Leaves, GoesOn, step_leaves, others_stand}

-- What is noted --

forgot_same_by : (x : Progress) (xs : List Progress) (t : ℕ) (b : Bool) → (x.txn == t) ≡ b → noted_of (forgotten xs t) t ≡ None → noted_of (cond (not b) (x ∷ forgotten xs t) (forgotten xs t)) t ≡ None
forgot_same_by x xs t true e h = h
forgot_same_by x xs t false e h = ap (λ b. cond b (Some x) (noted_of (forgotten xs t) t)) e ∙ h

pub forgot_same : (xs : List Progress) (t : ℕ) → noted_of (forgotten xs t) t ≡ None
forgot_same [] t = refl
forgot_same (x ∷ xs) t = forgot_same_by x xs t (x.txn == t) refl (forgot_same xs t)

same_number : (a b : ℕ) → (a == b) ≡ true → a ≡ b
same_number a b e = grind (arith, nat_tests)

forgot_other_by : (x : Progress) (xs : List Progress) (t u : ℕ) → (u ≡ t → ⊥) → (b : Bool) → (x.txn == t) ≡ b → noted_of (forgotten xs t) u ≡ noted_of xs u
    → noted_of (cond (not b) (x ∷ forgotten xs t) (forgotten xs t)) u ≡ cond (x.txn == u) (Some x) (noted_of xs u)
forgot_other_by x xs t u d true e h = h ∙ sym (ap (λ b. cond b (Some x) (noted_of xs u)) (untied x.txn u (λ is. d (sym is ∙ same_number x.txn t e))))
forgot_other_by x xs t u d false e h = ap (λ z. cond (x.txn == u) (Some x) z) h

forgot_other : (xs : List Progress) (t u : ℕ) → (u ≡ t → ⊥) → noted_of (forgotten xs t) u ≡ noted_of xs u
forgot_other [] t u d = refl
forgot_other (x ∷ xs) t u d = forgot_other_by x xs t u d (x.txn == t) refl (forgot_other xs t u d)

last_other : (xs : List Progress) (x : Progress) (u : ℕ) → (x.txn == u) ≡ false → noted_of (xs ++ x ∷ []) u ≡ noted_of xs u
last_other [] x u e = ap (λ b. cond b (Some x) None) e
last_other (y ∷ ys) x u e = ap (λ z. cond (y.txn == u) (Some y) z) (last_other ys x u e)

last_same_by : (y : Progress) (ys : List Progress) (x : Progress) (t : ℕ) (b : Bool) → (y.txn == t) ≡ b → cond (y.txn == t) (Some y) (noted_of ys t) ≡ None → (noted_of ys t ≡ None → noted_of (ys ++ x ∷ []) t ≡ Some x)
    → cond (y.txn == t) (Some y) (noted_of (ys ++ x ∷ []) t) ≡ Some x
last_same_by y ys x t true f none h = let is : Some y ≡ None = sym (ap (λ b. cond b (Some y) (noted_of ys t)) f) ∙ none in absurd (cc)
last_same_by y ys x t false f none h =
    ap (λ b. cond b (Some y) (noted_of (ys ++ x ∷ []) t)) f ∙ h (sym (ap (λ b. cond b (Some y) (noted_of ys t)) f) ∙ none)

pub last_same : (xs : List Progress) (x : Progress) (t : ℕ) → (x.txn == t) ≡ true → noted_of xs t ≡ None → noted_of (xs ++ x ∷ []) t ≡ Some x
last_same [] x t e none = ap (λ b. cond b (Some x) None) e
last_same (y ∷ ys) x t e none = last_same_by y ys x t (y.txn == t) refl none (last_same ys x t e)

read_other : (xs : List Progress) (t u : ℕ) (range : Option (ℕ × ℕ)) (k : ℕ) → (u ≡ t → ⊥) → noted_of (noted_at xs t range k) u ≡ noted_of xs u
read_other xs t u None k d = refl
read_other xs t u (Some (lo, hi)) k d =
    last_other (forgotten xs t) (record { txn = t; lo = lo; hi = hi; read = k }) u (untied t u (λ is. d (sym is))) ∙ forgot_other xs t u d

pub other_noted : (xs : List Progress) (t u : ℕ) (o : Op) (a : Reply) → (u ≡ t → ⊥) → noted_of (noted_after xs t o a) u ≡ noted_of xs u
other_noted xs t u o (reply.Going k) d = read_other xs t u (range_of xs t o) k d
other_noted xs t u o (reply.Blocked us) d = refl
other_noted xs t u o (reply.Refused r) d = refl
other_noted xs t u o (reply.Found v) d = forgot_other xs t u d
other_noted xs t u o reply.None d = forgot_other xs t u d
other_noted xs t u o (reply.Rows rows) d = forgot_other xs t u d
other_noted xs t u o reply.Done d = forgot_other xs t u d
other_noted xs t u o reply.Duplicate d = forgot_other xs t u d
other_noted xs t u o (reply.Deleted v) d = forgot_other xs t u d
other_noted xs t u o reply.Absent d = forgot_other xs t u d
other_noted xs t u o (reply.Updated v) d = forgot_other xs t u d
other_noted xs t u o reply.Committed d = forgot_other xs t u d
other_noted xs t u o reply.Aborted d = forgot_other xs t u d
other_noted xs t u o (reply.Undone n) d = forgot_other xs t u d

at_both : (a b : Option Scan) (x y : Option Progress) → a ≡ b → x ≡ y → AreAt b y → AreAt a x
at_both a b x y e f h = subst (λ z. AreAt z x) (sym e) (subst (λ z. AreAt b z) (sym f) h)

none_at : (xs : List Progress) (t : ℕ) (now : Option Scan) → now ≡ None → AreAt now (noted_of (forgotten xs t) t)
none_at xs t now e = at_both now None (noted_of (forgotten xs t) t) None e (forgot_same xs t) tt

read_at : (xs : List Progress) (t lo hi k : ℕ) (c : Scan) (now : Option Scan) → now ≡ Some c → c.lo ≡ lo → c.hi ≡ hi → ((m : Map) → name_to_look m c ≡ after m k)
    → AreAt now (noted_of (noted_at xs t (Some (lo, hi)) k) t)
read_at xs t lo hi k c now is l h read =
    let x : Progress = record { txn = t; lo = lo; hi = hi; read = k } in
    at_both now (Some c) (noted_of (forgotten xs t ++ x ∷ []) t) (Some x) is (last_same (forgotten xs t) x t (tied t) (forgot_same xs t)) (record { lo = l; hi = h; read = read })

went_on : (xs : List Progress) (t k : ℕ) (b c : Scan) (was now : Option Scan) (x : Option Progress) → was ≡ Some b → AreAt was x → now ≡ Some c → c.lo ≡ b.lo → c.hi ≡ b.hi
    → ((m : Map) → name_to_look m c ≡ after m k) → AreAt now (noted_of (noted_at xs t (range_noted x) k) t)
went_on xs t k b c was now None is at now_is l h read = absurd (subst (λ z. AreAt z None) is at)
went_on xs t k b c was now (Some x) is at now_is l h read =
    let a : IsAt b x = subst (λ z. AreAt z (Some x)) is at in
    read_at xs t x.lo x.hi k c now now_is (l ∙ a.lo) (h ∙ a.hi) read

goes_at : (xs : List Progress) (t k : ℕ) (o : Op) (was now : Option Scan) → AreAt was (noted_of xs t) → GoesOn was o k now → AreAt now (noted_of (noted_at xs t (range_of xs t o) k) t)
goes_at xs t k (op.Scan lo hi) was now at g = read_at xs t lo hi k g.scan now g.is g.range.0 g.range.1 g.read
goes_at xs t k op.Go was now at g =
    let r = g.range in
    went_on xs t k r.0 g.scan was now (noted_of xs t) r.1.0 at g.is r.1.1.0 r.1.1.1 g.read
goes_at xs t k (op.Fetch _) was now at g = absurd g.range
goes_at xs t k (op.Insert _ _) was now at g = absurd g.range
goes_at xs t k (op.Delete _) was now at g = absurd g.range
goes_at xs t k (op.Update _ _) was now at g = absurd g.range
goes_at xs t k op.Commit was now at g = absurd g.range
goes_at xs t k op.Abort was now at g = absurd g.range
goes_at xs t k op.Back was now at g = absurd g.range

own_noted : (s : State) (xs : List Progress) (t : ℕ) (o : Op) (a : Reply) (new : State) → AreNoted s xs → Leaves s t o a new → AreAt (standing new t).scan (noted_of (noted_after xs t o a) t)
own_noted s xs t o (reply.Going k) new are left = goes_at xs t k o (standing s t).scan (standing new t).scan (are t) left
own_noted s xs t o (reply.Blocked us) new are left = subst (λ z. AreAt (standing z t).scan (noted_of xs t)) (sym left) (are t)
own_noted s xs t o (reply.Refused r) new are left = subst (λ z. AreAt (standing z t).scan (noted_of xs t)) (sym left) (are t)
own_noted s xs t o (reply.Found v) new are left = none_at xs t (standing new t).scan left
own_noted s xs t o reply.None new are left = none_at xs t (standing new t).scan left
own_noted s xs t o (reply.Rows rows) new are left = none_at xs t (standing new t).scan left
own_noted s xs t o reply.Done new are left = none_at xs t (standing new t).scan left
own_noted s xs t o reply.Duplicate new are left = none_at xs t (standing new t).scan left
own_noted s xs t o (reply.Deleted v) new are left = none_at xs t (standing new t).scan left
own_noted s xs t o reply.Absent new are left = none_at xs t (standing new t).scan left
own_noted s xs t o (reply.Updated v) new are left = none_at xs t (standing new t).scan left
own_noted s xs t o reply.Committed new are left = none_at xs t (standing new t).scan left
own_noted s xs t o reply.Aborted new are left = none_at xs t (standing new t).scan left
own_noted s xs t o (reply.Undone n) new are left = none_at xs t (standing new t).scan left

-- After each step the scans in progress are those that are noted.
pub still_noted : (p : Protocol) (s : State) (xs : List Progress) (t : ℕ) (o : Op) → AreNoted s xs → let done = step p s t o in AreNoted done.1 (noted_after xs t o done.0)
still_noted p s xs t o are u = by (u == t) refl
  where
    by : (b : Bool) → (u == t) ≡ b → let done = step p s t o in AreAt (standing done.1 u).scan (noted_of (noted_after xs t o done.0) u)
    by true e =
        let done = step p s t o in
        subst (λ v. AreAt (standing done.1 v).scan (noted_of (noted_after xs t o done.0) v)) (sym (same_number u t e)) (own_noted s xs t o done.0 done.1 are (step_leaves p s t o))
    by false e =
        let done = step p s t o in
        let other : u ≡ t → ⊥ = λ is. absurd (let here : (u == t) ≡ true = subst (λ v. (v == t) ≡ true) (sym is) (tied t) in cc) in
        at_both (standing done.1 u).scan (standing s u).scan (noted_of (noted_after xs t o done.0) u) (noted_of xs u)
        (ap (λ x. (unwrap_or x idle).scan) (others_stand s t u o done.0 done.1 other (kind_of p s t o done.0 done.1 (inl refl)))) (other_noted xs t u o done.0 other) (are u)

-- The same of a step that was not refused memory.
pub noted_stepped : (p : Protocol) (s : State) (xs : List Progress) (t : ℕ) (o : Op) (r : Reply) (new : State) (ys : List Progress) → AreNoted s xs → IsStep p s t o r new → (r ≡ reply.Refused refusal.Memory → ⊥)
    → ys ≡ noted_after xs t o r → AreNoted new ys
noted_stepped p s xs t o r new ys are (inl e) had is =
    subst (λ zs. AreNoted new zs) (sym is) (subst (λ (d : Outcome). AreNoted d.1 (noted_after xs t o d.0)) (sym e) (still_noted p s xs t o are))
noted_stepped p s xs t o r new ys are (inr m) had is = absurd (had m.0)

-- At the start no scan is in progress.
pub none_noted : (m : Map) → AreNoted (record { map = m; locks = []; ended = []; active = [] }) []
none_noted m t = tt
