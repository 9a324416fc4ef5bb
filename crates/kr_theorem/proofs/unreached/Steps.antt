-- What holds of each state that a run of the twin reaches is kept by each of its steps.
use Rattle.std.proofs.Common.{ℕ, ◌≡◌, ◌≢◌, ◌<◌, ◌≤◌, inl, inr, ⊎_elim, refl, sym, ap, ◌∙◌, subst, arith, true, false, [], ◌∷◌, Option, Some, None}
use Rattle.std.specs.Prelude.{not, cond, unwrap_or}
use Rattle.std.specs.Ordering.{nat_cmp}
use Rattle.std.specs.FinMap.{find}
use Rattle.std.proofs.lemmas.Bool.{cases_eq, cases_Bool}
use Rattle.kr_model.specs.declared.Name.{Name}
use Rattle.kr_model.specs.declared.Name.TheVariants.{Key, End}
use Rattle.kr_model.specs.declared.Op.{Op}
use Rattle.kr_model.specs.declared.Op.TheVariants as op
use Rattle.kr_model.specs.declared.Refusal.{Refusal}
use Rattle.kr_model.specs.Map.{Map, IsMap, Changes, restore, restore_all}
use Rattle.kr_model.specs.Locks.{holder_cmp, own, release}
use Rattle.kr_model.specs.State.{State, Active, Scan, idle, standing}
use Rattle.kr_model.specs.Step.{attempted_scan, name_to_look, ended_with, one_taken_back, performed, unless_refused, refusal_of, step}
use Rattle.kr_model.proofs.Actives.{find_filter, find_filter_other, tied}
use Rattle.kr_model.proofs.LockLaws.{own-release_other, find-release}
use Rattle.kr_model.proofs.UndoLaws.{IsMap-restore, IsMap-restore_all}
use Rattle.kr_theorem.proofs.gaps.Gaps.{has}
use Rattle.kr_theorem.proofs.gaps.Moves.{back_inserted, undone_inserted}
use Rattle.kr_theorem.proofs.gaps.Undo.{InsertedIn}
use Rattle.kr_theorem.proofs.safe.Placed.{Stands}
use Rattle.kr_theorem.specs.Unreached.{I, X}
use Rattle.kr_theorem.proofs.unreached.Unsafe.{twin}
use Rattle.kr_theorem.proofs.unreached.Modes.{none_beside}
use Rattle.kr_theorem.proofs.unreached.Reached.{Reached, put_inserted}
use Rattle.kr_theorem.proofs.unreached.Attempts.{fetch_keeps, insert_keeps, delete_keeps, update_keeps, look_keeps}

module _ (s : State) (was : Reached s) (t : ℕ) where
  -- A key on which I is held isn't one whose insert t may undo.
  not_undone : (u k : ℕ) → own s.locks u (Key k) ≡ I → InsertedIn (standing s t).changes k → ⊥
  not_undone u k is i = none_beside (λ v. own s.locks v (Key k)) t u (λ other some. was.alone t u (Key k) other some) (was.inserted t k i) is

  -- So it stays where t undoes what it changed.
  stays : (m : Map) (u : ℕ) (n : Name) → ((k : ℕ) → has s.map k ≡ true → has m k ≡ false → InsertedIn (standing s t).changes k) → own s.locks u n ≡ I → Stands m n
  stays m u End undone is = tt
  stays m u (Key k) undone is = ⊎_elim (λ there. there) (λ gone. absurd (not_undone u k is (undone k (was.present u (Key k) is) gone))) (cases_Bool (has m k))

  -- The end of a transaction --

  -- It holds nothing any more.
  released : (n : Name) → own (release s.locks t) t n ≡ 0
  released n = ap (λ o. unwrap_or o 0) (find-release s.locks t (n, t) ∙ ap (λ b. cond (not b) (find holder_cmp (n, t) s.locks) None) (tied t))

  -- And it has changed nothing.
  forgotten : (m : Map) → standing (ended_with s t m) t ≡ idle
  forgotten m = ap (λ o. unwrap_or o idle) (find_filter s.active t t ∙ ap (λ b. cond (not b) (find nat_cmp t s.active) None) (tied t))

  -- Every other stands as before.
  remembered : (m : Map) (u : ℕ) → u ≢ t → standing (ended_with s t m) u ≡ standing s u
  remembered m u other = ap (λ o. unwrap_or o idle) (find_filter_other s.active t u other)

  -- So what is known is kept where it ends, if the names on which others hold I don't go.
  end_keeps : (m : Map) → IsMap m → ((u : ℕ) (n : Name) → own s.locks u n ≡ I → Stands m n) → Reached (ended_with s t m)
  end_keeps m sorted there = record {
    is_map = sorted;
    within = λ u n. ⊎_elim
        (λ e. subst (λ v. own (release s.locks t) v n ≤ X) (sym e) (subst (λ o. o ≤ X) (sym (released n)) (omega arith)))
        (λ other. subst (λ o. o ≤ X) (sym (own-release_other s.locks t u n other)) (was.within u n))
        (cases_eq u t);
    alone = λ v u n apart some. ⊎_elim
        (λ e. subst (λ w. own (release s.locks t) w n ≡ 0) (sym e) (released n))
        (λ other. ⊎_elim
        (λ e. absurd (let none = released n in let here = subst (λ w. 0 < own (release s.locks t) w n) e some in omega (arith, none, here)))
        (λ live. own-release_other s.locks t u n other ∙ was.alone v u n apart (subst (λ o. 0 < o) (own-release_other s.locks t v n live) some))
        (cases_eq v t))
        (cases_eq u t);
    inserted = λ u k i. ⊎_elim
        (λ e. absurd (subst (λ (a : Active). InsertedIn a.changes k) (ap (λ v. standing (ended_with s t m) v) e ∙ forgotten m) i))
        (λ other. subst (λ o. I < o) (sym (own-release_other s.locks t u (Key k) other)) (was.inserted u k (subst (λ (a : Active). InsertedIn a.changes k) (remembered m u other) i)))
        (cases_eq u t);
    present = λ u n is. ⊎_elim
        (λ e. absurd (let none = released n in let here = subst (λ w. own (release s.locks t) w n ≡ I) e is in omega (arith, none, here)))
        (λ other. there u n (sym (own-release_other s.locks t u n other) ∙ is))
        (cases_eq u t);
  }

  -- One change undone --

  -- The newest change is undone, if one is left.
  back_keeps : (cs : Changes) → (standing s t).changes ≡ cs → Reached (let o = one_taken_back s t cs in o.1)
  back_keeps [] e = was
  back_keeps (c ∷ cs) e = record {
    is_map = IsMap-restore s.map c.0 c.1 was.is_map;
    within = was.within;
    alone = was.alone;
    inserted = put_inserted s (let o = one_taken_back s t (c ∷ cs) in o.1) t (record { scan = None; changes = cs; rolling = true }) was refl (λ u n other. refl) (λ k i. was.inserted t k (subst (λ l. InsertedIn l k) (sym e) (inr i)));
    present = λ u n is. stays (restore s.map c.0 c.1) u n (λ k there gone. subst (λ l. InsertedIn l k) (sym e) (inl (back_inserted s.map c k there gone))) is;
  }

  -- Each step --

  -- A step of a scan.
  scan_keeps : (c : Option Scan) → Reached (let o = attempted_scan twin s t c in o.1)
  scan_keeps None = was
  scan_keeps (Some c) = look_keeps s was t c (name_to_look s.map c)

  -- An operation that isn't refused.
  performed_keeps : (o : Op) → Reached (let x = performed twin s t o in x.1)
  performed_keeps (op.Fetch k) = fetch_keeps s was t k
  performed_keeps (op.Scan lo hi) = scan_keeps (Some (record { lo = lo; hi = hi; rows = [] }))
  performed_keeps op.Go = scan_keeps (standing s t).scan
  performed_keeps (op.Insert k v) = insert_keeps s was t k v
  performed_keeps (op.Delete k) = delete_keeps s was t k
  performed_keeps (op.Update k v) = update_keeps s was t k v
  performed_keeps op.Commit = end_keeps s.map was.is_map was.present
  performed_keeps op.Abort = end_keeps (restore_all s.map (standing s t).changes) (IsMap-restore_all s.map (standing s t).changes was.is_map)
      (λ u n is. stays (restore_all s.map (standing s t).changes) u n (λ k there gone. undone_inserted s.map (standing s t).changes k there gone) is)
  performed_keeps op.Back = back_keeps (standing s t).changes refl

  -- A step, refused or not.
  pub step_keeps : (o : Op) → Reached (let x = step twin s t o in x.1)
  step_keeps o = by (refusal_of twin s t o)
    where
      by : (r : Option Refusal) → Reached (let x = unless_refused twin s t o r in x.1)
      by (Some r) = was
      by None = performed_keeps o
