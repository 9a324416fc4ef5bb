-- What holds of each state that a run of the twin reaches: nobody holds I on an absent key.
use Rattle.std.proofs.Common.{ℕ, ◌≡◌, ◌≢◌, ◌<◌, ◌≤◌, ⊎_elim, refl, sym, ap, ◌∙◌, subst, arith, List}
use Rattle.std.specs.Prelude.{unwrap_or}
use Rattle.std.specs.Ordering.{nat_cmp}
use Rattle.std.specs.FinMap.{find, put}
use Rattle.std.proofs.lemmas.Bool.{cases_eq}
use Rattle.kr_model.specs.declared.Name.{Name}
use Rattle.kr_model.specs.declared.Name.TheVariants.{Key}
use Rattle.kr_model.specs.Map.{Map, IsMap}
use Rattle.kr_model.specs.Locks.{own}
use Rattle.kr_model.specs.State.{State, Active, start, idle, standing}
use Rattle.kr_model.proofs.Actives.{find_put_same, find_put_other}
use Rattle.kr_theorem.proofs.gaps.Undo.{InsertedIn}
use Rattle.kr_theorem.proofs.safe.Placed.{Stands}
use Rattle.kr_theorem.specs.Unreached.{I, X}

pub record Reached (s : State) : Type 0 where
  pub is_map : IsMap s.map
  -- what is held is I, K or X
  pub within : (t : ℕ) (n : Name) → own s.locks t n ≤ X
  -- no two transactions have locks on one name
  pub alone : (t u : ℕ) (n : Name) → u ≢ t → 0 < own s.locks t n → own s.locks u n ≡ 0
  -- who has inserted a key and may undo that holds K or X on it
  pub inserted : (t k : ℕ) → InsertedIn (standing s t).changes k → I < own s.locks t (Key k)
  -- I is held on keys that are present, and on the end
  pub present : (t : ℕ) (n : Name) → own s.locks t n ≡ I → Stands s.map n

-- At the start nothing is held.
pub reached_start : (opening : Map) → IsMap opening → Reached (start opening)
reached_start opening sorted = record {
  is_map = sorted;
  within = λ t n. omega arith;
  alone = λ t u n other held. refl;
  inserted = λ t k i. absurd i;
  present = λ t n e. absurd (omega (arith, e));
}

-- Among the active --

-- The transaction that is put stands so, and every other as before.
put_same : (es : List (ℕ × Active)) (t : ℕ) (a : Active) → unwrap_or (find nat_cmp t (put nat_cmp t a es)) idle ≡ a
put_same es t a = ap (λ f. unwrap_or f idle) (find_put_same es t a)

put_other : (es : List (ℕ × Active)) (t u : ℕ) (a : Active) → u ≢ t → unwrap_or (find nat_cmp u (put nat_cmp t a es)) idle ≡ unwrap_or (find nat_cmp u es) idle
put_other es t u a other = ap (λ f. unwrap_or f idle) (find_put_other es t u a other)

-- Who has inserted a key holds K or X on it, where one transaction is put, and every other holds what it held.
pub put_inserted : (s new : State) (t : ℕ) (a : Active) → Reached s → new.active ≡ put nat_cmp t a s.active → ((u : ℕ) (n : Name) → u ≢ t → own new.locks u n ≡ own s.locks u n)
    → ((k : ℕ) → InsertedIn a.changes k → I < own new.locks t (Key k))
    → (u k : ℕ) → InsertedIn (standing new u).changes k → I < own new.locks u (Key k)
put_inserted s new t a was e others its u k i = ⊎_elim
    (λ same. subst (λ v. I < own new.locks v (Key k)) (sym same)
    (its k (subst (λ (z : Active). InsertedIn z.changes k) (ap (λ v. standing new v) same ∙ stands t ∙ put_same s.active t a) i)))
    (λ other. subst (λ m. I < m) (sym (others u (Key k) other))
    (was.inserted u k (subst (λ (z : Active). InsertedIn z.changes k) (stands u ∙ put_other s.active t u a other) i)))
    (cases_eq u t)
  where
    stands : (v : ℕ) → standing new v ≡ unwrap_or (find nat_cmp v (put nat_cmp t a s.active)) idle
    stands v = ap (λ l. unwrap_or (find nat_cmp v l) idle) e
