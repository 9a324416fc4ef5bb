-- Laws of notes: the lines since which locks are held.
use Rattle.std.specs.Prelude.{◌≡◌, ℕ, Bool, true, false, ◌==◌, ◌&&◌, cond, List, [], ◌∷◌, ◌++◌, Option, Some, None, refl}
use Rattle.std.specs.BTreeMap.{BTreeMap, get, is_at}
use Rattle.std.specs.Global.{Vec}
use Rattle.std.specs.Ordering.{nat_cmp, eq_by_cmp}
use Rattle.std.proofs.Common.{sym, ◌∙◌, ap, arith, ◌+◌, ◌<◌, length, take, get_or}
use Rattle.std.proofs.lemmas.List.{take_more}
use Rattle.std.proofs.lemmas.Bool.Decides.{nat_tests}
use Rattle.std.proofs.Math.Path.{fun_ext}
use Rattle.kr_model.specs.declared.Name.{Name}
use Rattle.kr_model.specs.Locks.{name_cmp}
use Rattle.kr_trace_follow.specs.Since.{last_or, notes_in, last_noted, with_note, without_notes}

-- the notes of a transaction
abbrev pub Notes : Type 0
Notes = Vec (Name × ℕ)

-- One more note is the last for its name.
pub last_more : (line : ℕ) (xs : List (Name × ℕ)) (m : Name) (k : ℕ) (n : Name) → last_or line (xs ++ (m, k) ∷ []) n ≡ cond (eq_by_cmp name_cmp m n) k (last_or line xs n)
last_more line [] m k n = refl
last_more line (x ∷ xs) m k n = last_more (cond (eq_by_cmp name_cmp x.0 n) x.1 line) xs m k n

-- The next of notes is the last for its name.
pub last_next : (xs : List (Name × ℕ)) (i : ℕ) (d : Name × ℕ) (n : Name) → i < length xs
    → last_or 0 (take (i + 1) xs) n ≡ cond (eq_by_cmp name_cmp (get_or xs i d).0 n) (get_or xs i d).1 (last_or 0 (take i xs) n)
last_next xs i d n lt = ap (λ z. last_or 0 z n) (take_more xs i d lt) ∙ last_more 0 (take i xs) (get_or xs i d).0 (get_or xs i d).1 n

-- Whether a key is that of a transaction is whether they are the same.
at_same : (t u : ℕ) → is_at (nat_cmp t) u ≡ (u == t)
at_same t u = grind (arith, nat_tests)

more_by : (same : Bool) (xs : List (Name × ℕ)) (m : Name) (k : ℕ) (v : Notes) (o : Option Notes) (n : Name) → v.items ≡ xs ++ (m, k) ∷ []
    → (same ≡ true → notes_in o ≡ xs)
    → last_or 0 (notes_in (cond same (Some v) o)) n ≡ cond (same && eq_by_cmp name_cmp m n) k (last_or 0 (notes_in o) n)
more_by true xs m k v o n is was = ap (λ z. last_or 0 z n) is ∙ last_more 0 xs m k n ∙ ap (λ z. cond (eq_by_cmp name_cmp m n) k (last_or 0 z n)) (sym (was refl))
more_by false xs m k v o n is was = refl

same_of : (u t : ℕ) → (u == t) ≡ true → u ≡ t
same_of u t e = grind (arith, nat_tests)

-- What is noted where the notes of a transaction are these and one more.
pub noted_more : (old new : BTreeMap ℕ Notes) (t : ℕ) (m : Name) (k : ℕ) (v : Notes) (xs : List (Name × ℕ)) → notes_in (get nat_cmp old t) ≡ xs → v.items ≡ xs ++ (m, k) ∷ []
    → ((q : ℕ) → get nat_cmp new q ≡ cond (is_at (nat_cmp t) q) (Some v) (get nat_cmp old q)) → last_noted new ≡ with_note (last_noted old) t m k
noted_more old new t m k v xs was is updates = fun_ext (λ u. fun_ext (λ n.
    ap (λ z. last_or 0 (notes_in z) n) (updates u ∙ ap (λ b. cond b (Some v) (get nat_cmp old u)) (at_same t u))
    ∙ more_by (u == t) xs m k v (get nat_cmp old u) n is (λ e. ap (λ z. notes_in (get nat_cmp old z)) (same_of u t e) ∙ was)))

less_by : (same : Bool) (o : Option Notes) (n : Name) → last_or 0 (notes_in (cond same None o)) n ≡ cond same 0 (last_or 0 (notes_in o) n)
less_by true o n = refl
less_by false o n = refl

-- What is noted where the notes of a transaction are taken away.
pub noted_less : (old new : BTreeMap ℕ Notes) (t : ℕ) → ((q : ℕ) → get nat_cmp new q ≡ cond (is_at (nat_cmp t) q) None (get nat_cmp old q)) → last_noted new ≡ without_notes (last_noted old) t
noted_less old new t updates = fun_ext (λ u. fun_ext (λ n.
    ap (λ z. last_or 0 (notes_in z) n) (updates u ∙ ap (λ b. cond b None (get nat_cmp old u)) (at_same t u)) ∙ less_by (u == t) (get nat_cmp old u) n))
